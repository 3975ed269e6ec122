-- The worked keyboards hold: each is computed.
use Rattle.std.specs.Prelude.{refl}
use Rattle.keyboard.specs.Keys.{data_bytes, released, key_after, after_data, after_byte, played}
use Rattle.keyboard.specs.Worked.{called, AllHold, keyboards, KeyboardsHold}

pub keyboards_hold : KeyboardsHold
unfolding keyboards AllHold called data_bytes released key_after after_data after_byte played
keyboards_hold =
    (refl, (refl, (refl, (refl, (refl, (refl, (refl, (refl, (refl, (refl, (refl, (refl, (refl, (refl, (refl, (refl, (refl, (refl, (refl, tt)))))))))))))))))))
