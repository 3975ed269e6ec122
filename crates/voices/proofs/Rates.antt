-- The worked rates hold: each is computed.
use Rattle.std.specs.Prelude.{refl}
use Rattle.rules.specs.Rules.{cd_table, film_table, table, first_note, notes, note_period, wanted_period, raw_rate}
use Rattle.voices.specs.Voices.{voice_note, voice_rate}
use Rattle.voices.specs.Worked.{AllHold, rates, RatesHold}

pub rates_hold : RatesHold
unfolding rates AllHold voice_note voice_rate wanted_period raw_rate note_period table first_note notes cd_table film_table
rates_hold = (refl, (refl, (refl, (refl, (refl, (refl, (refl, (refl, (refl, (refl, (refl, (refl, tt))))))))))))
