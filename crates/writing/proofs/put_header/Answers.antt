-- `writing::put_header` meets its contract: each part is stored behind those before it.
use mathlib.Core.Path.{refl}
use mathlib.Core.List.{◌++◌}
use Prim.Native.Nat.{◌+◌}
use Rattle.riff.specs.Riff.{number_at, bytes_of, head_bytes, fmt_name, data_name}
use Rattle.riff.specs.Stores.{stored_then}
use Rattle.wave.specs.Waves.{riff_name, wave_name}
use Rattle.writing.specs.Canonical.{format, header}
use Rattle.writing.proofs.put_header.Goals as goal

pub returns : goal.returns
unfolding header format bytes_of number_at
returns c =
    let q5 = c in
    let q4 = q5 in
    let q3 = q4 in
    let q2 = q3 in
    let q1 = q2 in
    let a = q1.args in
    let out = a.out.now in
    let one = head_bytes riff_name (36 + a.size) in
    let two = one ++ bytes_of 4 wave_name in
    let three = two ++ head_bytes fmt_name 16 in
    let e2 = stored_then out 0 8 one (bytes_of 4 wave_name) refl q1.put_head.ensures q2.put_four.ensures in
    let e3 = stored_then out 0 12 two (head_bytes fmt_name 16) refl e2 q3.put_head-2.ensures in
    let e4 = stored_then out 0 20 three (format a.hertz) refl e3 q4.put_format.ensures in
    stored_then out 0 36 (three ++ format a.hertz) (head_bytes data_name a.size) refl e4 q5.put_head-3.ensures
