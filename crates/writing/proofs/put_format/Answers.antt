-- `writing::put_format` meets its contract: each field is stored behind those before it.
use mathlib.Core.Path.{refl}
use mathlib.Core.List.{◌++◌}
use Prim.Native.Nat.{◌*◌}
use Rattle.riff.specs.Riff.{bytes_of}
use Rattle.riff.specs.Stores.{stored_then}
use Rattle.writing.specs.Canonical.{format}
use Rattle.writing.proofs.put_format.Goals as goal

pub returns : goal.returns
unfolding format bytes_of
returns c =
    let q6 = c in
    let q5 = q6 in
    let q4 = q5 in
    let q3 = q4 in
    let q2 = q3 in
    let q1 = q2 in
    let a = q1.args in
    let two = bytes_of 2 1 ++ bytes_of 2 1 in
    let three = two ++ bytes_of 4 a.hertz in
    let four = three ++ bytes_of 4 (2 * a.hertz) in
    let e2 = stored_then a.out.now a.at 2 (bytes_of 2 1) (bytes_of 2 1) refl q1.put_two.ensures q2.put_two-2.ensures in
    let e3 = stored_then a.out.now a.at 4 two (bytes_of 4 a.hertz) refl e2 q3.put_four.ensures in
    let e4 = stored_then a.out.now a.at 8 three (bytes_of 4 (2 * a.hertz)) refl e3 q4.put_four-2.ensures in
    let e5 = stored_then a.out.now a.at 12 four (bytes_of 2 2) refl e4 q5.put_two-3.ensures in
    stored_then a.out.now a.at 14 (four ++ bytes_of 2 2) (bytes_of 2 16) refl e5 q6.put_two-4.ensures
