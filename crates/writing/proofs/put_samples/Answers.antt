use Rattle.std.proofs.Common.{ℕ, ◌*◌, List, ℤ, refl, ap, ◌∙◌, arith, take_all}
use Rattle.std.proofs.lemmas.List.Edits.{sets}
use Rattle.std.proofs.lemmas.Int.{to_z-of_z}
use Rattle.riff.specs.Riff.{bytes_of}
use Rattle.riff.specs.Stores.{sets-front}
use Rattle.writing.specs.Canonical.{sample_bytes}
use Rattle.writing.specs.Bits.{bits_cast, bytes-put, length-sample_bytes}
use Rattle.writing.proofs.put_samples.Goals as goal

pub loop-i-init : goal.loop-i-init
unfolding sample_bytes
loop-i-init c = refl

pub loop-i-preserved : goal.loop-i-preserved
loop-i-preserved c =
    let l = c.loop-i in
    let xs = c.args.xs.now in
    bytes-put xs l.i c.args.out.now c.loop-i-test.true l.invariant (c.put_two.ensures ∙ ap (λ (n : ℕ). sets l.out (2 * l.i) (bytes_of 2 n)) (grind (arith, to_z-of_z, bits_cast)))

pub returns : goal.returns
returns c =
    let l = c.loop-i in
    let xs = c.args.xs.now in
    let out = c.args.out.now in
    l.invariant ∙ ap (λ (ys : List ℤ). sets out 0 (sample_bytes ys)) (take_all l.i xs c.loop-i-test.false) ∙ sets-front out (sample_bytes xs) (omega (arith, length-sample_bytes xs))
