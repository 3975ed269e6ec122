use Rattle.std.proofs.Common.{◌≡◌, ℕ, ◌+◌, ◌*◌, ◌<◌, ℤ, pos, length, ap, ◌∙◌, arith, below_more, get_or-set_other, get_or-set_same}
use Rattle.std.specs.Int.{w16, cast_signed, cast_unsigned}
use Rattle.std.proofs.lemmas.Int.{of_z-to_z}
use Rattle.riff.specs.Riff.{number_at}
use Rattle.wave.specs.Waves.{sample_of}
use Rattle.wave.specs.Samples.{sample_cast}
use Rattle.whole.specs.Lists.{is-list_of}
use Rattle.wave.proofs.samples.Goals as goal

-- the bits of a sample, as std casts them
as_std : (n : ℕ) {x : ℤ} → n < 65536 → x ≡ cast_signed w16 n → cast_signed w16 (cast_unsigned w16 x) ≡ sample_of n
as_std n h e = ap (λ (z : ℤ). cast_signed w16 (cast_unsigned w16 z)) e ∙ ap (cast_signed w16) (of_z-to_z w16 n h) ∙ sample_cast n h

pub loop-i-preserved : goal.loop-i-preserved
loop-i-preserved c =
    let i = c.loop-i.i in
    let v = cast_signed w16 (cast_unsigned w16 c.cast_signed.result) in
    let e : v ≡ sample_of (number_at c.args.bytes.now (2 * i) 2) = as_std c.two.result c.two.type_inv c.cast_signed.ensures ∙ ap sample_of c.two.ensures in
    let l : i < length c.loop-i.out = omega (arith, c.loop-i.auto.out) in
    below_more _ _
    (λ k h. get_or-set_other c.loop-i.out i k v (pos 0) (λ q. omega (arith, q, h)) ∙ c.loop-i.invariant k h)
    (get_or-set_same c.loop-i.out i v (pos 0) l ∙ e)

pub returns : goal.returns
returns c =
    is-list_of (λ (k : ℕ). sample_of (number_at c.args.bytes.now (0 + 2 * k) 2)) (length c.args.out.now) (pos 0) c.loop-i.out c.loop-i.auto.out
    (λ k h.
    let e : 2 * k ≡ 0 + 2 * k = omega arith in
    c.loop-i.invariant k (omega arith) ∙ ap (λ (n : ℕ). sample_of (number_at c.args.bytes.now n 2)) e)
