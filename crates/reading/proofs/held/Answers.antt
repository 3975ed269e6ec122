-- A clamp is the rule's two tests, and what it gives is a sample.
use mathlib.Core.Path.{◌≡◌, sym, ap, ◌∙◌, subst}
use lib.IntN.{ℤ, pos, neg_ℤ}
use mir.Syntax.{w16, w64}
use mir.Val.{SFits, to_z, of_z}
use mir.Facts.{to_z-of_z}
use Rattle.std.specs.Int.{int_max, int_min}
use Rattle.rules.specs.Rules.{held}
use Rattle.rules.proofs.Through.{held_fits}
use Rattle.reading.proofs.Samples.{clamped}
use Rattle.reading.proofs.held.Goals as goal

pub returns : goal.returns
returns c =
    let e : c.clamp.result ≡ held c.args.z = c.clamp.ensures.value ∙ ap (λ (z : ℤ). int_max (neg_ℤ (pos 32768)) (int_min z (pos 32767))) (to_z-of_z c.ranges.z) ∙ clamped c.args.z in
    let w : to_z w64 (of_z w64 c.clamp.result) ≡ held c.args.z = to_z-of_z {w = w64} (record { sfits = c.clamp.type_inv }) ∙ e in
    to_z-of_z {w = w16} (subst (λ (v : ℤ). SFits w16 v) (sym w) (held_fits c.args.z)) ∙ w
