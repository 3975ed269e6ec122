-- A sample, and a share of 4096, as 64 bits hold them.
use Rattle.std.specs.Prelude.{◌≡◌, ℕ, ◌^◌, ◌≤◌, refl, ltb, ℤ, pos, negsuc, neg_ℤ}
use Rattle.std.proofs.Common.{◌∙◌, SFits, to_z-of_z}
use Rattle.std.specs.Int.{w16, w64, int_max, int_min}
use mir.Val.{to_z, of_z}
use Rattle.whole.specs.Bounds.{Within}
use Rattle.whole.specs.Tests.{by}
use Rattle.rules.specs.Rules.{held as held_within}
use Rattle.whole.specs.Words.{Bits, held, fit, kept_of_lem}

pub sample : {e z : ℤ} → e ≡ to_z w16 (of_z w16 z) → SFits w16 z → Bits w64 (2 ^ 15) (of_z w64 e) z
sample e f = kept_of_lem (e ∙ to_z-of_z f) (fit (held f) tt) (held f)

pub share : {e : ℤ} {u : ℕ} → e ≡ pos u → u ≤ 4096 → Bits w64 4096 (of_z w64 e) (pos u)
share {e} {u} same h = let s : Within 4096 (pos u) = record { within = h } in kept_of_lem same (fit s tt) s

-- a clamp is the rule's two tests
pub clamped : (z : ℤ) → int_max (neg_ℤ (pos 32768)) (int_min z (pos 32767)) ≡ held_within z
unfolding held_within
clamped (pos n) = by (ltb 32767 n) (λ e. rw e refl) (λ e. rw e refl)
clamped (negsuc n) = refl
