-- `sums::next` meets its contract: the window moves on by one sample (`E-slides`, `H-next`), and the sums of 16-bit samples are small.
use mathlib.Core.Path.{◌≡◌, sym, ap, ◌∙◌}
use Prim.Native.Nat.{suc, ◌+◌, ◌*◌, ◌^◌, ◌≤◌}
use native.Mathlib.Omega.{arith}
use lib.IntN.{◌+ℤ◌, ◌-ℤ◌, ◌*ℤ◌}
use mir.Syntax.{w16, w64}
use mir.Val.{to_z, of_z}
use mir.Facts.{to_z-of_z}
use Rattle.whole.specs.Words.{Bits}
use Rattle.rules.specs.Rules.{sq, E}
use Rattle.rules.specs.Sounds.{next_h}
use Rattle.rules.proofs.Energies.{E-slides, H-next}
use Rattle.ages.specs.Ages.{past, past-fits}
use Rattle.sums.specs.Sweep.{energy-small, correlation-held}
use Rattle.sums.proofs.next.Goals.{After-back-y, After-back-z, After-square-2, Start}
use Rattle.sums.proofs.next.Goals as goal

-- the three samples
newest : (c : Start) → to_z w16 (of_z w16 c.args.x) ≡ past c.args.s.now 0
newest c = to_z-of_z c.ranges.x ∙ c.requires.1

middle : (c : After-back-y) → to_z w16 (of_z w16 c.back-y.result) ≡ past c.args.s.now c.args.lag
middle c = to_z-of_z {w = w16} {z = c.back-y.result} (record { sfits = c.back-y.type_inv }) ∙ c.back-y.ensures

oldest : (c : After-back-z) → to_z w16 (of_z w16 c.back-z.result) ≡ past c.args.s.now (2 * c.args.lag)
oldest c = to_z-of_z {w = w16} {z = c.back-z.result} (record { sfits = c.back-z.type_inv }) ∙ c.back-z.ensures

-- the sums before them
small : (c : Start) → c.args.t.e ≤ 2 ^ 41
small c = energy-small (λ k. past-fits c.requires.0.samples (suc k)) (omega arith) c.requires.2.energy

held : (c : Start) → Bits w64 (2 ^ 40) (of_z w64 c.args.t.h) c.args.t.h
held c = correlation-held (λ k. past-fits c.requires.0.samples (suc k)) (omega arith) c.requires.2.correlation

pub overflow_add-result : goal.overflow_add-result
overflow_add-result c = omega (arith, small (goal.at.overflow_add-result c).Start)

slides : (c : After-square-2) → to_z w16 (of_z w16 c.args.x) ≡ past c.args.s.now 0 → to_z w16 (of_z w16 c.back-z.result) ≡ past c.args.s.now (2 * c.args.lag)
    → E (past c.args.s.now) c.args.lag + c.square-2.result
    ≡ c.args.t.e + c.square.result
slides c new old =
    let a = c.args in
    let x = c.square.ensures.0 ∙ ap sq new in
    let z = c.square-2.ensures.0 ∙ ap sq old in
    omega (arith, x, z, c.requires.2.energy, E-slides (past a.s.now) a.lag)

pub overflow_sub-result : goal.overflow_sub-result
overflow_sub-result c = omega (arith, slides (goal.at.overflow_sub-result c).After-square-2 (newest (goal.at.overflow_sub-result c).Start) (oldest (goal.at.overflow_sub-result c).After-back-z))

pub turned-requires : goal.turned-requires
turned-requires c = let h = held (goal.at.turned-requires c).Start in rw h.reads (omega (arith, h.size.within))

pub returns : goal.returns
unfolding next_h
returns c =
    let s = c in
    let x = newest (goal.at.returns c).Start in
    let y = middle (goal.at.returns c).After-back-y in
    let z = oldest (goal.at.returns c).After-back-z in
    record {
      energy = omega (arith, slides (goal.at.returns c).After-square-2 x z);
      correlation =
          to_z-of_z {w = w64} {z = c.turned.result} (record { sfits = c.turned.type_inv })
          ∙ c.turned.ensures
          ∙ (λ i. ((held (goal.at.returns c).Start).reads ∙ s.requires.2.correlation) i +ℤ x i *ℤ y i -ℤ y i *ℤ z i)
          ∙ sym (H-next (past s.args.s.now) s.args.lag);
    }
