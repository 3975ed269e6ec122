-- `tracking::Tracker::step` meets its contract: d holds D of the eight lags, so the first least of them is the best, and each part answers by its rule.
use mathlib.Core.Path.{◌≡◌, sym, ap, ◌∙◌}
use mathlib.Core.Bool.{Bool, not}
use mathlib.Core.List.{List}
use Prim.Native.Nat.{ℕ, ◌+◌}
use lib.ListN.{get_or}
use native.Mathlib.Omega.{arith}
use Rattle.rules.specs.Rules.{Sound, D, E, best, is_lost, moved}
use Rattle.rules.specs.Rules as rules
use Rattle.rules.proofs.Periods.{moved_range, moved-best}
use Rattle.ages.specs.Ages.{past}
use Rattle.sums.specs.Kept.{Kept}
use Rattle.passing.specs.Distances.{Distances, Small, small-energies, small-distances}
use Rattle.tracking.specs.Tracking.{kept, is-best}
use Rattle.tracking.proofs.Tracker.step.Goals.{After-least-at, Start}
use Rattle.tracking.proofs.Tracker.step.Goals as goal

sums : (s : Start) → Kept 8 s.args.self.e s.args.self.h
sums s = kept s.requires.1 s.requires.4 s.requires.5

pub distances-requires : goal.distances-requires
distances-requires c = sums (goal.at.distances-requires c).Start

module _ (c : After-least-at) where
  abbrev x : Sound
  x = past c.args.s.now

  abbrev low : ℕ
  low = c.args.self.low

  abbrev d : List ℕ
  d = c.distances.new.d

  measured : Distances x low 8 d
  measured = c.distances.ensures x low c.requires.5

  small : Small 8 d
  small = let k = kept c.requires.1 c.requires.4 c.requires.5 in small-distances k (c.distances.ensures k.sound k.low k.right)

  at-best : c.least-at.result ≡ best x low
  at-best = is-best measured c.least-at.ensures

  judged : {r : Bool} → ((y : Sound) → get_or d c.least-at.result 0 ≡ D y (low + c.least-at.result) → get_or c.args.self.e c.least-at.result 0 ≡ E y (low + c.least-at.result) → r ≡ is_lost c.args.g y (low + c.least-at.result) c.args.self.last)
      → r ≡ is_lost c.args.g x (low + best x low) c.args.self.last
  judged f =
      let i = c.least-at.ensures.inside in
      f x (measured.distance c.least-at.result i) (c.requires.5.energy c.least-at.result i)
      ∙ ap (λ (at : ℕ). is_lost c.args.g x (low + at) c.args.self.last) at-best

pub lost-requires : goal.lost-requires
lost-requires c =
    let p = c.requires in
    let i = c.least-at.ensures.inside in (
      p.3,
      (small (goal.at.lost-requires c).After-least-at).small c.least-at.result i,
      (small-energies (sums (goal.at.lost-requires c).Start)).small c.least-at.result i,
      omega arith,
      p.2,
    )

pub returns-then-lost : goal.returns-then-lost
returns-then-lost c = record { kept = ap not (sym c.if-lost.true ∙ judged (goal.at.returns-then-lost c).After-least-at c.lost.ensures); moved = tt }

pub period-p-requires : goal.period-p-requires
period-p-requires c =
    let l = c in
    (l.least-at.ensures, l.requires.0, l.requires.1, small (goal.at.period-p-requires c).After-least-at)

pub moved_sums-requires : goal.moved_sums-requires
moved_sums-requires c =
    let p = c.requires in
    let r = moved_range (low (goal.at.moved_sums-requires c).After-least-at) c.least-at.result p.0 p.1 in
    (omega (arith, r.0, c.moved_low-low.ensures), omega (arith, r.1, c.moved_low-low.ensures), p.4, p.5)

pub returns : goal.returns
returns c =
    let l = (goal.at.returns c).After-least-at in
    let at = c.least-at.result in
    let p = c.period-p.ensures (x l) (measured l) in
    let m = c.moved_low-low.ensures in
    let r = moved_range (low l) at c.requires.0 c.requires.1 in
    let b = moved-best (low l) at c.least-at.ensures.inside in
    record {
      kept = ap not (sym c.if-lost.false ∙ judged l c.lost.ensures);
      moved =
          record {
            period = p.is ∙ ap (rules.period (x l) (low l)) (at-best l);
            from = p.from;
            upto = p.upto;
            low = m ∙ ap (moved (low l)) (at-best l);
            low-from = omega (arith, r.0, m);
            low-upto = omega (arith, r.1, m);
            last = ap (λ (n : ℕ). low l + n) (at-best l);
            last-from = omega (arith, b.0, m);
            last-upto = omega (arith, b.1, m);
            sums = c.moved_sums.ensures;
          };
    }
