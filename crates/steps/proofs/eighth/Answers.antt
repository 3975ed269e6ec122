-- `steps::eighth` meets its contract: a sample put at the next place is heard, and the sums before it are those that the update asks for, or, where
-- silence goes on, those after it too.
use mathlib.Core.Path.{◌≡◌, sym, ap, ◌∙◌, subst}
use Prim.Native.Nat.{◌+◌}
use lib.IntN.{ℤ}
use lib.ListN.{length, take, set}
use mir.Syntax.{w16}
use mir.Val.{SFits, to_z, of_z}
use mir.Facts.{to_z-of_z}
use Rattle.rules.specs.Rules.{eighth_sample}
use Rattle.rules.proofs.Hearing.{eighth-fits}
use Rattle.ages.specs.Ages.{past, past-fits}
use Rattle.sums.specs.Kept.{Enough}
use Rattle.steps.specs.Eighths.{put-room, put-older, put-eighths, put-silence, as_many}
use Rattle.steps.proofs.eighth.Goals.{After-eighth_sample-x}
use Rattle.steps.proofs.eighth.Goals as goal

-- the sample as it is stored
stored : (c : After-eighth_sample-x) → to_z w16 (of_z w16 c.eighth_sample-x.result) ≡ eighth_sample (past c.args.s.now)
stored c = to_z-of_z {w = w16} {z = c.eighth_sample-x.result} (record { sfits = c.eighth_sample-x.type_inv }) ∙ c.eighth_sample-x.ensures

fits : (c : After-eighth_sample-x) → SFits w16 (to_z w16 (of_z w16 c.eighth_sample-x.result))
fits c =
    let a = c.args in
    subst (λ (z : ℤ). SFits w16 z) (sym (stored c)) (eighth-fits (past a.s.now) (past-fits c.requires.1))

pub returns-then-still_silent : goal.returns-then-still_silent
returns-then-still_silent c =
    let k = c in
    let a = k.args in
    let p = k.requires in
    let v = to_z w16 (of_z w16 k.eighth_sample-x.result) in
    let q = c.still_silent.ensures c.if-still_silent.true in (
      ap (set a.y.now a.places) (stored (goal.at.returns-then-still_silent c).After-eighth_sample-x),
      put-silence a.y.now a.places v p.4 (fits (goal.at.returns-then-still_silent c).After-eighth_sample-x) p.2 p.3 q.0 q.1,
    )

pub next_all-requires : goal.next_all-requires
next_all-requires c =
    let k = c in
    let a = k.args in
    let p = k.requires in
    let v = to_z w16 (of_z w16 k.eighth_sample-x.result) in
    let n : 109 ≡ length a.e.now = sym p.4.sums.energies in (
      subst (Enough (take (a.places + 1) (set a.y.now a.places v)) 2) n (put-room a.y.now a.places v p.4 (fits (goal.at.next_all-requires c).After-eighth_sample-x) p.2 p.3),
      as_many n (put-older a.y.now a.places v p.4 (fits (goal.at.next_all-requires c).After-eighth_sample-x) p.2 p.3),
    )

pub returns : goal.returns
returns c =
    let k = c in
    let a = k.args in
    let p = k.requires in
    let v = to_z w16 (of_z w16 k.eighth_sample-x.result) in (
      ap (set a.y.now a.places) (stored (goal.at.returns c).After-eighth_sample-x),
      put-eighths a.y.now a.places v p.4 (fits (goal.at.returns c).After-eighth_sample-x) p.2 p.3
          (as_many p.4.sums.energies c.next_all.ensures),
    )
