-- `tuner::give` meets its contract: one after the other.
use mathlib.Core.Path.{◌∙◌}
use Prim.Native.Nat.{◌≤◌, ◌<◌}
use native.Mathlib.Omega.{arith}
use lib.ListN.{length}
use Rattle.tuner.specs.Following.{four}
use Rattle.tuner.proofs.Outputs.{each_fits, written-four}
use Rattle.tuner.proofs.give.Goals.{Start}
use Rattle.tuner.proofs.give.Goals as goal

-- each output that is asked for has room
room : (s : Start) → let a = s.args in (a.b ≤ length a.out.now) × (0 < a.chosen → a.b ≤ length a.first.now) × (1 < a.chosen → a.b ≤ length a.second.now) × (2 < a.chosen → a.b ≤ length a.third.now)
room s = let a = s.args in each_fits a.out.now a.first.now a.second.now a.third.now a.kept.now a.b a.chosen s.requires.0 s.requires.2

pub give-requires : goal.give-requires
give-requires c = (omega (arith, c.requires.1, c.told-kept), (room (goal.at.give-requires c).Start).0)

pub give_voice-requires : goal.give_voice-requires
give_voice-requires c = (omega arith, c.requires.1, (room (goal.at.give_voice-requires c).Start).1)

pub give_voice-requires-2 : goal.give_voice-requires-2
give_voice-requires-2 c = (omega arith, c.requires.1, (room (goal.at.give_voice-requires-2 c).Start).2)

pub give_voice-requires-3 : goal.give_voice-requires-3
give_voice-requires-3 c = (omega arith, c.requires.1, (room (goal.at.give_voice-requires-3 c).Start).3)

pub returns : goal.returns
returns c =
    let a = c.args in
    (λ i. four (c.give.ensures i) (c.give_voice.ensures i) (c.give_voice-2.ensures i) (c.give_voice-3.ensures i))
    ∙ written-four a.out.now a.first.now a.second.now a.third.now a.kept.now a.b c.requires.1 a.chosen c.requires.0
