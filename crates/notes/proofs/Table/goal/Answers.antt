-- The period read is the wanted note's, whose raw rate lies from a half to two, so that every call is allowed.
use mathlib.Core.Path.{◌≡◌, sym, ap, ◌∙◌}
use Prim.Native.Nat.{◌+◌}
use native.Mathlib.Omega.{arith}
use lib.ListN.{get_or}
use Rattle.rules.specs.Rules.{first_note, raw_rate, note_of, goal_of}
use Rattle.rules.proofs.Table.{table-span}
use Rattle.rules.specs.Tuning.{IsWanted}
use Rattle.rules.proofs.Notes.{wanted-is, wanted_of_table, note_period_range, raw_range, goal_of_scale}
use Rattle.notes.specs.Around.{period_at, at_place, as_long}
use Rattle.notes.proofs.Table.goal.Goals.{After-nearest-k}
use Rattle.notes.proofs.Table.goal.Goals as goal

module _ (c : After-nearest-k) where
  is-wanted : IsWanted c.args.self.hertz c.args.scale c.args.period (first_note c.args.self.hertz + c.nearest-k.result)
  is-wanted = wanted-is _ _ _ _ c.nearest-k.ensures.1

  read : get_or c.args.self.periods.now c.nearest-k.result 0 ≡ period_at c.args.self.hertz c.nearest-k.result
  read = at_place _ c.requires.0.periods _

pub overflow_cast-result : goal.overflow_cast-result
overflow_cast-result c = omega (arith, c.nearest-k.ensures.0, table-span c.requires.0.rate)

pub overflow_add-result : goal.overflow_add-result
overflow_add-result c = omega (arith, c.nearest-k.ensures.0, table-span c.requires.0.rate)

pub offset_bounds-self-k : goal.offset_bounds-self-k
offset_bounds-self-k c = omega (arith, c.nearest-k.ensures.0, as_long c.requires.0.rate c.requires.0.periods, c.ranges.self)

pub bounds-self-k : goal.bounds-self-k
bounds-self-k c = omega (arith, c.nearest-k.ensures.0, as_long c.requires.0.rate c.requires.0.periods)

pub raw_rate-requires : goal.raw_rate-requires
raw_rate-requires c =
    let p = c.requires in
    let f = (goal.at.raw_rate-requires c).After-nearest-k in
    let w = is-wanted f in
    rw (read f) (omega (arith, note_period_range p.0.rate (wanted_of_table w)), omega (arith, (raw_range _ _ _ _ p.0.rate w p.3 p.4).1))

pub returns : goal.returns
unfolding note_of
returns c =
    let p = c.requires in
    let f = (goal.at.returns c).After-nearest-k in
    let raw = c.raw_rate.ensures ∙ ap (raw_rate c.args.period) (read f) in
    (λ i. record { note = p.0.first i + c.nearest-k.result; raw = raw i })
    ∙ sym (goal_of_scale p.0.rate (is-wanted f) p.3 p.4)
    ∙ sym (ap (λ o. goal_of c.args.self.hertz c.args.period (note_of o)) c.nearest-k.ensures.1)
