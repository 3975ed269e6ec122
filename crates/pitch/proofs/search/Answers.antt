-- `pitch::search` meets its contract, by what was found: nothing, and the voice stays; or a lag, which lies from 24 to 872.
use mathlib.Core.Path.{ap}
use Rattle.pitch.specs.Listening.{modest, kept-sums, found-lag, searched-none, searched-some}
use Rattle.ages.specs.Ages.{past}
use Rattle.finding.specs.Finding.{lag_of}
use Rattle.pitch.proofs.search.Goals as goal

pub find-requires : goal.find-requires
find-requires c = let p = c.requires in (kept-sums p.2, modest p.1, p.3)

pub locked-requires : goal.locked-requires
locked-requires c =
    let a = c.args in
    let p = c.requires in
    let f = found-lag a.f (past a.s.now) a.v c.find.result c.find.ensures p.2 c.in-Some.lag (ap lag_of c.in-Some.is) in
    (f.0, f.1, p.3)

pub returns-in-None : goal.returns-in-None
returns-in-None c =
    let a = c.args in
    searched-none a.f (past a.s.now) a.v c.find.result c.find.ensures (ap lag_of c.in-None.is) c.requires.0

pub returns-in-Some : goal.returns-in-Some
returns-in-Some c =
    let a = c.args in
    searched-some a.f (past a.s.now) a.v c.find.result c.find.ensures c.in-Some.lag (ap lag_of c.in-Some.is) c.locked.ensures
