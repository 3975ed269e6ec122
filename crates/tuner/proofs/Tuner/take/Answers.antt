-- `tuner::Tuner::take` meets its contract: a good record is where the samples' fold may begin, and what follows it is put together (`taken_is`).
use borrow.Author.Rules.{rules}
use mathlib.Core.Path.{◌≡◌, refl}
use native.Mathlib.Omega.{arith}
use lib.ListN.{length, replicate}
use Rattle.copying.specs.Copies.{zeros_fit}
use Rattle.steps.specs.Running.{tones, Long512}
use Rattle.tuner.proofs.Afters.{StoresLong}
use Rattle.tuner.proofs.Taking.{hears, follows, taken_is, rows-after}
use Rattle.tuner.proofs.Tuner.take.Goals.{Start}
use Rattle.tuner.proofs.Tuner.take.Goals as goal

-- no place is written yet
empty : Long512 (tones (replicate 512 0) (replicate 512 0) (replicate 512 0))
empty = record { periods = refl; notes = refl; rates = refl }

long : (c : Start) → StoresLong c.args.self.now
long c = record { store = search rules; eighths = search rules }

pub join-requires : goal.join-requires
join-requires c = let l = long (goal.at.join-requires c).Start in (omega (arith, l.store, c.requires.fits.1), zeros_fit 2276)

pub front-requires : goal.front-requires
front-requires c = let l = long (goal.at.front-requires c).Start in (omega (arith, l.eighths), zeros_fit 288)

pub hear-q-requires : goal.hear-q-requires
hear-q-requires c =
    let p = c.requires in
    hears c.args.self.now p.good (long (goal.at.hear-q-requires c).Start) c.join.ensures c.front.ensures p.fits.1 p.fits.2 empty

pub follow-requires : goal.follow-requires
follow-requires c =
    let t = c.args.self.now in
    let p = c.requires in
    let outs : length t.outs ≡ 2048 = search rules in
    follows t p.good (long (goal.at.follow-requires c).Start) c.join.ensures c.front.ensures p.fits.1 c.hear-q.ensures empty p.fits.2 t.outs outs

pub returns-clause-tuner : goal.returns-clause-tuner
returns-clause-tuner c =
    let t = c.args.self.now in
    let p = c.requires in
    taken_is t p.good (long (goal.at.returns-clause-tuner c).Start) c.join.ensures c.front.ensures p.fits.1 c.hear-q.ensures empty p.fits.2 c.follow.ensures c.keep.ensures c.keep-2.ensures refl

pub returns-clause-rows : goal.returns-clause-rows
returns-clause-rows c =
    let t = c.args.self.now in
    let p = c.requires in
    rows-after t p.good (long (goal.at.returns-clause-rows c).Start) c.join.ensures c.front.ensures p.fits.1 c.hear-q.ensures empty p.fits.2 c.follow.ensures c.keep.ensures c.keep-2.ensures
