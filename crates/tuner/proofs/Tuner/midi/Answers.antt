-- `tuner::Tuner::midi` meets its contract: the record is tested, and a good one gets the keyboard as the bytes leave it.
use mathlib.Core.Path.{refl, ap}
use Rattle.keyboard.specs.declared.Keyboard.{Keyboard}
use Rattle.tuner.specs.Tuners.{with_numbers, with_keys}
use Rattle.std.proofs.lemmas.Result.{err_from_is_err_and}
use Rattle.tuner.proofs.Starts.{done-untested, done-taken}
use Rattle.tuner.proofs.Tuner.midi.Goals as goal

pub returns-in_err-test : goal.returns-in_err-test
returns-in_err-test c = let p = err_from_is_err_and c.from_residual.result c.from_residual.ensures.1 in rw (p.1, p.2) (done-untested c.in_err-test.ensures)

pub returns : goal.returns
unfolding with_keys
returns c =
    let t = c.args.self.now in
    done-taken c.in_ok-test.ensures refl (ap (λ (k : Keyboard). with_numbers t (with_keys t.numbers t.numbers.settings k)) c.played-n.ensures)
