-- `tuner::Tuner::change` meets its contract: the record is tested, then the settings.
use mathlib.Core.Path.{sym, ap}
use Rattle.keyboard.specs.declared.Keyboard.{Keyboard}
use Rattle.tuner.specs.Tuners.{with_numbers, with_keys}
use Rattle.std.proofs.lemmas.Result.{err_from_is_err_and}
use Rattle.tuner.proofs.Starts.{done-untested, done-own, done-taken}
use Rattle.tuner.proofs.Tuner.change.Goals as goal

pub returns-in_err-test : goal.returns-in_err-test
returns-in_err-test c = let p = err_from_is_err_and c.from_residual.result c.from_residual.ensures.1 in rw (p.1, p.2) (done-untested c.in_err-test.ensures)

pub returns-in_err-check_settings : goal.returns-in_err-check_settings
returns-in_err-check_settings c =
    let r = c.from_residual-in_err-check_settings in
    let p = err_from_is_err_and r.result r.ensures.1 in
    rw (p.1, p.2) (done-own _ c.in_ok-test.ensures c.in_err-check_settings.ensures)

pub returns : goal.returns
unfolding with_keys
returns c =
    let t = c.args.self.now in
    done-taken c.in_ok-test.ensures (sym c.in_ok-check_settings.ensures) (ap (λ (k : Keyboard). with_numbers t (with_keys t.numbers c.args.s k)) c.on_channel-n.ensures)
