-- `tuner::Tuner::start` meets its contract: by the checks, fresh numbers or the default ones.
use mathlib.Core.Path.{sym, ◌∙◌}
use lib.ListN.{length}
use Rattle.tuner.proofs.Starts.{number-few, ok_number}
use Rattle.tuner.proofs.Tuner.start.Goals as goal

pub begun-requires : goal.begun-requires
begun-requires c =
    let a = c.args in
    let z = ok_number c.check_begin-checked.result (sym c.is_ok.ensures.value ∙ c.if-is_ok.true) in
    number-few a.hertz a.s a.listed a.intervals.now (length a.store.now) (sym c.check_begin-checked.ensures ∙ z)
