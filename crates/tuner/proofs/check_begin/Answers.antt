-- `tuner::check_begin` meets its contract: the tests in their order.
use mathlib.Core.Path.{sym, ◌∙◌}
use lib.ListN.{length}
use native.Mathlib.Omega.{arith}
use Rattle.std.proofs.lemmas.Result.{err_from_is_err_and}
use Rattle.answers.proofs.Turns.{refused-above}
use Rattle.tuner.proofs.Starts.{number_own, number_17, number-on}
use Rattle.tuner.proofs.check_begin.Goals as goal

pub returns-in_err-check_start : goal.returns-in_err-check_start
returns-in_err-check_start c =
    let a = c.args in
    let e = c.in_err-check_start.ensures in
    let p = err_from_is_err_and c.from_residual.result c.from_residual.ensures.1 in
    let above = refused-above c.in_err-check_start.field-0.0 in
    rw (p.1, p.2) (e ∙ sym (number_own a.hertz a.s a.listed a.intervals.now (length a.store.now) (λ z. omega (arith, e, z, above))))

pub returns-then-not-store_fits : goal.returns-then-not-store_fits
returns-then-not-store_fits c =
    let a = c.args in
    sym (number_17 a.hertz a.s a.listed a.intervals.now (length a.store.now) (sym c.in_ok-check_start.ensures) (sym c.store_fits.ensures ∙ c.if-not-store_fits.true))

pub returns : goal.returns
returns c =
    let a = c.args in
    c.check_intervals.ensures
    ∙ sym (number-on a.hertz a.s a.listed a.intervals.now (length a.store.now) (sym c.in_ok-check_start.ensures) (sym c.store_fits.ensures ∙ c.if-not-store_fits.false))
