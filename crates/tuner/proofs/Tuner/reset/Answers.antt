-- `tuner::Tuner::reset` meets its contract: the record is tested, then the store.
use mathlib.Core.Path.{sym, ap, ◌∙◌}
use Rattle.refusals.specs.declared.Refusal.TheVariants.{StoreWithoutRoom}
use Rattle.whole.specs.Tests.{cond_yes, cond_no}
use Rattle.tuner.specs.Tuners.{silent_tuner}
use Rattle.tuner.proofs.Starts.{done-nine, done-own, done-taken}
use Rattle.tuner.proofs.Tuner.reset.Goals as goal

pub returns-then-not-is_good : goal.returns-then-not-is_good
returns-then-not-is_good c = done-nine (c.is_good.ensures.no c.if-not-is_good.true)

pub returns-then-not-store_fits : goal.returns-then-not-store_fits
returns-then-not-store_fits c =
    done-own StoreWithoutRoom (c.is_good.ensures.yes c.if-not-is_good.false) (sym (cond_no 0 17 (sym c.store_fits.ensures ∙ c.if-not-store_fits.true)))

pub returns : goal.returns
returns c =
    done-taken (c.is_good.ensures.yes c.if-not-is_good.false) (cond_yes 0 17 (sym c.store_fits.ensures ∙ c.if-not-store_fits.false)) (c.silence.ensures ∙ ap silent_tuner c.begun_again-n.ensures)
