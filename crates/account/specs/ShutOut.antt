-- The wrong programs of document 01's list are shut out (`shut_out`).
-- The promise settles what is answered to document 01's whole case, so a program that answers something else on it breaks the promise; counts made up from a block alone break it on one of two tuners.
use Rattle.std.specs.Prelude.{ℤ}
use mathlib.Core.List.{List, map}
use Rattle.rules.specs.Rules.{cd_rate, defaults, samples_out}
use Rattle.history.specs.History.{sample, fresh_course, course_after, given_by}
use Rattle.tuner.specs.declared.Tuner.{Tuner}
use Rattle.tuner.specs.Tuners.{default_tuner}
use Rattle.account.specs.Account.{block}

abbrev pub start : Tuner
start = default_tuner

-- the rules' samples for the first block, and for the second after it: the input four samples late
abbrev pub out_for : List ℤ → List ℤ → List ℤ
out_for before xs = samples_out (given_by (course_after (fresh_course cd_rate defaults) (map sample before)) (map sample xs))
