-- Worked reports: document 01's whole case, and a total whose mean is not that of its takes' means.
use Rattle.std.specs.Prelude.{◌≡◌, refl, [], ◌∷◌, ℕ, pos, replicate}
use Rattle.rules.specs.Rules.{Given, gathered, no_tone}
use Rattle.text.specs.Text.{digits, places, decimal, places_within, long_decimal}
use Rattle.reports.specs.Reports.{pitched_of, distance_of, figures_of, added, mean_of, remainder_of, figures_line, takes_lines, total_of, report_of}
use Rattle.reckoned.specs.Worked.{line}

-- a sample without a period
pub silent : Given
silent = record { out = pos 0; tone = no_tone; repeats = []; drops = [] }

-- a sample at this rate, with a cycle repeated
pub at-rate : ℕ → Given
at-rate r = record { out = pos 0; tone = record { period = 25600; note = 69; rate = r; kept = 0 }; repeats = 25600 ∷ []; drops = [] }

-- the opening without samples, and a take of six silent ones
pub whole_case : report_of (replicate 6 silent ∷ [] ∷ []) ≡ line 0 0 0 0 0 0 0 (line 6 0 0 0 0 0 0 (line 6 0 0 0 0 0 0 []))
unfolding report_of takes_lines total_of figures_line figures_of added mean_of remainder_of pitched_of distance_of gathered long_decimal places_within digits silent no_tone
whole_case = refl

-- distances 4 and 3 over two samples, then 1 over one: 3 and 1, 1 and 0, and of the total 2 and 2, not 2 and 0
pub own_mean : report_of ((at-rate 65535 ∷ []) ∷ (at-rate 65540 ∷ at-rate 65533 ∷ []) ∷ []) ≡ line 2 2 2 0 7 3 1 (line 1 1 1 0 1 1 0 (line 3 3 3 0 8 2 2 []))
unfolding report_of takes_lines total_of figures_line figures_of added mean_of remainder_of pitched_of distance_of gathered long_decimal places_within digits at-rate
own_mean = refl

-- 1,001 takes are too many
pub too_many_lem : report_of (replicate 1001 []) ≡ 50 ∷ 56 ∷ 10 ∷ []
unfolding report_of decimal places digits
too_many_lem = refl
