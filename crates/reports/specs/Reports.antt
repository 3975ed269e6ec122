-- A report's figures and its text, in the words of change request K14: what is counted over what the rules gave for each sample of a take, and how it is printed. Definitions only.
use Rattle.std.specs.Prelude.{cond, List, [], ◌∷◌, ◌++◌, ℕ, ◌+◌, ◌/◌, ◌%◌, eqb, leb, length}
use Rattle.rules.specs.Rules.{Given, away, fresh_rate, all_repeated, all_dropped}
use Rattle.text.specs.Text.{decimal, long_decimal}
use Rattle.reports.specs.declared.Figures.{Figures}

-- ---- the figures of a take

-- pitched samples: there is a period after the sample
unfoldable pub pitched_of : List Given → ℕ
pitched_of [] = 0
pitched_of (g ∷ gs) = cond (eqb g.tone.period 0) 0 1 + pitched_of gs

-- the sum over samples of the distance of the rate from 65536: the rate by which the sample's position grew
unfoldable pub distance_of : List Given → ℕ
distance_of [] = 0
distance_of (g ∷ gs) = away g.tone.rate fresh_rate + distance_of gs

-- the figures of a take, of which the rules gave this for each sample
unfoldable pub figures_of : List Given → Figures
figures_of gs = record { samples = length gs; pitched = pitched_of gs; repeated = length (all_repeated gs); dropped = length (all_dropped gs); sum = distance_of gs }

-- the mean of the distance: its whole part and its remainder over the sample count, 0 and 0 without samples
unfoldable pub mean_of : Figures → ℕ
mean_of f = cond (eqb f.samples 0) 0 (f.sum / f.samples)

unfoldable pub remainder_of : Figures → ℕ
remainder_of f = cond (eqb f.samples 0) 0 (f.sum % f.samples)

-- figures added up
unfoldable pub added : Figures → Figures → Figures
added a b =
    record {
      samples = a.samples + b.samples;
      pitched = a.pitched + b.pitched;
      repeated = a.repeated + b.repeated;
      dropped = a.dropped + b.dropped;
      sum = a.sum + b.sum;
    }

abbrev pub no_figures : Figures
no_figures = record { samples = 0; pitched = 0; repeated = 0; dropped = 0; sum = 0 }

-- ---- the text

-- one tab-parted line: samples, pitched, repeated, dropped, sum, mean, remainder
unfoldable pub figures_line : Figures → List ℕ
figures_line f =
    long_decimal f.samples ++ (9 ∷ long_decimal f.pitched) ++ (9 ∷ long_decimal f.repeated) ++ (9 ∷ long_decimal f.dropped) ++ (9 ∷ long_decimal f.sum)
    ++ (9 ∷ long_decimal (mean_of f)) ++ (9 ∷ long_decimal (remainder_of f)) ++ (10 ∷ [])

-- takes, the newest first, each with what the rules gave for its samples: a line for each, the oldest first
unfoldable pub takes_lines : List (List Given) → List ℕ
takes_lines [] = []
takes_lines (gs ∷ older) = takes_lines older ++ figures_line (figures_of gs)

-- the total: the sum of the takes
unfoldable pub total_of : List (List Given) → Figures
total_of [] = no_figures
total_of (gs ∷ older) = added (total_of older) (figures_of gs)

-- at most 1,000 takes are reported, and the refusal of more
abbrev pub most_takes : ℕ
most_takes = 1000

abbrev pub too_many : List ℕ
too_many = decimal 28 ++ (10 ∷ [])

-- the report: a line a take and one for the total, which has its own mean; or 28 alone
unfoldable pub report_of : List (List Given) → List ℕ
report_of takes = cond (leb (length takes) most_takes) (takes_lines takes ++ figures_line (total_of takes)) too_many
