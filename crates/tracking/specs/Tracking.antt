-- Tracking a period: what a tracker's sums are, and what a tracking step answers.
use Rattle.std.specs.Prelude.{◌≡◌, not, List, ℕ, ◌+◌, ◌≤◌, ℤ, get_or, Option, is_some, IfSome}
use Rattle.std.proofs.Common.{ap, arith}
use Rattle.rules.specs.declared.Settings.{Settings}
use Rattle.rules.specs.Rules.{Sound, D, best, is_lost, moved}
use Rattle.rules.specs.Rules as rules
use Rattle.rules.specs.Choosing.{First}
use Rattle.rules.proofs.Choosing.{first_of_same, is-place}
use Rattle.rules.proofs.Periods.{period_range}
use Rattle.ages.specs.Ages.{past, past-fits}
use Rattle.sums.specs.Kept.{Enough, Kept}
use Rattle.rules.specs.Facts.{Right}
use Rattle.passing.specs.Distances.{Ample, Distances}
use Rattle.tracking.specs.declared.Tracker.{Tracker}

-- the number at a place
abbrev pub place : List ℕ → ℕ → ℕ
place d j = get_or d j 0

-- p is the period at the place `at` of the eight lags from low on, and in its range
pub record PeriodAt (x : Sound) (low at p : ℕ) : Type 0 where
  pub is : p ≡ rules.period x low at
  pub from : 4096 ≤ p
  pub upto : p ≤ 225280

-- t tracks the eight lags from L on, with the last best lag B; its sums are those of the sound x
pub record Tracks (x : Sound) (L B : ℕ) (t : Tracker) : Type 0 where
  pub low : t.low ≡ L
  pub last : t.last ≡ B
  pub sums : Right x L 8 t.e t.h

-- p is the period that a tracking step of t answers, and t' the eight lags after the step, with their sums
pub record Moved (x : Sound) (t : Tracker) (p : ℕ) (t' : Tracker) : Type 0 where
  pub period : p ≡ rules.period x t.low (best x t.low)
  pub from : 4096 ≤ p
  pub upto : p ≤ 225280
  pub low : t'.low ≡ moved t.low (best x t.low)
  pub low-from : 16 ≤ t'.low
  pub low-upto : t'.low ≤ 873
  pub last : t'.last ≡ t.low + best x t.low
  pub last-from : t'.low ≤ t'.last
  pub last-upto : t'.last ≤ t'.low + 7
  pub sums : Right x t'.low 8 t'.e t'.h

-- r is what a tracking step of t answers, and t' what it leaves: a period unless lost
pub record Stepped (g : Settings) (x : Sound) (t : Tracker) (r : Option ℕ) (t' : Tracker) : Type 0 where
  pub kept : is_some r ≡ not (is_lost g x (t.low + best x t.low) t.last)
  pub moved : IfSome r (λ p. Moved x t p t')

-- room for eight lags
pub room : {s : List ℤ} {low : ℕ} → 16 ≤ low → low ≤ 873 → Ample s → Enough s low 8
room lo hi l = record { samples = l.samples; from = omega arith; upto = omega arith; reach = omega (arith, l.enough) }

-- the eight sums of samples are those of a sound of 16-bit samples
pub kept : {s : List ℤ} {low : ℕ} {e : List ℕ} {h : List ℤ} → low ≤ 873 → Ample s → Right (past s) low 8 e h → Kept 8 e h
kept {s} {low} hi l r = record { sound = past s; fits = past-fits l.samples; low = low; upto = omega arith; right = r }

-- where d are the D of the eight lags, the first least of them is the best, and its period is in its range
module _ {x : Sound} {low : ℕ} {d : List ℕ} (m : Distances x low 8 d) {at : ℕ} (f : First (place d) 8 at) where
  pub is-best : at ≡ best x low
  unfolding best
  is-best = is-place (λ (j : ℕ). D x (low + j)) (first_of_same m.distance f)

  pub period-at : {p : ℕ} → 16 ≤ low → low ≤ 873 → p ≡ rules.period x low at → PeriodAt x low at p
  period-at lo hi e =
      let r = period_range x low lo hi in
      let b = ap (rules.period x low) is-best in
      record { is = e; from = omega (arith, r.0, b); upto = omega (arith, r.1, b) }
