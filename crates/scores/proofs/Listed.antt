-- The note that a take's list has at a sample is the note of that sample.
use Rattle.std.specs.Prelude.{◌≡◌, ◌&&◌, ℕ, ◌+◌, ◌-◌, leb, eqb}
use Rattle.std.proofs.Math.Path.{sym, ap}
use Rattle.std.proofs.Common.{◌∙◌}
use Rattle.std.proofs.Math.Logic.{⊎_elim}
use mathlib.Core.List.{List, [], ◌∷◌}
use native.Mathlib.Omega.{arith}
use borrow.Author.Tests.{eqb-true, eqb-false, leb-true, ltb-true, le-leb, lt-ltb}
use Rattle.std.proofs.Math.Dec.{ltb}
use Rattle.whole.specs.Tests.{by, and_left, and_right, yes_and_no}
use Rattle.rules.specs.Rules.{no_note}
use Rattle.lists.specs.Lists.{Row, runs, note_at, LongestRuns, InRow}
use Rattle.lists.proofs.Longest.{rows_are_runs}
use Rattle.scores.specs.Scores.{listed_at}

module _ (notes : List ℕ) (i : ℕ) where
  listed_in : (from : ℕ) (rs : List Row) → LongestRuns from notes rs → ((note_at notes i ≡ no_note → ⊥) → InRow i rs) → listed_at rs i ≡ note_at notes i
  unfolding listed_at LongestRuns InRow
  listed_in from [] l h = by (eqb (note_at notes i) no_note) (λ y. sym (eqb-true (note_at notes i) no_note y)) (λ y. absurd (h (eqb-false (note_at notes i) no_note y)))
  listed_in from (r ∷ rs) l h =
      by (leb r.first i && ltb i (r.first + r.length))
      (λ y.
      let a = leb-true r.first i (and_left (leb r.first i) (ltb i (r.first + r.length)) y) in
      let b = ltb-true i (r.first + r.length) (and_right (leb r.first i) (ltb i (r.first + r.length)) y) in
      let z : r.first + (i - r.first) ≡ i = omega arith in
      rw y (sym (l.1.same (i - r.first) (omega arith)) ∙ ap (note_at notes) z))
      (λ y.
      rw y
      (listed_in (r.first + r.length) rs l.2
      (λ n. ⊎_elim (λ q. absurd (yes_and_no (rw (le-leb r.first i q.0, lt-ltb i (r.first + r.length) q.1)) y)) (λ q. q) (h n))))

  pub listed-is : listed_at (runs notes) i ≡ note_at notes i
  listed-is = let r = rows_are_runs notes in listed_in 0 (runs notes) r.0 (r.1 i)
