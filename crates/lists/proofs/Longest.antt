-- The rows of a take are its longest runs. From the last sample back: the samples from number `at` on are known, and a row is looked at from there.
use Rattle.std.specs.Prelude.{◌≡◌, ◌&&◌, leb}
use Rattle.std.proofs.Common.{sym, ◌∙◌}
use Rattle.std.proofs.Math.Path.{ap}
use mathlib.Core.List.{List, [], ◌∷◌}
use Rattle.std.proofs.Math.Logic.{inl, inr, ⊎_elim}
use Prim.Native.Nat.{ℕ, zero, suc, ◌+◌, ◌-◌, ◌≤◌, ◌<◌}
use native.Mathlib.Omega.{arith}
use borrow.Author.Tests.{eqb-true, eqb-false, eq-eqb, leb-true, leb-false}
use Rattle.std.proofs.Math.Dec.{eqb}
use Rattle.whole.specs.Tests.{by, and_left, and_right, yes_and_no}
use Rattle.rules.specs.Rules.{no_note}
use Rattle.lists.specs.Lists.{Row, row, before, runs_from, note_at, LongestRuns, InRow, RowsAreRuns}

module _ (f : ℕ → ℕ) where
  -- a longest run, as far as the samples from `at` on say
  record Seen (at : ℕ) (r : Row) : Type 0 where
    some : 0 < r.length
    sung : r.note ≡ no_note → ⊥
    same : (i : ℕ) → i < r.length → f (r.first + i) ≡ r.note
    ahead : (i : ℕ) → at ≤ i → suc i ≡ r.first → f i ≡ r.note → ⊥
    behind : f (r.first + r.length) ≡ r.note → ⊥

  unfoldable AllSeen : (at from : ℕ) → List Row → Type 0
  AllSeen at from [] = Unit
  AllSeen at from (r ∷ rs) = (from ≤ r.first) × Seen at r × AllSeen at (r.first + r.length) rs

  -- one sample more is known, ahead of a row: not of its note, or not the next
  seen_more : (at : ℕ) (r : Row) → Seen (suc at) r → (suc at ≡ r.first → f at ≡ r.note → ⊥) → Seen at r
  seen_more at r s n =
      record {
        some = s.some;
        sung = s.sung;
        same = s.same;
        ahead = λ i h e p. by (leb (suc at) i) (λ t. s.ahead i (leb-true (suc at) i t) e p) (λ t. let q : i ≡ at = omega (arith, leb-false (suc at) i t) in n (omega arith) (ap f (sym q) ∙ p));
        behind = s.behind;
      }

  all_more : (at from : ℕ) (rs : List Row) → suc at < from → AllSeen (suc at) from rs → AllSeen at from rs
  unfolding AllSeen
  all_more at from [] h s = tt
  all_more at from (r ∷ rs) h s = (s.0, seen_more at r s.1 (λ e p. absurd (omega (arith, s.0))), all_more at (r.first + r.length) rs (omega (arith, s.0)) s.2)

  -- a sample before all rows is in none
  not_in : (at from i : ℕ) (rs : List Row) → i < from → AllSeen at from rs → InRow i rs → ⊥
  unfolding AllSeen InRow
  not_in at from i [] h s q = q
  not_in at from i (r ∷ rs) h s (inl q) = omega (arith, s.0, q.0)
  not_in at from i (r ∷ rs) h s (inr q) = not_in at (r.first + r.length) i rs (omega (arith, s.0)) s.2 q

  -- rows that are all there is from `at` on
  record Found (at : ℕ) (rs : List Row) : Type 0 where
    seen : AllSeen at at rs
    in_one : (i : ℕ) → at ≤ i → (f i ≡ no_note → ⊥) → InRow i rs

  -- sample number `at`, or one behind it
  or_behind : {P : Type 0} (at i : ℕ) → at ≤ i → (i ≡ at → P) → (suc at ≤ i → P) → P
  or_behind at i h p q = by (leb (suc at) i) (λ t. q (leb-true (suc at) i t)) (λ t. p (omega (arith, leb-false (suc at) i t)))

  -- ---- a sample without a note
  lower : (at from low : ℕ) (rs : List Row) → low ≤ from → AllSeen at from rs → AllSeen at low rs
  unfolding AllSeen
  lower at from low [] h s = tt
  lower at from low (r ∷ rs) h s = (omega (arith, s.0), s.1, s.2)

  all_none : (at from : ℕ) (rs : List Row) → f at ≡ no_note → AllSeen (suc at) from rs → AllSeen at from rs
  unfolding AllSeen
  all_none at from [] e s = tt
  all_none at from (r ∷ rs) e s = (s.0, seen_more at r s.1 (λ n p. s.1.sung (sym p ∙ e)), all_none at (r.first + r.length) rs e s.2)

  found_none : (at : ℕ) (rs : List Row) → f at ≡ no_note → Found (suc at) rs → Found at rs
  found_none at rs e d =
      record {
        seen = lower at (suc at) at rs (omega arith) (all_none at (suc at) rs e d.seen);
        in_one = λ i h n. or_behind at i h (λ q. absurd (n (ap f q ∙ e))) (λ l. d.in_one i l n);
      }

  -- ---- a sample with a note
  module _ (at m : ℕ) (e : f at ≡ m) (some : m ≡ no_note → ⊥) where
    -- a row of its own
    alone : (f (at + 1) ≡ m → ⊥) → Seen at (row m at 1)
    alone n =
        record {
          some = omega arith;
          sung = some;
          same = λ i h. let z : at + i ≡ at = omega arith in ap f z ∙ e;
          ahead = λ i h q p. omega arith;
          behind = n;
        }

    -- one more at the front of a row
    joined : (r : Row) → r.first ≡ suc at → r.note ≡ m → Seen (suc at) r → Seen at (row m at (suc r.length))
    joined r first note s =
        record {
          some = omega arith;
          sung = some;
          same = front;
          ahead = λ i h q p. omega arith;
          behind = λ p. let z : r.first + r.length ≡ at + suc r.length = omega arith in s.behind (ap f z ∙ p ∙ sym note);
        }
      where
        front : (i : ℕ) → i < suc r.length → f (at + i) ≡ m
        front zero h = let z : at + 0 ≡ at = omega arith in ap f z ∙ e
        front (suc i) h = let z : at + suc i ≡ r.first + i = omega arith in ap f z ∙ s.same i (omega arith) ∙ note

    -- the next sample has another note, where its row is not joined
    next_is_other : (r : Row) (rs : List Row) → Found (suc at) (r ∷ rs) → (r.first ≡ suc at → r.note ≡ m → ⊥) → f (at + 1) ≡ m → ⊥
    unfolding AllSeen InRow
    next_is_other r rs d apart p =
        let z : suc at ≡ at + 1 = omega arith in
        ⊎_elim
        (λ q. let first : r.first ≡ suc at = omega (arith, q.0, d.seen.0) in
        let y : r.first + 0 ≡ at + 1 = omega arith in
        apart first (sym (d.seen.1.same 0 d.seen.1.some) ∙ ap f y ∙ p))
        (λ q. not_in (suc at) (r.first + r.length) (suc at) rs (omega (arith, d.seen.0, d.seen.1.some)) d.seen.2 q)
        (d.in_one (suc at) (omega arith) (λ q. some (sym p ∙ ap f (sym z) ∙ q)))

    found_before : (rs : List Row) → Found (suc at) rs → Found at (before at m rs)
    unfolding before AllSeen InRow
    found_before [] d =
        let z : suc at ≡ at + 1 = omega arith in
        record {
          seen = (omega arith, alone (λ p. d.in_one (suc at) (omega arith) (λ q. some (sym p ∙ ap f (sym z) ∙ q))), tt);
          in_one = λ i h n. or_behind at i h (λ q. inl (omega arith, omega arith)) (λ l. absurd (d.in_one i l n));
        }
    found_before (r ∷ rs) d =
        by (eqb r.first (suc at) && eqb r.note m)
        (λ t.
        let first : r.first ≡ suc at = eqb-true _ _ (and_left (eqb r.first (suc at)) (eqb r.note m) t) in
        let note : r.note ≡ m = eqb-true _ _ (and_right (eqb r.first (suc at)) (eqb r.note m) t) in
        let z : r.first + r.length ≡ at + suc r.length = omega arith in
        rw t (record {
          seen = (omega arith, joined r first note d.seen.1, rw z at (all_more at (r.first + r.length) rs (omega (arith, d.seen.1.some)) d.seen.2));
          in_one = λ i h n. or_behind at i h (λ q. inl (omega arith, omega arith)) (λ l. ⊎_elim (λ q. inl (omega arith, omega (arith, q.1))) (λ q. inr q) (d.in_one i l n));
        }))
        (λ t.
        let apart : r.first ≡ suc at → r.note ≡ m → ⊥ = λ a b. yes_and_no (rw (eq-eqb r.first (suc at) a, eq-eqb r.note m b)) t in
        rw t (record {
          seen = (
            omega arith,
            alone (λ p. next_is_other r rs d apart p),
            (omega (arith, d.seen.0), seen_more at r d.seen.1 (λ q p. apart (sym q) (sym p ∙ e)), all_more at (r.first + r.length) rs (omega (arith, d.seen.0, d.seen.1.some)) d.seen.2),
          );
          in_one = λ i h n. or_behind at i h (λ q. inl (omega arith, omega arith)) (λ l. inr (d.in_one i l n));
        }))

  -- ---- all samples
  found : (at : ℕ) (notes : List ℕ) → ((i : ℕ) → f (at + i) ≡ note_at notes i) → Found at (runs_from at notes)
  unfolding runs_from AllSeen InRow
  found at [] e = record { seen = tt; in_one = λ i h n. let z : i ≡ at + (i - at) = omega arith in n (ap f z ∙ e (i - at)) }
  found at (m ∷ notes) e =
      let zero-on : at ≡ at + 0 = omega arith in
      let here : f at ≡ m = ap f zero-on ∙ e 0 in
      let later : Found (suc at) (runs_from (suc at) notes) = found (suc at) notes (λ i. let z : suc at + i ≡ at + suc i = omega arith in ap f z ∙ e (suc i)) in
      by (eqb m no_note)
      (λ t. rw t (found_none at (runs_from (suc at) notes) (here ∙ eqb-true m no_note t) later))
      (λ t. rw t (found_before at m here (eqb-false m no_note t) (runs_from (suc at) notes) later))

-- ---- of a take
seen-is : (notes : List ℕ) (from : ℕ) (rs : List Row) → AllSeen (note_at notes) 0 from rs → LongestRuns from notes rs
unfolding AllSeen LongestRuns
seen-is notes from [] s = tt
seen-is notes from (r ∷ rs) s =
    let q = s.1 in
    (s.0, record { some = q.some; sung = q.sung; same = q.same; ahead = λ i. q.ahead i (omega arith); behind = q.behind }, seen-is notes (r.first + r.length) rs s.2)

pub rows_are_runs : RowsAreRuns
rows_are_runs notes =
    let d = found (note_at notes) 0 notes (λ i. let z : 0 + i ≡ i = omega arith in ap (note_at notes) z) in
    (seen-is notes 0 _ d.seen, λ i. d.in_one i (omega arith))
