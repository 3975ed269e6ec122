-- The search of the wanted note. The table falls, so the notes with a longer period than the sung one are its first. Of those of the scale
-- among them the last is the nearest, of the others the first; the wanted note is one of these two.
use Rattle.std.specs.Prelude.{◌≡◌, true, false, List, ℕ, ◌+◌, ◌-◌, ◌≤◌, ◌<◌, ltb, length, get_or}
use Rattle.std.proofs.Math.Path.{refl}
use Rattle.std.proofs.Math.ListN.{get_or-eq_default}
use Rattle.std.specs.List.Sorted.{IsPartitionedBy, IsPartitionPoint}
use Rattle.std.proofs.Common.{sym, ap, subst, ◌∙◌, le_of_lt, arith, lt-ltb, ltb-true, ltb-false}
use Rattle.std.proofs.lemmas.List.{get_or_default}
use Rattle.std.proofs.Math.Option.{some}
use Rattle.whole.specs.Tests.{by, yes_and_no}
use Rattle.rules.specs.Rules.{table, first_note, notes, note_period, of_scale, away, wanted, wanted_period}
use Rattle.rules.specs.Facts.{SampleRate}
use Rattle.rules.proofs.Table.{table-length}
use Rattle.rules.specs.Notes.{end}
use Rattle.rules.proofs.Notes.{wanted-some, is-wanted, table-falls, period_of_table, period-above}
use Rattle.notes.specs.declared.Table.{Table}

-- the table of a sample rate
pub record OfRate (t : Table) : Type 0 where
  pub rate : SampleRate t.hertz
  pub first : t.first ≡ first_note t.hertz
  pub periods : t.periods.now ≡ table t.hertz

pub of_rate : {hertz : ℕ} {t : Table} → SampleRate hertz → (t.hertz ≡ hertz) × (t.first ≡ first_note hertz) × (t.periods.now ≡ table hertz) → OfRate t
of_rate rate (e, f, g) = record { rate = subst SampleRate (sym e) rate; first = f ∙ ap first_note (sym e); periods = g ∙ ap table (sym e) }

-- what stands at the place of a note
pub at_place : (hertz : ℕ) {t : List ℕ} → t ≡ table hertz → (k : ℕ) → get_or t k 0 ≡ note_period hertz (first_note hertz + k)
unfolding note_period
at_place hertz e k = let same : k ≡ first_note hertz + k - first_note hertz = omega arith in λ i. get_or (e i) (same i) 0

-- and how many do
pub as_long : {hertz : ℕ} → SampleRate hertz → {t : List ℕ} → t ≡ table hertz → length t ≡ notes hertz
as_long rate e = ap length e ∙ table-length rate

-- the first k notes are those with a longer period than p
pub record Longer (hertz p k : ℕ) : Type 0 where
  pub upto : k ≤ notes hertz
  pub longer : (m : ℕ) → first_note hertz ≤ m → m < first_note hertz + k → p < note_period hertz m
  pub shorter : (m : ℕ) → first_note hertz + k ≤ m → m < end hertz → note_period hertz m ≤ p

-- no note from number a to below b is of the scale
pub record NoneOfScale (scale a b : ℕ) : Type 0 where
  pub none : (m : ℕ) → a ≤ m → m < b → of_scale scale m ≡ false

-- the notes of the scale among the first k: the last of them stands at place j - 1, and j is 0 where there is none
pub record LastOfScale (hertz scale k j : ℕ) : Type 0 where
  pub upto : j ≤ k
  pub last : 0 < j → of_scale scale (first_note hertz + (j - 1)) ≡ true
  pub none_after : NoneOfScale scale (first_note hertz + j) (first_note hertz + k)

-- the notes of the scale after the first k: the first of them stands at place j, and j is past the table where there is none
pub record FirstOfScale (hertz scale k j : ℕ) : Type 0 where
  pub from : k ≤ j
  pub upto : j ≤ notes hertz
  pub first : j < notes hertz → of_scale scale (first_note hertz + j) ≡ true
  pub none_before : NoneOfScale scale (first_note hertz + k) (first_note hertz + j)

-- ---- the table falls, so it is parted where the notes with a longer period end
module _ {hertz : ℕ} {t : List ℕ} (rate : SampleRate hertz) (e : t ≡ table hertz) where
  -- what stands at a place of the table, as the note's period
  at_index : (k d : ℕ) → k < notes hertz → get_or t k d ≡ note_period hertz (first_note hertz + k)
  at_index k d h = get_or_default t k d 0 (omega (arith, as_long rate e)) ∙ at_place hertz e k

module _ {hertz : ℕ} (p : ℕ) {t : List ℕ} (rate : SampleRate hertz) (e : t ≡ table hertz) where
  pub parted : IsPartitionedBy (λ q. ltb p q) t
  parted i j d order upto long =
      let n = as_long rate e in
      let far = table-falls rate (first_note hertz + i) (first_note hertz + j) (omega arith) (omega arith) (omega arith) in
      lt-ltb p (get_or t i d) (omega (arith, at_index rate e i d (omega arith), at_index rate e j d (omega arith), ltb-true p (get_or t j d) long, far))

  pub longer_at : {k : ℕ} → k ≤ length t → IsPartitionPoint (λ q. ltb p q ≡ true) (λ q. ltb p q ≡ false) t k → Longer hertz p k
  longer_at {k} within point =
      let n = as_long rate e in
      record {
        upto = omega arith;
        longer = λ m lo hi.
            let at = m - first_note hertz in
            let same : first_note hertz + at ≡ m = omega arith in
            rw same at (rw (at_index rate e at 0 (omega arith)) at (ltb-true p (get_or t at 0) (point.0 at 0 (omega arith) (omega arith))));
        shorter = λ m lo hi.
            let at = m - first_note hertz in
            let same : first_note hertz + at ≡ m = omega arith in
            rw same at (rw (at_index rate e at 0 (omega arith)) at (ltb-false p (get_or t at 0) (point.1 at 0 (omega arith) (omega arith))));
      }

-- ---- none so far, and one note more that is not of the scale: above, and below
pub none_yet : {scale a : ℕ} → NoneOfScale scale a a
none_yet = record { none = λ m lo hi. absurd (omega arith) }

pub none_above : {scale a b : ℕ} → NoneOfScale scale a b → of_scale scale b ≡ false → NoneOfScale scale a (b + 1)
none_above {b = b} r off =
    record {
      none = λ m lo hi.
          by (ltb m b)
          (λ t. r.none m lo (ltb-true m b t))
          (λ t. let e : b ≡ m = omega (arith, ltb-false m b t) in rw (← e) off);
    }

pub none_below : {scale a b : ℕ} → NoneOfScale scale (a + 1) b → of_scale scale a ≡ false → NoneOfScale scale a b
none_below {a = a} r off =
    record {
      none = λ m lo hi.
          by (ltb a m)
          (λ t. r.none m (omega (arith, ltb-true a m t)) hi)
          (λ t. let e : a ≡ m = omega (arith, ltb-false a m t) in rw (← e) off);
    }

-- ---- distances from p
away-shorter : (p s : ℕ) → s ≤ p → away p s ≡ p - s
away-shorter p s h = omega arith

away-longer : (p u : ℕ) → p ≤ u → away p u ≡ u - p
away-longer p u h = omega arith

-- of a shorter period s and a longer one u
module _ {p s u : ℕ} (below : s ≤ p) (above : p ≤ u) where
  shorter_is_nearer : p - s ≤ u - p → away p s ≤ away p u
  shorter_is_nearer h = rw (away-shorter p s below, away-longer p u above) h

  longer_is_nearer : u - p < p - s → away p u < away p s
  longer_is_nearer h = rw (away-longer p u above, away-shorter p s below) h

-- of two shorter ones
farther-below : {p s q : ℕ} → s ≤ p → q ≤ s → away p s ≤ away p q
farther-below {p} {s} {q} h l = rw (away-shorter p s h, away-shorter p q (omega arith)) (omega arith)

-- a period that falls with the note number, at the same difference: not a higher note
not_higher : {p s m n : ℕ} (q : ℕ) → s ≤ p → n ≤ m → q + (m - n) ≤ s → p - q ≡ p - s → m ≤ n
not_higher q below h fall e = omega arith

not_equal : {a b : ℕ} → a < b → b ≡ a → ⊥
not_equal h e = omega arith

-- ---- the wanted note
module _ {hertz scale p k low high : ℕ} (rate : SampleRate hertz) (l : Longer hertz p k) (a : LastOfScale hertz scale k low) (b : FirstOfScale hertz scale k high) where
  -- the last note of the scale with a longer period, and the first without
  abbrev lower : ℕ
  lower = first_note hertz + (low - 1)

  abbrev higher : ℕ
  higher = first_note hertz + high

  -- a note of the scale with a longer period is not nearer than the last of them
  abbrev Lower : ℕ → Type 0
  Lower m = (0 < low) × (m ≤ lower) × (p < note_period hertz lower) × (note_period hertz lower ≤ note_period hertz m)

  -- one without is not nearer than the first of them, and if it is higher it is farther
  abbrev Upper : ℕ → Type 0
  Upper m = (high < notes hertz) × (higher ≤ m) × (note_period hertz higher ≤ p) × (note_period hertz m + (m - higher) ≤ note_period hertz higher)

  below : (m : ℕ) → first_note hertz ≤ m → m < first_note hertz + k → of_scale scale m ≡ true → Lower m
  below m lo hi on =
      by (ltb m (first_note hertz + low))
      (λ t. let h = ltb-true m (first_note hertz + low) t in
      let in-table : lower < end hertz = omega (arith, a.upto, l.upto) in
      (omega arith, omega arith, l.longer lower (omega arith) (omega (arith, a.upto)), omega (arith, table-falls rate m lower lo (omega arith) in-table)))
      (λ t. absurd (yes_and_no on (a.none_after.none m (ltb-false m (first_note hertz + low) t) hi)))

  above : (m : ℕ) → first_note hertz + k ≤ m → m < end hertz → of_scale scale m ≡ true → Upper m
  above m lo hi on =
      by (ltb m higher)
      (λ t. absurd (yes_and_no on (b.none_before.none m lo (ltb-true m higher t))))
      (λ t. let h = ltb-false m higher t in
      (omega arith, h, l.shorter higher (omega (arith, b.from)) (omega arith), table-falls rate higher m (omega arith) h hi))

  -- by whether a note of the scale has a longer period
  each_of_scale : {P : Type 0} (m : ℕ) → first_note hertz ≤ m → m < end hertz → of_scale scale m ≡ true → (Lower m → P) → (Upper m → P) → P
  each_of_scale m lo hi on f g =
      by (ltb m (first_note hertz + k))
      (λ t. f (below m lo (ltb-true m (first_note hertz + k) t) on))
      (λ t. g (above m (ltb-false m (first_note hertz + k) t) hi on))

  module _ (from : 1 ≤ scale) (to : scale ≤ 4095) where
    -- the first note without a longer period is wanted, unless the last with one is nearer
    pub higher-wanted : high < notes hertz → (0 < low → p - note_period hertz higher ≤ note_period hertz lower - p) → wanted hertz scale p ≡ some higher
    higher-wanted h near =
        is-wanted rate from to
        (record {
          in_table = omega arith;
          in_scale = b.first h;
          least = λ m lo hi on. each_of_scale m lo hi on (λ w. shorter_is_nearer short (omega arith) (omega (arith, near w.0))) (λ w. farther-below short (omega arith));
          higher = λ m lo hi on e. each_of_scale m lo hi on (λ w. omega (arith, a.upto, b.from)) (λ w. not_higher (note_period hertz m) short w.1 w.3 (sym (away-shorter p (note_period hertz m) (shorter_too m w)) ∙ e ∙ away-shorter p (note_period hertz higher) short));
        })
      where
        short : note_period hertz higher ≤ p
        short = l.shorter higher (omega (arith, b.from)) (omega arith)

        shorter_too : (m : ℕ) → Upper m → note_period hertz m ≤ p
        shorter_too m w = omega arith

    -- the last note with a longer period is wanted where it is nearer than the first without
    pub lower-wanted : 0 < low → (high < notes hertz → note_period hertz lower - p < p - note_period hertz higher) → wanted hertz scale p ≡ some lower
    lower-wanted h near =
        is-wanted rate from to
        (record {
          in_table = omega (arith, a.upto, l.upto);
          in_scale = a.last h;
          least = λ m lo hi on. each_of_scale m lo hi on (λ w. omega arith) (λ w. le_of_lt (farther m w));
          higher = λ m lo hi on e. each_of_scale m lo hi on (λ w. omega arith) (λ w. absurd (not_equal (farther m w) e));
        })
      where
        long : p < note_period hertz lower
        long = l.longer lower (omega arith) (omega (arith, a.upto))

        farther : (m : ℕ) → Upper m
            → away p (note_period hertz lower) < away p (note_period hertz m)
        farther m w = longer_is_nearer (omega arith) (omega (arith, long)) (omega (arith, near w.0, long))

    -- some note is of the scale
    pub some-higher : low ≡ 0 → high < notes hertz
    some-higher e =
        let (n, f) = wanted-some hertz scale p rate from to in
        let w = f.1 in
        each_of_scale n w.in_table.0 w.in_table.1 w.in_scale (λ v. absurd (omega arith)) (λ v. v.0)

-- the period at a place of the table, and that the note there is wanted
abbrev pub period_at : ℕ → ℕ → ℕ
period_at hertz place = note_period hertz (first_note hertz + place)

abbrev pub WantedAt : (hertz scale p place : ℕ) → Type 0
WantedAt hertz scale p place = (place < notes hertz) × (wanted hertz scale p ≡ some (first_note hertz + place))

same : (n : ℕ) → n + 1 - 1 ≡ n
same n = omega arith

-- by what the searches on the two sides found
module _ {hertz scale p k : ℕ} (rate : SampleRate hertz) (l : Longer hertz p k) (from : 1 ≤ scale) (to : scale ≤ 4095) where
  module _ (low : ℕ) (a : LastOfScale hertz scale k (low + 1)) where
    pub last_is_longer : (low < notes hertz) × (p < period_at hertz low)
    last_is_longer = (omega (arith, a.upto, l.upto), l.longer _ (omega arith) (omega (arith, a.upto)))

    pub last_wanted : {high : ℕ} → FirstOfScale hertz scale k high → (high < notes hertz → period_at hertz low - p < p - period_at hertz high) → WantedAt hertz scale p low
    last_wanted b near = (omega (arith, a.upto, l.upto), rw (same low) at (lower-wanted rate l a b from to (omega arith) (rw (same low) near)))

    pub first_wanted : {high : ℕ} → FirstOfScale hertz scale k high → high < notes hertz → p - period_at hertz high ≤ period_at hertz low - p → WantedAt hertz scale p high
    first_wanted b h near = (h, higher-wanted rate l a b from to h (λ m. rw (same low) near))

  pub first_is_shorter : {high : ℕ} → high < notes hertz → FirstOfScale hertz scale k high → period_at hertz high ≤ p
  first_is_shorter h b = l.shorter _ (omega (arith, b.from)) (omega arith)

  pub only_first : {high : ℕ} → LastOfScale hertz scale k 0 → FirstOfScale hertz scale k high → WantedAt hertz scale p high
  only_first a b = let h = some-higher rate l a b from to refl in (h, higher-wanted rate l a b from to h (λ m. absurd (omega arith)))

  pub some_side : LastOfScale hertz scale k 0 → FirstOfScale hertz scale k (notes hertz) → ⊥
  some_side a b = let h = some-higher rate l a b from to refl in omega arith

-- the wanted period is read from the table, past whose end there is 0
pub looked_up : {hertz n : ℕ} {t : List ℕ} → SampleRate hertz → t ≡ table hertz → first_note hertz ≤ n → wanted_period hertz n ≡ get_or t (n - first_note hertz) 0
unfolding note_period
looked_up {hertz} {n} {t} rate e h =
    let long = as_long rate e in
    by (ltb n (end hertz))
    (λ f. period_of_table hertz (record { from = h; upto = ltb-true n (end hertz) f }) ∙ ap (λ (xs : List ℕ). get_or xs (n - first_note hertz) 0) (sym e))
    (λ f. period-above hertz (ltb-false n (end hertz) f) ∙ sym (get_or-eq_default t 0 (omega (arith, ltb-false n (end hertz) f))))
