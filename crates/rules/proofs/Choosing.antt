-- What the searches choose, as records that say which number is meant, and that nothing else could be chosen:
-- code proves the record, and the law gives the rules' own answer.
use Rattle.std.specs.Prelude.{◌≡◌, refl, Bool, false, leb, ltb}
use Rattle.std.proofs.Common.{le_refl, arith, below_more, ltb-true, ltb-false}
use Rattle.std.proofs.Math.Path.{subst}
use Rattle.std.proofs.Math.Option.{Option, none, some}
use Prim.Native.Nat.{ℕ, zero, suc, ◌+◌, ◌-◌, ◌*◌, ◌≤◌, ◌<◌}
use Rattle.std.proofs.Math.Numerals.{add-one}
use Rattle.whole.specs.Tests.{by, cond_case, yes_and_no}
use Rattle.rules.specs.declared.Settings.{Settings}
use Rattle.rules.specs.Rules.{Sound, D, is_low, least_from, low_above, choice, found_by, found, least_place, best}
use Rattle.rules.specs.Choosing.{Answers, EightTimes, First, Least}

not_less_is_equal : (p q : ℕ) → (p < q → ⊥) → (q < p → ⊥) → p ≡ q
not_less_is_equal p q a b = omega arith

pub least-one : {test : ℕ → Bool} {from upto L M : ℕ} → Least test from upto L → Least test from upto M → L ≡ M
least-one {L = L} {M = M} a b =
    not_less_is_equal L M
    (λ h. yes_and_no a.holds (b.before L a.over h))
    (λ h. yes_and_no b.holds (a.before M b.over h))

none_here : (test : ℕ → Bool) (from : ℕ) {P : ℕ → Type 0} → test from ≡ false
    → ((m : ℕ) → suc from ≤ m → P m → test m ≡ false) → (m : ℕ) → from ≤ m → P m → test m ≡ false
none_here test from t f m h p =
    by (ltb from m)
    (λ l. f m (ltb-true from m l) p)
    (λ l. let e : from ≡ m = omega (arith, ltb-false from m l) in subst (λ (i : ℕ). test i ≡ false) e t)

answer-later : (test : ℕ → Bool) (from n : ℕ) (o : Option ℕ) → test from ≡ false → Answers test (suc from) n o → Answers test from (suc n) o
answer-later test from n none t f = none_here test from t (λ m h l. f m h (omega arith))
answer-later test from n (some L) t r =
    record {
      over = omega (arith, r.over);
      under = omega (arith, r.under);
      holds = r.holds;
      before = none_here test from t r.before;
    }

pub least_answers : (test : ℕ → Bool) (from n : ℕ) → Answers test from n (least_from test from n)
unfolding least_from
least_answers test from zero = λ m h l. absurd (omega arith)
least_answers test from (suc n) =
    cond_case (test from) (some from) (least_from test (suc from) n) (Answers test from (suc n))
    (λ t. record { over = le_refl from; under = omega arith; holds = t; before = λ m h l. absurd (omega arith) })
    (λ t. answer-later test from n (least_from test (suc from) n) t (least_answers test (suc from) n))

module _ (test : ℕ → Bool) (from n : ℕ) where
  pub least-some : (L : ℕ) → least_from test from n ≡ some L → Least test from (from + n) L
  least-some L e = subst (Answers test from n) e (least_answers test from n)

  pub least-none : least_from test from n ≡ none → (m : ℕ) → from ≤ m → m < from + n → test m ≡ false
  least-none e = subst (Answers test from n) e (least_answers test from n)

  pub is_none : ((m : ℕ) → from ≤ m → m < from + n → test m ≡ false) → least_from test from n ≡ none
  is_none f = go (least_from test from n) (least_answers test from n)
    where
      go : (o : Option ℕ) → Answers test from n o → o ≡ none
      go none g = refl
      go (some M) r = absurd (yes_and_no r.holds (f M r.over r.under))

pub first_one : {d : ℕ → ℕ} {n i j : ℕ} → First d n i → First d n j → i ≡ j
first_one {i = i} {j = j} a b =
    not_less_is_equal i j
    (λ h. omega (arith, b.first i h, a.least j b.inside))
    (λ h. omega (arith, a.first j h, b.least i a.inside))

-- the search for it: one number; and one number more, which is less than the least so far, or is not
pub first-start : (d : ℕ → ℕ) → First d 1 0
first-start d =
    record {
      inside = omega arith;
      least = λ j h. let e : 0 ≡ j = omega arith in subst (λ (i : ℕ). d 0 ≤ d i) e (le_refl (d 0));
      first = λ j h. absurd (omega arith);
    }

module _ {d : ℕ → ℕ} {n at : ℕ} (f : First d n at) where
  pub first-take : d n < d at → First d (n + 1) n
  first-take h =
      record {
        inside = omega arith;
        least = below_more _ _ (λ j l. omega (arith, f.least j l)) (le_refl (d n));
        first = λ j l. omega (arith, f.least j l);
      }

  pub first_keep : d at ≤ d n → First d (n + 1) at
  first_keep h = record { inside = omega (arith, f.inside); least = below_more _ _ f.least h; first = f.first }

-- of equals the first
pub first_of_equals : least_place (λ (j : ℕ). 0) 7 ≡ 0
unfolding least_place
first_of_equals = refl

module _ (d : ℕ → ℕ) where
  pub place-first : (n : ℕ) → First d (suc n) (least_place d n)
  unfolding least_place
  place-first zero = first-start d
  place-first (suc n) =
      cond_case (ltb (d (suc n)) (d (least_place d n))) (suc n) (least_place d n) (First d (suc (suc n)))
      (λ t. rw add-one at (first-take (place-first n) (ltb-true _ _ t)))
      (λ t. rw add-one at (first_keep (place-first n) (ltb-false _ _ t)))

  pub is-place : {n at : ℕ} → First d (suc n) at → at ≡ least_place d n
  is-place {n} f = first_one f (place-first n)

-- it depends on the numbers among which it is the first, and on no others
pub first_of_same : {d g : ℕ → ℕ} {n at : ℕ} → ((j : ℕ) → j < n → d j ≡ g j) → First d n at → First g n at
first_of_same {d} {g} {n} {at} e f =
    let here = e at f.inside in
    record {
      inside = f.inside;
      least = λ j h. omega (arith, here, e j h, f.least j h);
      first = λ j h. omega (arith, here, e j (omega (arith, f.inside)), f.first j h);
    }

pub place_of_same : {d g : ℕ → ℕ} {n : ℕ} → ((j : ℕ) → j < suc n → d j ≡ g j) → least_place d n ≡ least_place g n
place_of_same {d} {g} {n} e = is-place g (first_of_same e (place-first d n))

pub best-first : (x : Sound) (low : ℕ) → First (λ (j : ℕ). D x (low + j)) 8 (best x low)
unfolding best
best-first x low = place-first (λ (j : ℕ). D x (low + j)) 7

pub low-above : (s : Settings) (y : Sound) (above L : ℕ) → low_above s y above ≡ some L → Least (is_low s y) (suc above) (suc above + (109 - above)) L
unfolding low_above
low-above s y above L e = least-some (is_low s y) (suc above) (109 - above) L e

module _ (s : Settings) (x y : Sound) where
  eight_times : (above L : ℕ) → 2 ≤ above → low_above s y above ≡ some L → EightTimes (8 * L)
  eight_times above L h e =
      let r = low-above s y above L e in
      record { eighth = L; times = refl; over = omega (arith, r.over); under = omega (arith, r.over, r.under) }

  abbrev AllEightTimes : Option ℕ → Type 0
  AllEightTimes none = Unit
  AllEightTimes (some lag) = EightTimes lag

  choice_eight_times : (L1 : ℕ) (second : Option ℕ) → low_above s y 2 ≡ some L1 → low_above s y L1 ≡ second → AllEightTimes (choice x L1 second)
  unfolding choice
  choice_eight_times L1 none a b = tt
  choice_eight_times L1 (some L2) a b =
      cond_case (ltb (D x (8 * L2)) (D x (8 * L1))) (8 * L2) (8 * L1) EightTimes
      (λ t. eight_times L1 L2 (omega (arith, (low-above s y 2 L1 a).over)) b)
      (λ t. eight_times 2 L1 (le_refl 2) a)

  found_by_eight_times : (first : Option ℕ) → low_above s y 2 ≡ first → AllEightTimes (found_by s x y first)
  unfolding found_by
  found_by_eight_times none a = tt
  found_by_eight_times (some L1) a =
      cond_case (leb 55 L1) (some (8 * L1)) (choice x L1 (low_above s y L1)) AllEightTimes
      (λ t. eight_times 2 L1 (le_refl 2) a)
      (λ t. choice_eight_times L1 (low_above s y L1) a refl)

  pub found_eight_times : (lag : ℕ) → found s x y ≡ some lag → EightTimes lag
  unfolding found
  found_eight_times lag e = subst AllEightTimes e (found_by_eight_times (low_above s y 2) refl)

  pub found_range : (lag : ℕ) → found s x y ≡ some lag → (24 ≤ lag) × (lag ≤ 872)
  found_range lag e = let r = found_eight_times lag e in omega (arith, r.times, r.over, r.under)
