-- What the functions over voices promise, and laws of rooms, outputs and intervals.
use Rattle.std.specs.Prelude.{◌≡◌, Bool, true, false, ◌&&◌, ◌||◌, List, ◌++◌, ℕ, suc, ◌-◌, ◌≤◌, ◌<◌, min, T, leb, ltb, ℤ, pos, negsuc, neg_ℤ, nat_abs, ◌+ℤ◌, length, take, get_or, replicate}
use Rattle.std.proofs.Common.{sym, ◌∙◌, subst, le-leb, leb-true, leb-false, lt-ltb, le-ltb, ltb-true, ltb-false, drop-cons}
use Rattle.std.proofs.Math.Path.{ap}
use native.Mathlib.Omega.{arith}
use Rattle.std.proofs.lemmas.Bool.{lt-leb}
use Rattle.std.proofs.Math.ListN.{drop, get_or-eq_default}
use Rattle.std.proofs.Math.Seq.{drop-length}
use Rattle.std.specs.Int.Signed.{lt_z, non_neg}
use Rattle.whole.specs.Tests.{by, cond_yes, cond_no}
use Rattle.whole.specs.Bounds.{minus-down}
use Rattle.rules.specs.Rules.{longest_block}
use Rattle.voices.specs.Singing.{Sang}
use Rattle.singers.specs.declared.Voice.{Voice}
use Rattle.singers.specs.declared.Voices.{Voices}
use Rattle.singers.specs.Singers.{room_with, least_room, written_by, kept_interval, all_in_range, intervals_number}

-- ---- room

-- with a voice that is chosen, and with one that is not
module _ (j chosen n room : ℕ) where
  pub room_less : j < chosen → n < room → room_with j chosen n room ≡ n
  unfolding room_with
  room_less h l = cond_yes (min n room) room (lt-ltb j chosen h) ∙ omega arith

  pub room-more : j < chosen → room ≤ n → room_with j chosen n room ≡ room
  unfolding room_with
  room-more h l = cond_yes (min n room) room (lt-ltb j chosen h) ∙ omega arith

  pub room-beyond : chosen ≤ j → room_with j chosen n room ≡ room
  unfolding room_with
  room-beyond h = cond_no (min n room) room (le-ltb j chosen h)

  -- what has room there has it in both
  pub room-both : (k : ℕ) → k ≤ room_with j chosen n room → (k ≤ room) × (j < chosen → k ≤ n)
  room-both k h =
      by (ltb j chosen)
      (λ e. let l = ltb-true j chosen e in by (ltb n room)
      (λ f. let m = ltb-true n room f in let q = room_less l m in (omega arith, λ i. omega arith))
      (λ f. let m = ltb-false n room f in let q = room-more l m in (omega arith, λ i. omega arith)))
      (λ e. let l = ltb-false j chosen e in let q = room-beyond l in (omega arith, λ i. absurd (omega arith)))

-- so it has room in each output that is asked for
pub all_fit : (chosen lead first second third k : ℕ) → k ≤ least_room chosen lead first second third → (k ≤ lead) × (0 < chosen → k ≤ first) × (1 < chosen → k ≤ second) × (2 < chosen → k ≤ third)
all_fit chosen lead first second third k h =
    let two = room-both 2 chosen third (room_with 1 chosen second (room_with 0 chosen first lead)) k h in
    let one = room-both 1 chosen second (room_with 0 chosen first lead) k two.0 in
    let none = room-both 0 chosen first lead k one.0 in
    (none.0, none.1, one.1, two.1)

-- ---- what a voice sang

-- voice j of those chosen sang beside n samples of the store s; one beyond them is as it was
pub data SangBy (j chosen hertz : ℕ) (periods notes : List ℕ) (s : List ℤ) (n : ℕ) (v v' : Voice) : Type 0 where
  sang : j < chosen → v'.interval ≡ v.interval → Sang hertz v.interval v.behind periods notes s (1764 - n) n (replicate longest_block (pos 0)) v'.out v'.behind → SangBy j chosen hertz periods notes s n v v'
  beyond : chosen ≤ j → v' ≡ v → SangBy j chosen hertz periods notes s n v v'

pub record AllSang (hertz : ℕ) (periods notes : List ℕ) (s : List ℤ) (n : ℕ) (vs vs' : Voices) : Type 0 where
  pub count : vs'.count ≡ vs.count
  pub first : SangBy 0 vs.count hertz periods notes s n vs.first vs'.first
  pub second : SangBy 1 vs.count hertz periods notes s n vs.second vs'.second
  pub third : SangBy 2 vs.count hertz periods notes s n vs.third vs'.third

-- ---- what is written
module _ (j chosen n : ℕ) (v : Voice) (ys : List ℤ) where
  pub written-chosen : j < chosen → written_by j chosen n v ys ≡ take n v.out ++ drop n ys
  unfolding written_by
  written-chosen h = cond_yes (take n v.out ++ drop n ys) ys (lt-ltb j chosen h)

  pub written-beyond : chosen ≤ j → written_by j chosen n v ys ≡ ys
  unfolding written_by
  written-beyond h = cond_no (take n v.out ++ drop n ys) ys (le-ltb j chosen h)

-- ---- one interval
module _ (z : ℤ) where
  pub interval-below : lt_z z (neg_ℤ (pos 12)) ≡ true → kept_interval z ≡ 25
  unfolding kept_interval
  interval-below e = cond_yes 25 (nat_abs (pos 12 +ℤ z)) (ap (λ (b : Bool). b || lt_z (pos 12) z) e)

  module _ (e : lt_z z (neg_ℤ (pos 12)) ≡ false) where
    pub interval-above : lt_z (pos 12) z ≡ true → kept_interval z ≡ 25
    unfolding kept_interval
    interval-above f = cond_yes 25 (nat_abs (pos 12 +ℤ z)) (ap (λ (b : Bool). b || lt_z (pos 12) z) e ∙ f)

    pub interval-is : lt_z (pos 12) z ≡ false → kept_interval z ≡ nat_abs (pos 12 +ℤ z)
    unfolding kept_interval
    interval-is f = cond_no 25 (nat_abs (pos 12 +ℤ z)) (ap (λ (b : Bool). b || lt_z (pos 12) z) e ∙ f)

-- in range, it is kept as no negative number, which is at most 24
pub kept_up : (z : ℤ) → lt_z z (neg_ℤ (pos 12)) ≡ false → lt_z (pos 12) z ≡ false → T (non_neg (pos 12 +ℤ z)) × (nat_abs (pos 12 +ℤ z) ≤ 24) × (nat_abs z ≤ 12)
kept_up (pos n) e f = let q = ltb-false 12 n f in (tt, omega arith, omega arith)
kept_up (negsuc n) e f =
    let q = ltb-false 11 n e in
    let down = minus-down 12 (suc n) (omega arith) in
    (subst (λ (y : ℤ). T (non_neg y)) (sym down) tt, subst (λ (y : ℤ). nat_abs y ≤ 24) (sym down) (omega arith), omega arith)

-- past the last it is none: in unison
pub interval-none : (zs : List ℤ) (j : ℕ) → length zs ≤ j → kept_interval (get_or zs j (pos 0)) ≡ 12
unfolding kept_interval
interval-none zs j h = ap kept_interval (get_or-eq_default zs (pos 0) {n = j} h)

-- ---- all of them, from a place on
module _ (zs : List ℤ) (i : ℕ) (h : i < length zs) where
  pub range_out : 24 < kept_interval (get_or zs i (pos 0)) → all_in_range (drop i zs) ≡ false
  unfolding all_in_range
  range_out l = ap all_in_range (drop-cons zs i (pos 0) h) ∙ ap (λ (b : Bool). b && all_in_range (drop (suc i) zs)) (lt-leb _ 24 l)

  pub range_on : kept_interval (get_or zs i (pos 0)) ≤ 24 → all_in_range (drop i zs) ≡ all_in_range (drop (suc i) zs)
  unfolding all_in_range
  range_on l = ap all_in_range (drop-cons zs i (pos 0) h) ∙ ap (λ (b : Bool). b && all_in_range (drop (suc i) zs)) (le-leb _ 24 l)

pub range_end : (zs : List ℤ) → all_in_range (drop (length zs) zs) ≡ true
unfolding all_in_range
range_end zs = ap all_in_range (drop-length zs)

-- ---- the number of the intervals
module _ (zs : List ℤ) where
  pub number_18 : all_in_range zs ≡ false → intervals_number zs ≡ 18
  unfolding intervals_number
  number_18 a = cond_no _ 18 a

  pub number_19 : all_in_range zs ≡ true → 3 < length zs → intervals_number zs ≡ 19
  unfolding intervals_number
  number_19 a l = cond_yes _ 18 a ∙ cond_no 0 19 (lt-leb _ 3 l)

  pub number_0 : all_in_range zs ≡ true → length zs ≤ 3 → intervals_number zs ≡ 0
  unfolding intervals_number
  number_0 a l = cond_yes _ 18 a ∙ cond_yes 0 19 (le-leb _ 3 l)

  -- it is 0 only where all is in range
  pub number-says : intervals_number zs ≡ 0 → (all_in_range zs ≡ true) × (length zs ≤ 3)
  number-says e =
      by (all_in_range zs)
      (λ a. by (leb (length zs) 3)
      (λ l. (a, leb-true (length zs) 3 l))
      (λ l. absurd (let q = number_19 a (leb-false (length zs) 3 l) in omega arith)))
      (λ a. absurd (let q = number_18 a in omega arith))
