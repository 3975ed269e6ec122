-- Smoothing that keeps what rounding cut off: the rate never passes its goal, never moves away from it, and reaches it, whatever the decay does on the way.
-- What moves is 256 x rate + kept: with any decay up to 255 at least one of 256 parts is the raw rate, so that of the way left each step takes a 256th, rounded down, or more.
use Rattle.std.specs.Prelude.{◌≡◌, refl, List, [], ◌∷◌, ℕ, zero, suc, ◌+◌, ◌-◌, ◌*◌, ◌/◌, ◌≤◌, leb, length}
use Rattle.std.proofs.Common.{sym, ap, ◌∙◌, subst, le_refl, le_trans, add-mul, add-sub_of_le, suc-mul, suc-add, zero-add, mul-le-mul_left, leb-true, leb-false}
use native.Mathlib.Omega.{arith}
use Rattle.whole.specs.Tests.{by}
use Rattle.rules.specs.declared.Smoothed.{Smoothed}
use Rattle.rules.specs.Rules.{smooth_total, smooth_rate, smooth_kept, least_rate, greatest_rate}
use Rattle.rules.specs.Tuning.{smoothed, after_steps, DecaysIn, longest_way, NothingLost, NeverPasses, Stays, Reaches, LongestWay, KeepingNothingHalts, KeepingArrives}
use Rattle.rules.specs.Smoothing.{Near, way_left}

-- ---- One smoothing

module _ (decay rate kept raw : ℕ) where
  pub kept_range : smooth_kept decay rate kept raw ≤ 255
  unfolding smooth_kept
  kept_range = omega arith

-- nothing is lost
pub total-is : NothingLost
unfolding smooth_rate smooth_kept
total-is decay rate kept raw = omega arith

-- all parts of one number, and a number of parts of one and the rest of another
all-parts : {decay all : ℕ} → decay ≤ all → (x : ℕ) → decay * x + (all - decay) * x ≡ all * x
all-parts d x = rw (← add-mul, add-sub_of_le d)

parts_range : {decay all lo hi rate raw : ℕ} → decay ≤ all → lo ≤ rate → rate ≤ hi → lo ≤ raw → raw ≤ hi →
    (all * lo ≤ decay * rate + (all - decay) * raw) × (decay * rate + (all - decay) * raw ≤ all * hi)
parts_range {decay} {all} {lo} {hi} d a b e f =
    omega (
      arith,
      all-parts d lo,
      all-parts d hi,
      mul-le-mul_left decay a,
      mul-le-mul_left decay b,
      mul-le-mul_left (all - decay) e,
      mul-le-mul_left (all - decay) f,
    )

module _ {decay rate kept raw : ℕ} (d : decay ≤ 256) (k : kept ≤ 255) where
  -- within any bounds that hold of rate and raw rate
  pub rate_range : {lo hi : ℕ} → lo ≤ rate → rate ≤ hi → lo ≤ raw → raw ≤ hi →
      (lo ≤ smooth_rate decay rate kept raw) × (smooth_rate decay rate kept raw ≤ hi)
  unfolding smooth_rate smooth_total
  rate_range a b e f = omega (arith, parts_range d a b e f)

  -- from below: no lower, and not past the goal
  pub rate-rises : rate ≤ raw → (rate ≤ smooth_rate decay rate kept raw) × (smooth_rate decay rate kept raw ≤ raw)
  rate-rises h = rate_range (le_refl rate) h h (le_refl raw)

  -- from above: no higher, and not past the goal
  pub rate-falls : raw ≤ rate → (raw ≤ smooth_rate decay rate kept raw) × (smooth_rate decay rate kept raw ≤ rate)
  rate-falls h = rate_range h (le_refl rate) (le_refl raw) h

  -- at the goal it stays, with what is kept
  pub goal-stays : rate ≡ raw → (smooth_rate decay rate kept raw ≡ raw) × (smooth_kept decay rate kept raw ≡ kept)
  unfolding smooth_rate smooth_kept smooth_total
  goal-stays e = rw e (omega (arith, all-parts d raw))

-- without decay the rate is the raw rate, and what was kept stays
pub without_decay : (rate kept raw : ℕ) → kept ≤ 255 → (smooth_rate 0 rate kept raw ≡ raw) × (smooth_kept 0 rate kept raw ≡ kept)
unfolding smooth_rate smooth_kept smooth_total
without_decay rate kept raw k = omega arith

-- with 255 left the rate is at its goal
near-reached : {raw : ℕ} {s : Smoothed} → s.kept ≤ 255 → Near raw 255 s → s.rate ≡ raw
near-reached k h = omega (arith, h.above, h.below)

-- one part at least is the raw rate
one_part_raw : (decay rate kept raw : ℕ) → decay ≤ 255 → smooth_total decay rate kept raw ≡ decay * rate + (255 - decay) * raw + raw + kept
unfolding smooth_total
one_part_raw decay rate kept raw d =
    let e : 256 - decay ≡ suc (255 - decay) = omega arith in rw e (omega (arith, suc-mul (255 - decay) raw))

-- so of a way v to the total t at most v - v / 256 is left
module _ (rate kept raw v t : ℕ) (k : kept ≤ 255) (l : 255 ≤ v) where
  nearer_from_above : raw ≤ rate → 256 * rate + kept ≤ 256 * raw + v → 256 * raw + kept ≤ t → t ≤ 255 * rate + raw + kept →
      (t ≤ 256 * raw + (v - v / 256)) × (256 * raw + 255 ≤ t + (v - v / 256))
  nearer_from_above h a b c = omega arith

  nearer_from_below : rate ≤ raw → 256 * raw + 255 ≤ 256 * rate + kept + v → 255 * rate + raw + kept ≤ t → t ≤ 256 * raw + kept →
      (t ≤ 256 * raw + (v - v / 256)) × (256 * raw + 255 ≤ t + (v - v / 256))
  nearer_from_below h a b c = omega arith

module _ {decay raw : ℕ} (d : decay ≤ 255) where
  total-nearer : (v : ℕ) → 255 ≤ v → (s : Smoothed) → s.kept ≤ 255 → Near raw v s → let t : ℕ = smooth_total decay s.rate s.kept raw in
      (t ≤ 256 * raw + (v - v / 256)) × (256 * raw + 255 ≤ t + (v - v / 256))
  total-nearer v l s k h =
      let t : ℕ = smooth_total decay s.rate s.kept raw in
      let is = one_part_raw decay s.rate s.kept raw d in
      by (leb raw s.rate)
      (λ e. let o = leb-true raw s.rate e in
      let p = parts_range d o (le_refl s.rate) (le_refl raw) o in
      nearer_from_above s.rate s.kept raw v t k l o h.above (omega (arith, is, p.0)) (omega (arith, is, p.1)))
      (λ e. let o : s.rate ≤ raw = omega (arith, leb-false raw s.rate e) in
      let p = parts_range d (le_refl s.rate) o o (le_refl raw) in
      nearer_from_below s.rate s.kept raw v t k l o h.below (omega (arith, is, p.0)) (omega (arith, is, p.1)))

  step-nearer : (v : ℕ) → 255 ≤ v → (s : Smoothed) → s.kept ≤ 255 → Near raw v s → Near raw (v - v / 256) (smoothed decay raw s)
  unfolding smoothed
  step-nearer v l s k h =
      let t = total-is decay s.rate s.kept raw in
      let n = total-nearer v l s k h in
      record { above = omega (arith, t, n.0); below = omega (arith, t, n.1) }

-- ---- Many smoothings, whatever the decays

smoothed-kept : (decay raw : ℕ) (s : Smoothed) → (smoothed decay raw s).kept ≤ 255
unfolding smoothed
smoothed-kept decay raw s = kept_range decay s.rate s.kept raw

steps-kept : (decays : List ℕ) (raw : ℕ) (s : Smoothed) → s.kept ≤ 255 → (after_steps decays raw s).kept ≤ 255
unfolding after_steps
steps-kept [] raw s k = k
steps-kept (decay ∷ more) raw s k = steps-kept more raw (smoothed decay raw s) (smoothed-kept decay raw s)

steps-nearer : (decays : List ℕ) (raw v : ℕ) → 255 ≤ v → (s : Smoothed) → DecaysIn decays → s.kept ≤ 255 → Near raw v s →
    Near raw (way_left (length decays) v) (after_steps decays raw s)
unfolding way_left after_steps DecaysIn
steps-nearer [] raw v l s d k h = h
steps-nearer (decay ∷ more) raw v l s d k h =
    steps-nearer more raw (v - v / 256) (omega arith) (smoothed decay raw s) d.1 (smoothed-kept decay raw s) (step-nearer d.0 v l s k h)

-- from below they only rise, from above they only fall, and never past the goal
steps_rise : (decays : List ℕ) (raw : ℕ) (s : Smoothed) → DecaysIn decays → s.kept ≤ 255 → s.rate ≤ raw →
    (s.rate ≤ (after_steps decays raw s).rate) × ((after_steps decays raw s).rate ≤ raw)
unfolding after_steps DecaysIn smoothed
steps_rise [] raw s d k h = (le_refl s.rate, h)
steps_rise (decay ∷ more) raw s d k h =
    let one = rate-rises {decay = decay} (omega (arith, d.0)) k h in
    let rest = steps_rise more raw (smoothed decay raw s) d.1 (smoothed-kept decay raw s) one.1 in
    (le_trans one.0 rest.0, rest.1)

steps_fall : (decays : List ℕ) (raw : ℕ) (s : Smoothed) → DecaysIn decays → s.kept ≤ 255 → raw ≤ s.rate →
    (raw ≤ (after_steps decays raw s).rate) × ((after_steps decays raw s).rate ≤ s.rate)
unfolding after_steps DecaysIn smoothed
steps_fall [] raw s d k h = (h, le_refl s.rate)
steps_fall (decay ∷ more) raw s d k h =
    let one = rate-falls {decay = decay} (omega (arith, d.0)) k h in
    let rest = steps_fall more raw (smoothed decay raw s) d.1 (smoothed-kept decay raw s) one.0 in
    (rest.0, le_trans rest.1 one.1)

pub never_passes : NeverPasses
never_passes decays raw s d k = record { rises = steps_rise decays raw s d k; falls = steps_fall decays raw s d k }

-- at the goal nothing changes
smoothed-stays : (decay raw : ℕ) (s : Smoothed) → decay ≤ 255 → s.kept ≤ 255 → s.rate ≡ raw → smoothed decay raw s ≡ s
unfolding smoothed
smoothed-stays decay raw s d k e =
    let (r, c) = goal-stays {decay = decay} (omega arith) k e in λ i. record { rate = (r ∙ sym e) i; kept = c i }

pub steps_stay : Stays
unfolding after_steps DecaysIn
steps_stay [] raw s d k e = refl
steps_stay (decay ∷ more) raw s d k e = ap (after_steps more raw) (smoothed-stays decay raw s d.0 k e) ∙ steps_stay more raw s d.1 k e

-- ---- The longest way

way_and_more : (m n v : ℕ) → way_left (m + n) v ≡ way_left n (way_left m v)
unfolding way_left
way_and_more zero n v = rw zero-add
way_and_more (suc m) n v = rw suc-add (way_and_more m n (v - v / 256))

-- 255 stay left: they are within the rounding
way_stays : (n : ℕ) → way_left n 255 ≡ 255
unfolding way_left
way_stays zero = refl
way_stays (suc n) = way_stays n

-- 255 are left of the way between the bounds of every rate, computed
longest_way_lem : way_left longest_way (256 * (greatest_rate - least_rate) + 255) ≡ 255
unfolding way_left
longest_way_lem = refl

-- so after that many steps or more
way_ends : (n : ℕ) → longest_way ≤ n → way_left n (256 * (greatest_rate - least_rate) + 255) ≡ 255
way_ends n h =
    let way = 256 * (greatest_rate - least_rate) + 255 in
    ap (λ (m : ℕ). way_left m way) (sym (add-sub_of_le h))
    ∙ way_and_more longest_way (n - longest_way) way
    ∙ ap (way_left (n - longest_way)) longest_way_lem
    ∙ way_stays (n - longest_way)

-- the rate reaches its goal, and is there from then on
pub reaches : Reaches
reaches decays raw s d k from upto rawFrom rawUpto h =
    let way = 256 * (greatest_rate - least_rate) + 255 in
    let start : Near raw way s = record { above = omega arith; below = omega arith } in
    near-reached (steps-kept decays raw s k)
    (subst (λ (v : ℕ). Near raw v (after_steps decays raw s)) (way_ends (length decays) h) (steps-nearer decays raw way (omega arith) s d k start))

-- ---- Examples, computed

pub longest_way_is_long : LongestWay
unfolding after_steps smoothed smooth_rate smooth_kept smooth_total
longest_way_is_long = refl

pub keeping_nothing_halts : KeepingNothingHalts
unfolding smooth_rate smooth_total
keeping_nothing_halts = refl

pub keeping_arrives : KeepingArrives
unfolding after_steps smoothed smooth_rate smooth_kept smooth_total
keeping_arrives = (refl, refl)
