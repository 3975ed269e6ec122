-- An eighth-rate sample more: it is stored, and the sums at eighth rate are those with it.
use Rattle.std.specs.Prelude.{◌≡◌, List, ℕ, ◌+◌, ◌/◌, ◌%◌, ◌≤◌, ◌<◌, ℤ, pos, length, take, get_or, set}
use Rattle.std.proofs.Common.{sym, ap, ◌∙◌, subst, arith, ne_eqb, length-set, length-take-le, SFits}
use Rattle.std.specs.Int.{w16}
use Rattle.rules.specs.Rules.{Sound, heard, older, eighth_sample, eighth_due, eighths_after, kept_eighths, eighth_lags}
use Rattle.ages.specs.Ages.{ago, past, past-take, Samples, samples-take, ago-older, ago-put, ago-before, samples-put}
use Rattle.sums.specs.Kept.{Enough}
use Rattle.rules.specs.Facts.{Right}
use Rattle.steps.specs.Silent.{still-right}

-- 288 places hold the eighth-rate samples of a take, as far as `places`, and e and h are the sums over them
pub record Eighths (y : List ℤ) (places : ℕ) (e : List ℕ) (h : List ℤ) : Type 0 where
  pub long : length y ≡ 288
  pub samples : Samples y
  pub sums : Right (ago y places) 2 eighth_lags e h

-- after sample number n of the sound x: what is stored, and what is heard at eighth rate
pub record Heard (n : ℕ) (x : Sound) (y : List ℤ) (places : ℕ) (y' : List ℤ) (places' : ℕ) (e : List ℕ) (h : List ℤ) : Type 0 where
  pub eighths : Eighths y' places' e h
  pub sound : ago y' places' ≡ eighths_after n x (ago y places)
  pub more : places ≤ places'
  pub phase : (f c : ℕ) → n ≡ c + 1 → places + f ≡ kept_eighths + c / 8 → places' + f ≡ kept_eighths + n / 8

pub heard-none : {n : ℕ} {x : Sound} {y : List ℤ} {places : ℕ} {e : List ℕ} {h : List ℤ} → (n % 8 ≡ 0 → ⊥) → Eighths y places e h → Heard n x y places y places e h
unfolding eighths_after eighth_due
heard-none {n} d r = record { eighths = r; sound = rw (ne_eqb (n % 8) 0 d); more = omega arith; phase = λ f c q k. omega arith }

pub heard-one : {n : ℕ} {x : Sound} {y y' : List ℤ} {places : ℕ} {e : List ℕ} {h : List ℤ} → n % 8 ≡ 0 → places < length y
    → y' ≡ set y places (eighth_sample x) → Eighths y' (places + 1) e h → Heard n x y places y' (places + 1) e h
unfolding eighths_after eighth_due
heard-one {n} {x} {y} {places = places} d l q r =
    record {
      eighths = r;
      sound = ap (λ (z : List ℤ). ago z (places + 1)) q ∙ ago-put y places l (eighth_sample x) ∙ rw d;
      more = omega arith;
      phase = λ f c q k. omega arith;
    }

-- the number of lags, by an equation
pub as_many : {x : Sound} {low n m : ℕ} {e : List ℕ} {h : List ℤ} → n ≡ m → Right x low n e h → Right x low m e h
as_many {x} {low} {e = e} {h = h} q r = subst (λ (n : ℕ). Right x low n e h) q r

-- a sample put at the next place
module _ (y : List ℤ) (p : ℕ) (v : ℤ) where
  module _ {e : List ℕ} {h : List ℤ} (r : Eighths y p e h) (f : SFits w16 v) (lo : kept_eighths ≤ p) (hi : p < 288) where
    put-long : length (set y p v) ≡ 288
    put-long = length-set y p v ∙ r.long

    pub put-samples : Samples (set y p v)
    put-samples = samples-put y p v f (omega (arith, r.long)) r.samples

    -- what the update of the sums asks
    pub put-room : Enough (take (p + 1) (set y p v)) 2 eighth_lags
    put-room =
        record { samples = samples-take (p + 1) (set y p v) put-samples; from = omega arith; upto = omega arith; reach = omega (arith, length-take-le (p + 1) (set y p v) (omega (arith, put-long))) }

    pub put-older : Right (older (past (take (p + 1) (set y p v)))) 2 eighth_lags e h
    put-older = subst (λ (x : Sound). Right x 2 eighth_lags e h) (sym (ap older (past-take (set y p v) (p + 1)) ∙ ago-older (set y p v) p (omega (arith, put-long)) ∙ ago-before y p v)) r.sums

    pub put-eighths : {e' : List ℕ} {h' : List ℤ} → Right (past (take (p + 1) (set y p v))) 2 eighth_lags e' h' → Eighths (set y p v) (p + 1) e' h'
    put-eighths {e'} {h'} q = record { long = put-long; samples = put-samples; sums = subst (λ (x : Sound). Right x 2 eighth_lags e' h') (past-take (set y p v) (p + 1)) q }

    -- silence that goes on leaves the sums as they are
    pub put-silence : v ≡ pos 0 → get_or e 108 0 ≡ 0 → Eighths (set y p v) (p + 1) e h
    put-silence z none =
        record {
          long = put-long;
          samples = put-samples;
          sums = subst (λ (x : Sound). Right x 2 eighth_lags e h) (ap (λ (w : ℤ). heard w (ago y p)) (sym z) ∙ sym (ago-put y p (omega (arith, r.long)) v)) (still-right r.sums none);
        }
