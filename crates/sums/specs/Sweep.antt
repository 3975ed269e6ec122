-- Sweeps over the lags: one lag at a time, and all of them at the end; and that what is kept is small.
use Rattle.std.specs.Prelude.{◌≡◌, refl, List, ℕ, ◌+◌, ◌^◌, ◌≤◌, ◌<◌, ℤ, pos, nat_abs, length, get_or, set}
use Rattle.std.proofs.Common.{ap, ◌∙◌, le_refl, arith, below_more, length-set, get_or-set_same, get_or-set_other, SFits, to_z, of_z}
use Rattle.std.specs.Int.{w16, w64}
use Rattle.whole.specs.Words.{Bits, num}
use Rattle.rules.specs.Rules.{Sound, E, H}
use Rattle.rules.proofs.Energies.{E-within, H-within}
use Rattle.rules.specs.Facts.{value_at, Right}
use Rattle.sums.specs.Kept.{RightAt, Enough}

-- room for all lags is room for each
pub room_at : {s : List ℤ} {low n : ℕ} → Enough s low n → (i : ℕ) → i < n → Enough s (low + i) 1
room_at r i h =
    record {
      samples = r.samples;
      from = omega (arith, r.from);
      upto = omega (arith, r.upto);
      reach = omega (arith, r.reach);
    }

-- the sums at the lag of place j are right
abbrev pub RightIn : Sound → ℕ → List ℕ → List ℤ → ℕ → Type 0
RightIn x low e h j = RightAt x (low + j) (get_or e j 0) (value_at h j)

pub right-each : {x : Sound} {low n : ℕ} {e : List ℕ} {h : List ℤ} → Right x low n e h → (j : ℕ) → j < n → RightIn x low e h j
right-each r j l = record { energy = r.energy j l; correlation = r.correlation j l }

pub right-all : {x : Sound} {low n : ℕ} {e : List ℕ} {h : List ℤ} → length e ≡ n → length h ≡ n → ((j : ℕ) → j < n → RightIn x low e h j) → Right x low n e h
right-all p q f = record { energies = p; correlations = q; energy = λ j l. (f j l).energy; correlation = λ j l. (f j l).correlation }

-- from e₀ and h₀: the first i lags hold the sums over x, the others what they held
pub record Sweep (x : Sound) (low : ℕ) (e₀ : List ℕ) (h₀ : List ℤ) (i : ℕ) (e : List ℕ) (h : List ℤ) : Type 0 where
  pub energies : length e ≡ length e₀
  pub correlations : length h ≡ length h₀
  pub done : (j : ℕ) → j < i → RightIn x low e h j
  pub left_e : (j : ℕ) → i ≤ j → get_or e j 0 ≡ get_or e₀ j 0
  pub left_h : (j : ℕ) → i ≤ j → value_at h j ≡ value_at h₀ j

pub sweep-start : (x : Sound) (low : ℕ) (e : List ℕ) (h : List ℤ) → Sweep x low e h 0 e h
sweep-start x low e h =
    record { energies = refl; correlations = refl; done = λ j l. absurd (omega arith); left_e = λ j l. refl; left_h = λ j l. refl }

pub sweep : {x : Sound} {low : ℕ} {e₀ : List ℕ} {h₀ : List ℤ} {i : ℕ} {e : List ℕ} {h : List ℤ} (v : ℕ) (w : ℤ)
    → Sweep x low e₀ h₀ i e h → length h₀ ≡ length e₀ → i < length e₀ → RightAt x (low + i) v w
    → Sweep x low e₀ h₀ (i + 1) (set e i v) (set h i w)
sweep {i = i} {e = e} {h = h} v w r same l new =
    record {
      energies = length-set e i v ∙ r.energies;
      correlations = length-set h i w ∙ r.correlations;
      done =
          below_more _ i
          (λ j k. record {
            energy = get_or-set_other e i j v 0 (omega arith) ∙ (r.done j k).energy;
            correlation = get_or-set_other h i j w (pos 0) (omega arith) ∙ (r.done j k).correlation;
          })
          (record {
            energy = get_or-set_same e i v 0 (omega (arith, r.energies)) ∙ new.energy;
            correlation = get_or-set_same h i w (pos 0) (omega (arith, r.correlations)) ∙ new.correlation;
          });
      left_e = λ j k. get_or-set_other e i j v 0 (omega arith) ∙ r.left_e j (omega arith);
      left_h = λ j k. get_or-set_other h i j w (pos 0) (omega arith) ∙ r.left_h j (omega arith);
    }

-- what stands at the next lag is what stood there
pub sweep-left : {x y : Sound} {low : ℕ} {e₀ : List ℕ} {h₀ : List ℤ} {i : ℕ} {e : List ℕ} {h : List ℤ}
    → Sweep x low e₀ h₀ i e h → RightIn y low e₀ h₀ i → RightIn y low e h i
sweep-left {i = i} r old =
    record { energy = r.left_e i (le_refl i) ∙ old.energy; correlation = r.left_h i (le_refl i) ∙ old.correlation }

pub sweep-end : {x : Sound} {low : ℕ} {e₀ : List ℕ} {h₀ : List ℤ} {i : ℕ} {e : List ℕ} {h : List ℤ}
    → Sweep x low e₀ h₀ i e h → length h₀ ≡ length e₀ → length e₀ ≤ i → Right x low (length e₀) e h
sweep-end r same l = right-all r.energies (r.correlations ∙ same) (λ j k. r.done j (omega arith))

-- the sums of 16-bit samples are small
module _ {x : Sound} (fits : (k : ℕ) → SFits w16 (x k)) {lag : ℕ} (upto : lag ≤ 881) where
  pub energy-small : {e : ℕ} → e ≡ E x lag → e ≤ 2 ^ 41
  energy-small p = omega (arith, E-within x fits lag)

  pub correlation-held : {h : ℤ} → h ≡ H x lag → Bits w64 (2 ^ 40) (of_z w64 h) h
  correlation-held p = num (omega (arith, ap nat_abs p, (H-within x fits lag).within)) tt

  -- as a signed local holds them
  pub stored : {e : ℕ} {h : ℤ} → RightAt x lag e h → RightAt x lag e (to_z w64 (of_z w64 h))
  stored r = record { energy = r.energy; correlation = (correlation-held r.correlation).reads ∙ r.correlation }
