-- D at one lag and at several, and what keeps the products with them small.
use Rattle.std.specs.Prelude.{◌≡◌, List, ℕ, ◌+◌, ◌^◌, ◌≤◌, ◌<◌, ℤ, length, take, get_or}
use Rattle.std.proofs.Common.{arith, length-take-le, SFits}
use Rattle.std.specs.Int.{w16}
use Rattle.rules.specs.declared.Settings.{Settings}
use Rattle.rules.specs.Rules.{Sound, D}
use Rattle.rules.proofs.Distance.{D-within}
use Rattle.rules.specs.Facts.{value_at}
use Rattle.ages.specs.Ages.{Samples, samples-take}
use Rattle.sums.specs.Kept.{RightAt, Kept}
use Rattle.sums.specs.Sweep.{right-each, energy-small}

-- settings small enough to multiply with
pub record Modest (g : Settings) : Type 0 where
  pub eps : g.eps ≤ 409
  pub floor : g.floor ≤ 1000000

-- the first m samples of a store are enough for every lag up to 880
pub record Long (s : List ℤ) (m : ℕ) : Type 0 where
  pub enough : 1764 ≤ m
  pub long : m ≤ length s
  pub samples : Samples s

-- the samples are enough for every lag up to 880
pub record Ample (s : List ℤ) : Type 0 where
  pub enough : 1764 ≤ length s
  pub samples : Samples s

-- e and h are the direct sums of some sound of 16-bit samples at one lag up to 880
pub record One (e : ℕ) (h : ℤ) : Type 0 where
  pub sound : Sound
  pub fits : (k : ℕ) → SFits w16 (sound k)
  pub lag : ℕ
  pub upto : lag ≤ 880
  pub right : RightAt sound lag e h

-- d are the D of the sound x at the n lags from low on
pub record Distances (x : Sound) (low n : ℕ) (d : List ℕ) : Type 0 where
  pub count : length d ≡ n
  pub distance : (j : ℕ) → j < n → get_or d j 0 ≡ D x (low + j)

-- n numbers small enough to multiply with
pub record Small (n : ℕ) (xs : List ℕ) : Type 0 where
  pub small : (j : ℕ) → j < n → get_or xs j 0 ≤ 2 ^ 42

-- the first m of a store that is long enough
pub ample : {s : List ℤ} {m : ℕ} → Long s m → Ample (take m s)
ample {s} {m} l = record { enough = omega (arith, length-take-le m s l.long, l.enough); samples = samples-take m s l.samples }

-- ---- what is kept is small
module _ {n : ℕ} {e : List ℕ} {h : List ℤ} (k : Kept n e h) where
  pub one_of : (j : ℕ) → j < n → One (get_or e j 0) (value_at h j)
  one_of j l =
      record {
        sound = k.sound;
        fits = k.fits;
        lag = k.low + j;
        upto = omega (arith, k.upto);
        right = right-each k.right j l;
      }

  pub small-energies : Small n e
  small-energies = record { small = λ j l. omega (arith, energy-small k.fits (omega (arith, k.upto)) (k.right.energy j l)) }

  pub small-distances : {d : List ℕ} → Distances k.sound k.low n d → Small n d
  small-distances r = record { small = λ j l. omega (arith, k.upto, r.distance j l, D-within k.sound k.fits (k.low + j)) }
