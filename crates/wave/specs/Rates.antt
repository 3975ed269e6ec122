-- Laws of the sample rates that are known.
use Rattle.std.specs.Prelude.{◌≡◌, Bool, ◌||◌, ◌⊎◌, ℕ, ◌≤◌}
use Rattle.std.proofs.Math.Path.{refl}
use Rattle.std.proofs.Common.{ap, ⊎_elim, arith, eqb-true}
use Rattle.std.proofs.Math.Bool.{true, false}
use Rattle.std.proofs.Math.Logic.{inl, inr}
use Rattle.std.proofs.Math.Dec.{eqb}
use Rattle.wave.specs.Waves.{known}

module _ (hertz : ℕ) (k : known hertz ≡ true) where
  known_is : (hertz ≡ 44100) ⊎ (hertz ≡ 48000)
  unfolding known
  known_is = by-rate (eqb hertz 44100) refl k
    where
      by-rate : (t : Bool) → eqb hertz 44100 ≡ t → t || eqb hertz 48000 ≡ true → (hertz ≡ 44100) ⊎ (hertz ≡ 48000)
      by-rate true y z = inl (eqb-true hertz 44100 y)
      by-rate false y z = inr (eqb-true hertz 48000 z)

  pub known_some : eqb hertz 0 ≡ false
  known_some = ⊎_elim (λ e. ap (λ (n : ℕ). eqb n 0) e) (λ e. ap (λ (n : ℕ). eqb n 0) e) known_is

  pub known_small : hertz ≤ 48000
  known_small = ⊎_elim (λ e. omega arith) (λ e. omega arith) known_is
