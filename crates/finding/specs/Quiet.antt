-- Too quiet to find anything: E does not fall with the lag, so where E at lag 110 is below what the floor asks at lag 3, no lag passes.
use Rattle.std.specs.Prelude.{◌≡◌, false, ◌&&◌, List, ℕ, ◌+◌, ◌-◌, ◌*◌, ◌≤◌, ◌<◌, ltb, get_or}
use Rattle.std.proofs.Math.Path.{ap}
use Rattle.std.proofs.Math.Option.{none}
use Rattle.std.proofs.Math.Nat.{mul-le-mul_left}
use native.Mathlib.Omega.{arith}
use borrow.Author.Tests.{lt-leb}
use Rattle.std.proofs.Math.Dec.{leb}
use Rattle.whole.specs.Tests.{and_no}
use Rattle.rules.specs.declared.Settings.{Settings}
use Rattle.rules.specs.Rules.{Sound, E, D, passes, meets_eps, meets_floor, is_low, low_above, found_by, found}
use Rattle.rules.proofs.Energies.{E-grows}
use Rattle.rules.proofs.Choosing.{is_none}

-- of the energies e, at the lags from 2 on, the one at lag 110 is below what the floor asks at lag 3
pub record Quiet (g : Settings) (e : List ℕ) : Type 0 where
  pub quiet : get_or e 108 0 < g.floor * 6

module _ (g : Settings) (y : Sound) (quiet : E y 110 < g.floor * 6) where
  no-floor : (L : ℕ) → 3 ≤ L → L ≤ 110 → meets_floor g.floor L (E y L) ≡ false
  unfolding meets_floor
  no-floor L lo hi =
      let six : 6 ≤ 2 * L = omega arith in
      lt-leb (g.floor * (2 * L)) (E y L) (omega (arith, E-grows y hi, mul-le-mul_left g.floor six))

  no-low : (L : ℕ) → 3 ≤ L → L ≤ 110 → is_low g y L ≡ false
  unfolding is_low passes
  no-low L lo hi =
      and_no (ltb (D y L) (D y (L - 1)) && leb (D y L) (D y (L + 1)))
      (and_no (meets_eps g.eps (D y L) (E y L)) (no-floor L lo hi))

  pub nothing-found : (x : Sound) → found g x y ≡ none
  unfolding found found_by low_above
  nothing-found x = ap (found_by g x y) (is_none (is_low g y) 3 107 (λ m lo hi. no-low m lo (omega arith)))
