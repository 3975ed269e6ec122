-- Silence that goes on: without energy at lag 110 the newest 220 samples are 0, so that one more 0 changes none of the sums at eighth rate.
use Rattle.std.specs.Prelude.{◌≡◌, List, ℕ, zero, suc, ◌+◌, ◌*◌, ◌<◌, ℤ, pos, get_or}
use Rattle.std.proofs.Common.{sym, ◌∙◌, arith}
use Rattle.rules.specs.Rules.{Sound, heard, eighth_lags}
use Rattle.rules.proofs.Energies.{no-energy, E-same, H-same}
use Rattle.rules.specs.Facts.{Right}

-- 0 heard after n samples of 0
zero_more : (x : Sound) (n : ℕ) → ((k : ℕ) → k < n → x k ≡ pos 0) → (k : ℕ) → k < n → x k ≡ heard (pos 0) x k
unfolding heard
zero_more x n zeros zero h = zeros 0 h
zero_more x n zeros (suc k) h = zeros (suc k) h ∙ sym (zeros k (omega arith))

module _ {x : Sound} {e : List ℕ} {h : List ℤ} (r : Right x 2 eighth_lags e h) (none : get_or e 108 0 ≡ 0) where
  same : (j : ℕ) → j < eighth_lags → (k : ℕ) → k < 2 * (2 + j) → x k ≡ heard (pos 0) x k
  same j l k m = zero_more x 220 (no-energy x 110 (sym (r.energy 108 (omega arith)) ∙ none)) k (omega arith)

  pub still-right : Right (heard (pos 0) x) 2 eighth_lags e h
  still-right =
      record {
        energies = r.energies;
        correlations = r.correlations;
        energy = λ j l. r.energy j l ∙ E-same x (heard (pos 0) x) (2 + j) (same j l);
        correlation = λ j l. r.correlation j l ∙ H-same x (heard (pos 0) x) (2 + j) (same j l);
      }
