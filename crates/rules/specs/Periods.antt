-- The vertex lies within half a sample of the best lag, since that one's D is the least of the three; so every period has its range.
-- The eight lags move by at most one, keep their range and keep the best among them.
use Rattle.std.specs.Prelude.{cond, ◌&&◌, ℕ, ◌+◌, ◌-◌, ltb, ℤ}
use Rattle.std.proofs.Math.IntN.{pos}
use Rattle.rules.specs.Rules.{Sound, D, offset}

-- ---- the period

-- what is added to 256 x best
abbrev pub shift : Sound → ℕ → ℕ → ℤ
shift x low at = cond (ltb 0 at && ltb at 7) (offset (D x (low + at - 1)) (D x (low + at)) (D x (low + at + 1))) (pos 0)
