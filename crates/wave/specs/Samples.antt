-- Laws of sixteen bits as a sample.
use Rattle.std.specs.Prelude.{◌≡◌, ℕ, suc, ◌-◌, ◌≤◌, ◌<◌, ltb, ℤ, pos, negsuc}
use Rattle.std.proofs.Common.{ap, arith}
use borrow.Author.Tests.{ltb-true, ltb-false, lt-ltb, le-ltb}
use mir.Syntax.{w16}
use mir.Val.{SFits}
use Rattle.std.specs.Int.{cast_signed}
use Rattle.whole.specs.Tests.{by, cond_case}
use Rattle.wave.specs.Waves.{sample_of}

module _ (n : ℕ) where
  pub sample-low : n < 32768 → sample_of n ≡ pos n
  unfolding sample_of
  sample-low h = rw (lt-ltb n 32768 h)

  pub sample-high : 32768 ≤ n → sample_of n ≡ negsuc (65535 - n)
  unfolding sample_of
  sample-high h = rw (le-ltb n 32768 h)

  pub sample-fits : n < 65536 → SFits w16 (sample_of n)
  unfolding sample_of
  sample-fits h =
      cond_case (ltb n 32768) (pos n) (negsuc (65535 - n)) (λ (z : ℤ). SFits w16 z)
      (λ e. record { sfits = ltb-true n 32768 e })
      (λ e. record { sfits = omega (arith, ltb-false n 32768 e) })

  -- as std has it
  pub sample_cast : n < 65536 → cast_signed w16 n ≡ sample_of n
  unfolding sample_of
  sample_cast h =
      by (ltb n 32768)
      (λ y. rw y)
      (λ y. rw y (let e : 65536 - suc n ≡ 65535 - n = omega arith in ap negsuc e))
