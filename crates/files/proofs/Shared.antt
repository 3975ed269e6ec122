-- What WAVE files and the tuner share: the sample rates that are known, and the most samples of a take.
use Rattle.std.specs.Prelude.{◌≡◌, refl, ℕ}
use Rattle.rules.specs.Rules.{is_rate, take_limit}
use Rattle.wave.specs.Waves.{known}
use Rattle.writing.specs.Canonical.{limit}

pub rates-same : (hertz : ℕ) → known hertz ≡ is_rate hertz
unfolding known
rates-same hertz = refl

pub limit-same : limit ≡ take_limit
limit-same = refl
