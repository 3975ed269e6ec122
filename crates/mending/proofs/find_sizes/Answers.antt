-- `mending::find_sizes` meets its contract: a walk to the file's end, and what it decides.
use Rattle.std.proofs.Common.{◌≡◌, true, sym, ◌∙◌, arith}
use Rattle.wave.specs.Waves.{is_wave}
use Rattle.wave.specs.Judging.{wave-long}
use Rattle.mending.specs.Deciding.{not_wave, decided-is}
use Rattle.mending.proofs.find_sizes.Goals.{Else-not-is_wave}
use Rattle.mending.proofs.find_sizes.Goals as goal

-- the file begins as RIFF WAVE
begins : (c : Else-not-is_wave) → is_wave c.args.bytes.now ≡ true
begins c = sym c.is_wave.ensures ∙ c.if-not-is_wave.false

pub returns-then-not-is_wave : goal.returns-then-not-is_wave
returns-then-not-is_wave c = sym (not_wave c.args.bytes.now (sym c.is_wave.ensures ∙ c.if-not-is_wave.true))

pub four-requires : goal.four-requires
four-requires c = omega (arith, wave-long c.args.bytes.now (begins (goal.at.four-requires c).Else-not-is_wave))

pub returns : goal.returns
returns c = c.decide.ensures ∙ decided-is c.args.bytes.now (begins (goal.at.returns c).Else-not-is_wave) c.walked-w.ensures c.rate_of.ensures c.four.ensures
