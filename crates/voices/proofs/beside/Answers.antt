-- Silent without a period, else by the entry of its note.
use mathlib.Core.Path.{refl, sym}
use Prim.Native.Nat.{◌<◌}
use native.Mathlib.Omega.{arith}
use Rattle.rules.proofs.Notes.{wanted_period_range}
use Rattle.voices.specs.Voices.{voice_note, voice_period}
use Rattle.voices.proofs.Singing.{rate-none}
use Rattle.voices.proofs.beside.Goals as goal

pub returns-then-period-eq0 : goal.returns-then-period-eq0
returns-then-period-eq0 c =
    let a = c.args in
    (refl, refl, refl, (λ some. absurd (omega (arith, some)), sym (rate-none a.hertz a.interval a.note c.if-period-eq0.true)))

pub voice_rate-requires : goal.voice_rate-requires
voice_rate-requires c =
    let a = c.args in
    let e = c.entry_beside-entry.ensures in
    (omega arith, c.requires.2.upto, λ some. let known : 0 < voice_period a.hertz a.interval a.note = omega (arith, e, some) in omega (arith, (wanted_period_range c.requires.0 (voice_note a.interval a.note) known).0, e))
