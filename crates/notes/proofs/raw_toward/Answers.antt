-- By the wanted period, and by the rounded raw rate's bounds.
use mathlib.Core.Path.{sym, ap, ◌∙◌}
use Prim.Native.Nat.{◌<◌}
use native.Mathlib.Omega.{arith}
use Rattle.rules.specs.Rules.{raw_toward}
use Rattle.rules.proofs.Notes.{raw-fits, toward-none, toward_outside, toward-within}
use Rattle.notes.proofs.raw_toward.Goals as goal

pub returns-then-wanted-eq0 : goal.returns-then-wanted-eq0
returns-then-wanted-eq0 c = sym (ap (raw_toward c.args.period) c.if-wanted-eq0.true ∙ toward-none c.args.period)

pub raw_rate-raw-requires : goal.raw_rate-raw-requires
raw_rate-raw-requires c = let some : 0 < c.args.wanted = omega arith in (some, raw-fits _ _ c.requires.0 (c.requires.1 some))

pub returns-then-raw-le-GREATEST_RATE : goal.returns-then-raw-le-GREATEST_RATE
returns-then-raw-le-GREATEST_RATE c =
    let r = c.raw_rate-raw.ensures in
    r ∙ sym (toward-within _ _ (omega arith) (omega (arith, r), omega (arith, r)))

pub returns-else-raw-ge-LEAST_RATE : goal.returns-else-raw-ge-LEAST_RATE
returns-else-raw-ge-LEAST_RATE c = let r = c.raw_rate-raw.ensures in sym (toward_outside _ _ (λ k. omega (arith, r, k.0, k.1)))
