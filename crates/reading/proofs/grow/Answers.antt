-- `reading::grow` meets its contract: its three arms are the three laws of the growth, and a period's range keeps each sum in its bounds.
use mathlib.Core.Path.{refl, sym}
use mathlib.Core.List.{[], ◌∷◌}
use native.Mathlib.Nat.{add-zero}
use native.Mathlib.Omega.{arith}
use Rattle.rules.proofs.Position.{growth-keeps, growth-drops, growth-repeats}
use Rattle.reading.specs.Gliding.{grown}
use Rattle.reading.proofs.grow.Goals as goal

pub returns-then-b-rate : goal.returns-then-b-rate
returns-then-b-rate c =
    let a = c.args in
    let r = c.requires.3 in
    grown (a.period ∷ []) [] (omega (arith, c.if-b-rate.true, r.fast, r.upto)) refl (sym (add-zero a.g.dropped)) (omega arith, omega arith)
    (λ n. growth-repeats n a.g.behind a.rate a.period refl c.if-b-rate.true r.fast r.upto)

pub returns-then-k-gt-FARTHEST : goal.returns-then-k-gt-FARTHEST
returns-then-k-gt-FARTHEST c =
    let a = c.args in
    let r = c.requires.3 in
    grown [] (a.period ∷ []) (omega (arith, c.if-k-gt-FARTHEST.true, r.slow, r.upto, c.requires.0)) (sym (add-zero a.g.repeated)) refl (omega arith, omega arith)
    (λ n. growth-drops n a.g.behind a.rate a.period refl c.if-k-gt-FARTHEST.true r.upto)

pub returns-else-k-gt-FARTHEST : goal.returns-else-k-gt-FARTHEST
returns-else-k-gt-FARTHEST c =
    let a = c.args in
    grown [] [] c.if-k-gt-FARTHEST.false (sym (add-zero a.g.repeated)) (sym (add-zero a.g.dropped)) (omega arith, omega arith)
    (λ n. growth-keeps n a.g.behind a.rate a.period refl c.if-b-rate.false c.if-k-gt-FARTHEST.false)
