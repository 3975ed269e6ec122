-- `voices::read` meets its contract: `reading-behind` says which four samples are read and how far on from the second, and `ago-at` where they stand; both are counted from the farthest place.
use mathlib.Core.Path.{◌≡◌, refl, sym, ap, ◌∙◌}
use Prim.Native.Nat.{ℕ, ◌+◌, ◌-◌, ◌/◌, ◌%◌, ◌<◌}
use native.Mathlib.Omega.{arith}
use borrow.Author.Rules.{sfits_of}
use mir.Syntax.{w16}
use mir.Facts.{to_z-of_z}
use Rattle.rules.specs.Rules.{farthest, through}
use Rattle.rules.specs.Facts.{value_at}
use Rattle.rules.specs.Position.{whole_behind, fraction_behind}
use Rattle.rules.proofs.Position.{reading-behind}
use Rattle.ages.specs.Ages.{ago, ago-at}
use Rattle.voices.proofs.read.Goals as goal

pub returns : goal.returns
returns c n =
    let a = c.args in
    let p = c.requires in
    let s = a.s.now in
    let q = whole_behind a.behind in
    let stands : (k j : ℕ) → q + k < a.m → a.m - 1 - (q + k) ≡ j → ago s a.m (q + k) ≡ value_at s j = λ k j l e. ago-at s a.m (q + k) p.0 l ∙ ap (value_at s) e in
    let place = farthest - a.behind in
    let at = a.m - 1006 + place / 65536 in
    let part : place % 65536 ≡ fraction_behind a.behind = omega arith in
    let first = stands 5 at (omega arith) (omega arith) in
    let second = stands 4 (at + 1) (omega arith) (omega arith) in
    let third = stands 3 (at + 2) (omega arith) (omega arith) in
    let fourth = stands 2 (at + 3) (omega arith) (omega arith) in
    to_z-of_z {w = w16} (sfits_of c.among.type_inv)
    ∙ c.among.ensures
    ∙ sym (reading-behind (ago s a.m) n a.behind refl ∙ (λ i. through (first i) (second i) (third i) (fourth i) (sym part i / 16)))
