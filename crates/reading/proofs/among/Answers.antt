-- `reading::among` meets its contract: with u = 0 the curve is its second sample (`through-none`), else the four are read and passed on.
use mathlib.Core.Path.{sym, ap, ◌∙◌}
use Prim.Native.Nat.{◌+◌}
use borrow.Author.Rules.{rules}
use mir.Syntax.{w16}
use mir.Val.{SFits}
use mir.Facts.{to_z-of_z}
use Rattle.rules.specs.Rules.{through}
use Rattle.rules.specs.Facts.{value_at}
use Rattle.rules.proofs.Through.{through-none}
use Rattle.reading.proofs.among.Goals as goal

pub returns-then-u-eq0 : goal.returns-then-u-eq0
returns-then-u-eq0 c =
    let a = c.args in
    let s = a.s.now in
    let f : SFits w16 (value_at s (a.at + 1)) = search rules in
    to_z-of_z {w = w16} f
    ∙ sym (ap (through (value_at s a.at) (value_at s (a.at + 1)) (value_at s (a.at + 2)) (value_at s (a.at + 3))) c.if-u-eq0.true ∙ through-none _ (value_at s (a.at + 1)) _ _ f)
