-- `voices::sound` meets its contract: silent it is put level and writes 0; else its position grows by its rate, and it reads there.
use mathlib.Core.Path.{ap, ◌∙◌}
use native.Mathlib.Omega.{arith}
use borrow.Author.Rules.{sfits_of}
use mir.Syntax.{w16}
use mir.Facts.{to_z-of_z}
use lib.ListN.{set}
use Rattle.voices.proofs.Singing.{voiced-silent, voiced_sounds}
use Rattle.voices.proofs.sound.Goals as goal

pub returns-then-rate-eq0 : goal.returns-then-rate-eq0
returns-then-rate-eq0 c = voiced-silent c.args.rate c.if-rate-eq0.true

pub grown-r-requires : goal.grown-r-requires
grown-r-requires c = let p = c.requires in (p.0, p.1 (omega (arith, c.if-rate-eq0.false)))

pub returns : goal.returns
returns c =
    let s = c in
    voiced_sounds s.args.rate (omega (arith, c.if-rate-eq0.false)) c.grown-r.ensures (λ n. ap (set s.args.out.now s.args.i) (to_z-of_z {w = w16} (sfits_of c.read.type_inv) ∙ c.read.ensures n))
