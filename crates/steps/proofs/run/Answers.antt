-- `steps::run` meets its contract: the samples are heard, and the head that is then moved over the tones stands where the rules leave it (`ran`).
use native.Mathlib.Omega.{arith}
use Rattle.steps.specs.Heading.{paced-all, ran, ready-left, ended-left}
use Rattle.steps.proofs.run.Goals as goal

pub glide-r-requires : goal.glide-r-requires
glide-r-requires c =
    let h = c in
    let s = h in
    let p = s.requires in
    (p.4.near, paced-all h.hear_all-q.ensures p.2, p.2, omega (arith, p.1.enough), p.3, p.6)

pub returns : goal.returns
returns c =
    let h = c in
    let s = h in
    let p = s.requires in
    let heard = h.hear_all-q.ensures in
    (ready-left heard p.2 c.glide-r.ensures, ran heard p.2 c.glide-r.ensures p.5, ended-left heard p.2 c.glide-r.ensures)
