-- `riff::put_two` meets its contract: the two bytes are the first two that std has.
use Rattle.std.proofs.Common.{ℕ, ◌+◌, List, get_or, set, ap, ◌∙◌}
use Rattle.riff.specs.Numbers.{two_stored}
use Rattle.riff.proofs.put_two.Goals as goal

pub returns : goal.returns
returns c =
    let a = c.args in
    ap (λ (l : List ℕ). set (set a.out.now a.at (get_or l 0 0)) (a.at + 1) (get_or l 1 0)) c.to_le_bytes.ensures ∙ two_stored a.out.now a.at a.n
