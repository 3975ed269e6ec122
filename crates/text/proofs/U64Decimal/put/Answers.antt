-- As many digits are written as the number has.
use Rattle.std.proofs.Common.{sym, ap, ◌∙◌, ℕ, ◌+◌}
use Rattle.text.specs.Text.{digits, long_decimal, put}
use Rattle.text.specs.Spelling.{long-length}
use Rattle.text.proofs.U64Decimal.put.Goals as goal

pub returns-clause-put : goal.returns-clause-put
unfolding long_decimal
returns-clause-put c =
    let a = c.args in
    let p = c.places-k.ensures.value in
    record { text = c.spell.ensures ∙ ap (λ (k : ℕ). put a.out.now a.at (digits k a.self)) p; next = ap (λ (k : ℕ). a.at + k) (p ∙ sym (long-length a.self)) }
