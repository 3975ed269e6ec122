-- As many digits are written as the number has.
use Rattle.std.proofs.Common.{◌≡◌, sym, ap, ◌∙◌, ℕ, ◌+◌}
use Rattle.text.specs.Text.{digits, places_within, decimal, put}
use Rattle.text.specs.Spelling.{places-is, decimal-length}
use Rattle.text.proofs.U32Decimal.put.Goals as goal

pub returns-clause-put : goal.returns-clause-put
unfolding decimal
returns-clause-put c =
    let a = c.args in
    let q = c.from-n.ensures in
    let p : c.places-k.result ≡ places_within 4 a.self = c.places-k.ensures.value ∙ ap (places_within 4) q in
    let e = p ∙ sym (places-is a.self) in
    record { text = c.spell.ensures ∙ (λ i. put a.out.now a.at (digits (e i) (q i))); next = ap (λ (k : ℕ). a.at + k) (p ∙ sym (decimal-length a.self)) }
