-- Notes of which those without a period are hushed: the notes sung.
use Rattle.std.specs.Prelude.{◌≡◌, refl, cond, List, [], ◌∷◌, ◌++◌, map, ℕ, zero, suc, ◌≤◌, ◌<◌, eqb, length, take, drop, get_or, set}
use Rattle.std.proofs.Common.{sym, ap, ◌∙◌, arith, ne_eqb}
use Rattle.std.proofs.lemmas.List.{set-get_or}
use Rattle.whole.specs.Tests.{cond_no}
use Rattle.rules.specs.Rules.{no_note, Given}
use Rattle.lists.specs.Lists.{sung_note, notes_sung}
use Rattle.lists.specs.Counting.{counted}
use Rattle.lists.proofs.Counting.{none-counted}
use Rattle.lists.specs.Hushes.{hushed}

pub hushed-length : (n : ℕ) (ps ns : List ℕ) → length (hushed n ps ns) ≡ length ns
unfolding hushed
hushed-length zero ps ns = refl
hushed-length (suc n) [] ns = refl
hushed-length (suc n) (p ∷ ps) [] = refl
hushed-length (suc n) (p ∷ ps) (m ∷ ns) = ap suc (hushed-length n ps ns)

-- a note behind them is as it was
pub hushed-behind : (n : ℕ) (ps ns : List ℕ) → get_or (hushed n ps ns) n 0 ≡ get_or ns n 0
unfolding hushed
hushed-behind zero ps ns = refl
hushed-behind (suc n) [] ns = refl
hushed-behind (suc n) (p ∷ ps) [] = refl
hushed-behind (suc n) (p ∷ ps) (m ∷ ns) = hushed-behind n ps ns

-- one more
pub hushed-more : (n : ℕ) (ps ns : List ℕ) → n < length ps → n < length ns → set (hushed n ps ns) n (cond (eqb (get_or ps n 0) 0) no_note (get_or ns n 0)) ≡ hushed (suc n) ps ns
unfolding hushed
hushed-more n [] ns h k = absurd (omega arith)
hushed-more n (p ∷ ps) [] h k = absurd (omega arith)
hushed-more zero (p ∷ ps) (m ∷ ns) h k = refl
hushed-more (suc n) (p ∷ ps) (m ∷ ns) h k = ap (λ (l : List ℕ). cond (eqb p 0) no_note m ∷ l) (hushed-more n ps ns (omega arith) (omega arith))

-- only the first notes and their periods count
pub hushed-front : (n : ℕ) (ps ns : List ℕ) → n ≤ length ps → n ≤ length ns → hushed (length (take n ps)) (take n ps) (take n ns) ++ drop n ns ≡ hushed n ps ns
unfolding hushed
hushed-front zero ps ns h k = refl
hushed-front (suc n) [] ns h k = absurd (omega arith)
hushed-front (suc n) (p ∷ ps) [] h k = absurd (omega arith)
hushed-front (suc n) (p ∷ ps) (m ∷ ns) h k = ap (λ (l : List ℕ). cond (eqb p 0) no_note m ∷ l) (hushed-front n ps ns (omega arith) (omega arith))

-- where each of them has a period they are as they were
pub hushed-none : (n : ℕ) (ps ns : List ℕ) → n ≤ length ps → n ≤ length ns → counted 0 ps n ≡ 0 → hushed n ps ns ≡ ns
unfolding hushed counted
hushed-none zero ps ns h k e = refl
hushed-none (suc n) ps ns h k e =
    let some = none-counted 0 ps (suc n) e n (omega arith) in
    sym (hushed-more n ps ns (omega arith) (omega arith))
    ∙ (λ i. set (hushed-none n ps ns (omega arith) (omega arith) (omega (arith, e)) i) n (cond_no no_note (get_or ns n 0) (ne_eqb (get_or ps n 0) 0 some) i))
    ∙ set-get_or ns n 0

-- of the tones that the rules gave they are the notes sung
pub hushed-sung : (gs : List Given) (ps ns : List ℕ) → take (length gs) (hushed (length gs) (map (λ (g : Given). g.tone.period) gs ++ ps) (map (λ (g : Given). g.tone.note) gs ++ ns)) ≡ notes_sung gs
unfolding hushed sung_note
hushed-sung [] ps ns = refl
hushed-sung (g ∷ gs) ps ns = ap (λ (l : List ℕ). cond (eqb g.tone.period 0) no_note g.tone.note ∷ l) (hushed-sung gs ps ns)
