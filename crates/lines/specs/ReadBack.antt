-- Samples that are printed, in an answer or in a line to send, are read back as themselves:
-- their fields are the printed samples, and each of those is read back.
use Rattle.std.specs.Prelude.{◌≡◌, refl, List, [], ◌∷◌, ◌++◌, map, ℕ, suc, ◌≤◌, ℤ, length, take, Some}
use Rattle.std.proofs.Common.{sym, ap, ◌∙◌, arith, length-append}
use Rattle.std.proofs.lemmas.List.{append_cancel_right}
use Rattle.tuner.specs.declared.Answer.{Answer}
use Rattle.ages.specs.Ages.{Samples}
use Rattle.text.specs.Text.{onto, fields, sample, decimal, signed, sample_fields}
use Rattle.text.specs.Spelling.{decimal-short, fields-short}
use Rattle.text.specs.Fields.{one_field}
use Rattle.text.specs.ReadBack.{number-back, sample-back, decimal_no_tab, parted, samples-parted}
use Rattle.lines.specs.Lines.{block, each, line_of, block_in, record_in, same, read, block_line, block_word}
use Rattle.lines.specs.Laws.{read_short}

-- a printed number is one field
printed_field : (n : ℕ) → fields (decimal n) ≡ decimal n ∷ []
printed_field n = one_field (decimal n) (decimal_no_tab n)

pub samples-back : (xs : List ℤ) → Samples xs → each sample (map signed xs) ≡ Some xs
unfolding each
samples-back [] f = refl
samples-back (x ∷ xs) f = rw (sample-back x (f.each 0), samples-back xs (record { each = λ i. f.each (suc i) }))

-- the answer to a block is parted again into number, written, repeated, dropped and the samples out
pub answer-parted : (a : Answer) (ys : List ℤ) (line : List ℕ) → block_line a ys ≡ line ++ (10 ∷ []) →
    fields line ≡ decimal a.number ∷ decimal a.written ∷ decimal a.repeated ∷ decimal a.dropped ∷ map signed (take a.written ys)
answer-parted a ys line e =
    let xs = take a.written ys in
    let four = decimal a.number ++ (9 ∷ decimal a.written) ++ (9 ∷ decimal a.repeated) ++ (9 ∷ decimal a.dropped) in
    ap fields (sym (append_cancel_right (four ++ sample_fields xs) line (10 ∷ []) e))
    ∙ samples-parted four xs
    ∙ simp (parted, printed_field)

-- a block as a line to send
abbrev pub block_as_line : ℕ → List ℤ → List ℕ
block_as_line k xs = block_word ++ (9 ∷ decimal k) ++ sample_fields xs

-- the line says that block
pub block_back : (k : ℕ) (xs : List ℤ) → k ≤ 65535 → length xs ≤ 512 → Samples xs → read (block_as_line k xs) ≡ block k xs
unfolding fields onto record_in same block_in line_of
block_back k xs h few f =
    let short : length (block_as_line k xs) ≤ 8192 = omega (arith, length-append (block_word ++ (9 ∷ decimal k)) (sample_fields xs), length-append block_word (9 ∷ decimal k), decimal-short k, fields-short xs) in
    read_short (block_as_line k xs) short
    ∙ ap block_in (samples-parted (decimal k) xs ∙ ap (λ (fs : List (List ℕ)). fs ++ map signed xs) (printed_field k))
    ∙ rw (number-back 65535 k (omega arith) h, samples-back xs f)
