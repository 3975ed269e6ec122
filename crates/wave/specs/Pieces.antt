-- A file that is read piece by piece: its first 12 bytes, the 16 of a fmt and those of some samples say by themselves what the file says.
-- (The eight of a chunk's name and size do so by `number-part`.)
use Rattle.std.specs.Prelude.{◌≡◌, ◌&&◌, List, ℕ, ◌+◌, ◌*◌, ◌≤◌, leb, eqb, ℤ, pos, length, take, drop}
use Rattle.std.proofs.Common.{sym, ap, ◌∙◌, add-zero, arith, le-leb, length-take-le, take_all}
use Rattle.std.proofs.Math.Decide.{dec_le}
use Rattle.whole.specs.Numbers.{list_of}
use Rattle.whole.specs.Lists.{length-list_of, get_or-list_of, is-list_of}
use Rattle.riff.specs.Riff.{number_at}
use Rattle.riff.specs.Numbers.{number-part}
use Rattle.wave.specs.Waves.{riff_name, wave_name, is_wave, known, plain, fields_right, sample_of, samples_at}

pub head_piece : (file : List ℕ) → is_wave (take 12 file) ≡ is_wave file
unfolding is_wave
head_piece file = by_length (dec_le 12 (length file))
  where
    by_length : Dec (12 ≤ length file) → is_wave (take 12 file) ≡ is_wave file
    by_length (yes h) =
        let n = number-part file 0 12 in
        let l = ap (leb 12) (length-take-le 12 file h) ∙ sym (le-leb 12 (length file) h) in
        λ i. l i && eqb (n 0 4 (omega arith) i) riff_name && eqb (n 8 4 (omega arith) i) wave_name
    by_length (no n) = ap is_wave (take_all 12 file (omega arith))

-- the fields of a fmt are the same where their bytes are
pub fields-same : (a b : List ℕ) (p q : ℕ) → ((i k : ℕ) → i + k ≤ 16 → number_at a (p + i) k ≡ number_at b (q + i) k) → fields_right a p ≡ fields_right b q
unfolding fields_right plain
fields-same a b p q n =
    let tag = ap (λ (m : ℕ). number_at a m 2) (sym (add-zero p)) ∙ n 0 2 (omega arith) ∙ ap (λ (m : ℕ). number_at b m 2) (add-zero q) in
    let h = n 4 4 (omega arith) in
    λ i. eqb (tag i) 1 && eqb (n 2 2 (omega arith) i) 1 && eqb (n 12 2 (omega arith) i) 2 && eqb (n 14 2 (omega arith) i) 16 && known (h i) && eqb (n 8 4 (omega arith) i) (2 * h i)

pub fields_piece : (file : List ℕ) (at : ℕ) → fields_right (take 16 (drop at file)) 0 ≡ fields_right file at
fields_piece file at =
    fields-same (take 16 (drop at file)) file 0 at
    (λ i k h. let e : 0 + i ≡ i = omega arith in ap (λ (n : ℕ). number_at (take 16 (drop at file)) n k) e ∙ number-part file at 16 i k h)

pub samples_part : (file : List ℕ) (at m count : ℕ) → 2 * count ≤ m → samples_at (take m (drop at file)) 0 count ≡ samples_at file at count
samples_part file at m count h =
    let part = take m (drop at file) in
    let f : ℕ → ℤ = λ (k : ℕ). sample_of (number_at part (0 + 2 * k) 2) in
    is-list_of (λ (k : ℕ). sample_of (number_at file (at + 2 * k) 2)) count (pos 0) (list_of f count) (length-list_of f count)
    (λ k l.
    let e : 0 + 2 * k ≡ 2 * k = omega arith in
    get_or-list_of f count k (pos 0) l ∙ ap sample_of (ap (λ (n : ℕ). number_at part n 2) e ∙ number-part file at m (2 * k) 2 (omega arith)))

pub samples_piece : (file : List ℕ) (at count : ℕ) → samples_at (take (2 * count) (drop at file)) 0 count ≡ samples_at file at count
samples_piece file at count = samples_part file at (2 * count) count (omega arith)
