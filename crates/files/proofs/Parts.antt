-- Takes that are moved in parts: the parts' bytes together are the take's, and so are the samples.
use Rattle.std.specs.Prelude.{◌≡◌, ℕ, ◌+◌, ◌-◌, ◌*◌, ◌<◌, ℤ, pos, length, get_or}
use Rattle.std.proofs.Math.Path.{refl}
use Rattle.std.proofs.Common.{sym, ap, ◌∙◌, arith, length-append, get_or-append-add}
use mathlib.Core.List.{List, [], ◌∷◌, ◌++◌, append_assoc, map}
use Rattle.std.proofs.Math.Decide.{dec_lt}
use Rattle.std.proofs.Math.ListN.{get_or-append}
use Rattle.whole.specs.Numbers.{list_of}
use Rattle.whole.specs.Lists.{length-list_of, get_or-list_of, is-list_of}
use Rattle.riff.specs.Riff.{number_at, bytes_of}
use Rattle.wave.specs.Waves.{sample_of, samples_at}
use Rattle.wave.specs.Pieces.{samples_piece}
use Rattle.writing.specs.Canonical.{bits_of, sample_bytes, header}
use Rattle.files.specs.Files.{joined, WrittenInParts, parts_at, total, ReadInParts}

-- ---- written
bytes-together : (xs ys : List ℤ) → sample_bytes (xs ++ ys) ≡ sample_bytes xs ++ sample_bytes ys
unfolding sample_bytes
bytes-together [] ys = refl
bytes-together (x ∷ xs) ys = ap (λ (l : List ℕ). bytes_of 2 (bits_of x) ++ l) (bytes-together xs ys) ∙ sym (append_assoc (bytes_of 2 (bits_of x)) (sample_bytes xs) (sample_bytes ys))

bytes-joined : (parts : List (List ℤ)) → joined (map sample_bytes parts) ≡ sample_bytes (joined parts)
unfolding sample_bytes
bytes-joined [] = refl
bytes-joined (part ∷ parts) = ap (λ (l : List ℕ). sample_bytes part ++ l) (bytes-joined parts) ∙ sym (bytes-together part (joined parts))

pub written_in_parts : WrittenInParts
written_in_parts hertz parts = ap (λ (l : List ℕ). header hertz (2 * length (joined parts)) ++ l) (bytes-joined parts)

-- ---- read
module _ (file : List ℕ) where
  -- samples, and further ones behind them
  samples-together : (at n m : ℕ) → samples_at file at n ++ samples_at file (at + 2 * n) m ≡ samples_at file at (n + m)
  samples-together at n m = is-list_of f (n + m) (pos 0) (samples_at file at n ++ samples_at file (at + 2 * n) m) (omega (arith, length-append (samples_at file at n) (samples_at file (at + 2 * n) m), length-list_of f n, length-list_of g m)) (λ k h. by_place k h (dec_lt k n))
    where
      f : ℕ → ℤ
      f k = sample_of (number_at file (at + 2 * k) 2)

      g : ℕ → ℤ
      g k = sample_of (number_at file (at + 2 * n + 2 * k) 2)

      by_place : (k : ℕ) → k < n + m → Dec (k < n) → get_or (samples_at file at n ++ samples_at file (at + 2 * n) m) k (pos 0) ≡ f k
      by_place k h (yes l) = get_or-append (samples_at file at n) (samples_at file (at + 2 * n) m) (pos 0) k (omega (arith, length-list_of f n)) ∙ get_or-list_of f n k (pos 0) l
      by_place k h (no l) =
          let e : k ≡ length (samples_at file at n) + (k - n) = omega (arith, length-list_of f n) in
          let p : at + 2 * n + 2 * (k - n) ≡ at + 2 * k = omega arith in
          ap (λ (j : ℕ). get_or (samples_at file at n ++ samples_at file (at + 2 * n) m) j (pos 0)) e
          ∙ get_or-append-add (samples_at file at n) (samples_at file (at + 2 * n) m) (k - n) (pos 0)
          ∙ get_or-list_of g m (k - n) (pos 0) (omega arith)
          ∙ ap (λ (j : ℕ). sample_of (number_at file j 2)) p

  in_parts : (at : ℕ) (counts : List ℕ) → joined (parts_at file at counts) ≡ samples_at file at (total counts)
  unfolding list_of
  in_parts at [] = refl
  in_parts at (n ∷ counts) = (λ i. samples_piece file at n i ++ in_parts (at + 2 * n) counts i) ∙ samples-together at n (total counts)

pub read_in_parts : ReadInParts
read_in_parts = in_parts
