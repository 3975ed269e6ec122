-- What is written is read back: the canonical form's chunks are fmt and data, its fields are right, and its samples are those written;
-- and so it stays where other bytes stand behind it.
use Rattle.std.specs.Prelude.{◌≡◌, true, ℤ, pos, get_or, Some}
use Rattle.std.proofs.Math.Path.{refl, sym, ap, subst}
use Rattle.std.proofs.Common.{◌∙◌}
use mathlib.Core.List.{List, [], ◌∷◌, ◌++◌, append_assoc}
use Prim.Native.Nat.{ℕ, zero, suc, ◌+◌, ◌-◌, ◌*◌, ◌/◌, ◌%◌, ◌^◌, ◌≤◌, ◌<◌}
use native.Mathlib.Omega.{arith}
use borrow.Author.Tests.{eq-eqb, ne_eqb, le-leb, le-ltb}
use Rattle.std.proofs.Math.ListN.{length, length-append}
use Rattle.whole.specs.Lists.{is-list_of}
use Rattle.riff.specs.declared.Chunk.{Chunk}
use Rattle.riff.specs.Riff.{number_at, bytes_of, chunk_at, next, chunks_from, first_of, any_past, fmt_name, data_name}
use Rattle.riff.specs.Numbers.{length-bytes_of, number_behind, number-back}
use Rattle.riff.specs.Walking.{chunks-end, chunks-more}
use Rattle.wave.specs.Waves.{is_wave, riff_end_of, walk_end, chunks_of, fmt_of, data_of, known, plain, fields_right, fmt_right, rate_in, rate_of, place_in, place_of, count_in, count_of, sample_of, samples_at}
use Rattle.wave.specs.Rates.{known_small}
use Rattle.wave.specs.Judging.{Right, of_right}
use Rattle.writing.specs.Canonical.{bits_of, sample_bytes, format, header, canonical, limit, Samples, TakeOf}
use Rattle.writing.specs.Bits.{bits_small, sample-back, length-sample_bytes}
use Rattle.writing.specs.Writing.{length-header}

-- a header, before so many bytes as it says, and before others
module _ (hertz size : ℕ) (k : known hertz ≡ true) (small : size < 2 ^ 32 - 36) (even : size % 2 ≡ 0) (rest : List ℕ) (room : size ≤ length rest) where
  file : List ℕ
  file = header hertz size ++ rest

  long : length file ≡ 44 + length rest
  unfolding file
  long = length-append (header hertz size) rest ∙ ap (λ (n : ℕ). n + length rest) (length-header hertz size)

  riff-size : number_at file 4 4 ≡ 36 + size
  unfolding file header format bytes_of number_at
  riff-size = number-back 4 (36 + size) [] (omega arith)

  rate-field : number_at file 24 4 ≡ hertz
  unfolding file header format bytes_of number_at
  rate-field = number-back 4 hertz [] (omega (arith, known_small hertz k))

  bytes-field : number_at file 28 4 ≡ 2 * hertz
  unfolding file header format bytes_of number_at
  bytes-field = number-back 4 (2 * hertz) [] (omega (arith, known_small hertz k))

  data_size_lem : number_at file 40 4 ≡ size
  unfolding file header format bytes_of number_at
  data_size_lem = number-back 4 size [] (omega arith)

  begins : is_wave file ≡ true
  unfolding is_wave file header format bytes_of number_at
  begins = rw (le-leb 12 (length file) (omega (arith, long)))

  end_is : walk_end file ≡ 44 + size
  end_is = omega (arith, riff-size, long)

  -- ---- its chunks
  fmt_chunk : Chunk
  fmt_chunk = record { at = 12; name = fmt_name; size = 16 }

  data_chunk : Chunk
  data_chunk = record { at = 36; name = data_name; size = size }

  fmt-at : chunk_at file 12 ≡ fmt_chunk
  unfolding file header format bytes_of number_at fmt_chunk
  fmt-at = refl

  data_at : chunk_at file 36 ≡ data_chunk
  unfolding file header format bytes_of number_at data_chunk
  data_at = λ i. record { at = 36; name = data_name; size = data_size_lem i }

  chunks_are : chunks_of file ≡ fmt_chunk ∷ data_chunk ∷ []
  unfolding fmt_chunk data_chunk
  chunks_are =
      let m = 42 + size in
      let end = suc (suc m) in
      let e : walk_end file ≡ end = omega (arith, end_is) in
      ap (λ (n : ℕ). chunks_from n file n 12) e
      ∙ chunks-more file end (suc m) 12 (omega arith)
      ∙ ap (λ (c : Chunk). c ∷ chunks_from (suc m) file end (next c)) fmt-at
      ∙ ap (λ (cs : List Chunk). fmt_chunk ∷ cs) (chunks-more file end m 36 (omega arith) ∙ ap (λ (c : Chunk). c ∷ chunks_from m file end (next c)) data_at ∙ ap (λ (cs : List Chunk). data_chunk ∷ cs) (chunks-end file end m (next data_chunk) (omega arith)))

  fmt-first : fmt_of file ≡ Some fmt_chunk
  unfolding first_of fmt_chunk data_chunk number_at
  fmt-first = ap (first_of fmt_name) chunks_are

  data_first : data_of file ≡ Some data_chunk
  unfolding first_of fmt_chunk data_chunk number_at
  data_first = ap (first_of data_name) chunks_are

  -- ---- its fmt
  fields : fields_right file 20 ≡ true
  unfolding fields_right plain file header format bytes_of number_at
  fields = rw (ap known rate-field ∙ k) (eq-eqb (number_at file 28 4) (2 * number_at file 24 4) (bytes-field ∙ sym (ap (λ (n : ℕ). 2 * n) rate-field)))

  fmt-taken : fmt_right file (walk_end file) fmt_chunk ≡ true
  unfolding fmt_right fmt_chunk
  fmt-taken = rw (le-leb 36 (walk_end file) (omega (arith, end_is)), fields)

  -- it is taken
  right : Right file
  unfolding fmt_chunk data_chunk any_past
  right =
      record {
        wave = begins;
        fmt = fmt_chunk;
        fmt-is = fmt-first;
        fmt-right = fmt-taken;
        data' = data_chunk;
        data_is = data_first;
        order = refl;
        even = ne_eqb (size % 2) 1 (λ e. omega (arith, even, e));
        none-past = ap (any_past (riff_end_of file)) chunks_are ∙ rw (le-ltb (riff_end_of file) 36 (omega (arith, riff-size)), le-ltb (riff_end_of file) (44 + size) (omega (arith, riff-size)));
        riff-inside = omega (arith, riff-size, long);
      }

  rate-back : rate_of file ≡ hertz
  unfolding rate_in fmt_chunk
  rate-back = ap (rate_in file) fmt-first ∙ rate-field

  place-back : place_of file ≡ 44
  unfolding place_in data_chunk
  place-back = ap place_in data_first

  count-back : count_of file ≡ size / 2
  unfolding count_in data_chunk
  count-back = ap count_in data_first

  -- a number behind the header
  behind-header : (at n : ℕ) → number_at file (44 + at) n ≡ number_at rest at n
  unfolding file
  behind-header at n = ap (λ (m : ℕ). number_at file (m + at) n) (sym (length-header hertz size)) ∙ number_behind (header hertz size) rest at n

-- the bits of each sample stand at its place
bits_at : (xs : List ℤ) (more : List ℕ) (k : ℕ) → k < length xs → Samples xs → number_at (sample_bytes xs ++ more) (2 * k) 2 ≡ bits_of (get_or xs k (pos 0))
unfolding sample_bytes
bits_at [] more k h f = absurd (omega arith)
bits_at (x ∷ xs) more zero h f = ap (λ (l : List ℕ). number_at l 0 2) (append_assoc (bytes_of 2 (bits_of x)) (sample_bytes xs) more) ∙ number-back 2 (bits_of x) (sample_bytes xs ++ more) (bits_small x (f 0))
bits_at (x ∷ xs) more (suc k) h f =
    let e : 2 * suc k ≡ length (bytes_of 2 (bits_of x)) + 2 * k = omega (arith, length-bytes_of 2 (bits_of x)) in
    (λ i. number_at (append_assoc (bytes_of 2 (bits_of x)) (sample_bytes xs) more i) (e i) 2)
    ∙ number_behind (bytes_of 2 (bits_of x)) (sample_bytes xs ++ more) (2 * k) 2
    ∙ bits_at xs more k (omega arith) (λ i. f (suc i))

-- what is written is read back, also where other bytes stand behind it
module _ (hertz : ℕ) (xs : List ℤ) (more : List ℕ) (k : known hertz ≡ true) (few : length xs ≤ limit) (f : Samples xs) where
  small : 2 * length xs < 2 ^ 32 - 36
  small = omega arith

  twice : 2 * length xs % 2 ≡ 0
  twice = omega arith

  behind : List ℕ
  behind = sample_bytes xs ++ more

  enough : 2 * length xs ≤ length behind
  unfolding behind
  enough = omega (arith, length-append (sample_bytes xs) more, length-sample_bytes xs)

  whole : List ℕ
  whole = file hertz (2 * length xs) k small twice behind enough

  whole_is : canonical hertz xs ++ more ≡ whole
  unfolding whole file behind
  whole_is = append_assoc (header hertz (2 * length xs)) (sample_bytes xs) more

  place : place_of whole ≡ 44
  unfolding whole
  place = place-back hertz (2 * length xs) k small twice behind enough

  count : count_of whole ≡ length xs
  unfolding whole
  count = count-back hertz (2 * length xs) k small twice behind enough ∙ omega arith

  sample-at : (i : ℕ) → i < length xs → get_or xs i (pos 0) ≡ sample_of (number_at whole (44 + 2 * i) 2)
  unfolding whole behind
  sample-at i h =
      sym (ap sample_of (behind-header hertz (2 * length xs) k small twice behind enough (2 * i) 2 ∙ bits_at xs more i h f) ∙ sample-back (get_or xs i (pos 0)) (f i))

  pub canonical-back : TakeOf (canonical hertz xs ++ more) hertz xs
  unfolding whole
  canonical-back =
      subst (λ (l : List ℕ). TakeOf l hertz xs) (sym whole_is)
      (record {
        taken = of_right whole (right hertz (2 * length xs) k small twice behind enough);
        rate = rate-back hertz (2 * length xs) k small twice behind enough;
        count = count;
        samples = (λ i. samples_at whole (place i) (count i)) ∙ sym (is-list_of (λ (j : ℕ). sample_of (number_at whole (44 + 2 * j) 2)) (length xs) (pos 0) xs refl sample-at);
      })
