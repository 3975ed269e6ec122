-- Mending changes no byte but the two sizes' eight, and mending twice changes nothing more:
-- the walk over the mended file comes by the same chunks as far as the data, and each new size is its own mending.
use Rattle.std.specs.Prelude.{◌≡◌, refl, Bool, true, not, cond, ◌&&◌, ◌||◌, List, ◌∷◌, ltb, length, get_or, Option, Some, None}
use Rattle.std.proofs.Common.{sym, ◌∙◌, inl, inr, ⊎_elim, arith}
use Rattle.std.proofs.Math.Path.{ap, subst}
use Rattle.std.proofs.Math.Bool.{false}
use Rattle.std.proofs.lemmas.Option.{same_Some, none-some}
use Prim.Native.Nat.{ℕ, zero, suc, ◌+◌, ◌-◌, ◌%◌, ◌≤◌, ◌<◌}
use borrow.Author.Tests.{le-leb, leb-true, leb-false, ltb-false, eqb-true, not-false}
use Rattle.std.proofs.Math.Dec.{leb, eqb}
use Rattle.std.proofs.lemmas.List.Edits.{sets}
use Rattle.std.proofs.Math.Seq.{length-sets}
use Rattle.whole.specs.Tests.{by, cond_case, cond_no, yes_and_no, neither, and_left, and_right}
use Rattle.riff.specs.declared.Chunk.{Chunk}
use Rattle.riff.specs.Riff.{number_at, bytes_of, chunk_at, body, next, chunks_from, chunks, first_of, fmt_name, data_name, refused_by}
use Rattle.riff.specs.Stores.{Outside, outside_stays, inside-stored, stored-again}
use Rattle.riff.specs.Numbers.{length-bytes_of, number_outside, number-stored}
use Rattle.riff.specs.Chunks.{first-here, first-later, first-before}
use Rattle.riff.specs.Walking.{chunks-more}
use Rattle.riff.specs.Refusals.{passed}
use Rattle.wave.specs.Waves.{riff_name, wave_name, is_wave, fields_right, fmt_right, no_fmt, wrong_fmt, no_data}
use Rattle.wave.specs.Pieces.{fields-same}
use Rattle.mending.specs.Mendings.{fmt_in, data_in, unmended, left, data_size, riff_size, sizes_of, mending_in, mending_of, mended_by, mended, NotOfFour, OnlyTheSizes, MendedTwice}

-- ---- a walk over two files that are the same, from place 12 on, but for the data chunk's size
module _ (file file' : List ℕ) (end : ℕ) (d : Chunk) (size : ℕ) (same : (at k : ℕ) → 12 ≤ at → at + k ≤ d.at + 4 → number_at file' at k ≡ number_at file at k)
    (stored : number_at file' (d.at + 4) 4 ≡ size) where
  -- a chunk before the data
  chunk_same : (at : ℕ) → 12 ≤ at → at + 8 ≤ d.at → chunk_at file' at ≡ chunk_at file at
  chunk_same at l h = λ i. record { at = at; name = same at 4 l (omega arith) i; size = same (at + 4) 4 (omega arith) (omega arith) i }

  -- a chunk that is not the data's, where the data is still to come, stands before it
  before_data : (n at : ℕ) → first_of data_name (chunks_from n file end (next (chunk_at file at))) ≡ Some d → at + 8 ≤ d.at
  before_data n at e = omega (arith, (first-before file end data_name n (next (chunk_at file at)) d e).from)

  -- the data, with its new size
  data' : Chunk
  data' = record { at = d.at; name = d.name; size = size }

  data_same : (n at : ℕ) → 12 ≤ at → first_of data_name (chunks_from n file end at) ≡ Some d → first_of data_name (chunks_from n file' end at) ≡ Some data'
  unfolding chunks_from first_of data'
  data_same zero at l e = absurd (none-some d e)
  data_same (suc n) at l e =
      by (leb (at + 8) end)
      (λ y.
      by (eqb (chunk_at file at).name data_name)
      (λ z.
      let w = same_Some (chunk_at file at) d (rw (y, z) at e) in
      let a = ap (λ (c : Chunk). c.at) w in
      let m = same at 4 l (omega (arith, a)) in
      ap (first_of data_name) (chunks-more file' end n at (leb-true (at + 8) end y))
      ∙ first-here data_name (chunk_at file' at) (chunks_from n file' end (next (chunk_at file' at))) (ap (λ (k : ℕ). eqb k data_name) m ∙ z)
      ∙ (λ i. Some (record { at = a i; name = (m ∙ ap (λ (c : Chunk). c.name) w) i; size = (ap (λ (k : ℕ). number_at file' (k + 4) 4) a ∙ stored) i })))
      (λ z.
      let r : first_of data_name (chunks_from n file end (next (chunk_at file at))) ≡ Some d = rw (y, z) at e in
      ap (first_of data_name) (chunks-more file' end n at (leb-true (at + 8) end y))
      ∙ ap (λ (c : Chunk). first_of data_name (c ∷ chunks_from n file' end (next c))) (chunk_same at l (before_data n at r))
      ∙ first-later data_name (chunk_at file at) (chunks_from n file' end (next (chunk_at file at))) z
      ∙ data_same n (next (chunk_at file at)) (omega arith) r))
      (λ y. absurd (none-some d (rw y at e)))

  -- a fmt before the data
  module _ (f : Chunk) (order : f.at ≤ d.at) where
    fmt-same : (n at : ℕ) → 12 ≤ at → first_of data_name (chunks_from n file end at) ≡ Some d → first_of fmt_name (chunks_from n file end at) ≡ Some f →
        (first_of fmt_name (chunks_from n file' end at) ≡ Some f) × (next f ≤ d.at)
    unfolding chunks_from first_of number_at
    fmt-same zero at l e g = absurd (none-some d e)
    fmt-same (suc n) at l e g =
        let c = chunk_at file at in
        by (leb (at + 8) end)
        (λ y.
        by (eqb c.name data_name)
        (λ z.
        let a = ap (λ (k : Chunk). k.at) (same_Some c d (rw (y, z) at e)) in
        let t : eqb c.name fmt_name ≡ false = ap (λ (k : ℕ). eqb k fmt_name) (eqb-true c.name data_name z) in
        let h : first_of fmt_name (chunks_from n file end (next c)) ≡ Some f = rw (y, t) at g in
        absurd (omega (arith, a, (first-before file end fmt_name n (next c) f h).from)))
        (λ z.
        let r : first_of data_name (chunks_from n file end (next c)) ≡ Some d = rw (y, z) at e in
        let s = ap (first_of fmt_name) (chunks-more file' end n at (leb-true (at + 8) end y)) ∙ ap (λ (k : Chunk). first_of fmt_name (k ∷ chunks_from n file' end (next k))) (chunk_same at l (before_data n at r)) in
        by (eqb c.name fmt_name)
        (λ t.
        let w : c ≡ f = same_Some c f (rw (y, t) at g) in
        (s ∙ first-here fmt_name c (chunks_from n file' end (next c)) t ∙ ap Some w, subst (λ (k : Chunk). next k ≤ d.at) w (first-before file end data_name n (next c) d r).from))
        (λ t.
        let h : first_of fmt_name (chunks_from n file end (next c)) ≡ Some f = rw (y, t) at g in
        let i = fmt-same n (next c) (omega arith) r h in
        (s ∙ first-later fmt_name c (chunks_from n file' end (next c)) t ∙ i.0, i.1))))
        (λ y. absurd (none-some d (rw y at e)))

-- ---- the sizes

-- what was mended once is its own mending: a bad size becomes r, whatever it was
settled : (bad : ℕ → Bool) (r size : ℕ) → (let new = cond (bad size) r size in cond (bad new) r new ≡ new)
settled bad r size = by_test (bad size) refl
  where
    same : (t : Bool) → cond t r r ≡ r
    same true = refl
    same false = refl

    by_test : (t : Bool) → bad size ≡ t → (let new = cond t r size in cond (bad new) r new ≡ new)
    by_test true e = same (bad r)
    by_test false e = cond_no r size e

data_settled : (n from size : ℕ) → data_size n from (data_size n from size) ≡ data_size n from size
unfolding data_size
data_settled n from size = let rest = n - from in settled (λ (s : ℕ). left s || ltb n (from + s)) (rest - rest % 2) size

riff-settled : (n riff end : ℕ) → riff_size n (riff_size n riff end) end ≡ riff_size n riff end
unfolding riff_size
riff-settled n riff end = settled (λ (s : ℕ). left s || ltb n (8 + s) || ltb (8 + s) end) (n - 8) riff

-- they lie inside the file
pub data_inside : (n from size : ℕ) → from ≤ n → from + data_size n from size ≤ n
unfolding data_size
data_inside n from size h =
    let rest = n - from in
    cond_case (left size || ltb n (from + size)) (rest - rest % 2) size (λ (s : ℕ). from + s ≤ n) (λ e. omega arith) (λ e. ltb-false n (from + size) (neither (left size) (ltb n (from + size)) e).1)

pub riff-inside : (n riff end : ℕ) → 8 ≤ n → 8 + riff_size n riff end ≤ n
unfolding riff_size
riff-inside n riff end h =
    cond_case (left riff || ltb n (8 + riff) || ltb (8 + riff) end) (n - 8) riff (λ (s : ℕ). 8 + s ≤ n) (λ e. omega arith)
    (λ e. ltb-false n (8 + riff) (neither (left riff) (ltb n (8 + riff)) (neither (left riff || ltb n (8 + riff)) (ltb (8 + riff) end) e).0).1)

-- ---- a file that is not refused
pub record Mendable (file : List ℕ) : Type 0 where
  pub wave : is_wave file ≡ true
  pub short : leb 2147483648 (length file) ≡ false
  pub fmt : Chunk
  pub fmt-is : fmt_in file ≡ Some fmt
  pub fmt-right : fmt_right file (length file) fmt ≡ true
  pub data' : Chunk
  pub data_is : data_in file ≡ Some data'
  pub order : ltb data'.at fmt.at ≡ false

pub mendable : (file : List ℕ) → unmended file ≡ 0 → Mendable file
unfolding unmended no_fmt wrong_fmt no_data
mendable file e =
    let a = passed 19 (not (is_wave file)) _ e in
    let b = passed 28 (leb 2147483648 (length file)) _ a.1 in
    let c = passed 25 (no_fmt (fmt_in file) (data_in file) || wrong_fmt file (length file) (fmt_in file)) _ b.1 in
    let d = passed 26 (no_data (data_in file)) _ c.1 in
    let w = neither (no_fmt (fmt_in file) (data_in file)) (wrong_fmt file (length file) (fmt_in file)) c.0 in
    found (fmt_in file) (data_in file) refl refl (not-false (is_wave file) a.0) b.0 w.0 w.1 d.0
  where
    found : (o d : Option Chunk) → fmt_in file ≡ o → data_in file ≡ d → is_wave file ≡ true → leb 2147483648 (length file) ≡ false → no_fmt o d ≡ false → wrong_fmt file (length file) o ≡ false → no_data d ≡ false → Mendable file
    found None d x y v s b w n = absurd (yes_and_no refl b)
    found (Some f) None x y v s b w n = absurd (yes_and_no refl n)
    found (Some f) (Some d) x y v s b w n = record { wave = v; short = s; fmt = f; fmt-is = x; fmt-right = not-false (fmt_right file (length file) f) w; data' = d; data_is = y; order = b }

module _ (file : List ℕ) (m : Mendable file) where
  pub of_mendable : unmended file ≡ 0
  unfolding unmended refused_by no_fmt wrong_fmt no_data
  of_mendable = rw (m.wave, m.short, m.fmt-is, m.data_is, m.order, m.fmt-right)

  pub mending_is : mending_of file ≡ sizes_of (length file) (number_at file 4 4) m.data'.at m.data'.size
  unfolding mending_of mending_in
  mending_is = rw (of_mendable, m.data_is)

-- ---- the mended file
module _ (file : List ℕ) (m : Mendable file) where
  abbrev pub at : ℕ
  at = m.data'.at

  abbrev pub size : ℕ
  size = data_size (length file) (at + 8) m.data'.size

  abbrev pub riff : ℕ
  riff = riff_size (length file) (number_at file 4 4) (at + 8 + size)

  abbrev pub inner : List ℕ
  inner = sets file 4 (bytes_of 4 riff)

  abbrev pub outer : List ℕ
  outer = sets inner (at + 4) (bytes_of 4 size)

  pub mended-is : mended file ≡ outer
  unfolding mended
  mended-is = rw (mending_is file m)

  pub length-same : length outer ≡ length file
  length-same = length-sets inner (at + 4) (bytes_of 4 size) ∙ length-sets file 4 (bytes_of 4 riff)

  -- the data chunk's place
  pub low : 12 ≤ at
  low = (first-before file (length file) data_name (length file) 12 m.data' m.data_is).from

  pub high : at + 8 ≤ length file
  high = (first-before file (length file) data_name (length file) 12 m.data' m.data_is).to

  pub few : length file < 2147483648
  few = leb-false 2147483648 (length file) m.short

  -- numbers of the mended file
  number_same : (p k : ℕ) → Outside 4 4 p k → Outside (at + 4) 4 p k → number_at outer p k ≡ number_at file p k
  number_same p k o r =
      number_outside inner (at + 4) (bytes_of 4 size) p k (subst (λ (n : ℕ). Outside (at + 4) n p k) (sym (length-bytes_of 4 size)) r)
      ∙ number_outside file 4 (bytes_of 4 riff) p k (subst (λ (n : ℕ). Outside 4 n p k) (sym (length-bytes_of 4 riff)) o)

  pub size-stored : number_at outer (at + 4) 4 ≡ size
  size-stored = number-stored inner (at + 4) 4 size (omega (arith, length-sets file 4 (bytes_of 4 riff), high)) (omega (arith, data_inside (length file) (at + 8) m.data'.size high, few))

  pub riff-stored : number_at outer 4 4 ≡ riff
  riff-stored =
      number_outside inner (at + 4) (bytes_of 4 size) 4 4 (inl (omega (arith, low)))
      ∙ number-stored file 4 4 riff (omega (arith, high, low)) (omega (arith, riff-inside (length file) (number_at file 4 4) (at + 8 + size) (omega (arith, high)), few))

  from_12 : (p k : ℕ) → 12 ≤ p → p + k ≤ at + 4 → number_at outer p k ≡ number_at file p k
  from_12 p k l h = number_same p k (inr (omega arith)) (inl h)

  -- its chunks
  pub data_new : data_in outer ≡ Some (record { at = at; name = m.data'.name; size = size })
  unfolding data'
  data_new =
      ap (λ (n : ℕ). first_of data_name (chunks outer n)) length-same
      ∙ data_same file outer (length file) m.data' size from_12 size-stored (length file) 12 (omega arith) m.data_is

  pub fmt-both : (first_of fmt_name (chunks outer (length file)) ≡ Some m.fmt) × (next m.fmt ≤ at)
  fmt-both = fmt-same file outer (length file) m.data' size from_12 size-stored m.fmt (ltb-false at m.fmt.at m.order) (length file) 12 (omega arith) m.data_is m.fmt-is

  pub fmt-kept : fmt_in outer ≡ Some m.fmt
  fmt-kept = ap (λ (n : ℕ). first_of fmt_name (chunks outer n)) length-same ∙ fmt-both.0

  -- its fmt is taken, before any end that does not come before the data
  pub fmt-taken : (end : ℕ) → at ≤ end → fmt_right outer end m.fmt ≡ true
  unfolding fmt_right
  fmt-taken end h =
      let f = m.fmt in
      let t = leb 16 f.size in
      let u = leb (body f + 16) (length file) in
      let w = and_left (t && u) (fields_right file (body f)) m.fmt-right in
      let long = leb-true 16 f.size (and_left t u w) in
      let l = (first-before file (length file) fmt_name (length file) 12 f m.fmt-is).from in
      let e = fields-same outer file (body f) (body f) (λ i k h. from_12 (body f + i) k (omega (arith, l)) (omega (arith, long, fmt-both.1))) in
      rw (and_left t u w, le-leb (body f + 16) end (omega (arith, long, fmt-both.1)), e ∙ and_right (t && u) (fields_right file (body f)) m.fmt-right)

  pub begins : is_wave outer ≡ true
  unfolding is_wave
  begins =
      (λ i. leb 12 (length-same i) && eqb (number_same 0 4 (inl (omega arith)) (inl (omega (arith, low))) i) riff_name && eqb (number_same 8 4 (inr (omega arith)) (inl (omega (arith, low))) i) wave_name)
      ∙ m.wave

  again : Mendable outer
  again =
      record {
        wave = begins;
        short = ap (leb 2147483648) length-same ∙ m.short;
        fmt = m.fmt;
        fmt-is = fmt-kept;
        fmt-right = fmt-taken (length outer) (omega (arith, length-same, high));
        data' = record { at = at; name = m.data'.name; size = size };
        data_is = data_new;
        order = m.order;
      }

  -- the same sizes again, which stand there already
  size-again : data_size (length outer) (at + 8) size ≡ size
  size-again = ap (λ (n : ℕ). data_size n (at + 8) size) length-same ∙ data_settled (length file) (at + 8) m.data'.size

  riff-again : riff_size (length outer) (number_at outer 4 4) (at + 8 + data_size (length outer) (at + 8) size) ≡ riff
  riff-again = (λ i. riff_size (length-same i) (riff-stored i) (at + 8 + size-again i)) ∙ riff-settled (length file) (number_at file 4 4) (at + 8 + size)

  riff_there : sets outer 4 (bytes_of 4 riff) ≡ outer
  riff_there =
      let b = length-bytes_of 4 riff in
      stored-again outer 4 (bytes_of 4 riff) 0
      (λ k h.
      outside_stays inner (at + 4) (bytes_of 4 size) (4 + k) 0 (inl (omega (arith, b, low)))
      ∙ inside-stored file 4 (bytes_of 4 riff) k 0 (omega (arith, b, low, high)) h)

  size_there : sets outer (at + 4) (bytes_of 4 size) ≡ outer
  size_there = stored-again outer (at + 4) (bytes_of 4 size) 0 (inside_there)
    where
      inside_there : (k : ℕ) → k < length (bytes_of 4 size) → get_or outer (at + 4 + k) 0 ≡ get_or (bytes_of 4 size) k 0
      inside_there k h = inside-stored inner (at + 4) (bytes_of 4 size) k 0 (omega (arith, length-bytes_of 4 size, length-sets file 4 (bytes_of 4 riff), high)) h

  both_there : sets (sets outer 4 (bytes_of 4 (riff_size (length outer) (number_at outer 4 4) (at + 8 + data_size (length outer) (at + 8) size)))) (at + 4) (bytes_of 4 (data_size (length outer) (at + 8) size)) ≡ outer
  both_there =
      (λ i. sets (sets outer 4 (bytes_of 4 (riff-again i))) (at + 4) (bytes_of 4 (size-again i)))
      ∙ ap (λ (l : List ℕ). sets l (at + 4) (bytes_of 4 size)) riff_there
      ∙ size_there

outer-again : (file : List ℕ) (m : Mendable file) → mended (outer file m) ≡ outer file m
unfolding again
outer-again file m = mended-is (outer file m) (again file m) ∙ both_there file m

-- ---- any file

-- one that is refused stays
refused-stays : (file : List ℕ) → eqb (unmended file) 0 ≡ false → mended file ≡ file
unfolding mended mending_of
refused-stays file e = rw (e, e)

pub mended-twice : MendedTwice
mended-twice file =
    by (eqb (unmended file) 0)
    (λ e. let m = mendable file (eqb-true (unmended file) 0 e) in ap mended (mended-is file m) ∙ outer-again file m ∙ sym (mended-is file m))
    (λ e. ap mended (refused-stays file e))

-- four bytes stored
four_outside : (at n : ℕ) {i : ℕ} → NotOfFour at i → Outside at (length (bytes_of 4 n)) i 1
four_outside at n o = ⊎_elim (λ h. inl (omega arith)) (λ h. inr (omega (arith, h, length-bytes_of 4 n))) o

pub only_the_sizes : OnlyTheSizes
unfolding mended
only_the_sizes file =
    let m = mending_of file in
    let one = sets file m.riff.at (bytes_of 4 m.riff.new) in (
      cond_case (eqb m.number 0) (mended_by file m) file (λ (l : List ℕ). length l ≡ length file)
          (λ e. length-sets one m.data.at (bytes_of 4 m.data.new) ∙ length-sets file m.riff.at (bytes_of 4 m.riff.new)) (λ e. refl),
      λ i o r.
          cond_case (eqb m.number 0) (mended_by file m) file (λ (l : List ℕ). get_or l i 0 ≡ get_or file i 0)
          (λ e.
          outside_stays one m.data.at (bytes_of 4 m.data.new) i 0 (four_outside m.data.at m.data.new r)
          ∙ outside_stays file m.riff.at (bytes_of 4 m.riff.new) i 0 (four_outside m.riff.at m.riff.new o))
          (λ e. refl),
    )
