-- A mended file as K4 reads it: its walk, to the end of the RIFF chunk, finds the fmt and the mended data;
-- so it is refused by nothing but an odd data size, 22, or a chunk behind the data that runs past the RIFF chunk, 24.
use Rattle.std.specs.Prelude.{◌≡◌, false, ◌||◌, List, ℕ, ◌+◌, ◌-◌, ◌/◌, ◌%◌, ◌≤◌, ltb, length, Some}
use Rattle.std.proofs.Common.{sym, ap, ◌∙◌, arith, ltb-false, ne_eqb}
use Rattle.whole.specs.Tests.{cond_case, neither}
use Rattle.riff.specs.declared.Chunk.{Chunk}
use Rattle.riff.specs.Riff.{number_at, any_past, fmt_name, data_name}
use Rattle.riff.specs.Chunks.{first-shorter}
use Rattle.wave.specs.Waves.{riff_end_of, walk_end, chunks_of, fmt_of, data_of, refusal, place_in, place_of, count_in, count_of}
use Rattle.wave.specs.Judging.{Right, of_right}
use Rattle.mending.specs.declared.Mending.{Mending}
use Rattle.mending.specs.Mendings.{left, riff_size, mending_of, MendedIsRead}
use Rattle.mending.specs.Twice.{data_inside, riff-inside, Mendable, mendable, mending_is, mended-is, at, size, outer, length-same, high, riff-stored, data_new, fmt-both, fmt-kept, fmt-taken, begins}

-- the mended RIFF size reaches as far as the mended data
riff-reaches : (n old end : ℕ) → 8 ≤ n → end ≤ n → end ≤ 8 + riff_size n old end
unfolding riff_size
riff-reaches n old end h l =
    cond_case (left old || ltb n (8 + old) || ltb (8 + old) end) (n - 8) old (λ (s : ℕ). end ≤ 8 + s) (λ e. omega arith)
    (λ e. ltb-false (8 + old) end (neither (left old || ltb n (8 + old)) (ltb (8 + old) end) e).1)

module _ (file : List ℕ) (m : Mendable file) where
  -- the end of its RIFF chunk lies behind the data, and inside the file
  covers : at file m + 8 + size file m ≤ riff_end_of (outer file m)
  covers =
      omega
      (arith, riff-stored file m, riff-reaches (length file) (number_at file 4 4) (at file m + 8 + size file m) (omega (arith, high file m)) (data_inside (length file) (at file m + 8) m.data'.size (high file m)))

  inside : riff_end_of (outer file m) ≤ length (outer file m)
  inside = omega (arith, riff-stored file m, length-same file m, riff-inside (length file) (number_at file 4 4) (at file m + 8 + size file m) (omega (arith, high file m)))

  end_is : walk_end (outer file m) ≡ riff_end_of (outer file m)
  end_is = omega (arith, inside)

  pub data_read : data_of (outer file m) ≡ Some (record { at = at file m; name = m.data'.name; size = size file m })
  data_read =
      let g = outer file m in
      let d : Chunk = record { at = at file m; name = m.data'.name; size = size file m } in
      first-shorter g data_name (length g) (walk_end g) d (omega (arith, covers, end_is)) (length g) (walk_end g) 12 (omega arith) (data_new file m)

  pub fmt-read : fmt_of (outer file m) ≡ Some m.fmt
  fmt-read =
      let g = outer file m in
      first-shorter g fmt_name (length g) (walk_end g) m.fmt (omega (arith, covers, end_is, (fmt-both file m).1)) (length g) (walk_end g) 12 (omega arith) (fmt-kept file m)

  -- it is taken
  pub mended-right : size file m % 2 ≡ 0 → any_past (riff_end_of (outer file m)) (chunks_of (outer file m)) ≡ false → Right (outer file m)
  mended-right even past =
      record {
        wave = begins file m;
        fmt = m.fmt;
        fmt-is = fmt-read;
        fmt-right = fmt-taken file m (walk_end (outer file m)) (omega (arith, covers, end_is));
        data' = record { at = at file m; name = m.data'.name; size = size file m };
        data_is = data_read;
        order = m.order;
        even = ne_eqb (size file m % 2) 1 (λ e. omega (arith, even, e));
        none-past = past;
        riff-inside = inside;
      }

pub mended-read : MendedIsRead
unfolding place_in count_in
mended-read file u even past =
    let m = mendable file u in
    let e = mended-is file m in
    let n = ap (λ (k : Mending). k.data.new) (mending_is file m) in
    let place : (mending_of file).data.at ≡ m.data'.at + 4 = ap (λ (k : Mending). k.data.at) (mending_is file m) in
    let r = mended-right file m (ap (λ (k : ℕ). k % 2) (sym n) ∙ even) (ap (λ (g : List ℕ). any_past (riff_end_of g) (chunks_of g)) (sym e) ∙ past) in (
      ap refusal e ∙ of_right (outer file m) r,
      ap place_of e ∙ ap place_in (data_read file m) ∙ omega (arith, place),
      ap count_of e ∙ ap count_in (data_read file m) ∙ ap (λ (k : ℕ). k / 2) (sym n),
    )
