-- What a whole walk to the file's end decides, over what was found: that it is what the definition says of the file.
use Rattle.std.specs.Prelude.{◌≡◌, Bool, ◌||◌, List, [], ◌∷◌, ℕ, ◌+◌, leb, length, Option, Some, None, is_none}
use Rattle.std.proofs.Math.Path.{refl, sym, ap}
use Rattle.std.proofs.Common.{◌∙◌}
use Rattle.std.proofs.Math.Bool.{true, false, cond}
use borrow.Author.Tests.{le-leb}
use Rattle.std.proofs.Math.Dec.{eqb}
use Rattle.riff.specs.declared.Chunk.{Chunk}
use Rattle.riff.specs.declared.Walk.{Walk}
use Rattle.riff.specs.Riff.{number_at, chunks, data_name, refused_by}
use Rattle.riff.specs.Chunks.{first-before}
use Rattle.riff.specs.Walking.{Seen}
use Rattle.wave.specs.Waves.{is_wave, no_fmt, wrong_fmt, no_data}
use Rattle.wave.specs.Judged.{fmt_rate}
use Rattle.wave.specs.Judging.{wrong_is}
use Rattle.mending.specs.Decided.{sizes_in, decided}
use Rattle.mending.specs.Mendings.{fmt_in, data_in, unmended, no_mending, mending_in, mending_of}

module _ (file : List ℕ) where
  pub not_wave : is_wave file ≡ false → mending_of file ≡ no_mending 20
  unfolding mending_of unmended refused_by
  not_wave e = rw e

  -- the tests over what was found are the tests of the definition
  no_fmt_same : (o d : Option Chunk) → no_fmt o d || is_none (fmt_rate file (length file) o) ≡ no_fmt o d || wrong_fmt file (length file) o
  unfolding no_fmt wrong_fmt
  no_fmt_same None d = refl
  no_fmt_same (Some f) d = ap (λ (t : Bool). no_fmt (Some f) d || t) (wrong_is file (length file) f)

  -- a data chunk that was found is reached
  sizes_same : (d : Option Chunk) → data_in file ≡ d → sizes_in (length file) (number_at file 4 4) d ≡ cond (no_data d) (no_mending 27) (mending_in file d)
  unfolding no_data mending_in
  sizes_same None e = refl
  sizes_same (Some d) e = rw (le-leb (d.at + 8) (length file) (first-before file (length file) data_name (length file) 12 d e).to)

  -- which of them is answered
  answered : (a b : Bool) (d : Option Chunk) →
      cond a (no_mending 29) (cond b (no_mending 26) (cond (no_data d) (no_mending 27) (mending_in file d)))
      ≡ (let n = refused_by ((29, a) ∷ (26, b) ∷ (27, no_data d) ∷ []) in cond (eqb n 0) (mending_in file d) (no_mending n))
  unfolding refused_by no_data
  answered true b d = refl
  answered false true d = refl
  answered false false None = refl
  answered false false (Some d) = refl

  pub decided-is : {w : Walk} {hertz : Option ℕ} {riff : ℕ} → is_wave file ≡ true → Seen (length file) (chunks file (length file)) w → hertz ≡ fmt_rate file (length file) w.fmt → riff ≡ number_at file 4 4 →
      decided w hertz riff (length file) ≡ mending_of file
  unfolding mending_of unmended refused_by
  decided-is {w} {hertz} {riff} v s h r =
      let o = fmt_in file in
      let d = data_in file in
      let e = h ∙ ap (fmt_rate file (length file)) s.fmt in
      let b = (λ i. no_fmt (s.fmt i) (s.data' i) || is_none (e i)) ∙ no_fmt_same o d in
      let f = (λ i. sizes_in (length file) (r i) (s.data' i)) ∙ sizes_same d refl in
      (λ i. cond (leb 2147483648 (length file)) (no_mending 29) (cond (b i) (no_mending 26) (f i)))
      ∙ answered (leb 2147483648 (length file)) (no_fmt o d || wrong_fmt file (length file) o) d
      ∙ sym (rw v)
