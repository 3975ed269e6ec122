-- What a whole walk over a file comes to, over what was found: that its number is the file's refusal.
use Rattle.std.specs.Prelude.{◌≡◌, Bool, ◌&&◌, ◌||◌, List, [], ◌∷◌, ℕ, ◌+◌, ◌*◌, ◌/◌, ◌%◌, ◌≤◌, ◌<◌, min, ℤ, length, Option, Some, None, is_none, Err}
use Rattle.std.proofs.Math.Path.{refl, sym, ap}
use Rattle.std.proofs.Common.{◌∙◌, subst, arith}
use Rattle.std.proofs.Math.Bool.{true, false, not, cond, or-true}
use Rattle.std.proofs.lemmas.Option.{same_Some}
use borrow.Author.Tests.{leb-true, ltb-false, le-ltb, not-false}
use Rattle.std.proofs.Math.Dec.{leb, ltb, eqb}
use Rattle.whole.specs.Tests.{by, yes_and_no, and_left, and_right, neither}
use Rattle.refusals.specs.declared.Refusal.{Refusal}
use Rattle.refusals.specs.Refusals.{refusal_number}
use Rattle.riff.specs.declared.Walk.{Walk}
use Rattle.riff.specs.declared.Chunk.{Chunk}
use Rattle.riff.specs.Riff.{number_at, body, chunks, any_past, data_name, refused_by}
use Rattle.riff.specs.Chunks.{first-inside}
use Rattle.riff.specs.Refusals.{passed}
use Rattle.riff.specs.Walking.{Seen}
use Rattle.wave.specs.declared.WaveTake.{WaveTake}
use Rattle.wave.specs.Judged.{whole_fmt, fmt_rate, judged, take_answered, TakeIn, no-take, a_take}
use Rattle.wave.specs.Waves.{riff_name, wave_name, is_wave, riff_end_of, walk_end, chunks_of, fmt_of, data_of, known, plain, rate_at, fields_right, fmt_right, no_fmt, wrong_fmt, odd_data, no_data, runs_past, tests, refusal, rate_in, rate_of, place_in, place_of, count_in, count_of, samples_at, over, WasRead, taken}

-- no refusal has the number 0
pub refusal_some : (r : Refusal) → 0 < refusal_number r
refusal_some r = grind arith

-- ---- the fmt

pub fields-known : (file : List ℕ) (at : ℕ) → fields_right file at ≡ true → known (rate_at file at) ≡ true
unfolding fields_right
fields-known file at e = and_right (plain file at) (known (rate_at file at)) (and_left (plain file at && known (rate_at file at)) (eqb (number_at file (at + 8) 4) (2 * rate_at file at)) e)

module _ (file : List ℕ) (end : ℕ) where
  -- a fmt was found: where it is wrong, it has no rate
  pub wrong_is : (f : Chunk) → is_none (fmt_rate file end (Some f)) ≡ not (fmt_right file end f)
  unfolding fmt_right
  wrong_is f = by_tests (whole_fmt (Some f) end) (fields_right file (body f))
    where
      by_tests : (t u : Bool) → is_none (cond t (cond u (Some (rate_at file (body f))) None) None) ≡ not (t && u)
      by_tests true true = refl
      by_tests true false = refl
      by_tests false u = refl

  -- where it is right, it is the rate of the file
  pub right_is : (f : Chunk) → fmt_right file end f ≡ true → fmt_rate file end (Some f) ≡ Some (rate_at file (body f))
  unfolding fmt_right
  right_is f e =
      let w = and_left (whole_fmt (Some f) end) (fields_right file (body f)) e in
      let r = and_right (whole_fmt (Some f) end) (fields_right file (body f)) e in
      rw (w, r)

  -- the tests over what was found are the tests of the definition
  tests_same : (o d : Option Chunk) (p : Bool) →
      refused_by ((21, no_fmt o d) ∷ (22, is_none (fmt_rate file end o) || odd_data d) ∷ (23, no_data d) ∷ (24, p) ∷ [])
      ≡ refused_by ((21, no_fmt o d) ∷ (22, wrong_fmt file end o || odd_data d) ∷ (23, no_data d) ∷ (24, p) ∷ [])
  unfolding refused_by no_fmt wrong_fmt
  tests_same None d p = refl
  tests_same (Some f) d p = ap (λ (t : Bool). refused_by ((21, no_fmt (Some f) d) ∷ (22, t || odd_data d) ∷ (23, no_data d) ∷ (24, p) ∷ [])) (wrong_is f)

-- a chunk that runs past the walk's end runs past the RIFF chunk, where that does not run past the file
past_same : (cs : List Chunk) (riff n : ℕ) → any_past (min riff n) cs || ltb n riff ≡ any_past riff cs || ltb n riff
past_same cs riff n =
    by (ltb n riff)
    (λ y. rw y (or-true (any_past (min riff n) cs) ∙ sym (or-true (any_past riff cs))))
    (λ y. let e : min riff n ≡ riff = omega (arith, ltb-false n riff y) in ap (λ (end : ℕ). any_past end cs || ltb n riff) e)

module _ (file : List ℕ) where
  pub not_wave : is_wave file ≡ false → refusal file ≡ 20
  unfolding refusal tests refused_by
  not_wave e = rw e

  -- a whole walk comes to the file's refusal
  pub judged-is : {w : Walk} {hertz : Option ℕ} → is_wave file ≡ true → Seen (walk_end file) (chunks_of file) w → hertz ≡ fmt_rate file (walk_end file) w.fmt →
      judged w hertz (riff_end_of file) (length file) ≡ refusal file
  unfolding refusal tests refused_by
  judged-is {w} {hertz} v s h =
      let o = fmt_of file in
      let d = data_of file in
      let r = h ∙ ap (fmt_rate file (walk_end file)) s.fmt in
      (λ i.
      refused_by
      ((21, no_fmt (s.fmt i) (s.data' i))
      ∷ (22, is_none (r i) || odd_data (s.data' i))
      ∷ (23, no_data (s.data' i))
      ∷ (24, s.past i || ltb (length file) (riff_end_of file))
      ∷ []))
      ∙ tests_same file (walk_end file) o d (any_past (walk_end file) (chunks_of file) || ltb (length file) (riff_end_of file))
      ∙ ap (λ (p : Bool). refused_by ((21, no_fmt o d) ∷ (22, wrong_fmt file (walk_end file) o || odd_data d) ∷ (23, no_data d) ∷ (24, p) ∷ [])) (past_same (chunks_of file) (riff_end_of file) (length file))
      ∙ sym (rw v)

-- ---- a file that is not refused
pub record Right (file : List ℕ) : Type 0 where
  pub wave : is_wave file ≡ true
  pub fmt : Chunk
  pub fmt-is : fmt_of file ≡ Some fmt
  pub fmt-right : fmt_right file (walk_end file) fmt ≡ true
  pub data' : Chunk
  pub data_is : data_of file ≡ Some data'
  pub order : ltb data'.at fmt.at ≡ false
  pub even : eqb (data'.size % 2) 1 ≡ false
  pub none-past : any_past (riff_end_of file) (chunks_of file) ≡ false
  pub riff-inside : riff_end_of file ≤ length file

pub right_of : (file : List ℕ) → refusal file ≡ 0 → Right file
unfolding refusal tests no_fmt wrong_fmt odd_data no_data
right_of file e =
    let a = passed 19 (not (is_wave file)) _ e in
    let b = passed 20 (no_fmt (fmt_of file) (data_of file)) _ a.1 in
    let c = passed 21 (wrong_fmt file (walk_end file) (fmt_of file) || odd_data (data_of file)) _ b.1 in
    let d = passed 22 (no_data (data_of file)) _ c.1 in
    let f = passed 23 (runs_past file) _ d.1 in
    let w = neither (wrong_fmt file (walk_end file) (fmt_of file)) (odd_data (data_of file)) c.0 in
    let p = neither (any_past (riff_end_of file) (chunks_of file)) (ltb (length file) (riff_end_of file)) f.0 in
    found (fmt_of file) (data_of file) refl refl (not-false (is_wave file) a.0) b.0 w.0 w.1 d.0 p.0 (ltb-false (length file) (riff_end_of file) p.1)
  where
    found : (o d : Option Chunk) → fmt_of file ≡ o → data_of file ≡ d → is_wave file ≡ true → no_fmt o d ≡ false → wrong_fmt file (walk_end file) o ≡ false → odd_data d ≡ false → no_data d ≡ false →
        any_past (riff_end_of file) (chunks_of file) ≡ false → riff_end_of file ≤ length file → Right file
    found None d x y v b w o n p r = absurd (yes_and_no refl b)
    found (Some f) None x y v b w o n p r = absurd (yes_and_no refl n)
    found (Some f) (Some d) x y v b w o n p r =
        record { wave = v; fmt = f; fmt-is = x; fmt-right = not-false (fmt_right file (walk_end file) f) w; data' = d; data_is = y; order = b; even = o; none-past = p; riff-inside = r }

module _ (file : List ℕ) (r : Right file) where
  -- it is not refused
  pub of_right : refusal file ≡ 0
  unfolding refusal tests refused_by no_fmt wrong_fmt odd_data no_data
  of_right =
      let p = le-ltb (length file) (riff_end_of file) r.riff-inside in
      rw (r.wave, r.fmt-is, r.data_is, r.order, r.fmt-right, r.even, r.none-past, p)

  -- its samples lie inside the file
  pub samples-inside : place_of file + 2 * count_of file ≤ length file
  unfolding place_in count_in
  samples-inside =
      rw r.data_is
      (omega (arith, first-inside (riff_end_of file) data_name (chunks_of file) r.data' r.data_is r.none-past, r.riff-inside))

  -- its rate is the fmt's, and known
  pub rate-is : rate_of file ≡ rate_at file (body r.fmt)
  unfolding rate_in
  rate-is = rw r.fmt-is

  pub rate-known : known (rate_of file) ≡ true
  unfolding fmt_right
  rate-known =
      let f = r.fmt in
      ap known rate-is ∙ fields-known file (body f) (and_right (leb 16 f.size && leb (body f + 16) (walk_end file)) (fields_right file (body f)) r.fmt-right)

-- ---- the take in a file, by a walk to the walk's end

-- what was learnt of a file, one thing after the other
pub record Surveyed (file : List ℕ) (riff end : ℕ) (hertz : Option ℕ) (w : Walk) : Type 0 where
  pub wave : is_wave file ≡ true
  pub riff-is : riff ≡ riff_end_of file
  pub end_is : end ≡ min riff (length file)
  pub seen : Seen end (chunks file end) w
  pub hertz-is : hertz ≡ fmt_rate file end w.fmt

module _ {file : List ℕ} {riff end : ℕ} {hertz : Option ℕ} {w : Walk} (s : Surveyed file riff end hertz w) where
  walked_to : end ≡ walk_end file
  walked_to = s.end_is ∙ ap (λ (k : ℕ). min k (length file)) s.riff-is

  seen_all : Seen (walk_end file) (chunks_of file) w
  seen_all = subst (λ (k : ℕ). Seen k (chunks file k) w) walked_to s.seen

  pub judged_refusal : judged w hertz riff (length file) ≡ refusal file
  judged_refusal = ap (λ (k : ℕ). judged w hertz k (length file)) s.riff-is ∙ judged-is file s.wave seen_all (s.hertz-is ∙ ap (λ (k : ℕ). fmt_rate file k w.fmt) walked_to)

  pub take-refused : (r : Refusal) → judged w hertz riff (length file) ≡ refusal_number r → TakeIn file (take_answered (Err r))
  take-refused r e =
      let n = sym judged_refusal ∙ e in
      no-take (λ z. omega (arith, n, z, refusal_some r)) (λ i. record { number = sym n i; hertz = 0; at = 0; count = 0 })

  pub take_found : {h : ℕ} {d : Chunk} → judged w hertz riff (length file) ≡ 0 → hertz ≡ Some h → w.data ≡ Some d → TakeIn file (record { number = 0; hertz = h; at = d.at + 8; count = d.size / 2 })
  unfolding place_in count_in
  take_found {h} {d} z e f =
      let n = sym judged_refusal ∙ z in
      let p = right_of file n in
      let found = sym f ∙ seen_all.data' in
      let rate = sym e ∙ s.hertz-is ∙ (λ i. fmt_rate file (walked_to i) ((seen_all.fmt ∙ p.fmt-is) i)) ∙ right_is file (walk_end file) p.fmt p.fmt-right in
      let r = same_Some h (rate_at file (body p.fmt)) rate ∙ sym (rate-is file p) in
      a_take n (λ i. record { number = 0; hertz = r i; at = ap place_in found i; count = ap count_in found i }) (samples-inside file p)

-- a file that begins as RIFF WAVE has 12 bytes
pub wave-long : (file : List ℕ) → is_wave file ≡ true → 12 ≤ length file
unfolding is_wave
wave-long file e = leb-true 12 (length file) (and_left (leb 12 (length file)) _ (and_left (leb 12 (length file) && eqb (number_at file 0 4) riff_name) (eqb (number_at file 8 4) wave_name) e))

-- ---- what reading comes to, by the take that was found
module _ {file : List ℕ} {t : WaveTake} where
  -- no refusal: the take's samples lie inside the file
  pub take-inside : TakeIn file t → t.number ≡ 0 → t.at + 2 * t.count ≤ length file
  take-inside (no-take n e) z = absurd (n (sym (ap (λ (k : WaveTake). k.number) e) ∙ z))
  take-inside (a_take n e l) z = subst (λ (k : WaveTake). k.at + 2 * k.count ≤ length file) (sym e) l

  pub read_taken : {out out' : List ℤ} → TakeIn file t → t.number ≡ 0 → t.count ≤ length out → out' ≡ over (samples_at file t.at t.count) out →
      WasRead file out (record { number = 0; count = t.count; hertz = t.hertz }) out'
  read_taken (no-take n e) z h o = absurd (n (sym (ap (λ (k : WaveTake). k.number) e) ∙ z))
  read_taken {out} (a_take n e l) z h o =
      taken n (subst (λ (k : WaveTake). k.count ≤ length out) e h) (λ i. record { number = 0; count = (e i).count; hertz = (e i).hertz }) (o ∙ (λ i. over (samples_at file (e i).at (e i).count) out))
