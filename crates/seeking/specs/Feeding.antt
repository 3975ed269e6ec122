-- A file given piece by piece: at each piece the seek is at one of five stages, each nearer to its end, and in the end it has found what the file says.
use Rattle.std.specs.Prelude.{◌≡◌, refl, Bool, true, false, not, cond, ◌||◌, List, [], ◌∷◌, ℕ, zero, suc, ◌+◌, ◌-◌, ◌*◌, ◌/◌, ◌%◌, ◌^◌, ◌≤◌, ◌<◌, min, leb, ltb, eqb, length, take, drop, Option, Some, None, is_none, unwrap_or}
use Rattle.std.proofs.Common.{sym, ap, ◌∙◌, subst, add-zero, arith, le-leb, leb-true, leb-false, ltb-true, ltb-false, eqb-true, length-take, length-drop, length-take-le}
use Rattle.std.proofs.Math.Decide.{dec_lt}
use Rattle.std.proofs.Math.Bool.{or-true}
use Rattle.std.proofs.lemmas.Bool.{lt-leb, eqb-false}
use Rattle.std.proofs.lemmas.Option.{same_Some, none-some}
use Rattle.whole.specs.Tests.{by, cond_case, cond_yes, cond_no, and_right, neither, yes_and_no}
use Rattle.riff.specs.declared.Chunk.{Chunk}
use Rattle.riff.specs.declared.Walk.{Walk}
use Rattle.riff.specs.Riff.{number_at, body, chunk_at, chunks, first_of, any_past, fmt_name, data_name, refused_by}
use Rattle.riff.specs.Chunks.{first_named}
use Rattle.riff.specs.Numbers.{number-part}
use Rattle.riff.specs.Refusals.{passed}
use Rattle.riff.specs.Walks.{found_first, set_out, stepped}
use Rattle.riff.specs.Walking.{Seen, Walking, walk_begins, walk_goes_on, walk_ends}
use Rattle.wave.specs.Waves.{is_wave, rate_at, fields_right, riff_end_of, no_fmt, odd_data, no_data}
use Rattle.wave.specs.Rates.{known_some}
use Rattle.wave.specs.Pieces.{head_piece, fields_piece}
use Rattle.wave.specs.Judged.{fields_rate, whole_fmt, fmt_rate, judged, TakeIn, no-take}
use Rattle.wave.specs.Judging.{fields-known, Surveyed, judged_refusal, take_found, take-inside}
use Rattle.wave.specs.Judging as judging
use Rattle.mending.specs.Mendings.{no_mending, mending_of}
use Rattle.mending.specs.Decided.{reached, decided}
use Rattle.mending.specs.Deciding.{decided-is}
use Rattle.mending.specs.Deciding as deciding
use Rattle.seeking.specs.declared.Piece.{Piece}
use Rattle.seeking.specs.declared.Seek.{Seek}
use Rattle.seeking.specs.Seeks.{flag_of, is_set, chunk_in, place_after, rate_in, walk_of, walked, no_place, no_piece, fresh, end_of, asks_fmt, asks, walked_on, rated, begun, given_to, judged_rate, no_take, found_in, mended_in}
use Rattle.seeking.specs.Asking.{asks_chunk, asks_last, end_take, end_mending, begun-none, begun-some, headed-none, headed-wave, stepped-on, given-head, given_chunk, given-fmt, given-none, number-kept, number-judged, found-refused, found_take, mended-refused, mended-decided}
use Rattle.seeking.specs.Sought.{piece_of, fed, sought, SeekTheorem}

-- ---- a walk in numbers and back

-- a seek whose walk has come so far, and asks for a piece
abbrev pub seek_of : (length mends number riff hertz : ℕ) → Walk → Piece → Seek
seek_of length mends number riff hertz w p =
    record { length = length; mends = mends; number = number; riff = riff; hertz = hertz; fmt = place_after no_place w.fmt; «data» = place_after no_place w.data; past = flag_of w.past; wanted = p }

flag-back : (b : Bool) → is_set (flag_of b) ≡ b
flag-back true = refl
flag-back false = refl

-- a chunk that has this name, if it was found
abbrev Called : (name : ℕ) → Option Chunk → Type 0
Called name o = (c : Chunk) → o ≡ Some c → c.name ≡ name

found_back : (name : ℕ) (o : Option Chunk) → Called name o → chunk_in name (place_after no_place o) ≡ o
found_back name None h = refl
found_back name (Some c) h = λ i. Some (record { at = c.at; name = sym (h c refl) i; size = c.size })

-- what it found has the names
pub record Named (w : Walk) : Type 0 where
  pub fmt : Called fmt_name w.fmt
  pub data' : Called data_name w.data

seen_named : {end : ℕ} {cs : List Chunk} {w : Walk} → Seen end cs w → Named w
seen_named {cs = cs} s = record { fmt = λ c e. first_named fmt_name cs c (sym s.fmt ∙ e); data' = λ c e. first_named data_name cs c (sym s.data' ∙ e) }

walk_back : (n mends number riff hertz : ℕ) (w : Walk) (p : Piece) → Named w → walk_of (seek_of n mends number riff hertz w p) ≡ record { at = p.at; fmt = w.fmt; «data» = w.data; past = w.past }
walk_back n mends number riff hertz w p h =
    λ i. record { at = p.at; fmt = found_back fmt_name w.fmt h.fmt i; «data» = found_back data_name w.data h.data' i; past = flag-back w.past i }

-- a place after what was found first, or after the same
after_first : (o : Option Chunk) (name : ℕ) (c : Chunk) → place_after (place_after no_place o) (found_first o name c) ≡ place_after no_place (found_first o name c)
after_first None name c = refl
after_first (Some d) name c = refl

after_same : (o : Option Chunk) → place_after (place_after no_place o) o ≡ place_after no_place o
after_same None = refl
after_same (Some d) = refl

-- a step, and the fields of the fmt
step_back : (n mends riff hertz end : ℕ) (w : Walk) (p : Piece) (c : Chunk) →
    let r = stepped end w c in
    walked_on (seek_of n mends 0 riff hertz w p) r ≡ seek_of n mends 0 riff 0 r (asks r (end_of n mends riff))
step_back n mends riff hertz end w p c =
    let r = stepped end w c in
    λ i.
    record {
      length = n;
      mends = mends;
      number = 0;
      riff = riff;
      hertz = 0;
      fmt = after_first w.fmt fmt_name c i;
      «data» = after_first w.data data_name c i;
      past = flag_of r.past;
      wanted = asks r (end_of n mends riff);
    }

rated_back : (n mends number riff hertz : ℕ) (w : Walk) (p : Piece) (bytes : List ℕ) → Named w → rated (seek_of n mends number riff hertz w p) bytes ≡ seek_of n mends number riff (unwrap_or (fields_rate bytes 0) 0) w no_piece
rated_back n mends number riff hertz w p bytes h =
    let s = seek_of n mends number riff hertz w p in
    (λ i. record (walked s (walk_back n mends number riff hertz w p h i) no_piece) { hertz = unwrap_or (fields_rate bytes 0) 0 })
    ∙ (λ i.
    record {
      length = n;
      mends = mends;
      number = number;
      riff = riff;
      hertz = unwrap_or (fields_rate bytes 0) 0;
      fmt = after_same w.fmt i;
      «data» = after_same w.data i;
      past = flag_of w.past;
      wanted = no_piece;
    })

-- a rate that was found is not 0
rate_back : (bytes : List ℕ) (at : ℕ) → rate_in (unwrap_or (fields_rate bytes at) 0) ≡ fields_rate bytes at
rate_back bytes at =
    by (fields_right bytes at)
    (λ y. let k = known_some (rate_at bytes at) (fields-known bytes at y) in rw (y, k))
    (λ y. rw y)

end-within : (n mends riff : ℕ) → end_of n mends riff ≤ n
unfolding end_of
end-within n mends riff =
    cond_case (eqb mends 0) (min (8 + riff) n) (cond (leb 2147483648 n) 0 n) (λ (k : ℕ). k ≤ n) (λ e. omega arith)
    (λ e. cond_case (leb 2147483648 n) 0 n (λ (k : ℕ). k ≤ n) (λ f. omega arith) (λ f. omega arith))

-- ---- what a piece says is what the file says
short_none : (file : List ℕ) → length file < 12 → is_wave file ≡ false
unfolding is_wave
short_none file h = rw (lt-leb 12 (length file) h)

rate_piece : (file : List ℕ) (at : ℕ) → fields_rate (take 16 (drop at file)) 0 ≡ fields_rate file at
rate_piece file at = λ i. cond (fields_piece file at i) (Some (number-part file at 16 4 4 (omega arith) i)) None

chunk_piece : (file : List ℕ) (at : ℕ) → ◌≡◌ {A = Chunk} (record { at = at; name = number_at (take 8 (drop at file)) 0 4; size = number_at (take 8 (drop at file)) 4 4 }) (chunk_at file at)
chunk_piece file at =
    let name = number-part file at 8 0 4 (omega arith) ∙ ap (λ (k : ℕ). number_at file k 4) (add-zero at) in
    λ i. record { at = at; name = name i; size = number-part file at 8 4 4 (omega arith) i }

piece_length : (file : List ℕ) (at k : ℕ) → at + k ≤ length file → length (take k (drop at file)) ≡ k
piece_length file at k h = simp (length-take, length-drop) (omega arith)

-- ---- the stages
module _ (file : List ℕ) (mends : ℕ) where
  abbrev size : ℕ
  size = number_at file 4 4

  abbrev end : ℕ
  end = end_of (length file) mends size

  -- at most k pieces are still to come
  pub data Stage : (k : ℕ) → Seek → Type 0 where
    heading : {k : ℕ} → 12 ≤ length file → length file < 4 + 8 * k → Stage k (fresh (length file) mends (record { at = 0; count = 12 }))
    walking : {k : ℕ} (w : Walk) → is_wave file ≡ true → Walking file end w → w.at + 8 ≤ end → end < w.at + 8 * k → Stage k (seek_of (length file) mends 0 size 0 w (record { at = w.at; count = 8 }))
    rating : {k : ℕ} (w : Walk) (fmt : Chunk) → is_wave file ≡ true → Seen end (chunks file end) w → w.fmt ≡ Some fmt → whole_fmt (Some fmt) end ≡ true → 1 ≤ k → Stage k (seek_of (length file) mends 0 size 0 w (record { at = body fmt; count = 16 }))
    refused : {k : ℕ} → is_wave file ≡ false → Stage k (fresh (length file) mends no_piece)
    ended : {k : ℕ} (w : Walk) (hertz : ℕ) → is_wave file ≡ true → Seen end (chunks file end) w → rate_in hertz ≡ fmt_rate file end w.fmt → Stage k (seek_of (length file) mends 0 size hertz w no_piece)

  -- a walk that has come so far
  onwards : (k : ℕ) (w : Walk) → is_wave file ≡ true → Walking file end w → end < w.at + 8 * k → 1 ≤ k → Stage k (seek_of (length file) mends 0 size 0 w (asks w end))
  onwards k w v p h l =
      by (leb (w.at + 8) end)
      (λ y. subst (Stage k) (ap s (sym (asks_chunk w end y))) (walking w v p (leb-true (w.at + 8) end y) h))
      (λ y. subst (Stage k) (ap s (sym (asks_last w end y))) (by_fmt w.fmt refl (walk_ends p (leb-false (w.at + 8) end y))))
    where
      s : Piece → Seek
      s q = seek_of (length file) mends 0 size 0 w q

      by_fmt : (o : Option Chunk) → w.fmt ≡ o → Seen end (chunks file end) w → Stage k (s (asks_fmt o end))
      by_fmt None e seen = ended w 0 v seen (sym (ap (fmt_rate file end) e))
      by_fmt (Some fmt) e seen =
          by (whole_fmt (Some fmt) end)
          (λ z. subst (Stage k) (ap s (sym (cond_yes (record { at = body fmt; count = 16 }) no_piece z))) (rating w fmt v seen e z l))
          (λ z. subst (Stage k) (ap s (sym (cond_no (record { at = body fmt; count = 16 }) no_piece z))) (ended w 0 v seen (sym (ap (fmt_rate file end) e ∙ cond_no (fields_rate file (body fmt)) None z))))

  -- all that is wanted lies in the file
  stage_inside : {k : ℕ} {s : Seek} → Stage k s → s.wanted.at + s.wanted.count ≤ length file
  stage_inside (heading l h) = l
  stage_inside (walking w v p l h) = omega (arith, end-within (length file) mends size)
  stage_inside (rating w fmt v s e z l) = omega (arith, leb-true (body fmt + 16) end (and_right (leb 16 fmt.size) (leb (body fmt + 16) end) z), end-within (length file) mends size)
  stage_inside (refused v) = omega arith
  stage_inside (ended w hertz v s h) = omega arith

  -- one piece more
  module _ (fits : length file < 2 ^ 63) where
    fed_once : {k : ℕ} {s : Seek} → Stage k s → Stage (k - 1) (given_to s (piece_of file s.wanted))
    fed_once {k} {s} (heading l h) =
        let bytes = take 12 file in
        let n = length-take-le 12 file l in
        let e = given-head s bytes n n in
        by (is_wave file)
        (λ v.
        let f : ℕ → Seek = λ (riff : ℕ). seek_of (length file) mends 0 riff 0 set_out (asks set_out (end_of (length file) mends riff)) in
        let r = e ∙ headed-wave s bytes (head_piece file ∙ v) ∙ ap f (number-part file 0 12 4 4 (omega arith)) in
        subst (Stage (k - 1)) (sym r) (onwards (k - 1) set_out v (walk_begins refl) (omega (arith, end-within (length file) mends size)) (omega arith)))
        (λ v. subst (Stage (k - 1)) (sym (e ∙ headed-none s bytes (head_piece file ∙ v))) (refused v))
    fed_once {k} {s} (walking w v p l h) =
        let bytes = take 8 (drop w.at file) in
        let n = piece_length file w.at 8 (omega (arith, end-within (length file) mends size)) in
        let t : leb (2 ^ 63) (length file) || not (leb (w.at + 8) end) ≡ false = rw (lt-leb (2 ^ 63) (length file) fits, le-leb (w.at + 8) end l) in
        let c = chunk_at file w.at in
        let q : Piece = record { at = w.at; count = 8 } in
        let r =
        given_chunk s bytes n (λ z. omega (arith, n, z)) n
        ∙ stepped-on s bytes t
        ∙ (λ i. walked_on s (stepped end (walk_back (length file) mends 0 size 0 w q (seen_named p.seen) i) (chunk_piece file w.at i)))
        ∙ step_back (length file) mends size 0 end w q c in
        subst (Stage (k - 1)) (sym r) (onwards (k - 1) (stepped end w c) v (walk_goes_on p l) (omega arith) (omega arith))
    fed_once {k} {s} (rating w fmt v seen e z l) =
        let at = body fmt in
        let bytes = take 16 (drop at file) in
        let n = piece_length file at 16 (stage_inside (rating w fmt v seen e z l)) in
        let hertz = rate_back bytes 0 ∙ rate_piece file at ∙ sym (ap (fmt_rate file end) e ∙ cond_yes (fields_rate file at) None z) in
        let r =
        given-fmt s bytes n (λ y. omega (arith, n, y)) (λ y. omega (arith, n, y)) n
        ∙ rated_back (length file) mends 0 size 0 w (record { at = at; count = 16 }) bytes (seen_named seen) in
        subst (Stage (k - 1)) (sym r) (ended w (unwrap_or (fields_rate bytes 0) 0) v seen hertz)
    fed_once {k} {s} (refused v) = subst (Stage (k - 1)) (sym (given-none s [] refl (λ z. omega (arith, z)) (λ z. omega (arith, z)) (λ z. omega (arith, z)))) (refused v)
    fed_once {k} {s} (ended w hertz v seen h) = subst (Stage (k - 1)) (sym (given-none s [] refl (λ z. omega (arith, z)) (λ z. omega (arith, z)) (λ z. omega (arith, z)))) (ended w hertz v seen h)

    -- and so on
    fed-on : (m k : ℕ) {s : Seek} → Stage k s → Stage (k - m) (fed file m s)
    fed-on zero k {s} t = let e : k ≡ k - 0 = omega arith in subst (λ (j : ℕ). Stage j s) e t
    fed-on (suc m) k {s} t =
        let e : k - 1 - m ≡ k - suc m = omega arith in
        subst (λ (j : ℕ). Stage j (fed file (suc m) s)) e (fed-on m (k - 1) (fed_once t))

    -- from the beginning
    at_first : Stage (length file / 8 + 1) (begun (length file) mends)
    at_first =
        let k = length file / 8 + 1 in
        let long = lt-leb (2 ^ 63) (length file) fits in
        by (ltb (length file) 12)
        (λ y. let t : ltb (length file) 12 || leb (2 ^ 63) (length file) ≡ true = rw y in subst (Stage k) (sym (begun-none (length file) mends t)) (refused (short_none file (ltb-true (length file) 12 y))))
        (λ y.
        let t : ltb (length file) 12 || leb (2 ^ 63) (length file) ≡ false = rw (y, long) in
        subst (Stage k) (sym (begun-some (length file) mends t)) (heading (ltb-false (length file) 12 y) (omega arith)))

    stage_of : (m : ℕ) → Stage (length file / 8 + 1 - m) (sought file mends m)
    stage_of m = fed-on m (length file / 8 + 1) at_first

    last : (m : ℕ) → length file / 8 + 1 ≤ m → Stage 0 (sought file mends m)
    last m h = let e : length file / 8 + 1 - m ≡ 0 = omega arith in subst (λ (j : ℕ). Stage j (sought file mends m)) e (stage_of m)

  -- no piece is still to come: none is wanted
  none-wanted : {s : Seek} → Stage 0 s → s.wanted.count ≡ 0
  none-wanted (heading l h) = absurd (omega arith)
  none-wanted (walking w v p l h) = absurd (omega arith)
  none-wanted (rating w fmt v s e z l) = absurd (omega arith)
  none-wanted (refused v) = refl
  none-wanted (ended w hertz v s h) = refl

-- ---- what was found

-- an odd data size is refused as a wrong fmt is
odd_same : (f d : Option Chunk) (h : Option ℕ) (p : Bool) →
    refused_by ((21, no_fmt f d) ∷ (22, is_none (cond (eqb ((place_after no_place d).size % 2) 1) None h) || odd_data d) ∷ (23, no_data d) ∷ (24, p) ∷ [])
    ≡ refused_by ((21, no_fmt f d) ∷ (22, is_none h || odd_data d) ∷ (23, no_data d) ∷ (24, p) ∷ [])
unfolding odd_data
odd_same f None h p = refl
odd_same f (Some c) h p =
    ap (λ (t : Bool). refused_by ((21, no_fmt f (Some c)) ∷ (22, t) ∷ (23, no_data (Some c)) ∷ (24, p) ∷ []))
    (by (eqb (c.size % 2) 1)
    (λ y. rw y (sym (or-true (is_none h))))
    (λ y. rw y))

-- no refusal: a data chunk was found, and a rate
pub record Found (w : Walk) (hertz : Option ℕ) : Type 0 where
  pub rate : ℕ
  pub rate-is : hertz ≡ Some rate
  pub data' : Chunk
  pub data_is : w.data ≡ Some data'

judged_data : (w : Walk) (hertz : Option ℕ) (riff n : ℕ) → judged w hertz riff n ≡ 0 → Found w hertz
unfolding no_data
judged_data w hertz riff n e =
    let a = passed 20 (no_fmt w.fmt w.data) _ e in
    let b = passed 21 (is_none hertz || odd_data w.data) _ a.1 in
    by_found hertz w.data refl refl (neither (is_none hertz) (odd_data w.data) b.0).0 (passed 22 (no_data w.data) _ b.1).0
  where
    by_found : (h : Option ℕ) (d : Option Chunk) → hertz ≡ h → w.data ≡ d → is_none h ≡ false → no_data d ≡ false → Found w hertz
    by_found None d x y p q = absurd (yes_and_no refl p)
    by_found (Some r) None x y p q = absurd (yes_and_no refl q)
    by_found (Some r) (Some c) x y p q = record { rate = r; rate-is = x; data' = c; data_is = y }

-- a rate that is one
rate_same : (hertz x : ℕ) → rate_in hertz ≡ Some x → hertz ≡ x
rate_same hertz x e =
    by (eqb hertz 0)
    (λ y. absurd (none-some x (rw y at e)))
    (λ y. same_Some hertz x (rw y at e))

module _ (file : List ℕ) where
  -- the take
  take_of_lem : {s : Seek} → Stage file 0 0 s → TakeIn file (found_in s)
  take_of_lem (heading l h) = absurd (omega arith)
  take_of_lem (walking w v p l h) = absurd (omega arith)
  take_of_lem (rating w fmt v s e z l) = absurd (omega arith)
  take_of_lem {s} (refused v) =
      let n = judging.not_wave file v in
      let k = number-kept s (λ z. omega (arith, z)) in
      no-take (λ z. omega (arith, n, z)) (found-refused s (λ z. omega (arith, k, z)) ∙ ap no_take (k ∙ sym n))
  take_of_lem {s} (ended w hertz v seen h) =
      let riff = riff_end_of file in
      let n = judged w (rate_in hertz) riff (length file) in
      let same =
      number-judged s refl
      ∙ ap (λ (u : Walk). judged u (judged_rate s) riff (length file)) (walk_back (length file) 0 0 (number_at file 4 4) hertz w no_piece (seen_named seen))
      ∙ odd_same w.fmt w.data (rate_in hertz) (w.past || ltb (length file) riff) in
      let survey : Surveyed file riff (end file 0) (rate_in hertz) w = record { wave = v; riff-is = refl; end_is = end_take (length file) 0 (number_at file 4 4) refl; seen = seen; hertz-is = h } in
      by (eqb n 0)
      (λ y.
      let z = eqb-true n 0 y in
      let f = judged_data w (rate_in hertz) riff (length file) z in
      let t = take_found survey z f.rate-is f.data_is in
      let r : reached (Some f.data') (length file) ≡ true = le-leb (body f.data') (length file) (omega (arith, take-inside t refl)) in
      let found = found_back data_name w.data (seen_named seen).data' ∙ f.data_is in
      let e = rate_same hertz f.rate f.rate-is in
      subst (TakeIn file) (sym (found_take s (same ∙ z) found r ∙ (λ i. record { number = 0; hertz = e i; at = body f.data'; count = f.data'.size / 2 }))) t)
      (λ y.
      let no = eqb-false n 0 y in
      let k = judged_refusal survey in
      no-take (λ z. no (k ∙ z)) (found-refused s (λ z. no (sym same ∙ z)) ∙ ap no_take (same ∙ k)))

  -- what is mended
  too_long : (w : Walk) (hertz : Option ℕ) → is_wave file ≡ true → 2147483648 ≤ length file → decided w hertz (number_at file 4 4) (length file) ≡ mending_of file
  too_long w hertz v h =
      let cs = chunks file (length file) in
      let u : Walk = record { at = 0; fmt = first_of fmt_name cs; «data» = first_of data_name cs; past = any_past (length file) cs } in
      let long = le-leb 2147483648 (length file) h in
      cond_yes (no_mending 29) _ long
      ∙ sym (cond_yes (no_mending 29) _ long)
      ∙ decided-is file {w = u} v (record { fmt = refl; data' = refl; past = refl }) refl refl

  module _ (mends : ℕ) (some : mends ≡ 0 → ⊥) where
    mending_of_lem : {s : Seek} → Stage file mends 0 s → mended_in s ≡ mending_of file
    mending_of_lem (heading l h) = absurd (omega arith)
    mending_of_lem (walking w v p l h) = absurd (omega arith)
    mending_of_lem (rating w fmt v s e z l) = absurd (omega arith)
    mending_of_lem {s} (refused v) = mended-refused s (λ z. omega (arith, z)) ∙ sym (deciding.not_wave file v)
    mending_of_lem {s} (ended w hertz v seen h) =
        let riff = number_at file 4 4 in
        mended-decided s refl
        ∙ ap (λ (u : Walk). decided u (rate_in hertz) riff (length file)) (walk_back (length file) mends 0 riff hertz w no_piece (seen_named seen))
        ∙ by_length (dec_lt (length file) 2147483648)
      where
        by_length : Dec (length file < 2147483648) → decided w (rate_in hertz) (number_at file 4 4) (length file) ≡ mending_of file
        by_length (yes l) =
            let e = end_mending (length file) mends (number_at file 4 4) some l in
            decided-is file v (subst (λ (k : ℕ). Seen k (chunks file k) w) e seen) (h ∙ ap (λ (k : ℕ). fmt_rate file k w.fmt) e) refl
        by_length (no l) = too_long w (rate_in hertz) v (omega arith)

-- every file
pub sought-holds : SeekTheorem
sought-holds file fits =
    record {
      inside = λ mends n. stage_inside file mends (stage_of file mends fits n);
      ends = λ mends n h. none-wanted file mends (last file mends fits n h);
      found = λ n h. take_of_lem file (last file 0 fits n h);
      mended = λ n h. mending_of_lem file 1 (λ z. omega (arith, z)) (last file 1 fits n h);
    }
