-- Writing and then reading gives the samples back; reading and then writing gives the canonical form, which is a fixed point: since that form is read as the take that it was made of.
use Rattle.std.specs.Prelude.{◌≡◌, true, not, List, [], ◌++◌, ℕ, ◌+◌, ◌*◌, ◌≤◌, ◌<◌, ltb, ℤ, pos, length, get_or, take, drop}
use Rattle.std.proofs.Common.{sym, ap, ◌∙◌, subst, append-nil, arith, ltb-false, take_at, SFits}
use Rattle.std.proofs.Math.Decide.{dec_lt}
use Rattle.std.proofs.lemmas.Bool.{not-false}
use Rattle.std.proofs.Math.ListN.{get_or-eq_default}
use Rattle.std.specs.Int.{w16}
use Rattle.whole.specs.Lists.{length-list_of, get_or-list_of}
use Rattle.riff.specs.Riff.{number_at}
use Rattle.riff.specs.Numbers.{two_is}
use Rattle.riff.specs.Refusals.{passed}
use Rattle.wave.specs.declared.WaveRead.{WaveRead}
use Rattle.wave.specs.Waves.{known, refusal, rate_of, place_of, count_of, sample_of, samples_of, over, WasRead, not_taken, no_room, taken}
use Rattle.wave.specs.Samples.{sample-fits}
use Rattle.wave.specs.Judging.{right_of, rate-known}
use Rattle.writing.specs.declared.WaveWritten.{WaveWritten}
use Rattle.writing.specs.Canonical.{canonical, limit, unwritten_by, WasWritten, not_written, written, Bytes, Samples, TakeOf, form_of, Rewritten, rewritten, ReadAs, WrittenIsRead, ReadIsWritten, FormIsFixed}
use Rattle.writing.specs.Writing.{length-canonical}
use Rattle.writing.specs.ReadBack.{canonical-back}

-- ---- files

length-samples : (file : List ℕ) → length (samples_of file) ≡ count_of file
length-samples file = length-list_of (λ (k : ℕ). sample_of (number_at file (place_of file + 2 * k) 2)) (count_of file)

-- the samples of a file, whose bytes are bytes
pub samples-fit : (file : List ℕ) → Bytes file → Samples (samples_of file)
samples-fit file b i = by_place (dec_lt i (count_of file))
  where
    by_place : Dec (i < count_of file) → SFits w16 (get_or (samples_of file) i (pos 0))
    by_place (yes h) =
        let f : ℕ → ℤ = λ (k : ℕ). sample_of (number_at file (place_of file + 2 * k) 2) in
        let at = place_of file + 2 * i in
        subst (λ (z : ℤ). SFits w16 z) (sym (get_or-list_of f (count_of file) i (pos 0) h)) (sample-fits (number_at file at 2) (omega (arith, two_is file at, b at, b (at + 1))))
    by_place (no n) = subst (λ (z : ℤ). SFits w16 z) (sym (get_or-eq_default (samples_of file) (pos 0) (omega (arith, length-samples file)))) (record { sfits = omega arith })

-- the canonical form of a file that is taken has its take
form_back : (file : List ℕ) → refusal file ≡ 0 → Bytes file → count_of file ≤ limit → TakeOf (form_of file) (rate_of file) (samples_of file)
form_back file t b few =
    subst (λ (l : List ℕ). TakeOf l (rate_of file) (samples_of file)) (append-nil (form_of file))
    (canonical-back (rate_of file) (samples_of file) [] (rate-known file (right_of file t)) (omega (arith, length-samples file)) (samples-fit file b))

-- ---- calls

-- a take that was written: its rate is known, it is within the limit, and its bytes stand at the front
pub record Wrote (hertz : ℕ) (xs : List ℤ) (out : List ℕ) (w : WaveWritten) (out' : List ℕ) : Type 0 where
  pub rate : known hertz ≡ true
  pub few : length xs ≤ limit
  pub size : w.length ≡ length (canonical hertz xs)
  pub text : out' ≡ over (canonical hertz xs) out

wrote : {hertz : ℕ} {xs : List ℤ} {out out' : List ℕ} {w : WaveWritten} → WasWritten hertz xs out w out' → w.number ≡ 0 → Wrote hertz xs out w out'
unfolding unwritten_by
wrote (not_written n p o) z = absurd (n (sym (ap (λ (k : WaveWritten). k.number) p) ∙ z))
wrote {hertz} {xs} {out} (written u p o) z =
    let a = passed 15 (not (known hertz)) _ u in
    let b = passed 6 (ltb limit (length xs)) _ a.1 in
    record {
      rate = not-false (known hertz) a.0;
      few = ltb-false limit (length xs) b.0;
      size = ap (λ (k : WaveWritten). k.length) p ∙ sym (length-canonical hertz xs);
      text = o;
    }

-- the bytes that were written
pub written-bytes : {hertz : ℕ} {xs : List ℤ} {out out' : List ℕ} {w : WaveWritten} → WasWritten hertz xs out w out' → w.number ≡ 0 → take w.length out' ≡ canonical hertz xs
written-bytes {hertz} {xs} {out} {w = w} p z =
    let r = wrote p z in
    ap (take w.length) r.text ∙ take_at (canonical hertz xs) (drop (length (canonical hertz xs)) out) w.length (sym r.size)

-- a take that is read, where there is room
take-read : {file : List ℕ} {hertz : ℕ} {xs : List ℤ} → TakeOf file hertz xs → ReadAs file hertz xs
take-read t room room' r h (not_taken n p o) = absurd (n t.taken)
take-read t room room' r h (no_room z l p o) = absurd (omega (arith, t.count))
take-read t room room' r h (taken z l p o) = (p ∙ (λ i. record { number = 0; count = t.count i; hertz = t.rate i }), o ∙ ap (λ (l : List ℤ). over l room) t.samples)

pub written_read : WrittenIsRead
written_read hertz xs out out' w f p z =
    let r = wrote p z in
    let back : (more : List ℕ) → TakeOf (canonical hertz xs ++ more) hertz xs = λ more. canonical-back hertz xs more r.rate r.few f in (
      take-read (subst (λ (l : List ℕ). TakeOf l hertz xs) (append-nil (canonical hertz xs) ∙ sym (written-bytes p z)) (back [])),
      take-read (subst (λ (l : List ℕ). TakeOf l hertz xs) (sym r.text) (back (drop (length (canonical hertz xs)) out))),
    )

-- a file that was read: it is taken, and its samples stand at the front
pub record WasTaken (file : List ℕ) (r : WaveRead) (room' : List ℤ) : Type 0 where
  pub taken : refusal file ≡ 0
  pub rate : r.hertz ≡ rate_of file
  pub count : r.count ≡ count_of file
  pub samples : take r.count room' ≡ samples_of file

was-taken : {file : List ℕ} {room room' : List ℤ} {r : WaveRead} → WasRead file room r room' → r.number ≡ 0 → WasTaken file r room'
was-taken (not_taken n p o) z = absurd (n (sym (ap (λ (k : WaveRead). k.number) p) ∙ z))
was-taken (no_room e l p o) z = absurd (omega (arith, ap (λ (k : WaveRead). k.number) p, z))
was-taken {file} {room} {r = r} (taken e l p o) z =
    let n = ap (λ (k : WaveRead). k.count) p in
    record {
      taken = e;
      rate = ap (λ (k : WaveRead). k.hertz) p;
      count = n;
      samples = ap (take r.count) o ∙ take_at (samples_of file) (drop (length (samples_of file)) room) r.count (length-samples file ∙ sym n);
    }

pub read-written : ReadIsWritten
read-written file bytes (rewritten p z q y) = let t = was-taken p z in written-bytes q y ∙ (λ i. canonical (t.rate i) (t.samples i))

-- a file that was read and written: it is taken, and has not too many samples
within-limit : {file bytes : List ℕ} → Rewritten file bytes → (refusal file ≡ 0) × (count_of file ≤ limit)
within-limit {file} (rewritten p z q y) = let t = was-taken p z in (t.taken, omega (arith, (wrote q y).few, ap length t.samples, length-samples file))

pub form_fixed : FormIsFixed
form_fixed file bytes b s =
    let is = read-written file bytes s in
    let (t, few) = within-limit s in
    let back : TakeOf bytes (rate_of file) (samples_of file) = subst (λ (l : List ℕ). TakeOf l (rate_of file) (samples_of file)) (sym is) (form_back file t b few) in
    (back, λ again s'. read-written bytes again s' ∙ (λ i. canonical (back.rate i) (back.samples i)) ∙ sym is)

-- ---- no second answer
pub written_one : {hertz : ℕ} {xs : List ℤ} {out o₁ o₂ : List ℕ} {w₁ w₂ : WaveWritten} → WasWritten hertz xs out w₁ o₁ → WasWritten hertz xs out w₂ o₂ → (w₁ ≡ w₂) × (o₁ ≡ o₂)
written_one (not_written n p o) (not_written n' p' o') = (p ∙ sym p', o ∙ sym o')
written_one (not_written n p o) (written u p' o') = absurd (n u)
written_one (written u p o) (not_written n p' o') = absurd (n u)
written_one (written u p o) (written u' p' o') = (p ∙ sym p', o ∙ sym o')
