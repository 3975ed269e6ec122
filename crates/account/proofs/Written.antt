-- What the outputs hold after a block and after a night, added to what was written before (`onward`).
-- A block writes what is then kept of lead and chosen voices, each in 512 places of its own; a night writes block behind block.
use Rattle.std.specs.Prelude.{◌≡◌, ℕ, zero, suc, ◌+◌, ◌*◌, ◌≤◌, leb, length, take, drop}
use Rattle.std.proofs.Math.Path.{refl, ap}
use Rattle.std.proofs.Common.{sym, ◌∙◌, arith, length-append, length-drop, take_at, drop_at, length-take-le}
use mathlib.Core.List.{List, [], ◌∷◌, ◌++◌, append-nil, append_assoc, map, flatten}
use Rattle.std.proofs.Math.IntN.{ℤ}
use Rattle.std.proofs.lemmas.List.{length-map}
use Rattle.std.proofs.Math.Seq.{take-append-add}
use Rattle.whole.specs.Tests.{cond_case}
use Rattle.rules.specs.Rules.{Given, input_at, samples_out}
use Rattle.rules.proofs.Blocks.{samples_out-append}
use Rattle.history.specs.History.{Event, fresh_course, given_by}
use Rattle.history.proofs.Courses.{given_by-append}
use Rattle.voices.specs.Voices.{Voiced, voice_outs}
use Rattle.tuner.specs.declared.Voice.{Voice}
use Rattle.tuner.specs.declared.Tuner.{Tuner}
use Rattle.tuner.specs.declared.Answer.{Answer}
use Rattle.tuner.specs.Tuners.{voice_out, outs_beside, after_block, parts, kept_outs, Roomy, written, Took}
use Rattle.staying.specs.Staying.{Stays, lead_out_length, voice_out_length}
use Rattle.nights.specs.declared.NightAnswer.{NightAnswer}
use Rattle.nights.specs.Night.{before, OneByOne, all_done, and_on, refused}
use Rattle.account.specs.Account.{Received, course_of, given_of, with_events, onward, voiced_in, voice_of, voiced_of, outs_of}
use Rattle.account.proofs.Alongside.{voiced_in-append}
use Rattle.account.specs.Written.{lead_out}

-- ---- what is added

-- nothing is added
pub onward-none : (from : ℕ) (ws os : List (List ℤ)) → onward from 0 ws os ≡ ws
unfolding onward
onward-none from [] os = refl
onward-none from (w ∷ ws) [] = refl
onward-none from (w ∷ ws) (o ∷ os) = λ i. append-nil w i ∷ onward-none from ws os i

-- b samples of each output, and m that come behind them
pub onward-before : (b m : ℕ) (ws ps qs : List (List ℤ)) → Roomy b ws ps → length qs ≡ length ps → onward 0 (b + m) ws (before b ps qs) ≡ onward 0 m (onward 0 b ws ps) qs
unfolding onward before Roomy
onward-before b m [] ps qs r e = refl
onward-before b m (w ∷ ws) [] qs r e = absurd r
onward-before b m (w ∷ ws) (p ∷ ps) [] r e = absurd (omega arith)
onward-before b m (w ∷ ws) (p ∷ ps) (q ∷ qs) r e =
    let long = length-take-le b p r.0 in
    let seam : take (b + m) (take b p ++ q) ≡ take b p ++ take m q = ap (λ (n : ℕ). take (n + m) (take b p ++ q)) (sym long) ∙ take-append-add (take b p) q m in
    λ i. (ap (λ (l : List ℤ). w ++ l) seam ∙ sym (append_assoc w (take b p) (take m q))) i ∷ onward-before b m ws ps qs r.1 (omega arith) i

-- behind the first b samples
pub onward-behind : (b m : ℕ) (ws ps qs : List (List ℤ)) → Roomy b ws ps → length qs ≡ length ps → onward b m ws (before b ps qs) ≡ onward 0 m ws qs
unfolding onward before Roomy
onward-behind b m [] ps qs r e = refl
onward-behind b m (w ∷ ws) [] qs r e = absurd r
onward-behind b m (w ∷ ws) (p ∷ ps) [] r e = absurd (omega arith)
onward-behind b m (w ∷ ws) (p ∷ ps) (q ∷ qs) r e =
    λ i. (w ++ take m (drop_at (take b p) q b (length-take-le b p r.0) i)) ∷ onward-behind b m ws ps qs r.1 (omega arith) i

-- ---- more has happened
module _ (r : Received) (es : List Event) where
  pub lead-more : samples_out (given_of (with_events r es)) ≡ samples_out (given_of r) ++ samples_out (given_by (course_of r) es)
  lead-more = let begin = fresh_course r.hertz r.settings in ap samples_out (given_by-append begin r.events es) ∙ samples_out-append (given_of r) (given_by (course_of r) es)

  pub voice_more : (i : ℕ) → voice_outs (voiced_of i (with_events r es)) ≡ voice_outs (voiced_of i r) ++ voice_outs (voiced_in i (course_of r) (voice_of i r) es)
  unfolding voice_outs
  voice_more i = let begin = fresh_course r.hertz r.settings in ap voice_outs (voiced_in-append i begin (input_at 0) r.events es) ∙ joined (voiced_of i r)
    where
      joined : (vs : List Voiced) → voice_outs (vs ++ voiced_in i (course_of r) (voice_of i r) es) ≡ voice_outs vs ++ voice_outs (voiced_in i (course_of r) (voice_of i r) es)
      joined [] = refl
      joined (v ∷ vs) = ap (λ (l : List ℤ). v.out ∷ l) (joined vs)

  -- no sample among it
  pub outs-same : given_by (course_of r) es ≡ [] → ((i : ℕ) → voiced_in i (course_of r) (voice_of i r) es ≡ []) → outs_of (with_events r es) ≡ outs_of r
  unfolding samples_out voice_outs
  outs-same none quiet =
      let lead = samples_out (given_of r) in
      let voice : (i : ℕ) → List ℤ = λ i. voice_outs (voiced_of i r) in
      λ j. (lead-more ∙ ap (λ (gs : List Given). lead ++ samples_out gs) none ∙ append-nil lead) j
      ∷ map (λ (i : ℕ). (voice_more i ∙ ap (λ (vs : List Voiced). voice i ++ voice_outs vs) (quiet i) ∙ append-nil (voice i)) j) r.intervals

-- ---- as many outputs as were lent

-- room is asked for as many outputs as there are
pub roomy_many : (n : ℕ) (ks ls os : List (List ℤ)) → length ls ≡ length ks → Roomy n ks os → Roomy n ls os
unfolding Roomy
roomy_many n ks [] os e r = tt
roomy_many n [] (l ∷ ls) os e r = absurd (omega arith)
roomy_many n (k ∷ ks) (l ∷ ls) [] e r = r
roomy_many n (k ∷ ks) (l ∷ ls) (o ∷ os) e r = (r.0, roomy_many n ks ls os (omega arith) r.1)

written-many : (n : ℕ) (ks os : List (List ℤ)) → length (written n ks os) ≡ length os
unfolding written
written-many n [] os = refl
written-many n (k ∷ ks) [] = refl
written-many n (k ∷ ks) (o ∷ os) = ap suc (written-many n ks os)

before-many : (n : ℕ) (ps qs : List (List ℤ)) → length (before n ps qs) ≡ length ps
unfolding before
before-many n [] qs = refl
before-many n (p ∷ ps) [] = refl
before-many n (p ∷ ps) (q ∷ qs) = ap suc (before-many n ps qs)

pub took-many : {t t' : Tuner} {k : ℕ} {xs : List ℤ} {os ps : List (List ℤ)} {store s : List ℕ} {a : Answer} → Took t k xs os store t' a ps s → length ps ≡ length os
took-many {t' = t'} {xs = xs} {os} p =
    ap length p.outs ∙ cond_case (leb p.number 1) (written (length xs) (kept_outs t') os) os (λ (qs : List (List ℤ)). length qs ≡ length os) (λ e. written-many (length xs) (kept_outs t') os) (λ e. refl)

pub singly_many : {t t' : Tuner} {k : ℕ} {n n' : NightAnswer} {xss os ps : List (List ℤ)} {store s : List ℕ} → OneByOne t k n xss os store t' n' ps s → length ps ≡ length os
singly_many all_done = refl
singly_many (and_on {xs = xs} {ps = ps} {qs} p l r) = before-many (length xs) ps qs ∙ took-many p
singly_many (refused p l) = took-many p

-- what is left of them, to the blocks that follow
pub rest-many : {t t' : Tuner} {k : ℕ} {n n' : NightAnswer} {xss qs : List (List ℤ)} {store s : List ℕ} (b : ℕ) (ps : List (List ℤ)) → OneByOne t k n xss (map (drop b) ps) store t' n' qs s → length qs ≡ length ps
rest-many b ps o = singly_many o ∙ length-map ps (drop b)

-- ---- what is kept of a block

parts-many : (m : ℕ) (zs : List ℤ) → length (parts m zs) ≡ m
unfolding parts
parts-many zero zs = refl
parts-many (suc m) zs = ap suc (parts-many m (drop 512 zs))

-- what was written has room for what was written
pub roomy_written : (n m : ℕ) (zs : List ℤ) (os : List (List ℤ)) → n ≤ 512 → 512 * m ≤ length zs → Roomy n (parts m zs) os → Roomy n (parts m zs) (written n (parts m zs) os)
unfolding parts Roomy written
roomy_written n zero zs os few h r = tt
roomy_written n (suc m) zs [] few h r = r
roomy_written n (suc m) zs (o ∷ os) few h r =
    let here = length-take-le 512 zs (omega arith) in
    (omega (arith, length-append (take n (take 512 zs)) (drop n o), length-take-le n (take 512 zs) (omega (arith, here))), roomy_written n m (drop 512 zs) os few (omega (arith, length-drop 512 zs)) r.1)

pub kept-room : {t : Tuner} → Stays t → (n : ℕ) (ws os : List (List ℤ)) → n ≤ 512 → length ws ≡ 1 + t.numbers.chosen → Roomy n (kept_outs t) os → Roomy n ws (written n (kept_outs t) os)
kept-room {t} g n ws os few many r =
    roomy_many n (kept_outs t) ws (written n (kept_outs t) os) (many ∙ sym (parts-many (1 + t.numbers.chosen) t.outs))
    (roomy_written n (1 + t.numbers.chosen) t.outs os few (omega (arith, g.1.outs, g.0.voices.few)) r)

-- parts of 512 places each, one behind the other
parts-map : (out : Voice → List ℤ) → ((v : Voice) → length (out v) ≡ 512) → (n : ℕ) (vs : List Voice) → n ≤ length vs → (rest : List ℤ) → parts n (flatten (map out (take n vs)) ++ rest) ≡ map out (take n vs)
unfolding parts flatten
parts-map out e zero vs h rest = refl
parts-map out e (suc n) [] h rest = absurd (omega arith)
parts-map out e (suc n) (v ∷ vs) h rest =
    let others = flatten (map out (take n vs)) in
    let joined = append_assoc (out v) others rest in
    λ i. (ap (take 512) joined ∙ take_at (out v) (others ++ rest) 512 (e v)) i
    ∷ (ap (λ (zs : List ℤ). parts n (drop 512 zs)) joined ∙ ap (parts n) (drop_at (out v) (others ++ rest) 512 (e v)) ∙ parts-map out e n vs (omega arith) rest) i

pub kept-after : {t : Tuner} → Stays t → (k : ℕ) (xs : List ℤ) (store : List ℕ) → length xs ≤ 512 → kept_outs (after_block t k xs store) ≡ lead_out t xs ∷ map (voice_out t xs) (take t.numbers.chosen t.numbers.voices)
unfolding after_block parts
kept-after {t} g k xs store most =
    let n = t.numbers in
    let lead = lead_out t xs in
    let sung = flatten (map (voice_out t xs) (take n.chosen n.voices)) in
    let rest = drop (512 * (1 + n.chosen)) t.outs in
    let joined = append_assoc lead sung rest in
    let long = lead_out_length t xs most in
    let next : 1 + n.chosen ≡ suc n.chosen = omega arith in
    ap (λ (m : ℕ). parts m (outs_beside t xs)) next
    ∙ (λ i. (ap (take 512) joined ∙ take_at lead (sung ++ rest) 512 long) i
    ∷ (ap (λ (zs : List ℤ). parts n.chosen (drop 512 zs)) joined
    ∙ ap (parts n.chosen) (drop_at lead (sung ++ rest) 512 long)
    ∙ parts-map (voice_out t xs) (voice_out_length t xs most) n.chosen n.voices (omega (arith, g.1.voices, g.0.voices.few)) rest) i)

-- ---- what is kept is written

-- of one output
one_written : (n : ℕ) (w k o : List ℤ) → n ≤ length k → w ++ take n (take n k ++ drop n o) ≡ w ++ take n k
one_written n w k o h = ap (λ (l : List ℤ). w ++ l) (take_at (take n k) (drop n o) n (length-take-le n k h))

-- of the voices' outputs
each-written : (was out : Voice → List ℤ) (n : ℕ) → ((v : Voice) → n ≤ length (out v)) → (vs : List Voice) (os : List (List ℤ)) → Roomy n (map out vs) os → onward 0 n (map was vs) (written n (map out vs) os) ≡ map (λ (v : Voice). was v ++ take n (out v)) vs
unfolding onward written Roomy
each-written was out n h [] os r = refl
each-written was out n h (v ∷ vs) [] r = absurd r
each-written was out n h (v ∷ vs) (o ∷ os) r = λ i. one_written n (was v) (out v) o (h v) i ∷ each-written was out n h vs os r.1 i

-- of all
pub all-written : (was lead : List ℤ) (each out : Voice → List ℤ) (n : ℕ) → n ≤ length lead → ((v : Voice) → n ≤ length (out v)) → (vs : List Voice) (os : List (List ℤ)) → Roomy n (lead ∷ map out vs) os
    → onward 0 n (was ∷ map each vs) (written n (lead ∷ map out vs) os) ≡ (was ++ take n lead) ∷ map (λ (v : Voice). each v ++ take n (out v)) vs
unfolding onward written Roomy
all-written was lead each out n h l vs [] r = absurd r
all-written was lead each out n h l vs (o ∷ os) r = λ i. one_written n was lead o h i ∷ each-written each out n l vs os r.1 i
