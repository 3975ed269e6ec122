-- Laws of lines served batch after batch, and of turns one after the other.
use Rattle.std.specs.Prelude.{◌≡◌, refl, List, [], ◌∷◌, ◌++◌, ℕ, ◌+◌, ◌-◌, ◌≤◌, length, take, drop}
use Rattle.std.proofs.Common.{sym, ap, ◌∙◌, subst, subst₂, arith, length-append, length-take, length-drop, take_all, take-add, length-take-le}
use Rattle.tuner.specs.declared.Tuner.{Tuner}
use Rattle.tuner.specs.Tuners.{default_tuner}
use Rattle.text.specs.Places.{put-none}
use Rattle.lines.specs.Cutting.{all_said_then, room-left}
use Rattle.tuner.specs.declared.Answer.{Answer}
use Rattle.lines.specs.Laws.{no-places}
use Rattle.lines.specs.Lines.{Desk, desk, Answered, answered, no_room, NoEnd, AllSaid, no_line, line-more, AnsweredAll}
use Rattle.lines.specs.Serving.{held_of, AllServed, no_read, one-read, nothing-held, last_line}
use Rattle.daxfolin.specs.Turns.{Kept, bare, Serves, Turned, AsBefore, nothing_read, read_once, Working, Finishes}

-- ---- lines

-- no line is answered by nothing
nothing_said : {t u : Desk} {bytes text : List ℕ} → AllSaid t bytes u text → length bytes ≡ 0 → length text ≡ 0
nothing_said no_line e = refl
nothing_said (line-more {before = before} line a n s) e = absurd (omega (arith, e, length-append (before ++ line) (10 ∷ [])))

-- ---- the empty store stays empty
module _ {store store' : List ℕ} (e : store ≡ []) (same : length store' ≡ length store) where
  pub still_empty : store' ≡ []
  still_empty = no-places store' (same ∙ ap length e)

  pub batch_bare : {t t' : Tuner} {input out out' : List ℕ} {at n : ℕ} → AnsweredAll (desk t store) input out (desk t' store') at n out' → AnsweredAll (bare t) input out (bare t') at n out'
  batch_bare {t} {t'} {input} {out} {out'} {at} {n} p = subst₂ (λ (s s' : List ℕ). AnsweredAll (desk t s) input out (desk t' s') at n out') e still_empty p

  pub line-bare : {t t' : Tuner} {a : Answer} {line out out' : List ℕ} {n : ℕ} → Answered (desk t store) line out (desk t' store') a n out' → Answered (bare t) line out (bare t') a n out'
  line-bare {t} {t'} {a} {line} {out} {out'} {n} p = subst₂ (λ (s s' : List ℕ). Answered (desk t s) line out (desk t' s') a n out') e still_empty p

-- ---- batches of lines, one after the other
pub record ServedSoFar (t : Tuner) (input : List ℕ) (u : Tuner) (at : ℕ) : Type 0 where
  pub within : at ≤ length input
  pub text : List ℕ
  pub said : AllSaid (bare t) (take at input) (bare u) text

pub none-served : {t : Tuner} {input : List ℕ} → ServedSoFar t input t 0
none-served = record { within = omega arith; text = []; said = no_line }

module _ {t u : Tuner} {input : List ℕ} {at : ℕ} (s : ServedSoFar t input u at) where
  abbrev pub left : List ℕ
  left = take (length input - at) (drop at input)

  left_is : left ≡ drop at input
  left_is = take_all (length input - at) (drop at input) (omega (arith, length-drop at input))

  module _ {out out' : List ℕ} {v : Tuner} {r n : ℕ} (a : AnsweredAll (bare u) left out (bare v) r n out') where
    pub served-more : ServedSoFar t input v (at + r)
    served-more =
        record {
          within = omega (arith, s.within, a.within, ap length left_is, length-drop at input);
          text = s.text ++ a.text;
          said = subst (λ (l : List ℕ). AllSaid (bare t) l (bare v) (s.text ++ a.text)) (ap (λ (l : List ℕ). take at input ++ take r l) left_is ∙ sym (take-add at r input)) (all_said_then s.said a.said);
        }

    -- where no line was answered there is room for an answer, so that no line ends
    pub all-served : 4096 ≤ length out → r ≡ 0 → Serves t input v at
    unfolding served-more
    all-served room e =
        let same : at + r ≡ at = omega arith in
        let none = nothing_said a.said (omega (arith, length-take-le r left a.within)) in
        record {
          text = s.text ++ a.text;
          served = record {
            within = s.within;
            said = subst (λ (k : ℕ). AllSaid (bare t) (take k input) (bare v) (s.text ++ a.text)) same served-more.said;
            rest = subst (λ (l : List ℕ). NoEnd l) (ap (λ (k : ℕ). drop k left) e ∙ left_is) (room-left a (omega (arith, a.put.next)));
          };
        }

-- ---- turns, one after the other
pub kept-few : {buf buf' : List ℕ} {from to r : ℕ} → Kept buf from to r buf' → r ≤ 8193
kept-few {buf} {from = from} {to = to} k = omega (arith, k.many, length-take 8193 (drop from (take to buf)))

-- what was read stands after what is held; it is served, and what is left is kept
pub read-answered : {t t' : Tuner} {buf buf' : List ℕ} (held new : ℕ) {at r : ℕ} → Serves t (take (held + new) buf) t' at → Kept buf at (held + new) r buf' → Turned t (take held buf) (take new (drop held buf) ∷ []) t' (take r buf')
read-answered {t} {t'} {buf} held new {at} s k =
    let e = take-add held new buf in
    subst
    (λ (l : List ℕ). Turned t (take held buf) (take new (drop held buf) ∷ []) t' l)
    (ap (λ (l : List ℕ). held_of (drop at l)) (sym e) ∙ sym k.bytes)
    (read_once (take new (drop held buf)) (subst (λ (l : List ℕ). AllServed (bare t) l (bare t') at s.text) e s.served))

pub as_before : {t t' : Tuner} (held buf' : List ℕ) → t' ≡ t → take (length held) buf' ≡ held → AsBefore t held t' buf'
as_before {t} held buf' e f = subst₂ (λ (u : Tuner) (h : List ℕ). Turned t held [] u h) (sym e) (sym f) nothing_read

pub none_read : Working default_tuner []
none_read = record { reads = []; text = []; so_far = no_read }

pub one_turn_more : {t t' : Tuner} {held held' : List ℕ} {reads : List (List ℕ)} → Working t held → Turned t held reads t' held' → Working t' held'
one_turn_more w nothing_read = w
one_turn_more w (read_once new {text = more} s) = record { reads = w.reads ++ (new ∷ []); text = w.text ++ more; so_far = one-read new w.so_far s }

pub still_working : {t t' : Tuner} (buf buf' : List ℕ) (held : ℕ) → held ≤ length buf → Working t (take held buf) → AsBefore t (take held buf) t' buf' → Working t' (take held buf')
still_working {t' = t'} buf buf' held h w b = subst (λ (n : ℕ). Working t' (take n buf')) (length-take-le held buf h) (one_turn_more w b)

-- ---- the end of the input
pub nothing_to_finish : {t : Tuner} (held : List ℕ) {out : List ℕ} → length held ≡ 0 → Finishes t held out 0 out
nothing_to_finish {t} [] {out} e = record { left = t; text = []; ended = nothing-held; put = record { text = sym (put-none out 0); next = refl } }
nothing_to_finish (b ∷ held) e = absurd (omega arith)

pub last_line_finished : {t : Tuner} (held : List ℕ) {out : List ℕ} {t' : Tuner} {a : Answer} {n : ℕ} {out' : List ℕ} → (length held ≡ 0 → ⊥) → 4096 ≤ length out → Answered (bare t) held out (bare t') a n out' → Finishes t held out n out'
last_line_finished [] z room a = absurd (z refl)
last_line_finished (b ∷ held) {t' = t'} z room (answered {text = text} r s p) = record { left = t'; text = text; ended = last_line s; put = p }
last_line_finished (b ∷ held) z room (no_room r e v n o) = absurd (omega arith)

-- what the end answers is within the output
pub finishes_within : {t : Tuner} {held out : List ℕ} {n : ℕ} {out' : List ℕ} → Finishes t held out n out' → n ≤ length out'
finishes_within {out = out} f = omega (arith, f.put.next, ap length f.put.text, length-append f.text (drop (0 + length f.text) out))
