-- Lines answered one after the other: what holds after some of them, and after one more.
use Rattle.std.specs.Prelude.{◌≡◌, refl, List, [], ◌∷◌, ◌++◌, ℕ, ◌+◌, ◌-◌, ◌≤◌, ◌<◌, length, take, drop}
use Rattle.std.proofs.Common.{sym, ap, ◌∙◌, subst, append-nil, append_assoc, inl, inr, add-one, arith, length-append, length-drop, drop_of_length-le, take_all, take-suc, take-add, drop-drop, length-take-le, get_or-take, get_or-drop}
use Rattle.tuner.specs.declared.Answer.{Answer}
use Rattle.text.specs.Places.{First, put-none, put_then, put-length}
use Rattle.text.specs.Text.{Put}
use Rattle.lines.specs.Lines.{Desk, Answered, answered, no_room, NoEnd, AllSaid, no_line, line-more, AnsweredAll}

-- the first `at` bytes of the input are whole lines, answered at the front of the output
pub record Batch (t : Desk) (input out : List ℕ) (u : Desk) (at n : ℕ) (out' : List ℕ) : Type 0 where
  pub text : List ℕ
  pub said : AllSaid t (take at input) u text
  pub put : Put out 0 text out' n
  pub fits : length text ≤ length out
  pub same : length out' ≡ length out

pub none-answered : {t : Desk} {input out : List ℕ} → Batch t input out t 0 0 out
none-answered {out = out} = record { text = []; said = no_line; put = record { text = sym (put-none out 0); next = refl }; fits = omega arith; same = refl }

-- ---- a part of the output, from a place on, that comes back with a text at its front
module _ (out : List ℕ) (a : ℕ) (h : a ≤ length out) where
  abbrev pub part : List ℕ
  part = take (length out - a) (drop a out)

  part-is : part ≡ drop a out
  part-is = take_all (length out - a) (drop a out) (omega (arith, length-drop a out))

  part-put : {text ys : List ℕ} {n : ℕ} → Put part 0 text ys n → Put out a text (take a out ++ (ys ++ drop (length out - a) (drop a out))) (a + n)
  part-put {text} {ys} {n} p =
      let z : length (drop a out) ≤ length out - a = omega (arith, length-drop a out) in
      let e : 0 + length text ≡ length text = omega arith in
      record {
        text =
            ap (λ (l : List ℕ). take a out ++ (ys ++ l)) (drop_of_length-le (drop a out) z)
            ∙ ap (λ (l : List ℕ). take a out ++ l)
            (append-nil ys ∙ p.text ∙ (λ i. text ++ drop (e i) (part-is i)) ∙ ap (λ (l : List ℕ). text ++ l) (drop-drop (length text) a out))
            ∙ sym (append_assoc (take a out) text (drop (a + length text) out));
        next = omega (arith, p.next);
      }

-- a text that was put has room
put-fits : {s t s' : List ℕ} {r : ℕ} → Put s 0 t s' r → length s' ≡ length s → length t ≤ length s
put-fits {s} {t} p e = omega (arith, ap length p.text, length-append t (drop (0 + length t) s), e)

-- what was written is within the output
pub all-within : {t : Desk} {input out : List ℕ} {t' : Desk} {at n : ℕ} {out' : List ℕ} → AnsweredAll t input out t' at n out' → length out' ≡ length out → n ≤ length out'
all-within a e = omega (arith, a.put.next, put-fits a.put e)

-- ---- one line more
module _ {t : Desk} {input out : List ℕ} {u : Desk} {at n : ℕ} {out' : List ℕ} (b : Batch t input out u at n out') where
  pub length_so_far : n ≤ length out'
  length_so_far = omega (arith, b.put.next, b.fits, b.same)

  module _ {end : ℕ} (f : First input at 10 end) (l : end < length input) where
    abbrev line : List ℕ
    line = take (end - at) (drop at input)

    line-length : length line ≡ end - at
    line-length = length-take-le (end - at) (drop at input) (omega (arith, length-drop at input, f.after))

    no_end : NoEnd line
    no_end k h e =
        let m : k < end - at = omega (arith, line-length) in
        f.none_before (at + k) (omega arith) (omega (arith, f.after)) (sym (get_or-take (end - at) (drop at input) k 0 m ∙ get_or-drop at input k 0) ∙ e)

    whole-line : take at input ++ line ++ (10 ∷ []) ≡ take (end + 1) input
    whole-line =
        let e : at + (end - at) ≡ end = omega (arith, f.after) in
        sym
        (ap (λ (k : ℕ). take k input) (add-one end)
        ∙ take-suc input end 0 l
        ∙ (λ i. (ap (λ (k : ℕ). take k input) (sym e) ∙ take-add at (end - at) input) i ++ (f.stands l i ∷ [])))

    pub batch_more : {v : Desk} {a : Answer} {ys : List ℕ} {m : ℕ} → 4096 ≤ length out' - n → Answered u line (part out' n length_so_far) v a m ys → length ys ≡ length (part out' n length_so_far)
        → Batch t input out v (end + 1) (n + m) (take n out' ++ (ys ++ drop (length out' - n) (drop n out')))
    batch_more {v} room (answered {text = more} r s p) k =
        let q = part-put out' n length_so_far p in
        let z = length-take-le (length out' - n) (drop n out') (omega (arith, length-drop n out')) in
        let w : n + length more ≤ length out' = omega (arith, put-fits p k, z, length_so_far) in
        record {
          text = b.text ++ more;
          said = subst (λ (l : List ℕ). AllSaid t l v (b.text ++ more)) whole-line (line-more line b.said no_end s);
          put = put_then b.put q (omega (arith, b.fits));
          fits = omega (arith, length-append b.text more, b.put.next, w, b.same);
          same = put-length q w ∙ b.same;
        }
    batch_more room (no_room r e b z o) k = absurd (omega (arith, length-take-le (length out' - n) (drop n out') (omega (arith, length-drop n out'))))

  -- where it stops: no room for an answer, or no line ends
  pub no_room_left : at ≤ length input → length out' - n < 4096 → AnsweredAll t input out u at n out'
  no_room_left h l = record { within = h; text = b.text; said = b.said; put = b.put; stopped = inr (omega (arith, length_so_far, b.same)) }

  pub no_line_left : {end : ℕ} → First input at 10 end → length input ≤ end → AnsweredAll t input out u at n out'
  no_line_left f l =
      record {
        within = omega (arith, f.after, f.within);
        text = b.text;
        said = b.said;
        put = b.put;
        stopped =
            inl (λ k h e. f.none_before (at + k) (omega arith) (omega (arith, length-drop at input, f.after, f.within)) (sym (get_or-drop at input k 0) ∙ e));
      }
