-- How the input is cut does not matter, into reads or into batches: bytes are parted in one way into whole lines and a rest in which no line ends,
-- whole lines are answered in one way, and of a rest that is too long what is held is too long as well, so that its line is unreadable either way.
-- `AllServed` speaks of an input's lines as one `AllSaid`, and batches one after the other make it (`served-last`, `served-after`): `cutting` covers reads and batches.
use Rattle.std.specs.Prelude.{◌≡◌, refl, List, [], ◌∷◌, ◌++◌, ◌⊎◌, ℕ, zero, suc, ◌+◌, ◌-◌, ◌≤◌, ◌<◌, length, get_or, take, drop}
use Rattle.std.proofs.Common.{sym, ap, ◌∙◌, subst, subst₂, append-nil, append_assoc, inl, inr, arith, length-append, length-drop, length-take, take-append-drop, get_or-append-add, get_or-take, take_at, drop_at, take_all, length-take-le, take-add, drop-drop}
use Rattle.std.proofs.lemmas.List.{append_cancel_right, get_or_at}
use Rattle.std.proofs.Math.Decide.{dec_le, dec_lt, ℕ_discrete}
use Rattle.std.proofs.Math.ListN.{get_or-append}
use Rattle.std.proofs.Math.Seq.{take-append-add, drop-append-add, take-append_seam, drop-append_seam}
use Rattle.text.specs.Text.{put}
use Rattle.lines.specs.Lines.{read, Line, Desk, Said, NoEnd, AllSaid, no_line, line-more, AnsweredAll}
use Rattle.lines.specs.Laws.{read-long}
use Rattle.lines.specs.Ones.{said-one}
use Rattle.lines.specs.Serving.{held_of, AllServed, Reads, no_read, one-read, Ended, nothing-held, last_line, joined, Cutting}

-- ---- bytes that begin alike

-- of two beginnings of the same bytes the longer one begins with the shorter one
longer : (a w c z : List ℕ) → a ++ w ≡ c ++ z → length a ≤ length c → (d : List ℕ) × (c ≡ a ++ d) × (w ≡ d ++ z)
longer a w c z e h =
    let k = length c - length a in
    let n : length a + k ≡ length c = omega arith in
    let begins : take (length a + k) (a ++ w) ≡ c = (λ i. take (n i) (e i)) ∙ take-append_seam c z in
    let ends : drop (length a + k) (a ++ w) ≡ z = (λ i. drop (n i) (e i)) ∙ drop-append_seam c z in
    (take k w, sym begins ∙ take-append-add a w k, sym (take-append-drop k w) ∙ ap (λ (l : List ℕ). take k w ++ l) (sym (drop-append-add a w k) ∙ ends))

-- no line ends in bytes one after the other, nor in a part of them
no_end_then : (a b : List ℕ) → NoEnd a → NoEnd b → NoEnd (a ++ b)
no_end_then a b na nb k h e = by_place (dec_lt k (length a))
  where
    by_place : Dec (k < length a) → ⊥
    by_place (yes l) = na k l (sym (get_or-append a b 0 k l) ∙ e)
    by_place (no l) =
        let p : length a + (k - length a) ≡ k = omega arith in
        nb (k - length a) (omega (arith, length-append a b)) (sym (get_or-append-add a b (k - length a) 0) ∙ ap (λ (n : ℕ). get_or (a ++ b) n 0) p ∙ e)

no_end_after : (a b : List ℕ) → NoEnd (a ++ b) → NoEnd b
no_end_after a b n k h e = n (length a + k) (omega (arith, length-append a b)) (get_or-append-add a b k 0 ∙ e)

-- whole lines: nothing, or the last byte ends a line
abbrev Whole : List ℕ → Type 0
Whole bs = (k : ℕ) → length bs ≡ suc k → get_or bs k 0 ≡ 10

all_whole : {t u : Desk} {bs x : List ℕ} → AllSaid t bs u x → Whole bs
all_whole no_line k e = absurd (omega arith)
all_whole (line-more {before} line s n r) k e = get_or_at (before ++ line) 10 [] 0 k (omega (arith, length-append (before ++ line) (10 ∷ [])))

-- whole lines do not reach into a rest in which no line ends
none-longer : (a r b s : List ℕ) → NoEnd r → Whole b → a ++ r ≡ b ++ s → length b ≤ length a
none-longer a r b s n w e = by_length (dec_le (length b) (length a))
  where
    by_length : Dec (length b ≤ length a) → length b ≤ length a
    by_length (yes h) = h
    by_length (no h) =
        let k = length b - 1 in
        let j = k - length a in
        let p : length a + j ≡ k = omega arith in
        absurd
        (n j (omega (arith, ap length e, length-append a r, length-append b s))
        (sym (get_or-append-add a r j 0) ∙ (λ i. get_or (e i) (p i) 0) ∙ get_or-append b s 0 k (omega arith) ∙ w k (omega arith)))

-- so bytes are parted in one way
pub parted-one : (a r b s : List ℕ) → Whole a → Whole b → NoEnd r → NoEnd s → a ++ r ≡ b ++ s → (a ≡ b) × (r ≡ s)
parted-one a r b s wa wb nr ns e =
    let n : length b ≡ length a = omega (arith, none-longer a r b s nr wb e, none-longer b s a r ns wa (sym e)) in
    (sym (take-append_seam a r) ∙ ap (take (length a)) e ∙ take_at b s (length a) n, sym (drop-append_seam a r) ∙ ap (drop (length a)) e ∙ drop_at b s (length a) n)

-- bytes in which no line ends are shorter than whole lines that begin like them
starts-within : (a w c z : List ℕ) → NoEnd a → Whole c → 0 < length c → a ++ w ≡ c ++ z → length a < length c
starts-within a w c z n l h e = by_length (dec_lt (length a) (length c))
  where
    by_length : Dec (length a < length c) → length a < length c
    by_length (yes m) = m
    by_length (no m) = let d = longer c z a w (sym e) (omega arith) in absurd (omega (arith, none-longer [] a c d.0 n l d.1))

-- ---- whole lines are answered in one way, and one after the other
module _ {t : Desk} where
  same_lines : {bs cs : List ℕ} {t₁ t₂ : Desk} {x₁ x₂ : List ℕ} → AllSaid t bs t₁ x₁ → AllSaid t cs t₂ x₂ → bs ≡ cs → (t₁ ≡ t₂) × (x₁ ≡ x₂)
  same_lines no_line no_line e = (refl, refl)
  same_lines no_line (line-more {before} line s n r) e = absurd (omega (arith, ap length e, length-append (before ++ line) (10 ∷ [])))
  same_lines (line-more {before} line s n r) no_line e = absurd (omega (arith, ap length e, length-append (before ++ line) (10 ∷ [])))
  same_lines {t₂ = t₂} (line-more {before = a} l s n r) (line-more {before = b} m {more = y} {a = c} s' n' r') e =
      let p = parted-one a l b m (all_whole s) (all_whole s') n n' (append_cancel_right (a ++ l) (b ++ m) (10 ∷ []) e) in
      let o = same_lines s s' p.0 in
      let q = said-one r (subst₂ (λ (u : Desk) (l : List ℕ). Said u (read l) t₂ y c) (sym o.0) (sym p.1) r') in
      (q.0, λ i. o.1 i ++ q.1 i)

  pub all_said_one : {bs : List ℕ} {t₁ t₂ : Desk} {x₁ x₂ : List ℕ} → AllSaid t bs t₁ x₁ → AllSaid t bs t₂ x₂ → (t₁ ≡ t₂) × (x₁ ≡ x₂)
  all_said_one p q = same_lines p q refl

pub all_said_then : {t u v : Desk} {bs cs x y : List ℕ} → AllSaid t bs u x → AllSaid u cs v y → AllSaid t (bs ++ cs) v (x ++ y)
all_said_then {bs} {x} s no_line = rw (append-nil bs, append-nil x) s
all_said_then s (line-more {before} line {text} {more} p n r) = simp append_assoc (simp append_assoc at (line-more line (all_said_then s p) n r))

-- ---- batches

-- where no line ends after the first `at` bytes, whole lines at the front of the input are no longer
no_more : {t u : Desk} {x : List ℕ} (input : List ℕ) {m at : ℕ} → AllSaid t (take m input) u x → m ≤ length input → at ≤ length input → NoEnd (drop at input) → m ≤ at
no_more input {m} {at} s h l n =
    omega (
      arith,
      none-longer (take at input) (drop at input) (take m input) (drop m input) n (all_whole s) (take-append-drop at input ∙ sym (take-append-drop m input)),
      length-take-le at input l,
      length-take-le m input h,
    )

-- with room left for one more answer, all lines that end were taken
pub room-left : {t t' : Desk} {input out out' : List ℕ} {at n : ℕ} → AnsweredAll t input out t' at n out' → n + 4096 ≤ length out → NoEnd (drop at input)
room-left {input = input} {out} {at = at} {n} p h = by_reason p.stopped
  where
    by_reason : NoEnd (drop at input) ⊎ (length out < n + 4096) → NoEnd (drop at input)
    by_reason (inl f) = f
    by_reason (inr l) = absurd (omega arith)

module _ {t : Desk} {input out : List ℕ} {t₁ t₂ : Desk} {at₁ at₂ n₁ n₂ : ℕ} {o₁ o₂ : List ℕ} (p : AnsweredAll t input out t₁ at₁ n₁ o₁) (q : AnsweredAll t input out t₂ at₂ n₂ o₂) where
  -- two batches that took the same number of bytes leave the same tuner, store and output
  pub batch_one : at₁ ≡ at₂ → (t₁ ≡ t₂) × (n₁ ≡ n₂) × (o₁ ≡ o₂)
  batch_one e =
      let o = all_said_one p.said (rw (← e) at q.said) in
      (o.0, omega (arith, p.put.next, q.put.next, ap length o.1), p.put.text ∙ ap (put out 0) o.1 ∙ sym q.put.text)

  -- one that left no line that ends took as many bytes as any other, and two such the same number
  pub batch_most : NoEnd (drop at₁ input) → at₂ ≤ at₁
  batch_most f = no_more input q.said q.within p.within f

  pub batch_all : NoEnd (drop at₁ input) → NoEnd (drop at₂ input) → at₁ ≡ at₂
  batch_all f g = omega (arith, batch_most f, no_more input p.said p.within q.within g)

-- batches one after the other, each on the rest that the one before left, until no line ends: all lines are served
pub served-last : {t u : Desk} {input out out' : List ℕ} {at n : ℕ} (b : AnsweredAll t input out u at n out') → NoEnd (drop at input) → AllServed t input u at b.text
served-last b f = record { within = b.within; said = b.said; rest = f }

pub served-after : {t u v : Desk} {input out out' more : List ℕ} {at n m : ℕ} (b : AnsweredAll t input out u at n out') → AllServed u (drop at input) v m more → AllServed t input v (at + m) (b.text ++ more)
served-after {input = input} {at = at} {m = m} b s =
    record {
      within = omega (arith, b.within, s.within, length-drop at input);
      said = rw (take-add at m input) (all_said_then b.said s.said);
      rest = subst NoEnd (drop-drop m at input) s.rest;
    }

-- so however many batches it takes, the same bytes are answered by the same text and leave the same tuner and store
pub served-one : {t u v : Desk} {input x y : List ℕ} {at m : ℕ} → AllServed t input u at x → AllServed t input v m y → (at ≡ m) × (u ≡ v) × (x ≡ y)
served-one {input = input} {at = at} {m} p q =
    let e : at ≡ m = omega (arith, no_more input q.said q.within p.within p.rest, no_more input p.said p.within q.within q.rest) in
    let o = all_said_one p.said (rw (← e) at q.said) in
    (e, o.0, o.1)

-- ---- a line that is too long

-- all lines where the first one begins with bytes that are too long, and with others instead: both are unreadable
module _ {t : Desk} (a b : List ℕ) (la : 8192 < length a) (lb : 8192 < length b) (na : NoEnd a) (nb : NoEnd b) where
  instead : {bs x : List ℕ} {u : Desk} → AllSaid t bs u x → (w : List ℕ) → bs ≡ a ++ w → AllSaid t (b ++ w) u x
  instead no_line w e = absurd (omega (arith, ap length e, length-append a w))
  instead {u = u} (line-more line {more = more} {a = c} no_line n r) w e =
      let l = starts-within a w (line ++ (10 ∷ [])) [] na (all_whole (line-more line no_line n r)) (omega (arith, length-append line (10 ∷ []))) (sym e ∙ sym (append-nil (line ++ (10 ∷ [])))) in
      let d = longer a w line (10 ∷ []) (sym e) (omega (arith, length-append line (10 ∷ []))) in
      let z : 8192 < length line = omega (arith, ap length d.1, length-append a d.0) in
      let k : 8192 < length (b ++ d.0) = omega (arith, length-append b d.0) in
      subst (λ (l : List ℕ). AllSaid t l u more) (append_assoc b d.0 (10 ∷ []) ∙ ap (λ (l : List ℕ). b ++ l) (sym d.2))
      (line-more (b ++ d.0) no_line (no_end_then b d.0 nb (no_end_after a d.0 (subst NoEnd d.1 n)))
      (subst (λ (l : Line). Said t l u more c) (read-long line z ∙ sym (read-long (b ++ d.0) k)) r))
  instead {u = u} (line-more line {more = more} (line-more {before} other {text = text} {more = more'} p m q) n r) w e =
      let lines = before ++ other ++ (10 ∷ []) in
      let f : a ++ w ≡ lines ++ (line ++ (10 ∷ [])) = sym e ∙ append_assoc lines line (10 ∷ []) in
      let l = starts-within a w lines (line ++ (10 ∷ [])) na (all_whole (line-more other p m q)) (omega (arith, length-append (before ++ other) (10 ∷ []))) f in
      let d = longer a w lines (line ++ (10 ∷ [])) f (omega arith) in
      subst (λ (l : List ℕ). AllSaid t l u (text ++ more' ++ more)) (append_assoc (b ++ d.0) line (10 ∷ []) ∙ append_assoc b d.0 (line ++ (10 ∷ [])) ∙ ap (λ (l : List ℕ). b ++ l) (sym d.2))
      (line-more line (instead (line-more other p m q) d.0 d.1) n r)

-- ---- what is held

-- beginnings: one as long as all is all; no line ends in it; with more after it, it begins as all does with more after it
take_same : (n : ℕ) (bs : List ℕ) → length (take n bs) ≡ length bs → take n bs ≡ bs
take_same n bs e = take_all n bs (omega (arith, length-take n bs))

no_end_take : (n : ℕ) (bs : List ℕ) → NoEnd bs → NoEnd (take n bs)
no_end_take n bs f k h e =
    let l : k < n = omega (arith, length-take n bs) in
    f k (omega (arith, length-take n bs)) (sym (get_or-take n bs k 0 l) ∙ e)

take_then : (n : ℕ) (bs new : List ℕ) → take n (take n bs ++ new) ≡ take n (bs ++ new)
take_then zero bs new = refl
take_then (suc n) [] new = refl
take_then (suc n) (b ∷ bs) new = ap (λ (l : List ℕ). b ∷ l) (take_then n bs new)

no_end_held : (rest : List ℕ) → NoEnd rest → NoEnd (held_of rest)
no_end_held rest f = search no_end_take

held_then : (rest new : List ℕ) → held_of (held_of rest ++ new) ≡ held_of (rest ++ new)
held_then rest new = rw take_then

-- with more bytes after it the same is answered: it is all of the rest, or too long as the rest is
held-said : (rest w : List ℕ) {t u : Desk} {x : List ℕ} → NoEnd rest → AllSaid t (held_of rest ++ w) u x → AllSaid t (rest ++ w) u x
held-said rest w {t} {u} {x} n s = by_length (dec_lt 8192 (length rest))
  where
    by_length : Dec (8192 < length rest) → AllSaid t (rest ++ w) u x
    by_length (yes h) = instead (held_of rest) rest (simp length-take (omega arith)) h (no_end_held rest n) n s w refl
    by_length (no h) =
        let e : length (held_of rest) ≡ length rest = simp length-take (omega arith) in
        rw take_same at s

-- ---- reads

-- the bytes read so far are whole lines, answered, and a rest of which so much is held
record Kept (t : Desk) (bytes : List ℕ) (u : Desk) (held x : List ℕ) : Type 0 where
  whole : List ℕ
  rest : List ℕ
  parts : bytes ≡ whole ++ rest
  said : AllSaid t whole u x
  open_end : NoEnd rest
  kept : held ≡ held_of rest

kept_more : {t u v : Desk} {bytes held x y : List ℕ} (new : List ℕ) {at : ℕ} → Kept t bytes u held x → AllServed u (held ++ new) v at y → Kept t (bytes ++ new) v (held_of (drop at (held ++ new))) (x ++ y)
kept_more {t} {u} {v} {bytes} {held} {x} {y} new {at} p s = by_lines (ℕ_discrete at 0)
  where
    input : List ℕ
    input = held ++ new

    no_end : NoEnd held
    no_end = rw p.kept (no_end_held p.rest p.open_end)

    by_lines : Dec (at ≡ 0) → Kept t (bytes ++ new) v (held_of (drop at input)) (x ++ y)
    by_lines (yes e) =
        record {
          whole = p.whole ++ take at input;
          rest = p.rest ++ new;
          parts =
              ap (λ (l : List ℕ). l ++ new) p.parts
              ∙ append_assoc p.whole p.rest new
              ∙ sym (ap (λ (l : List ℕ). l ++ (p.rest ++ new)) (ap (λ (n : ℕ). p.whole ++ take n input) e ∙ append-nil p.whole));
          said = all_said_then p.said s.said;
          open_end = no_end_then p.rest new p.open_end (no_end_after held new (subst (λ (n : ℕ). NoEnd (drop n input)) e s.rest));
          kept = ap (λ (n : ℕ). held_of (drop n input)) e ∙ ap (λ (l : List ℕ). held_of (l ++ new)) p.kept ∙ held_then p.rest new;
        }
    by_lines (no e) =
        let n = length-take-le at input s.within in
        let f = sym (take-append-drop at input) in
        let l = starts-within held new (take at input) (drop at input) no_end (all_whole s.said) (omega arith) f in
        let w = longer held new (take at input) (drop at input) f (omega arith) in
        let q = w.1 ∙ ap (λ (l : List ℕ). l ++ w.0) p.kept in
        record {
          whole = p.whole ++ (p.rest ++ w.0);
          rest = drop at input;
          parts = (λ i. p.parts i ++ w.2 i) ∙ simp append_assoc;
          said = all_said_then p.said (held-said p.rest w.0 p.open_end (subst (λ (l : List ℕ). AllSaid u l v y) q s.said));
          open_end = s.rest;
          kept = refl;
        }

joined-more : (reads : List (List ℕ)) (new : List ℕ) → joined (reads ++ (new ∷ [])) ≡ joined reads ++ new
joined-more [] new = append-nil new
joined-more (r ∷ reads) new = ap (λ (l : List ℕ). r ++ l) (joined-more reads new) ∙ sym (append_assoc r (joined reads) new)

reads_kept : {t u : Desk} {reads : List (List ℕ)} {held x : List ℕ} → Reads t reads u held x → Kept t (joined reads) u held x
reads_kept no_read = record { whole = []; rest = []; parts = refl; said = no_line; open_end = λ k h e. absurd (omega arith); kept = refl }
reads_kept {t} (one-read {before} {d' = v} {held} {text} {more} new {at} p s) =
    subst (λ (l : List ℕ). Kept t l v (held_of (drop at (held ++ new))) (text ++ more)) (sym (joined-more before new)) (kept_more new (reads_kept p) s)

-- any reads are as one read of all their bytes
kept_read : {t u : Desk} {bytes held x : List ℕ} → Kept t bytes u held x → Reads t (bytes ∷ []) u held x
kept_read {t} {u} {bytes} {held} {x} k = subst (λ (l : List ℕ). Reads t (bytes ∷ []) u l x) (ap held_of ends ∙ sym k.kept) (one-read bytes no_read served)
  where
    at : ℕ
    at = length k.whole

    ends : drop at bytes ≡ k.rest
    ends = ap (drop at) k.parts ∙ drop-append_seam k.whole k.rest

    served : AllServed t bytes u at x
    served =
        record {
          within = omega (arith, ap length k.parts, length-append k.whole k.rest);
          said = rw (ap (take at) k.parts ∙ take-append_seam k.whole k.rest) k.said;
          rest = subst NoEnd (sym ends) k.open_end;
        }

pub as_one_read : {t u : Desk} {reads : List (List ℕ)} {held x : List ℕ} → Reads t reads u held x → Reads t (joined reads ∷ []) u held x
as_one_read p = kept_read (reads_kept p)

-- the same bytes are kept in one way, and the end of the input is answered in one way
kept-one : {t u u' : Desk} {bytes bytes' held held' x x' : List ℕ} → bytes ≡ bytes' → Kept t bytes u held x → Kept t bytes' u' held' x' → (u ≡ u') × (held ≡ held') × (x ≡ x')
kept-one {t} {u' = u'} {x' = x'} e p q =
    let o = parted-one p.whole p.rest q.whole q.rest (all_whole p.said) (all_whole q.said) p.open_end q.open_end (sym p.parts ∙ e ∙ q.parts) in
    let s = all_said_one p.said (subst (λ (l : List ℕ). AllSaid t l u' x') (sym o.0) q.said) in
    (s.0, p.kept ∙ ap held_of o.1 ∙ sym q.kept, s.1)

ended-one : {t v v' : Desk} {held y y' : List ℕ} → Ended t held v y → Ended t held v' y' → (v ≡ v') × (y ≡ y')
ended-one nothing-held nothing-held = (refl, refl)
ended-one (last_line p) (last_line q) = let o = said-one p q in (o.0, o.1)

pub cutting : Cutting
cutting t u u' v v' reads reads' held held' text text' last last' e p x q y =
    let o = kept-one e (reads_kept p) (reads_kept q) in
    let s = ended-one x (subst₂ (λ (u : Desk) (held : List ℕ). Ended u held v' last') (sym o.0) (sym o.1) y) in
    (s.0, λ i. o.2 i ++ s.1 i)
