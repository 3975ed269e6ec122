-- A night sent again. After a night the last block is the last of its blocks that were taken or given again, so that its first number is neither that block's nor the one due, unless the numbers have wrapped.
-- A night that took its first block alone ends with it as the last block, so that it is given again, and what was refused behind it is refused once more.
use Rattle.std.specs.Prelude.{◌≡◌, cond, ℕ, zero, suc, ◌+◌, ◌-◌, ◌*◌, ◌%◌, ◌≤◌, ◌<◌, eqb, ℤ, length, take, drop}
use Rattle.std.proofs.Math.Path.{refl, sym, ap}
use Rattle.std.proofs.Common.{◌∙◌, subst, ⊎_elim, add-zero, zero-add, arith, eqb-true, ne_eqb, length-drop, take_at, drop_at, length-take-le}
use mathlib.Core.List.{List, [], ◌∷◌, ◌++◌, map, flatten}
use Rattle.std.proofs.lemmas.Bool.{eqb-false, lt-leb}
use Rattle.std.proofs.Math.ListN.{length-append}
use Rattle.whole.specs.Tests.{by, cond_no}
use Rattle.reports.specs.declared.Figures.{Figures}
use Rattle.reports.specs.Reports.{added}
use Rattle.tuner.specs.declared.Last.{Last}
use Rattle.tuner.specs.declared.Numbers.{Numbers}
use Rattle.tuner.specs.declared.Tuner.{Tuner}
use Rattle.tuner.specs.declared.Answer.{Answer}
use Rattle.tuner.specs.Tuners.{Good, after_block, parts, kept_outs, Roomy, written, IsLast, last_samples, next_number, Fits, Verdict, record_out_of_range, block_empty, block_over_512, output_short, number-neither, other-samples, given-again, take-full, taken, plain, counted, answer_by, Took}
use Rattle.tuner.proofs.Verdicts.{verdict-one, verdict-fits}
use Rattle.tuner.proofs.Outputs.{room_after}
use Rattle.staying.specs.Staying.{Stays, took-stays, took_number, took-keeps, took-taken, untaken_unchanged, refused-unchanged}
use Rattle.nights.specs.declared.NightAnswer.{NightAnswer}
use Rattle.nights.specs.Night as Night
use Rattle.nights.specs.Night.{stretches, number_after, no_night, added_by, before, OneByOne, all_done, and_on, refused, Untouched, Nighted}
use Rattle.nights.specs.Ones.{nighted_stays}
use Rattle.account.specs.Account.{again, through, NightRefused, night_again, NightGivenAgain, NightAgain}
use Rattle.account.proofs.Written.{roomy_written, rest-many}
use Rattle.account.proofs.Keeps.{added-zero, added-again, added-refused, again-last, taken-new, new-taken, not_itself, stretches-all}
use Rattle.account.specs.Calls.{SameLast}
use Rattle.account.proofs.Calls.{series-stays, meanwhile_same, meanwhile_stays, singly_taken, given_back}
use Rattle.account.specs.Nights.{DueAfter, Ended, Gone, OneTaken}

-- what is taken is then the last block
due_taken : {t u : Tuner} {k : ℕ} {xs : List ℤ} {os ps : List (List ℤ)} {store mid : List ℕ} {a : Answer} → Took t k xs os store u a ps mid → a.number ≡ 0 → DueAfter u (k + 1)
unfolding after_block
due_taken {k = k} {xs} p z =
    subst (λ (v : Tuner). DueAfter v (k + 1)) (sym (took-taken p z).0) ((verdict-fits p.verdict (omega (arith, took_number p))).nonempty, refl)

-- more blocks from the next number on, after one
due_more : {u v : Tuner} (k many : ℕ) → DueAfter u (k + 1) → (many ≡ 0 → v ≡ u) → (0 < many → DueAfter v (number_after k + many)) → DueAfter v (k + (1 + many))
due_more {u} k zero d none some = subst (λ (w : Tuner). DueAfter w (k + 1)) (sym (none refl)) d
due_more k (suc many) d none some = let s = some (omega arith) in (s.0, omega (arith, s.1))

gone : {t u : Tuner} {k : ℕ} {n n' : NightAnswer} {xss os ps : List (List ℤ)} {store s : List ℕ} → (IsLast t k → ⊥) → OneByOne t k n xss os store u n' ps s → Gone t u k n n'
unfolding after_block
gone {n = n} l all_done = record { many = 0; taken = sym (add-zero n.taken); again = refl; none = λ e. refl; wrote = λ e. refl; some = λ h. absurd (omega arith) }
gone {k = k} {n} l (refused {a = a} p m) =
    let e = added-refused n k a a.number m in record { many = 0; taken = e.2 ∙ sym (add-zero n.taken); again = e.1; none = λ z. (untaken_unchanged p (omega arith)).0; wrote = λ z. ap (λ (f : Figures). f.samples) e.0; some = λ h. absurd (omega arith) }
gone {k = k} {n} l (and_on {u = v} {a = a} p m o) =
    let z : a.number ≡ 0 = new-taken p m l in
    let e = added-zero n k a a.number z in
    let g = gone (not_itself v k (ap (λ (w : Tuner). w.numbers.last.number) (took-taken p z).0)) o in
    record {
      many = 1 + g.many;
      taken = omega (arith, g.taken, e.2);
      again = g.again ∙ e.1;
      none = λ h. absurd (omega arith);
      wrote = λ h. absurd (omega arith);
      some = λ h. due_more k g.many (due_taken p z) g.none g.some;
    }

-- a whole night: the first block may be given again
night-gone : {t u : Tuner} {k : ℕ} {n a : NightAnswer} {xss os ps : List (List ℤ)} {store s : List ℕ} → n.taken ≡ 0 → n.again.number ≡ 0 → OneByOne t k n xss os store u a ps s → 0 < through a → DueAfter u (k + through a)
night-gone x y all_done h = absurd (omega arith)
night-gone {k = k} {n} x y (refused {a = b} p m) h = let e = added-refused n k b b.number m in let f = ap (λ (c : Answer). c.number) e.1 in absurd (omega (arith, e.2))
night-gone {t} {u} {k} {n} {a} x y (and_on {u = v} {a = b} p m o) h =
    by (eqb b.number 0)
    (λ e. let g = gone (taken-new p.verdict (took_number p ∙ eqb-true b.number 0 e)) (and_on p m o) in
    let f = ap (λ (c : Answer). c.number) g.again in
    let same : g.many ≡ through a = omega (arith, g.taken) in
    subst (λ (i : ℕ). DueAfter u (k + i)) same (g.some (omega arith)))
    (λ e. let some = eqb-false b.number 0 e in
    let one : b.number ≡ 1 = omega arith in
    let stays = (untaken_unchanged p (omega arith)).0 in
    let last = again-last p.verdict (took_number p ∙ one) in
    let number : v.numbers.last.number ≡ k = ap (λ (w : Tuner). w.numbers.last.number) stays ∙ sym last.1 in
    let g = gone (not_itself v k number) o in
    let q = added-again n k b b.number one in
    let f : a.again.number ≡ 1 = ap (λ (c : Answer). c.number) (g.again ∙ q.1) ∙ one in
    let same : 1 + g.many ≡ through a = omega (arith, g.taken, q.2) in
    subst (λ (i : ℕ). DueAfter u (k + i)) same
    (due_more k g.many (subst (λ (l : ℕ). 0 < l) (sym (ap (λ (w : Tuner). w.numbers.last.length) stays)) last.0, ap (λ (i : ℕ). (i + 1) % 65536) number) g.none g.some))

-- ---- rooms

roomy_less : (n m : ℕ) (ks os : List (List ℤ)) → n ≤ m → Roomy m ks os → Roomy n ks os
unfolding Roomy
roomy_less n m [] os h r = tt
roomy_less n m (k ∷ ks) [] h r = r
roomy_less n m (k ∷ ks) (o ∷ os) h r = (omega (arith, r.0), roomy_less n m ks os h r.1)

-- behind n samples that were written there is room for the rest
rest_roomy : (n l m : ℕ) (zs : List ℤ) (os : List (List ℤ)) → n ≤ 512 → 512 * m ≤ length zs → Roomy (n + l) (parts m zs) os → Roomy l (parts m zs) (map (drop n) (written n (parts m zs) os))
unfolding parts Roomy written
rest_roomy n l zero zs os few h r = tt
rest_roomy n l (suc m) zs [] few h r = r
rest_roomy n l (suc m) zs (o ∷ os) few h r =
    let here = length-take-le 512 zs (omega arith) in
    let rest = ap length (drop_at (take n (take 512 zs)) (drop n o) n (length-take-le n (take 512 zs) (omega (arith, here)))) in
    (omega (arith, rest, length-drop n o, r.0), rest_roomy n l m (drop 512 zs) os few (omega (arith, length-drop 512 zs)) r.1)

-- ---- refused with 5

-- what is refused is answered with its number alone
refused-plain : {t t' : Tuner} {k : ℕ} {xs : List ℤ} {os os' : List (List ℤ)} {store store' : List ℕ} {a : Answer} (p : Took t k xs os store t' a os' store') → 1 < a.number → a ≡ plain a.number t.numbers
unfolding answer_by
refused-plain {t} {t'} {xs = xs} p h =
    p.answer ∙ cond_no (counted p.number (length xs) t'.numbers) (plain p.number t'.numbers) (lt-leb p.number 1 (omega (arith, took_number p)))
    ∙ (λ i. plain (took_number p i) ((untaken_unchanged p (omega arith)).0 i).numbers)

module _ {u w : Tuner} (gw : Good w) (same : SameLast u w) (k m : ℕ) (due : DueAfter u (k + m)) (wrapped : 1 < m % 65536) where
  not_last : IsLast w k → ⊥
  not_last l = let e = l.1 ∙ ap (λ (v : Last). v.number) same.last in omega (arith, due.1)

  not_next : k ≡ next_number w → ⊥
  not_next e =
      let long = ap (λ (v : Last). v.length) same.last in
      let next : next_number w ≡ (w.numbers.last.number + 1) % 65536 = cond_no 0 ((w.numbers.last.number + 1) % 65536) (ne_eqb w.numbers.last.length 0 (λ z. omega (arith, due.0))) in
      let number = ap (λ (v : Last). (v.number + 1) % 65536) same.last in
      let is : k ≡ (k + m) % 65536 = e ∙ next ∙ number ∙ due.1 in
      omega arith

  five : {xs : List ℤ} {os : List (List ℤ)} → 0 < length xs → length xs ≤ 512 → Roomy (length xs) (kept_outs w) os → Verdict w k xs os 5
  five a b r = number-neither (record { good = gw; nonempty = a; most = b; room = r }) not_last not_next

  first-five : {xs : List ℤ} {os ps : List (List ℤ)} {store mid : List ℕ} {v : Tuner} {a : Answer} → 0 < length xs → length xs ≤ 512 → Roomy (length xs) (kept_outs w) os → Took w k xs os store v a ps mid → a.number ≡ 5
  first-five a b r q = sym (took_number q) ∙ verdict-one q.verdict (five a b r)

  -- a night whose first block was taken or given again once
  night-refused : {t w' : Tuner} {n a b : NightAnswer} {xss os ps os₂ qs : List (List ℤ)} {store s store₂ s₂ : List ℕ} → n.taken ≡ 0 → n.again.number ≡ 0 → 0 < through a → Roomy (length (flatten xss)) (kept_outs w) os₂
      → OneByOne t k n xss os store u a ps s → OneByOne w k (no_night 0 w.numbers) xss os₂ store₂ w' b qs s₂ → NightRefused k w w' b os₂ qs store₂ s₂
  unfolding flatten
  night-refused x y h r all_done all_done = absurd (omega arith)
  night-refused {n = n} x y h r (refused {a = c} p l) q = let e = added-refused n k c c.number l in let f = ap (λ (c : Answer). c.number) e.1 in absurd (omega (arith, e.2))
  night-refused {os₂ = os₂} x y h r (and_on {xs = xs} {xss = xss} p l o) (and_on {a = d} q i v) =
      let f = verdict-fits p.verdict (omega (arith, took_number p)) in
      let room = roomy_less (length xs) (length (xs ++ flatten xss)) (kept_outs w) os₂ (omega (arith, length-append xs (flatten xss))) r in
      absurd (let z = first-five f.nonempty f.most room q in omega arith)
  night-refused {os₂ = os₂} x y h r (and_on {xs = xs} {xss = xss} p l o) (refused {a = d} q i) =
      let f = verdict-fits p.verdict (omega (arith, took_number p)) in
      let room = roomy_less (length xs) (length (xs ++ flatten xss)) (kept_outs w) os₂ (omega (arith, length-append xs (flatten xss))) r in
      let z = first-five f.nonempty f.most room q in
      let e = untaken_unchanged q (omega arith) in
      record { answer = ap (Night.added (no_night 0 w.numbers) k) (refused-plain q i ∙ ap (λ (v : ℕ). plain v w.numbers) z); unchanged = e.0; outs = refused-unchanged q i; rows = e.1 }

-- ---- given again

-- a tuner with the same last block answers a block with the same number
module _ {u w : Tuner} (gu : Good u) (gw : Good w) (same : SameLast u w) (k : ℕ) (xs : List ℤ) (os os₂ : List (List ℤ)) (ru : Roomy (length xs) (kept_outs u) os) (rw₂ : Roomy (length xs) (kept_outs w) os₂) where
  fits_too : Fits u xs os → Fits w xs os₂
  fits_too f = record { good = gw; nonempty = f.nonempty; most = f.most; room = rw₂ }

  last_too : IsLast u k → IsLast w k
  last_too = subst (λ (l : Last). (0 < l.length) × (k ≡ l.number)) (sym same.last)

  not_last_too : (IsLast u k → ⊥) → IsLast w k → ⊥
  not_last_too n l = n (subst (λ (l : Last). (0 < l.length) × (k ≡ l.number)) same.last l)

  next-same : next_number w ≡ next_number u
  next-same = ap (λ (l : Last). cond (eqb l.length 0) 0 ((l.number + 1) % 65536)) same.last

  samples-same : last_samples w ≡ last_samples u
  samples-same i = drop (1764 - (same.last i).length) (same.heard i)

  same-verdict : {v : ℕ} → Verdict u k xs os v → Verdict w k xs os₂ v
  same-verdict (record_out_of_range n) = absurd (n gu)
  same-verdict (block_empty g e) = block_empty gw e
  same-verdict (block_over_512 g e) = block_over_512 gw e
  same-verdict (output_short g a b n) = absurd (n ru)
  same-verdict (number-neither f l n) = number-neither (fits_too f) (not_last_too l) (λ e. n (e ∙ next-same))
  same-verdict (other-samples f l n) = other-samples (fits_too f) (last_too l) (λ e. n (e ∙ samples-same))
  same-verdict (given-again f l e) = given-again (fits_too f) (last_too l) (e ∙ sym samples-same)
  same-verdict (take-full f l n c) = take-full (fits_too f) (not_last_too l) (n ∙ sym next-same) (omega (arith, same.count))
  same-verdict (taken f l n c) = taken (fits_too f) (not_last_too l) (n ∙ sym next-same) (omega (arith, same.count))

-- the answers: of the block, and with one more that is refused
block_back : (n m : Numbers) (k : ℕ) (a b : Answer) → a.number ≡ 0 → b ≡ again a → Night.added (no_night 0 n) k b ≡ night_again (Night.added (no_night 0 m) k a)
unfolding added_by
block_back n m k a b z e =
    let none : (x : ℕ) → x ≡ 0 + x = λ x. sym (zero-add x) in
    ap (Night.added (no_night 0 n) k) e
    ∙ (λ i. record {
      number = 0;
      refused = 0;
      taken = 0;
      written = 0;
      repeated = 0;
      dropped = 0;
      pitched = 0;
      strayed = 0;
      again = record { number = 1; written = none a.written i; repeated = none a.repeated i; dropped = none a.dropped i; pitched = none a.pitched i; strayed = none a.strayed i; rows = a.rows; left = a.left };
      rows = a.rows;
      left = a.left;
    })
    ∙ ap (λ (v : ℕ). night_again (added_by v (no_night 0 m) k a)) (sym z)

refused-back : (n m : NightAnswer) (k : ℕ) (c : Answer) (v : ℕ) → 1 < v → n ≡ night_again m → m.rows ≡ c.rows → m.left ≡ c.left → added_by v n k c ≡ night_again (added_by v m k c)
unfolding added_by
refused-back n m k c zero h e r l = absurd (omega arith)
refused-back n m k c (suc zero) h e r l = absurd (omega arith)
refused-back n m k c (suc (suc v)) h e r l =
    ap (λ (x : NightAnswer). added_by (suc (suc v)) x k c) e
    ∙ (λ i. record {
      number = suc (suc v);
      refused = k;
      taken = 0;
      written = 0;
      repeated = 0;
      dropped = 0;
      pitched = 0;
      strayed = 0;
      again = record { number = 1; written = m.written; repeated = m.repeated; dropped = m.dropped; pitched = m.pitched; strayed = m.strayed; rows = r i; left = l i };
      rows = c.rows;
      left = c.left;
    })

-- the blocks behind it: both tuners have the same last block, and nothing is taken
module _ {u w : Tuner} (gu : Good u) (gw : Good w) (same : SameLast u w) {k : ℕ} (new : IsLast u k → ⊥) where
  same-refusal : {u' w' : Tuner} {xs : List ℤ} (ys : List ℤ) {os os₂ ps qs : List (List ℤ)} {store s store₂ s₂ : List ℕ} {a b : Answer} → Roomy (length (xs ++ ys)) (kept_outs u) os → Roomy (length (xs ++ ys)) (kept_outs w) os₂
      → Took u k xs os store u' a ps s → 1 < a.number → Took w k xs os₂ store₂ w' b qs s₂ → b ≡ a
  same-refusal {xs = xs} ys {os} {os₂} {a = a} {b} r r₂ p h q =
      let few : length xs ≤ length (xs ++ ys) = omega (arith, length-append xs ys) in
      let here = roomy_less (length xs) (length (xs ++ ys)) (kept_outs u) os few r in
      let there = roomy_less (length xs) (length (xs ++ ys)) (kept_outs w) os₂ few r₂ in
      let number : b.number ≡ a.number = sym (took_number q) ∙ verdict-one q.verdict (same-verdict gu gw same k xs os os₂ here there p.verdict) ∙ took_number p in
      refused-plain q (omega arith) ∙ (λ i. record { number = number i; written = 0; repeated = 0; dropped = 0; pitched = 0; strayed = 0; rows = (same.list i).rows; left = (same.list i).left }) ∙ sym (refused-plain p h)

  ends : {u' w' : Tuner} {m n a b : NightAnswer} {xss os ps os₂ qs : List (List ℤ)} {store s store₂ s₂ : List ℕ}
      → Roomy (length (flatten xss)) (kept_outs u) os → Roomy (length (flatten xss)) (kept_outs w) os₂ → n ≡ night_again m → m.rows ≡ u.numbers.list.rows → m.left ≡ u.numbers.list.left → a.taken ≡ m.taken
      → OneByOne u k m xss os store u' a ps s → OneByOne w k n xss os₂ store₂ w' b qs s₂ → Ended w w' a b store₂ s₂
  unfolding flatten
  ends r r₂ e rows left none all_done all_done = record { answer = e; unchanged = refl; rows = refl }
  ends {m = m} r r₂ e rows left none (and_on {a = a} p h o) q = let z = added-zero m k a a.number (new-taken p h new) in absurd (omega (arith, z.2, singly_taken o))
  ends r r₂ e rows left none (refused {xss = xss} p h) (and_on q l o) = let same = ap (λ (c : Answer). c.number) (same-refusal (flatten xss) r r₂ p h q) in absurd (omega arith)
  ends {m = m} {n} r r₂ e rows left none (refused {xss = xss} {a = a} p h) (refused q l) =
      let is = refused-plain p h in
      let stays = untaken_unchanged q (omega arith) in
      record {
        answer =
            ap (Night.added n k) (same-refusal (flatten xss) r r₂ p h q)
            ∙ refused-back n m k a a.number h e (rows ∙ sym (ap (λ (c : Answer). c.rows) is)) (left ∙ sym (ap (λ (c : Answer). c.left) is));
        unchanged = stays.0;
        rows = stays.1;
      }

-- what is written first stays first
starts-before : (n m : ℕ) (zs : List ℤ) (ps qs : List (List ℤ)) → Roomy n (parts m zs) ps → length qs ≡ length ps → map (take n) (take m (before n ps qs)) ≡ map (take n) (take m ps)
unfolding parts Roomy before
starts-before n zero zs ps qs r e = refl
starts-before n (suc m) zs [] qs r e = absurd r
starts-before n (suc m) zs (p ∷ ps) [] r e = absurd (omega arith)
starts-before n (suc m) zs (p ∷ ps) (q ∷ qs) r e = λ i. take_at (take n p) q n (length-take-le n p r.0) i ∷ starts-before n m (drop 512 zs) ps qs r.1 (omega arith) i

-- what a block that was taken or given again leaves room for in its outputs
module _ {t u : Tuner} {k : ℕ} {xs : List ℤ} {os ps : List (List ℤ)} {store mid : List ℕ} {a : Answer} (g : Stays t) (p : Took t k xs os store u a ps mid) (h : a.number ≤ 1) (many : u.numbers.chosen ≡ t.numbers.chosen) where
  fits : Fits t xs os
  fits = verdict-fits p.verdict (omega (arith, took_number p))

  long : 512 * (1 + u.numbers.chosen) ≤ length u.outs
  long = let l = took-stays g.0 g.1 p in omega (arith, l.1.outs, l.0.voices.few)

  own_room : Roomy (length xs) (kept_outs u) ps
  own_room =
      rw (took-keeps p h).1 (roomy_written (length xs) (1 + u.numbers.chosen) u.outs os fits.most long (room_after t u.outs os (length xs) u.numbers.chosen (length xs) refl many fits.room))

  rest-room : (l : ℕ) → Roomy (length xs + l) (kept_outs t) os → Roomy l (kept_outs u) (map (drop (length xs)) ps)
  rest-room l r =
      rw (took-keeps p h).1 (rest_roomy (length xs) l (1 + u.numbers.chosen) u.outs os fits.most long (room_after t u.outs os (length xs + l) u.numbers.chosen (length xs + l) refl many r))

-- the rows that an answer names stay
added-rows : (v : ℕ) (n : NightAnswer) (k : ℕ) (a : Answer) → ((added_by v n k a).rows ≡ a.rows) × ((added_by v n k a).left ≡ a.left)
unfolding added_by
added-rows zero n k a = (refl, refl)
added-rows (suc zero) n k a = (refl, refl)
added-rows (suc (suc v)) n k a = (refl, refl)

one-taken : {t u v : Tuner} {k : ℕ} (n : Numbers) {a : NightAnswer} {c : Answer} {xs : List ℤ} {xss os os' ps qs : List (List ℤ)} {store mid s : List ℕ} → a.taken ≡ 1 → a.again.number ≡ 0
    → Took t k xs os store v c ps mid → c.number ≤ 1 → OneByOne v (number_after k) (Night.added (no_night 0 n) k c) xss os' mid u a qs s → OneTaken u v xs a (Night.added (no_night 0 n) k c) c
unfolding added after_block
one-taken {v = v} {k} n {a} {c} x y p h o =
    by (eqb c.number 0)
    (λ e. let z = eqb-true c.number 0 e in
    let g = gone (not_itself v k (ap (λ (w : Tuner). w.numbers.last.number) (took-taken p z).0)) o in
    let f = added-zero (no_night 0 n) k c c.number z in
    let none : g.many ≡ 0 = omega (arith, g.taken, f.2) in
    record {
      zero_is = z;
      stays = g.none none;
      none = omega (arith, g.taken);
      wrote = g.wrote none ∙ ap (λ (f : Figures). f.samples) f.0 ∙ zero-add c.written ∙ ap (λ (b : Answer). b.written) (took-keeps p h).0;
    })
    (λ e. let some = eqb-false c.number 0 e in
    let one : c.number ≡ 1 = omega arith in
    let last = again-last p.verdict (took_number p ∙ one) in
    let g = gone (not_itself v k (ap (λ (w : Tuner). w.numbers.last.number) (untaken_unchanged p (omega arith)).0 ∙ sym last.1)) o in
    let f = ap (λ (b : Answer). b.number) (g.again ∙ (added-again (no_night 0 n) k c c.number one).1) in
    absurd (omega arith))

-- that block is given again, and what comes behind it ends as before
after_first_lem : {t u v w w' : Tuner} {k : ℕ} {a b : NightAnswer} {c : Answer} {xs : List ℤ} {xss os ps os₂ qs rest : List (List ℤ)} {store mid s store₂ s₂ : List ℕ} → Stays t → Stays w → SameLast u w
    → Roomy (length (xs ++ flatten xss)) (kept_outs t) os → Roomy (length (xs ++ flatten xss)) (kept_outs w) os₂ → a.taken ≡ 1 → a.again.number ≡ 0 → Took t k xs os store v c ps mid → c.number ≤ 1
    → OneByOne v (number_after k) (Night.added (no_night 0 t.numbers) k c) xss (map (drop (length xs)) ps) mid u a rest s → OneByOne w k (no_night 0 w.numbers) (xs ∷ xss) os₂ store₂ w' b qs s₂
    → NightGivenAgain w w' a b (before (length xs) ps rest) qs store₂ s₂
unfolding after_block
after_first_lem {t} {w = w} {xs = xs} {xss} {os₂ = os₂} gt gw same r r₂ x y p h o (refused q l) =
    let f = one-taken t.numbers x y p h o in
    let sv = subst (λ (m : Tuner). SameLast m w) f.stays same in
    let room = roomy_less (length xs) (length (xs ++ flatten xss)) (kept_outs w) os₂ (omega (arith, length-append xs (flatten xss))) r₂ in
    let one = ap (λ (b : Answer). b.number) (given_back gt p f.zero_is gw sv room q).answer in
    absurd (omega arith)
after_first_lem {t} {u} {v} {w} {w'} {k} {a} {b} {c} {xs} {xss} {os} {ps} {os₂} {rest = rest} gt gw same r r₂ x y p h o (and_on {u = w₁} {ps = qs₁} {qs = rest₂} {a = d} q l o₂) =
    let n = length xs in
    let f = one-taken t.numbers x y p h o in
    let sv = subst (λ (m : Tuner). SameLast m w) f.stays same in
    let room = roomy_less n (length (xs ++ flatten xss)) (kept_outs w) os₂ (omega (arith, length-append xs (flatten xss))) r₂ in
    let back = given_back gt p f.zero_is gw sv room q in
    let first = added-rows c.number (no_night 0 t.numbers) k c in
    let many = ap (λ (m : Tuner). m.numbers.chosen) (took-taken p f.zero_is).0 in
    let many₂ = ap (λ (m : Tuner). m.numbers.chosen) back.unchanged in
    let ended =
    ends (took-stays gt.0 gt.1 p).0 (took-stays gw.0 gw.1 q).0 (subst (SameLast v) (sym back.unchanged) sv)
    (not_itself v k (ap (λ (m : Tuner). m.numbers.last.number) (took-taken p f.zero_is).0))
    (rest-room gt p h many (length (flatten xss)) (subst (λ (l : ℕ). Roomy l (kept_outs t) os) (length-append xs (flatten xss)) r))
    (rest-room gw q l many₂ (length (flatten xss)) (subst (λ (l : ℕ). Roomy l (kept_outs w) os₂) (length-append xs (flatten xss)) r₂))
    (block_back w.numbers t.numbers k c d f.zero_is back.answer) (first.0 ∙ ap (λ (b : Answer). b.rows) (took-keeps p h).0) (first.1 ∙ ap (λ (b : Answer). b.left) (took-keeps p h).0) f.none o o₂ in
    let many₃ = 1 + w.numbers.chosen in
    record {
      answer = ended.answer;
      unchanged = ended.unchanged ∙ back.unchanged;
      rows = ended.rows ∙ back.rows;
      samples =
          subst (λ (m : ℕ). map (take m) (take many₃ (before n qs₁ rest₂)) ≡ map (take m) (take many₃ (before n ps rest))) (sym f.wrote)
          (starts-before n many₃ w.outs qs₁ rest₂ (subst (λ (m : Tuner). Roomy n (kept_outs m) qs₁) back.unchanged (own_room gw q l many₂)) (rest-many n qs₁ o₂)
          ∙ back.samples
          ∙ sym (starts-before n many₃ w.outs ps rest (room_after v w.outs ps n w.numbers.chosen n refl sv.chosen (own_room gt p h many)) (rest-many n ps o)));
    }

night-given : {t u w w' : Tuner} {k : ℕ} {a b : NightAnswer} {xss os ps os₂ qs : List (List ℤ)} {store s store₂ s₂ : List ℕ} → Stays t → Stays w → SameLast u w → Roomy (length (flatten xss)) (kept_outs t) os → Roomy (length (flatten xss)) (kept_outs w) os₂
    → a.taken ≡ 1 → a.again.number ≡ 0 → OneByOne t k (no_night 0 t.numbers) xss os store u a ps s → OneByOne w k (no_night 0 w.numbers) xss os₂ store₂ w' b qs s₂ → NightGivenAgain w w' a b ps qs store₂ s₂
unfolding flatten
night-given gt gw same r r₂ x y all_done all_done = absurd (omega arith)
night-given {t} {k = k} gt gw same r r₂ x y (refused {a = a} p h) q = let e = added-refused (no_night 0 t.numbers) k a a.number h in absurd (omega (arith, e.2))
night-given gt gw same r r₂ x y (and_on p h o) q = after_first_lem gt gw same r r₂ x y p h o q

-- ---- after any series of calls

untouched-none : {v : ℕ} {t u : Tuner} {os ps : List (List ℤ)} {store s : List ℕ} {a : NightAnswer} → Untouched v t os store u a ps s → 0 < through a → ⊥
untouched-none e h = let z = ap through e.answer in omega arith

-- a night of which a block was taken or given again went by single calls
by_single_calls : {t u : Tuner} {k size : ℕ} {xs : List ℤ} {os ps : List (List ℤ)} {store s : List ℕ} {a : NightAnswer} → Nighted t k size xs os store u a ps s → 0 < through a
    → (0 < size) × (size ≤ 512) × Roomy (length xs) (kept_outs t) os × OneByOne t k (no_night 0 t.numbers) (stretches size xs) os store u a ps s
by_single_calls (Night.record_out_of_range n e) h = absurd (untouched-none e h)
by_single_calls (Night.size_out_of_range g z e) h = absurd (untouched-none e h)
by_single_calls (Night.output_short g z m r e) h = absurd (untouched-none e h)
by_single_calls (Night.one_by_one g z m r o) h = (z, m, r, o)

-- one for which size and outputs serve goes so to a good tuner
goes_so : {w w' : Tuner} {k size : ℕ} {xs : List ℤ} {os qs : List (List ℤ)} {store s : List ℕ} {b : NightAnswer} → Good w → 0 < size → size ≤ 512 → Roomy (length xs) (kept_outs w) os → Nighted w k size xs os store w' b qs s → OneByOne w k (no_night 0 w.numbers) (stretches size xs) os store w' b qs s
goes_so g z m r (Night.record_out_of_range n u) = absurd (n g)
goes_so g z m r (Night.size_out_of_range h e u) = absurd (⊎_elim (λ n. omega arith) (λ l. omega arith) e)
goes_so g z m r (Night.output_short h y l n u) = absurd (n r)
goes_so g z m r (Night.one_by_one h y l n o) = o

pub night-again : NightAgain
night-again cs t u w w' k size xs os ps os₂ qs store store₁ store₂ store₃ a b h p m r q =
    let gt = series-stays h in
    let gw = meanwhile_stays (nighted_stays gt.0 gt.1 p) m in
    let same = meanwhile_same m in
    let whole : (v : Tuner) (os : List (List ℤ)) → 0 < size → Roomy (length xs) (kept_outs v) os → Roomy (length (flatten (stretches size xs))) (kept_outs v) os =
    λ v os z. subst (λ (ys : List ℤ). Roomy (length ys) (kept_outs v) os) (sym (stretches-all (length xs) size xs z (omega arith))) in (
      λ far.
          let some : 0 < through a = omega arith in
          let o = by_single_calls p some in
          night-refused gw.0 same k (through a) (night-gone refl refl o.3 some) far refl refl some (whole w os₂ o.0 r) o.3 (goes_so gw.0 o.0 o.1 r q),
      λ x y.
          let o = by_single_calls p (omega arith) in
          night-given gt gw same (whole t os o.0 o.2) (whole w os₂ o.0 r) x y o.3 (goes_so gw.0 o.0 o.1 r q),
    )
