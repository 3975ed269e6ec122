-- Laws of rows: what one sample more, behind all others, makes of them. Without a note it makes nothing, with the note of the last sample it makes the last
-- row longer by one, and with another it is a row of its own.
use Rattle.std.specs.Prelude.{◌≡◌, refl, Bool, true, false, cond, ◌&&◌, List, [], ◌∷◌, ◌++◌, ℕ, suc, ◌+◌, eqb, length}
use Rattle.std.proofs.Common.{sym, ap, ◌∙◌, arith, eqb-true, eq-eqb, ne_eqb, length-append}
use Rattle.whole.specs.Tests.{by, cond_yes, cond_no, and_left, and_right}
use Rattle.rules.specs.Rules.{no_note}
use Rattle.lists.specs.Lists.{Row, row, before, runs_from, last_note}
use Rattle.lists.specs.Runs.{Grows, Longer, lengthened, longer}

-- ---- without a note
pub run_none : (at : ℕ) (ns : List ℕ) → runs_from at (ns ++ no_note ∷ []) ≡ runs_from at ns
unfolding runs_from
run_none at [] = refl
run_none at (m ∷ ns) = ap (λ (rs : List Row). cond (eqb m no_note) rs (before at m rs)) (run_none (suc at) ns)

-- ---- with another note than the last sample's
cond_behind : (b : Bool) (xs ys t : List Row) → cond b xs ys ++ t ≡ cond b (xs ++ t) (ys ++ t)
cond_behind true xs ys t = refl
cond_behind false xs ys t = refl

before-behind : (at m : ℕ) (rs : List Row) (x : Row) → eqb x.first (suc at) && eqb x.note m ≡ false → before at m (rs ++ x ∷ []) ≡ before at m rs ++ x ∷ []
unfolding before
before-behind at m [] x e = rw e
before-behind at m (r ∷ rs) x e = sym (cond_behind (eqb r.first (suc at) && eqb r.note m) (row m at (suc r.length) ∷ rs) (row m at 1 ∷ r ∷ rs) (x ∷ []))

no-is : (b : Bool) → (b ≡ true → ⊥) → b ≡ false
no-is true f = absurd (f refl)
no-is false f = refl

apart : (at m n : ℕ) (ns : List ℕ) → (last_note m ns ≡ n → ⊥) → suc at + length ns ≡ suc at → n ≡ m → ⊥
unfolding last_note
apart at m n [] h e f = h (sym f)
apart at m n (k ∷ ns) h e f = omega arith

pub run-new : (at last n : ℕ) (ns : List ℕ) → (n ≡ no_note → ⊥) → (last_note last ns ≡ n → ⊥) → runs_from at (ns ++ n ∷ []) ≡ runs_from at ns ++ row n (at + length ns) 1 ∷ []
unfolding runs_from before last_note
run-new at last n [] some h = let e : at + 0 ≡ at = omega arith in rw (ne_eqb n no_note some, e)
run-new at last n (m ∷ ns) some h =
    let e : suc at + length ns ≡ at + suc (length ns) = omega arith in
    let later : runs_from (suc at) (ns ++ n ∷ []) ≡ runs_from (suc at) ns ++ row n (at + suc (length ns)) 1 ∷ [] =
    run-new (suc at) m n ns some h ∙ ap (λ (f : ℕ). runs_from (suc at) ns ++ row n f 1 ∷ []) e
    in
    let next : Bool = eqb (at + suc (length ns)) (suc at) in
    let parted : next && eqb n m ≡ false = no-is _ (λ t. apart at m n ns h (e ∙ eqb-true _ _ (and_left next (eqb n m) t)) (eqb-true n m (and_right next (eqb n m) t))) in
    ap (λ (rs : List Row). cond (eqb m no_note) rs (before at m rs)) later
    ∙ ap (λ (rs : List Row). cond (eqb m no_note) (runs_from (suc at) ns ++ row n (at + suc (length ns)) 1 ∷ []) rs)
    (before-behind at m (runs_from (suc at) ns) (row n (at + suc (length ns)) 1) parted)
    ∙ sym (cond_behind (eqb m no_note) (runs_from (suc at) ns) (before at m (runs_from (suc at) ns)) (row n (at + suc (length ns)) 1 ∷ []))

pub lengthened-last : (init : List Row) (x : Row) (r : Row) (rs : List Row) → r ∷ rs ≡ init ++ x ∷ [] → lengthened r rs ≡ init ++ longer x ∷ []
unfolding lengthened
lengthened-last [] x r [] e = let f : r ≡ x = cc in ap (λ (s : Row). longer s ∷ []) f
lengthened-last [] x r (s ∷ rs) e = let z : ◌≡◌ {A = ℕ} 0 1 = cc in absurd (omega arith)
lengthened-last (i ∷ init) x r [] e = let z : 1 ≡ suc (length (init ++ x ∷ [])) = ap length e in absurd (omega (arith, length-append init (x ∷ [])))
lengthened-last (i ∷ init) x r (s ∷ rs) e =
    let f : s ∷ rs ≡ init ++ x ∷ [] = cc in
    let g : r ≡ i = cc in
    λ k. g k ∷ lengthened-last init x s rs f k

grows : (at m : ℕ) (r : Row) (rs : List Row) (b : Bool) → eqb r.first (suc at) && eqb r.note m ≡ b → Grows at m r rs
unfolding before lengthened
grows at m r [] true e = record { head = row m at (suc r.length); tail = []; was = rw e; now-is = rw e }
grows at m r (s ∷ rs) true e = record { head = row m at (suc r.length); tail = s ∷ rs; was = rw e; now-is = rw e }
grows at m r [] false e = record { head = row m at 1; tail = r ∷ []; was = rw e; now-is = rw e }
grows at m r (s ∷ rs) false e = record { head = row m at 1; tail = r ∷ s ∷ rs; was = rw e; now-is = rw e }

pub run-same : (at m n : ℕ) (ns : List ℕ) → (n ≡ no_note → ⊥) → last_note m ns ≡ n → Longer at (m ∷ ns) n
unfolding runs_from before lengthened last_note
run-same at m n [] some h =
    record {
      head = row n at 1;
      tail = [];
      was = rw (h, ne_eqb n no_note some);
      now-is = rw (h, ne_eqb n no_note some, eq-eqb (suc at) (suc at) refl, eq-eqb n n refl);
    }
run-same at m n (k ∷ ns) some h =
    let l : Longer (suc at) (k ∷ ns) n = run-same (suc at) k n ns some h in
    by (eqb m no_note)
    (λ e. record { head = l.head; tail = l.tail; was = cond_yes _ _ e ∙ l.was; now-is = cond_yes _ _ e ∙ l.now-is })
    (λ e.
    let g : Grows at m l.head l.tail = grows at m l.head l.tail _ refl in
    record { head = g.head; tail = g.tail; was = cond_no _ _ e ∙ ap (before at m) l.was ∙ g.was; now-is = cond_no _ _ e ∙ ap (before at m) l.now-is ∙ g.now-is })
