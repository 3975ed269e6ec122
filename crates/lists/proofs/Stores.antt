-- Laws of a store: a row written at a place, where it has room.
use Rattle.std.specs.Prelude.{◌≡◌, refl, not, ◌&&◌, ltb, eqb}
use Rattle.std.proofs.Math.Path.{sym, ap}
use Rattle.std.proofs.Common.{◌∙◌, ltb-true, length-take-le}
use mathlib.Core.List.{List, [], ◌∷◌, ◌++◌, append_assoc}
use Prim.Native.Nat.{ℕ, suc, ◌+◌, ◌-◌, ◌*◌, ◌≤◌, ◌<◌}
use native.Mathlib.Omega.{arith}
use Rattle.std.proofs.Math.ListN.{length, take, drop, set, length-append, length-drop, length-take}
use Rattle.std.proofs.Math.Seq.{take_at, drop_at, drop-drop, take_all, sets-eq}
use Rattle.std.proofs.lemmas.List.{take-append-le}
use Rattle.whole.specs.Tests.{by, cond_case, and_right}
use Rattle.rules.specs.Rules.{no_note}
use Rattle.lists.specs.declared.Listing.{Listing}
use Rattle.lists.specs.Lists.{Row, row, room, numbers, put, holding, store_after}

pub numbers-length : (rs : List Row) → length (numbers rs) ≡ 3 * length rs
unfolding numbers
numbers-length [] = refl
numbers-length (r ∷ rs) = omega (arith, numbers-length rs)

pub numbers-append : (rs qs : List Row) → numbers (rs ++ qs) ≡ numbers rs ++ numbers qs
unfolding numbers
numbers-append [] qs = refl
numbers-append (r ∷ rs) qs = ap (λ (l : List ℕ). r.note ∷ r.first ∷ r.length ∷ l) (numbers-append rs qs)

-- ---- a row at a place that the store has
pub in_room : (place n : ℕ) → place < room n → 3 * place + 3 ≤ n
in_room place n h = omega arith

three : (n a b c : ℕ) (l : List ℕ) → drop (3 + n) (a ∷ b ∷ c ∷ l) ≡ drop n l
three n a b c l = let e : 3 + n ≡ suc (suc (suc n)) = omega arith in rw e

module _ (s : List ℕ) (place : ℕ) (fits : 3 * place + 3 ≤ length s) where
  before-place : length (take (3 * place) s) ≡ 3 * place
  before-place = length-take-le (3 * place) s (omega arith)

  pub put-length : (r : Row) → length (put s place r) ≡ length s
  unfolding put
  put-length r =
      omega (arith, length-append (take (3 * place) s) (r.note ∷ r.first ∷ r.length ∷ drop (3 * place + 3) s), before-place, length-drop (3 * place + 3) s)

  -- written twice, the second counts
  pub put-put : (r q : Row) → put (put s place r) place q ≡ put s place q
  unfolding put
  put-put r q =
      let rest = r.note ∷ r.first ∷ r.length ∷ drop (3 * place + 3) s in
      let t : take (3 * place) (put s place r) ≡ take (3 * place) s = take_at (take (3 * place) s) rest (3 * place) before-place in
      let d : drop (3 * place) (put s place r) ≡ rest = drop_at (take (3 * place) s) rest (3 * place) before-place in
      let e : drop (3 * place + 3) (put s place r) ≡ drop (3 * place + 3) s = sym (drop-drop 3 (3 * place) (put s place r)) ∙ ap (drop 3) d in
      λ i. t i ++ q.note ∷ q.first ∷ q.length ∷ e i

  -- what lies behind stays
  pub put-before : (r : Row) (m : ℕ) → place < m → drop (3 * m) (put s place r) ≡ drop (3 * m) s
  unfolding put
  put-before r m h =
      let e : 3 * place + (3 + (3 * m - (3 * place + 3))) ≡ 3 * m = omega arith in
      let f : 3 * place + 3 + (3 * m - (3 * place + 3)) ≡ 3 * m = omega arith in
      let rest = r.note ∷ r.first ∷ r.length ∷ drop (3 * place + 3) s in
      ap (λ (n : ℕ). drop n (put s place r)) (sym e)
      ∙ sym (drop-drop (3 + (3 * m - (3 * place + 3))) (3 * place) (put s place r))
      ∙ ap (drop (3 + (3 * m - (3 * place + 3)))) (drop_at (take (3 * place) s) rest (3 * place) before-place)
      ∙ three (3 * m - (3 * place + 3)) r.note r.first r.length (drop (3 * place + 3) s)
      ∙ drop-drop (3 * m - (3 * place + 3)) (3 * place + 3) s
      ∙ ap (λ (n : ℕ). drop n s) f

  -- number by number
  pub put_is : (n f k : ℕ) → set (set (set s (3 * place) n) (3 * place + 1) f) (3 * place + 2) k ≡ put s place (row n f k)
  unfolding put
  put_is n f k =
      let one : 3 * place + 1 ≡ suc (3 * place) = omega arith in
      let two : 3 * place + 2 ≡ suc (suc (3 * place)) = omega arith in
      (λ i. set (set (set s (3 * place) n) (one i) f) (two i) k)
      ∙ sets-eq (n ∷ f ∷ k ∷ []) s (3 * place) fits
      ∙ append_assoc (take (3 * place) s) (n ∷ f ∷ k ∷ []) (drop (3 * place + 3) s)

-- behind the numbers of as many rows
pub put-behind : (rs : List Row) (q : Row) (t : List ℕ) → put (numbers rs ++ t) (length rs) q ≡ numbers (rs ++ q ∷ []) ++ drop 3 t
unfolding put numbers
put-behind rs q t =
    let l : length (numbers rs) ≡ 3 * length rs = numbers-length rs in
    let d : drop (3 * length rs) (numbers rs ++ t) ≡ t = drop_at (numbers rs) t (3 * length rs) l in
    let e : drop (3 * length rs + 3) (numbers rs ++ t) ≡ drop 3 t = sym (drop-drop 3 (3 * length rs) (numbers rs ++ t)) ∙ ap (drop 3) d in
    (λ i. take_at (numbers rs) t (3 * length rs) l i ++ q.note ∷ q.first ∷ q.length ∷ e i)
    ∙ sym (append_assoc (numbers rs) (numbers (q ∷ [])) (drop 3 t))
    ∙ ap (λ (l : List ℕ). l ++ drop 3 t) (sym (numbers-append rs (q ∷ [])))

-- ---- the store after samples is as long as it was
pub store_after-length : (count note : ℕ) (l : Listing) (s : List ℕ) → length (store_after count note l s) ≡ length s
unfolding store_after
store_after-length count note l s =
    cond_case (not (eqb note no_note) && ltb l.place (room (length s))) _ s (λ (z : List ℕ). length z ≡ length s)
    (λ e. put-length s l.place (in_room l.place (length s) (ltb-true l.place (room (length s)) (and_right (not (eqb note no_note)) _ e))) _)
    (λ e. refl)

-- written twice for the same run, the second counts
pub store_after-twice : (m n note : ℕ) (l : Listing) (s : List ℕ) → store_after n note l (store_after m note l s) ≡ store_after n note l s
unfolding store_after
store_after-twice m n note l s =
    by (not (eqb note no_note) && ltb l.place (room (length s)))
    (λ e.
    let h : 3 * l.place + 3 ≤ length s = in_room l.place (length s) (ltb-true l.place (room (length s)) (and_right (not (eqb note no_note)) _ e)) in
    let r : ℕ → Row = λ (c : ℕ). row note l.first (c - l.first) in
    rw (e, put-length s l.place h (r m), e) (put-put s l.place h (r m) (r n)))
    (λ e. rw (e, e))

-- ---- rows in a store
module _ (s : List ℕ) where
  -- the next row, where there is room
  pub holding-next : (rs : List Row) (q : Row) → length rs < room (length s) → put (holding rs s) (length rs) q ≡ holding (rs ++ q ∷ []) s
  unfolding holding
  holding-next rs q h =
      let all : take (room (length s)) rs ≡ rs = take_all (room (length s)) rs (omega arith) in
      let more : take (room (length s)) (rs ++ q ∷ []) ≡ rs ++ q ∷ [] = take_all (room (length s)) (rs ++ q ∷ []) (omega (arith, length-append rs (q ∷ []))) in
      let n : 3 * length rs + 3 ≡ 3 * length (rs ++ q ∷ []) = omega (arith, length-append rs (q ∷ [])) in
      rw (all, more) (put-behind rs q (drop (3 * length rs) s) ∙ ap (λ (l : List ℕ). numbers (rs ++ q ∷ []) ++ l) (drop-drop 3 (3 * length rs) s ∙ ap (λ (k : ℕ). drop k s) n))

  pub holding-length : (rs : List Row) → length (holding rs s) ≡ length s
  unfolding holding
  holding-length rs =
      let kept = take (room (length s)) rs in
      omega (arith, length-append (numbers kept) (drop (3 * length kept) s), numbers-length kept, length-drop (3 * length kept) s, length-take (room (length s)) rs)

  -- the last row again
  pub holding-last : (rs : List Row) (p q : Row) → length rs < room (length s) → put (holding (rs ++ p ∷ []) s) (length rs) q ≡ holding (rs ++ q ∷ []) s
  holding-last rs p q h =
      let f : 3 * length rs + 3 ≤ length s = in_room (length rs) (length s) h in
      ap (λ (z : List ℕ). put z (length rs) q) (sym (holding-next rs p h)) ∙ put-put (holding rs s) (length rs) (omega (arith, holding-length rs)) p q ∙ holding-next rs q h

  -- a row more for which there is no room
  pub holding-full : (rs : List Row) (q : Row) → room (length s) ≤ length rs → holding (rs ++ q ∷ []) s ≡ holding rs s
  unfolding holding
  holding-full rs q h = rw (take-append-le (room (length s)) rs (q ∷ []) h)
