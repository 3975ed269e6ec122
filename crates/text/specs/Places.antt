-- Places in a text: where a byte stands first, and text that is put at a place.
use Rattle.std.specs.Prelude.{◌≡◌, refl, not, ◌==◌, Some, None, List, [], ◌∷◌, ◌++◌, ℕ, suc, ◌+◌, ◌-◌, ◌≤◌, ◌<◌, length, get_or, take, drop, set}
use Rattle.std.proofs.Common.{sym, ap, ◌∙◌, append_assoc, append-nil, add-zero, add-one, arith, length-append, length-drop, take-append-drop, take_at, drop-drop, length-take-le, take-suc, get_or-drop, eq-eqb, eqb-true}
use Rattle.std.specs.List.{position, position_or_len}
use Rattle.std.proofs.lemmas.List.Quantifiers.{position-Some}
use Rattle.std.proofs.lemmas.List.Sums.{prefix_len_passes}
use Rattle.std.proofs.lemmas.Bool.{false≢true}
use Rattle.std.proofs.lemmas.Bool.Decides.{nat_tests}
use Rattle.std.proofs.Math.Seq.{drop-append-add, append_snoc}
use Rattle.std.proofs.lemmas.List.{set_split, set_at}
use Rattle.text.specs.Text.{put, Put}

-- the first place from `from` on where b stands, or the length
pub record First (a : List ℕ) (from b r : ℕ) : Type 0 where
  pub after : from ≤ r
  pub within : r ≤ length a
  pub none_before : (k : ℕ) → from ≤ k → k < r → get_or a k 0 ≡ b → ⊥
  pub stands : r < length a → get_or a r 0 ≡ b

-- as `position` finds it in what stands from there on
module _ (a : List ℕ) (from b : ℕ) (h : from ≤ length a) where
  pub first_at : (k : ℕ) → position (λ (x : ℕ). x == b) (drop from a) ≡ Some k → First a from b (from + k)
  first_at k e =
      let p = position-Some (λ (x : ℕ). x == b) (drop from a) k 0 e in
      record {
        after = omega arith;
        within = omega (arith, p.0, length-drop from a);
        none_before = λ j l m z. let w : from + (j - from) ≡ j = omega arith in false≢true (sym (p.2 (j - from) (omega arith)) ∙ eq-eqb _ b (get_or-drop from a (j - from) 0 ∙ ap (λ (n : ℕ). get_or a n 0) w ∙ z));
        stands = λ l. sym (get_or-drop from a k 0) ∙ eqb-true _ b p.1;
      }

  pub first_nowhere : position (λ (x : ℕ). x == b) (drop from a) ≡ None → First a from b (length a)
  first_nowhere e =
      let all : length (drop from a) ≤ position_or_len (λ (x : ℕ). x == b) (drop from a) = grind (arith, nat_tests) in
      record {
        after = h;
        within = omega arith;
        none_before = λ j l m z.
            let w : from + (j - from) ≡ j = omega arith in
            let p = prefix_len_passes (λ (x : ℕ). not (x == b)) (drop from a) (j - from) 0 (omega (arith, all, length-drop from a)) in
            false≢true (ap not (sym (eq-eqb _ b (get_or-drop from a (j - from) 0 ∙ ap (λ (n : ℕ). get_or a n 0) w ∙ z))) ∙ p);
        stands = λ l. absurd (omega arith);
      }

-- ---- text put at a place

module _ (s t : List ℕ) (at : ℕ) (h : at + length t ≤ length s) where
  head-length : length (take at s ++ t) ≡ at + length t
  head-length = length-append (take at s) t ∙ ap (λ (n : ℕ). n + length t) (length-take-le at s (omega arith))

  pub length-put : length (put s at t) ≡ length s
  length-put = omega (arith, length-append (take at s ++ t) (drop (at + length t) s), head-length, length-drop (at + length t) s)

  -- what stands after it
  after-put : (n : ℕ) → drop (at + length t + n) (put s at t) ≡ drop (at + length t + n) s
  after-put n =
      ap (λ (m : ℕ). drop (m + n) (put s at t)) (sym head-length)
      ∙ drop-append-add (take at s ++ t) (drop (at + length t) s) n
      ∙ drop-drop n (at + length t) s

  -- more text, after it
  pub put-put : (u : List ℕ) → put (put s at t) (at + length t) u ≡ put s at (t ++ u)
  put-put u =
      let e : at + length t + length u ≡ at + length (t ++ u) = omega (arith, length-append t u) in
      (λ i. take_at (take at s ++ t) (drop (at + length t) s) (at + length t) head-length i ++ u ++ after-put (length u) i)
      ∙ (λ i. append_assoc (take at s) t u i ++ drop (e i) s)

-- nothing is put
pub put-none : (s : List ℕ) (at : ℕ) → put s at [] ≡ s
put-none s at =
    (λ i. append-nil (take at s) i ++ drop (add-zero at i) s) ∙ take-append-drop at s

-- one byte
pub put_one : (s : List ℕ) (at b : ℕ) → at < length s → set s at b ≡ put s at (b ∷ [])
put_one s at b h = set_split s at b h ∙ sym (append_snoc (take at s) b (drop (suc at) s)) ∙ ap (λ (n : ℕ). take at s ++ (b ∷ []) ++ drop n s) (sym (add-one at))

-- one byte before a text
pub put-before : (s t : List ℕ) (at b : ℕ) → at + 1 + length t ≤ length s → set (put s (at + 1) t) at b ≡ put s at (b ∷ t)
put-before s t at b h =
    let p = take at s in
    let x = get_or s at 0 in
    let r = drop (at + 1 + length t) s in
    let e : at + 1 + length t ≡ at + suc (length t) = omega arith in
    ap (λ (l : List ℕ). set l at b)
    ((λ i. (ap (λ (n : ℕ). take n s) (add-one at) ∙ take-suc s at 0 (omega arith)) i ++ t ++ r)
    ∙ ap (λ (l : List ℕ). l ++ r) (append_snoc p x t)
    ∙ append_assoc p (x ∷ t) r)
    ∙ set_at p x (t ++ r) b at (length-take-le at s (omega arith))
    ∙ sym (append_assoc p (b ∷ t) r)
    ∙ ap (λ (n : ℕ). p ++ b ∷ t ++ drop n s) e

-- a text was put: the length stays; one byte was put before it; another text after it
module _ {s : List ℕ} {at : ℕ} {t s' : List ℕ} {r : ℕ} where
  pub put-length : Put s at t s' r → at + length t ≤ length s → length s' ≡ length s
  put-length p h = ap length p.text ∙ length-put s t at h

  pub put_then : {u s'' : List ℕ} {r' : ℕ} → Put s at t s' r → Put s' r u s'' r' → at + length t ≤ length s → Put s at (t ++ u) s'' r'
  put_then {u} p q h =
      record {
        text = q.text ∙ (λ i. put (p.text i) (p.next i) u) ∙ put-put s t at h u;
        next = omega (arith, p.next, q.next, length-append t u);
      }

pub put_byte : {s : List ℕ} {at : ℕ} (b : ℕ) {t s' : List ℕ} {r : ℕ} → at < length s → Put (set s at b) (at + 1) t s' r → Put s at (b ∷ t) s' r
put_byte {s} {at} b {t} h q = put_then (record { text = put_one s at b h; next = refl }) q (omega arith)

-- a byte was put after a text
pub put-end : {s : List ℕ} {at : ℕ} {t s' : List ℕ} {r : ℕ} (b : ℕ) → Put s at t s' r → at + length t < length s → Put s at (t ++ (b ∷ [])) (set s' r b) (r + 1)
put-end {s' = s'} {r} b p h = put_then p (record { text = put_one s' r b (omega (arith, p.next, put-length p (omega arith))); next = refl }) (omega arith)
