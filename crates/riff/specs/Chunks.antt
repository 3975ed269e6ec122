-- Laws of the first chunk of a name: where a walk comes by it.
use Rattle.std.specs.Prelude.{◌≡◌, true, false, List, [], ◌∷◌, leb, ltb, eqb, Some}
use Rattle.std.proofs.Common.{subst, arith, eqb-true}
use Rattle.std.proofs.Math.Path.{ap}
use Rattle.std.proofs.lemmas.Option.{same_Some, none-some}
use Prim.Native.Nat.{ℕ, zero, suc, ◌+◌, ◌*◌, ◌≤◌, ◌<◌}
use borrow.Author.Tests.{le-leb, leb-true, ltb-false}
use Rattle.whole.specs.Tests.{by, neither}
use Rattle.riff.specs.declared.Chunk.{Chunk}
use Rattle.riff.specs.Riff.{chunk_at, body, behind, next, chunks_from, first_of, any_past}

-- the chunk at the head, or one behind it
module _ (name : ℕ) (c : Chunk) (cs : List Chunk) where
  pub first-here : eqb c.name name ≡ true → first_of name (c ∷ cs) ≡ Some c
  unfolding first_of
  first-here e = rw e

  pub first-later : eqb c.name name ≡ false → first_of name (c ∷ cs) ≡ first_of name cs
  unfolding first_of
  first-later e = rw e

-- it has that name
pub first_named : (name : ℕ) (cs : List Chunk) (c : Chunk) → first_of name cs ≡ Some c → c.name ≡ name
unfolding first_of
first_named name [] c e = absurd (none-some c e)
first_named name (d ∷ cs) c e =
    by (eqb d.name name)
    (λ z. subst (λ (k : Chunk). k.name ≡ name) (same_Some d c (rw z at e)) (eqb-true d.name name z))
    (λ z. first_named name cs c (rw z at e))

-- it stands at the walk's place or behind it, and its eight bytes lie before the end
pub record Before (end at : ℕ) (c : Chunk) : Type 0 where
  pub from : at ≤ c.at
  pub to : body c ≤ end

module _ (file : List ℕ) (end name : ℕ) where
  pub first-before : (n at : ℕ) (c : Chunk) → first_of name (chunks_from n file end at) ≡ Some c → Before end at c
  unfolding chunks_from first_of
  first-before zero at c e = absurd (none-some c e)
  first-before (suc n) at c e =
      by (leb (at + 8) end)
      (λ y.
      by (eqb (chunk_at file at).name name)
      (λ z. let same = same_Some (chunk_at file at) c (rw (y, z) at e) in record { from = omega (arith, ap (λ (d : Chunk). d.at) same); to = omega (arith, ap (λ (d : Chunk). d.at) same, leb-true (at + 8) end y) })
      (λ z. let r = first-before n (next (chunk_at file at)) c (rw (y, z) at e) in record { from = omega (arith, r.from); to = r.to }))
      (λ y. absurd (none-some c (rw y at e)))

-- where no chunk runs past the end, it does not
pub first-inside : (end name : ℕ) (cs : List Chunk) (c : Chunk) → first_of name cs ≡ Some c → any_past end cs ≡ false → behind c ≤ end
unfolding first_of any_past
first-inside end name [] c e p = absurd (none-some c e)
first-inside end name (d ∷ cs) c e p =
    let n = neither (ltb end (behind d)) (any_past end cs) p in
    by (eqb d.name name)
    (λ z. subst (λ (k : Chunk). behind k ≤ end) (same_Some d c (rw z at e)) (ltb-false end (behind d) n.0))
    (λ z. first-inside end name cs c (rw z at e) n.1)

-- a walk to an end that does not come before its body finds it too
module _ (file : List ℕ) (name end less : ℕ) (c : Chunk) (h : body c ≤ less) where
  pub first-shorter : (n k at : ℕ) → less < at + 8 + 8 * k → first_of name (chunks_from n file end at) ≡ Some c → first_of name (chunks_from k file less at) ≡ Some c
  unfolding chunks_from first_of
  first-shorter zero k at l e = absurd (none-some c e)
  first-shorter (suc n) zero at l e = absurd (omega (arith, (first-before file end name (suc n) at c e).from))
  first-shorter (suc n) (suc k) at l e =
      let y' = le-leb (at + 8) less (omega (arith, (first-before file end name (suc n) at c e).from)) in
      by (leb (at + 8) end)
      (λ y.
      by (eqb (chunk_at file at).name name)
      (λ z. rw (y', z) (rw (y, z) at e))
      (λ z. rw (y', z) (first-shorter n k (next (chunk_at file at)) (omega arith) (rw (y, z) at e))))
      (λ y. absurd (none-some c (rw y at e)))
