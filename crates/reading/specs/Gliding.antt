-- A read head over samples: where it stands after each, and what it reads there. The code keeps it by how far it lies behind the input.
use Rattle.std.specs.Prelude.{◌≡◌, List, [], ◌∷◌, ◌++◌, ◌-ℤ◌, get_or}
use Rattle.std.proofs.Math.Path.{refl, ap, subst}
use Rattle.std.proofs.Common.{sym, ◌∙◌, add-zero, add-suc, arith, drop-cons}
use Prim.Native.Nat.{ℕ, zero, suc, ◌+◌, ◌≤◌, ◌<◌}
use Rattle.std.proofs.Math.Numerals.{add-one}
use Rattle.std.proofs.Math.IntN.{ℤ, pos}
use Rattle.std.proofs.Math.ListN.{length, set, drop, length-append}
use Rattle.std.proofs.lemmas.List.{set_at}
use Rattle.std.proofs.Math.Seq.{append_snoc}
use Rattle.rules.specs.Rules.{Growth, farthest, input_at, growth, through, reading}
use Rattle.rules.specs.Facts.{value_at}
use Rattle.rules.specs.Position.{Paced}
use Rattle.ages.specs.Ages.{ago}
use Rattle.reading.specs.declared.Growth.{Growth as Moved}

-- r is the head g after one sample more, whatever the sample's number
pub record Grown (g : Moved) (rate period : ℕ) (r : Moved) : Type 0 where
  pub near : r.behind ≤ farthest
  pub position : (n : ℕ) → (growth (suc n) rate period (input_at n -ℤ pos g.behind)).position ≡ input_at (suc n) -ℤ pos r.behind
  pub repeated : (n : ℕ) → r.repeated ≡ g.repeated + length (growth (suc n) rate period (input_at n -ℤ pos g.behind)).repeats
  pub dropped : (n : ℕ) → r.dropped ≡ g.dropped + length (growth (suc n) rate period (input_at n -ℤ pos g.behind)).drops
  pub few : (r.repeated ≤ g.repeated + 1) × (r.dropped ≤ g.dropped + 1)

-- through the four samples that stand from a place on
abbrev pub among_four : List ℤ → ℕ → ℕ → ℤ
among_four s at u = through (value_at s at) (value_at s (at + 1)) (value_at s (at + 2)) (value_at s (at + 3)) u

-- so many rates and periods, each of them beside each other as a tone has them
pub record PacedAll (b : ℕ) (rates periods : List ℕ) : Type 0 where
  pub each : (i : ℕ) → i < b → Paced (get_or rates i 0) (get_or periods i 0)

-- a head as the rules have it: its position, and how many cycles were repeated and dropped
pub record Head : Type 0 where
  pub position : ℤ
  pub repeated : ℕ
  pub dropped : ℕ

-- the head after the i samples that follow sample n, at these rates with these periods
module _ (n : ℕ) (at : ℤ) (rates periods : List ℕ) where
  unfoldable pub head_after : ℕ → Head
  head_after zero = record { position = at; repeated = 0; dropped = 0 }
  head_after (suc i) =
      let h = head_after i in
      let g = growth (suc (n + i)) (get_or rates i 0) (get_or periods i 0) h.position in
      record { position = g.position; repeated = h.repeated + length g.repeats; dropped = h.dropped + length g.drops }

  -- what it reads at each of them, from the samples that stand in the store s after the first m
  unfoldable pub head_outs : List ℤ → ℕ → ℕ → List ℤ
  head_outs s m zero = []
  head_outs s m (suc i) = head_outs s m i ++ (reading (ago s (m + i + 1)) (suc (n + i)) (head_after (suc i)).position ∷ [])

-- r is where b samples leave a head that lay so far behind, whatever the number of the sample before them, and outs' has what it read
pub record Glided (behind : ℕ) (rates periods : List ℕ) (s : List ℤ) (m b : ℕ) (outs outs' : List ℤ) (r : Moved) : Type 0 where
  pub near : r.behind ≤ farthest
  pub position : (n : ℕ) → (head_after n (input_at n -ℤ pos behind) rates periods b).position ≡ input_at (n + b) -ℤ pos r.behind
  pub repeated : (n : ℕ) → r.repeated ≡ (head_after n (input_at n -ℤ pos behind) rates periods b).repeated
  pub dropped : (n : ℕ) → r.dropped ≡ (head_after n (input_at n -ℤ pos behind) rates periods b).dropped
  pub few : (r.repeated ≤ b) × (r.dropped ≤ b)
  pub out : (n : ℕ) → outs' ≡ head_outs n (input_at n -ℤ pos behind) rates periods s m b ++ drop b outs

-- ---- laws

-- a growth by its three parts
pub grown : {g r : Moved} {rate period : ℕ} (again gone : List ℕ) → r.behind ≤ farthest → r.repeated ≡ g.repeated + length again → r.dropped ≡ g.dropped + length gone
    → (length again ≤ 1) × (length gone ≤ 1)
    → ((n : ℕ) → growth (suc n) rate period (input_at n -ℤ pos g.behind) ≡ record { position = input_at (suc n) -ℤ pos r.behind; repeats = again; drops = gone }) → Grown g rate period r
grown {g} {r} again gone near a d few is =
    record {
      near = near;
      position = λ n. ap (λ (k : Growth). k.position) (is n);
      repeated = λ n. a ∙ ap (λ (k : Growth). g.repeated + length k.repeats) (sym (is n));
      dropped = λ n. d ∙ ap (λ (k : Growth). g.dropped + length k.drops) (sym (is n));
      few = (omega (arith, few.0), omega (arith, few.1));
    }

-- what is stored so far, and the rest of the array: one more is stored at the next place
pub one_more_lem : {A : Type 0} (d : A) (heads out : List A) (i : ℕ) (o : A) → length heads ≡ i → i < length out → set (heads ++ drop i out) i o ≡ (heads ++ (o ∷ [])) ++ drop (i + 1) out
one_more_lem {A} d heads out i o e l =
    ap (λ (rest : List A). set (heads ++ rest) i o) (drop-cons out i d l)
    ∙ set_at heads (get_or out i d) (drop (suc i) out) o i e
    ∙ sym (append_snoc heads o (drop (suc i) out))
    ∙ ap (λ (n : ℕ). (heads ++ (o ∷ [])) ++ drop n out) (sym (add-one i))

module _ (n : ℕ) (at : ℤ) (rates periods : List ℕ) (s : List ℤ) (m : ℕ) where
  pub outs-length : (i : ℕ) → length (head_outs n at rates periods s m i) ≡ i
  unfolding head_outs
  outs-length zero = refl
  outs-length (suc i) = length-append (head_outs n at rates periods s m i) _ ∙ ap (λ (k : ℕ). k + 1) (outs-length i) ∙ add-one i

module _ (behind : ℕ) (rates periods : List ℕ) (s : List ℤ) (m : ℕ) (outs : List ℤ) where
  -- no sample yet
  pub glided-none : {r : Moved} → behind ≤ farthest → r.behind ≡ behind → r.repeated ≡ 0 → r.dropped ≡ 0 → Glided behind rates periods s m 0 outs outs r
  unfolding head_after head_outs
  glided-none near e a d =
      record {
        near = omega (arith, near, e);
        position = λ n. (λ j. input_at (sym (add-zero n) j) -ℤ pos (sym e j));
        repeated = λ n. a;
        dropped = λ n. d;
        few = (omega (arith, a), omega (arith, d));
        out = λ n. refl;
      }

  -- one sample more
  pub glided-more : {i : ℕ} {outs₁ outs₂ : List ℤ} {g r : Moved} → i < length outs → Glided behind rates periods s m i outs outs₁ g → Grown g (get_or rates i 0) (get_or periods i 0) r
      → ((n : ℕ) → outs₂ ≡ set outs₁ i (reading (ago s (m + i + 1)) n (input_at n -ℤ pos r.behind))) → Glided behind rates periods s m (i + 1) outs outs₂ r
  unfolding head_after head_outs
  glided-more {i} {outs₁} {outs₂} {g} {r} l a b o =
      let z = add-one i in
      let at : ℕ → ℤ = λ n. input_at n -ℤ pos behind in
      let stands : (n : ℕ) → (head_after n (at n) rates periods (suc i)).position ≡ input_at (suc (n + i)) -ℤ pos r.behind =
      λ n. ap (λ (v : ℤ). (growth (suc (n + i)) (get_or rates i 0) (get_or periods i 0) v).position) (a.position n) ∙ b.position (n + i) in
      let whole : Glided behind rates periods s m (suc i) outs outs₂ r =
      record {
        near = b.near;
        position = λ n. stands n ∙ ap (λ (k : ℕ). input_at k -ℤ pos r.behind) (sym (add-suc n i));
        repeated = λ n. b.repeated (n + i) ∙ (λ j. a.repeated n j + length (growth (suc (n + i)) (get_or rates i 0) (get_or periods i 0) (sym (a.position n) j)).repeats);
        dropped = λ n. b.dropped (n + i) ∙ (λ j. a.dropped n j + length (growth (suc (n + i)) (get_or rates i 0) (get_or periods i 0) (sym (a.position n) j)).drops);
        few = (omega (arith, b.few.0, a.few.0), omega (arith, b.few.1, a.few.1));
        out =
            λ n. o (suc (n + i))
            ∙ (λ j. set (a.out n j) i (reading (ago s (m + i + 1)) (suc (n + i)) (sym (stands n) j)))
            ∙ one_more_lem (pos 0) (head_outs n (at n) rates periods s m i) outs i _ (outs-length n (at n) rates periods s m i) l
            ∙ ap (λ (k : ℕ). head_outs n (at n) rates periods s m (suc i) ++ drop k outs) z;
      } in
      subst (λ (k : ℕ). Glided behind rates periods s m k outs outs₂ r) (sym z) whole
