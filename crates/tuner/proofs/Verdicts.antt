-- Laws of the number that answers a block: no second number, and what follows from one.
use Rattle.std.specs.Prelude.{◌≡◌, refl, cond, List, ℕ, zero, suc, ◌+◌, ◌-◌, ◌≤◌, eqb, leb, ℤ, length}
use Rattle.std.proofs.Math.Path.{sym, ap, subst}
use Rattle.std.proofs.Common.{◌∙◌, arith, leb-true, length-drop}
use Rattle.std.proofs.lemmas.Bool.{eqb-false}
use Rattle.whole.specs.Tests.{by, cond_yes, cond_no}
use Rattle.answers.specs.Numbering.{Numbered, neither, other, again, full, new}
use Rattle.answers.specs.Paths.{Step, isn't, is, step-one}
use Rattle.tuner.specs.declared.Numbers.{Numbers}
use Rattle.tuner.specs.declared.Tuner.{Tuner}
use Rattle.tuner.specs.declared.Answer.{Answer}
use Rattle.tuner.specs.Tuners.{kept_outs, Roomy, written, IsLast, last_samples, next_number, Fits, Verdict, record_out_of_range, block_empty, block_over_512, output_short, number-neither, other-samples, given-again, take-full, taken, after_block, list_after, plain, counted, answer_by, Took, with_numbers}
use Rattle.tuner.specs.Following.{given_by}
use Rattle.tuner.specs.Verdicts.{Before}
use Rattle.tuner.proofs.Outputs.{room_after}

module _ {t : Tuner} {k : ℕ} {xs : List ℤ} {os : List (List ℤ)} where
  pub by_number : {v : ℕ} → Fits t xs os → Numbered t.numbers.count t.numbers.last.number t.numbers.last.length t.heard k xs v → Verdict t k xs os v
  by_number f (neither l n) = number-neither f l n
  by_number f (other l e) = other-samples f l e
  by_number f (again l e) = given-again f l e
  by_number f (full l n c) = take-full f l n c
  by_number f (new l n c) = taken f l n c

-- ---- no second number: each is the end of one path through the same tests

both : {v w n : ℕ} → v ≡ n → w ≡ n → v ≡ w
both e f = e ∙ sym f

module _ {t : Tuner} {xs : List ℤ} {os : List (List ℤ)} {v : ℕ} {A : Type 0} where
  fitting : Fits t xs os → A → Before t xs os v A
  fitting f a = is f.good (is f.nonempty (is f.most (is f.room a)))

  fits_on : v ≤ 1 → Before t xs os v A → Fits t xs os
  fits_on h (isn't n e) = absurd (omega arith)
  fits_on h (is g (isn't n e)) = absurd (omega arith)
  fits_on h (is g (is a (isn't n e))) = absurd (omega arith)
  fits_on h (is g (is a (is b (isn't n e)))) = absurd (omega arith)
  fits_on h (is g (is a (is b (is c s)))) = record { good = g; nonempty = a; most = b; room = c }

module _ {t : Tuner} {k : ℕ} {xs : List ℤ} {os : List (List ℤ)} where
  path : {v : ℕ} → Verdict t k xs os v → Before t xs os v
      (Step (IsLast t k)
      (Step (k ≡ next_number t) (v ≡ 5) (Step (t.numbers.count + length xs ≤ 1000000000) (v ≡ 7) (v ≡ 0)))
      (Step (xs ≡ last_samples t) (v ≡ 6) (v ≡ 1)))
  path (record_out_of_range n) = isn't n refl
  path (block_empty g e) = is g (isn't (λ p. omega arith) refl)
  path (block_over_512 g e) = is g (is (omega arith) (isn't (λ p. omega arith) refl))
  path (output_short g a b e) = is g (is a (is b (isn't e refl)))
  path (number-neither f l n) = fitting f (isn't l (isn't n refl))
  path (other-samples f l n) = fitting f (is l (isn't n refl))
  path (given-again f l e) = fitting f (is l (is e refl))
  path (take-full f l n c) = fitting f (isn't l (is n (isn't (λ p. omega arith) refl)))
  path (taken f l n c) = fitting f (isn't l (is n (is c refl)))

  pub verdict-one : {v w : ℕ} → Verdict t k xs os v → Verdict t k xs os w → v ≡ w
  verdict-one p q =
      step-one (path p) (path q) both
      (λ p q. step-one p q both
      (λ p q. step-one p q both
      (λ p q. step-one p q both
      (λ p q. step-one p q
      (λ p q. step-one p q both (λ p q. step-one p q both both))
      (λ p q. step-one p q both both)))))

  -- what is taken or given again fits
  pub verdict-fits : {v : ℕ} → Verdict t k xs os v → v ≤ 1 → Fits t xs os
  verdict-fits p h = fits_on h (path p)

  -- what is taken is within the limit
  pub verdict-zero : {v : ℕ} → Verdict t k xs os v → v ≡ 0 → t.numbers.count + length xs ≤ 1000000000
  verdict-zero (taken f l n c) e = c
  verdict-zero (record_out_of_range n) e = absurd (omega arith)
  verdict-zero (block_empty g p) e = absurd (omega arith)
  verdict-zero (block_over_512 g p) e = absurd (omega arith)
  verdict-zero (output_short g a b p) e = absurd (omega arith)
  verdict-zero (number-neither f l n) e = absurd (omega arith)
  verdict-zero (other-samples f l n) e = absurd (omega arith)
  verdict-zero (given-again f l p) e = absurd (omega arith)
  verdict-zero (take-full f l n c) e = absurd (omega arith)

  -- what is given again has the samples of the last block
  pub verdict-again : {v : ℕ} → Verdict t k xs os v → v ≡ 1 → xs ≡ last_samples t
  verdict-again (given-again f l p) e = p
  verdict-again (record_out_of_range n) e = absurd (omega arith)
  verdict-again (block_empty g p) e = absurd (omega arith)
  verdict-again (block_over_512 g p) e = absurd (omega arith)
  verdict-again (output_short g a b p) e = absurd (omega arith)
  verdict-again (number-neither f l n) e = absurd (omega arith)
  verdict-again (other-samples f l n) e = absurd (omega arith)
  verdict-again (take-full f l n c) e = absurd (omega arith)
  verdict-again (taken f l n c) e = absurd (omega arith)

  -- no second answer
  pub took_one : {store : List ℕ} {t₁ t₂ : Tuner} {a₁ a₂ : Answer} {os₁ os₂ : List (List ℤ)} {store₁ store₂ : List ℕ} → Took t k xs os store t₁ a₁ os₁ store₁ → Took t k xs os store t₂ a₂ os₂ store₂ → (t₁ ≡ t₂) × (a₁ ≡ a₂) × (os₁ ≡ os₂) × (store₁ ≡ store₂)
  took_one {store} {t₁} {t₂} p q =
      let e = verdict-one p.verdict q.verdict in
      let same : t₁ ≡ t₂ = p.tuner ∙ ap (λ (v : ℕ). cond (eqb v 0) (after_block t k xs store) t) e ∙ sym q.tuner in (
        same,
        p.answer ∙ (λ i. answer_by (e i) (length xs) (same i).numbers) ∙ sym q.answer,
        p.outs ∙ (λ i. cond (leb (e i) 1) (written (length xs) (kept_outs (same i)) os) os) ∙ sym q.outs,
        p.rows ∙ ap (λ (v : ℕ). cond (eqb v 0) (list_after t xs store).store store) e ∙ sym q.rows,
      )

  -- a block by its number, from what was kept of the last one; what it leaves may be handed on as other numbers that are the same
  pub took_by : {v : ℕ} {store : List ℕ} {t' : Tuner} {n' : Numbers} {a : Answer} {os' : List (List ℤ)} {store' : List ℕ} → Verdict t k xs os v → t' ≡ cond (eqb v 0) (after_block t k xs store) t → n' ≡ t'.numbers
      → (v ≤ 1 → t'.numbers.last.length ≡ length xs) → a ≡ answer_by v t'.numbers.last.length t'.numbers → os' ≡ given_by v t'.numbers.last.length (kept_outs t') os → store' ≡ cond (eqb v 0) (list_after t xs store).store store
      → Took t k xs os store (with_numbers t' n') a os' store'
  unfolding answer_by
  took_by {v} {store} {t'} {n'} {a} {os'} {store'} p e same long b o r =
      let n = t'.numbers.last.length in
      let whole : Took t k xs os store t' a os' store' =
      record {
        number = v;
        verdict = p;
        tuner = e;
        answer =
            b
            ∙ by (leb v 1) (λ y. ap (λ (m : ℕ). answer_by v m t'.numbers) (long (leb-true v 1 y)))
            (λ y. cond_no (counted v n t'.numbers) (plain v t'.numbers) y ∙ sym (cond_no (counted v (length xs) t'.numbers) (plain v t'.numbers) y));
        outs =
            o
            ∙ by (leb v 1) (λ y. ap (λ (m : ℕ). given_by v m (kept_outs t') os) (long (leb-true v 1 y)))
            (λ y. cond_no (written n (kept_outs t') os) os y ∙ sym (cond_no (written (length xs) (kept_outs t') os) os y));
        rows = r;
      } in
      subst (λ (m : Numbers). Took t k xs os store (with_numbers t' m) a os' store') (sym same) whole

-- the last block's length is that of the samples given again
pub again-long : {t : Tuner} {k : ℕ} {xs : List ℤ} {os : List (List ℤ)} {v : ℕ} → Verdict t k xs os v → v ≡ 1 → length t.heard ≡ 1764 → t.numbers.last.length ≤ 512 → t.numbers.last.length ≡ length xs
again-long {t} {xs = xs} p e l h = sym (ap length (verdict-again p e) ∙ length-drop (1764 - t.numbers.last.length) t.heard ∙ omega (arith, l, h))

-- what a block that is taken leaves of the last one's length, and of how many voices are chosen
pub after_last : (t : Tuner) (k : ℕ) (xs : List ℤ) (store : List ℕ) → ((after_block t k xs store).numbers.last.length ≡ length xs) × ((after_block t k xs store).numbers.chosen ≡ t.numbers.chosen)
unfolding after_block
after_last t k xs store = (refl, refl)

-- at most 1, and not 0
pub one_left : (v : ℕ) → (v ≡ 0 → ⊥) → v ≤ 1 → v ≡ 1
one_left zero n h = absurd (n refl)
one_left (suc zero) n h = refl
one_left (suc (suc v)) n h = absurd (omega arith)

-- ---- what a block that is taken or given again leaves fits, and is as long as the block

pub record LeftFits (t' : Tuner) (xs : List ℤ) (os : List (List ℤ)) : Type 0 where
  pub few : t'.numbers.chosen ≤ 3
  pub long : t'.numbers.last.length ≡ length xs
  pub most : length xs ≤ 512
  pub room : Roomy t'.numbers.last.length (kept_outs t') os

pub left-fits : {t t' : Tuner} {k : ℕ} {xs : List ℤ} {os : List (List ℤ)} (store : List ℕ) {v : ℕ} → Verdict t k xs os v → length t.heard ≡ 1764 → v ≤ 1 → t' ≡ cond (eqb v 0) (after_block t k xs store) t → LeftFits t' xs os
left-fits {t} {t'} {k} {xs} {os} store {v} p h l e =
    let f = verdict-fits p l in
    let fits : t'.numbers.last.length ≡ length xs → t'.numbers.chosen ≡ t.numbers.chosen → LeftFits t' xs os =
    λ long many. record { few = omega (arith, many, f.good.voices.few); long = long; most = f.most; room = room_after t t'.outs os (length xs) t'.numbers.chosen t'.numbers.last.length long many f.room } in
    by (eqb v 0)
    (λ y. let here = e ∙ cond_yes (after_block t k xs store) t y in
    let after = after_last t k xs store in
    fits (ap (λ (u : Tuner). u.numbers.last.length) here ∙ after.0) (ap (λ (u : Tuner). u.numbers.chosen) here ∙ after.1))
    (λ n. let here = e ∙ cond_no (after_block t k xs store) t n in
    fits (ap (λ (u : Tuner). u.numbers.last.length) here ∙ again-long p (one_left v (eqb-false v 0 n) l) h f.good.lead.last.length) (ap (λ (u : Tuner). u.numbers.chosen) here))
