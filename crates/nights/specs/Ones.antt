-- No second answer to a night, and a night leaves a good tuner good: each single call has one answer, and leaves it so.
use Rattle.std.specs.Prelude.{◌≡◌, ℕ, ◌<◌, ◌≤◌, List, map, length, drop, ℤ, refl}
use Rattle.std.proofs.Common.{sym, ap, subst, ◌∙◌, ⊎_elim, arith}
use Rattle.std.proofs.Math.Path.{transport}
use Rattle.rules.specs.Rules.{longest_block}
use Rattle.answers.specs.Paths.{Step, isn't, is, step-one}
use Rattle.tuner.specs.declared.Tuner.{Tuner}
use Rattle.tuner.specs.declared.Answer.{Answer}
use Rattle.tuner.specs.Tuners.{Good, Roomy, kept_outs}
use Rattle.tuner.proofs.Verdicts.{took_one}
use Rattle.staying.specs.Staying.{Lengths, Stays, took-stays}
use Rattle.nights.specs.declared.NightAnswer.{NightAnswer}
use Rattle.nights.specs.Night.{number_after, no_night, added, stretches, before, OneByOne, all_done, and_on, refused, Untouched, Nighted, record_out_of_range, size_out_of_range, output_short, one_by_one}

-- ---- no second answer

-- the same tuner, answer, outputs and store
abbrev Same : Tuner → Tuner → NightAnswer → NightAnswer → List (List ℤ) → List (List ℤ) → List ℕ → List ℕ → Type 0
Same t₁ t₂ a₁ a₂ ps₁ ps₂ s₁ s₂ = (t₁ ≡ t₂) × (a₁ ≡ a₂) × (ps₁ ≡ ps₂) × (s₁ ≡ s₂)

pub one_by_one_one : {t t₁ t₂ : Tuner} {k : ℕ} {n n₁ n₂ : NightAnswer} {xss os ps₁ ps₂ : List (List ℤ)} {store s₁ s₂ : List ℕ}
    → OneByOne t k n xss os store t₁ n₁ ps₁ s₁ → OneByOne t k n xss os store t₂ n₂ ps₂ s₂ → Same t₁ t₂ n₁ n₂ ps₁ ps₂ s₁ s₂
one_by_one_one all_done all_done = (refl, refl, refl, refl)
one_by_one_one {t₂ = t₂} {k} {n} {n₂ = n₂} {s₂ = s₂} (and_on {xs = xs} {xss = xss} p l r) (and_on {qs = qs} q m s) =
    let e = took_one q p in
    let same = one_by_one_one r (transport (λ i. OneByOne (e.0 i) (number_after k) (added n k (e.1 i)) xss (map (drop (length xs)) (e.2 i)) (e.3 i) t₂ n₂ qs s₂) s) in
    (same.0, same.1, λ i. before (length xs) (sym e.2 i) (same.2 i), same.3)
one_by_one_one (and_on p l r) (refused q m) = let e = ap (λ (a : Answer). a.number) (took_one p q).1 in absurd (omega arith)
one_by_one_one (refused p l) (and_on q m s) = let e = ap (λ (a : Answer). a.number) (took_one p q).1 in absurd (omega arith)
one_by_one_one {k = k} {n} (refused p l) (refused q m) = let e = took_one p q in (e.0, ap (added n k) e.1, e.2, e.3)

untouched-one : {v : ℕ} {t t₁ t₂ : Tuner} {os ps₁ ps₂ : List (List ℤ)} {store s₁ s₂ : List ℕ} {a₁ a₂ : NightAnswer}
    → Untouched v t os store t₁ a₁ ps₁ s₁ → Untouched v t os store t₂ a₂ ps₂ s₂ → Same t₁ t₂ a₁ a₂ ps₁ ps₂ s₁ s₂
untouched-one p q = (p.tuner ∙ sym q.tuner, p.answer ∙ sym q.answer, p.outs ∙ sym q.outs, p.rows ∙ sym q.rows)

module _ {t : Tuner} {k size : ℕ} {xs : List ℤ} {os : List (List ℤ)} {store : List ℕ} where
  -- each is the end of one path through the same tests
  path : {t' : Tuner} {a : NightAnswer} {ps : List (List ℤ)} {s : List ℕ} → Nighted t k size xs os store t' a ps s
      → Step (Good t) (Untouched 9 t os store t' a ps s)
      (Step ((0 < size) × (size ≤ longest_block)) (Untouched 3 t os store t' a ps s)
      (Step (Roomy (length xs) (kept_outs t) os) (Untouched 4 t os store t' a ps s) (OneByOne t k (no_night 0 t.numbers) (stretches size xs) os store t' a ps s)))
  path (record_out_of_range n u) = isn't n u
  path (size_out_of_range g s u) = is g (isn't (λ p. ⊎_elim (λ z. omega (arith, p.0)) (λ l. omega (arith, p.1)) s) u)
  path (output_short g s m r u) = is g (is (s, m) (isn't r u))
  path (one_by_one g s m r o) = is g (is (s, m) (is r o))

  pub nighted_one : {t₁ t₂ : Tuner} {a₁ a₂ : NightAnswer} {ps₁ ps₂ : List (List ℤ)} {s₁ s₂ : List ℕ}
      → Nighted t k size xs os store t₁ a₁ ps₁ s₁ → Nighted t k size xs os store t₂ a₂ ps₂ s₂ → Same t₁ t₂ a₁ a₂ ps₁ ps₂ s₁ s₂
  nighted_one p q =
      step-one (path p) (path q) untouched-one (λ p q. step-one p q untouched-one (λ p q. step-one p q untouched-one one_by_one_one))

-- ---- a good tuner stays good
pub one_by_one_stays : {t t' : Tuner} {k : ℕ} {n n' : NightAnswer} {xss os ps : List (List ℤ)} {store s : List ℕ} → Good t → Lengths t → OneByOne t k n xss os store t' n' ps s → Stays t'
one_by_one_stays g l all_done = (g, l)
one_by_one_stays g l (and_on p h r) = let u = took-stays g l p in one_by_one_stays u.0 u.1 r
one_by_one_stays g l (refused p h) = took-stays g l p

module _ {t t' : Tuner} {os ps : List (List ℤ)} {store s : List ℕ} {a : NightAnswer} (g : Good t) (l : Lengths t) where
  untouched-stays : {v : ℕ} → Untouched v t os store t' a ps s → Stays t'
  untouched-stays u = subst Stays (sym u.tuner) (g, l)

  pub nighted_stays : {k size : ℕ} {xs : List ℤ} → Nighted t k size xs os store t' a ps s → Stays t'
  nighted_stays (record_out_of_range n u) = untouched-stays u
  nighted_stays (size_out_of_range h e u) = untouched-stays u
  nighted_stays (output_short h b m r u) = untouched-stays u
  nighted_stays (one_by_one h b m r o) = one_by_one_stays g l o
