-- Laws of a start, a change, a reset and the meter: their numbers test by test, and that no second answer can meet their promises.
use Rattle.std.specs.Prelude.{◌≡◌, refl, Result, Ok, Err, is_ok, Bool, true, false, cond, ◌||◌, List, ℕ, ◌≤◌, ◌<◌, eqb, ltb, ℤ, length}
use Rattle.std.proofs.Common.{sym, ap, subst, ◌∙◌, arith, eq-eqb, ne_eqb, eqb-true, lt-ltb, ltb-true}
use Rattle.std.proofs.lemmas.Bool.{eqb-false}
use Rattle.whole.specs.Tests.{Decides, by, cond_yes, cond_no, yes_and_no}
use Rattle.refusals.specs.declared.Refusal.{Refusal}
use Rattle.refusals.specs.declared.Refusal.TheVariants.{RecordOutOfRange}
use Rattle.refusals.specs.Refusals.{refusal_number, number_of}
use Rattle.answers.proofs.Turns.{refused-above}
use Rattle.rules.specs.declared.Settings.{Settings}
use Rattle.rules.specs.Rules.{start_number}
use Rattle.lists.specs.Lists.{room}
use Rattle.meters.specs.declared.Meter.{Meter}
use Rattle.singers.specs.Singers.{intervals_number}
use Rattle.singers.specs.Voicing.{number-says}
use Rattle.tuner.specs.declared.Tuner.{Tuner}
use Rattle.tuner.specs.Tuners.{Good, fresh_tuner, default_tuner, kept_list, store_fits, begin_number, Started, NineThen, record_out_of_range, record-good, Done, Metered, read}

-- ---- the store

-- what decides a comparison is the comparison
pub decided : {b : Bool} (x y : ℕ) → Decides b (x < y) → b ≡ ltb x y
decided {b} x y d = by b (λ e. e ∙ sym (lt-ltb x y (d.yes e))) (λ e. by (ltb x y) (λ t. absurd (d.no e (ltb-true x y t))) (λ f. e ∙ sym f))

pub fits_unasked : (listed n : ℕ) → listed ≡ 0 → store_fits listed n ≡ true
fits_unasked listed n e = ap (λ (b : Bool). b || ltb 0 (room n)) (eq-eqb listed 0 e)

pub fits_asked : (listed n : ℕ) {b : Bool} → (listed ≡ 0 → ⊥) → Decides b (0 < room n) → store_fits listed n ≡ b
fits_asked listed n h d = ap (λ (b : Bool). b || ltb 0 (room n)) (ne_eqb listed 0 h) ∙ sym (decided 0 (room n) d)

-- ---- the number of a start
module _ (hertz : ℕ) (s : Settings) (listed : ℕ) (zs : List ℤ) (n : ℕ) where
  pub number_own : (start_number hertz s ≡ 0 → ⊥) → begin_number hertz s listed zs n ≡ start_number hertz s
  unfolding begin_number
  number_own h = cond_no _ _ (ne_eqb _ 0 h)

  pub number_17 : start_number hertz s ≡ 0 → store_fits listed n ≡ false → begin_number hertz s listed zs n ≡ 17
  unfolding begin_number
  number_17 e f = cond_yes _ _ (eq-eqb _ 0 e) ∙ cond_no _ _ f

  pub number-on : start_number hertz s ≡ 0 → store_fits listed n ≡ true → begin_number hertz s listed zs n ≡ intervals_number zs
  unfolding begin_number
  number-on e f = cond_yes _ _ (eq-eqb _ 0 e) ∙ cond_yes _ _ f

  -- where it is 0 neither sample rate, settings nor intervals are refused
  pub number-zero : begin_number hertz s listed zs n ≡ 0 → (start_number hertz s ≡ 0) × (intervals_number zs ≡ 0)
  number-zero e =
      by (eqb (start_number hertz s) 0)
      (λ a. let z = eqb-true (start_number hertz s) 0 a in by (store_fits listed n)
      (λ f. (z, sym (number-on z f) ∙ e))
      (λ f. absurd (let q = number_17 z f in omega arith)))
      (λ a. let h = eqb-false (start_number hertz s) 0 a in absurd (h (sym (number_own h) ∙ e)))

  -- so that at most three voices are taken
  pub number-few : begin_number hertz s listed zs n ≡ 0 → length zs ≤ 3
  number-few e = (number-says zs (number-zero e).1).1

-- what is not refused is answered 0
pub ok_number : (r : Result Unit Refusal) → is_ok r ≡ true → number_of r ≡ 0
ok_number (Ok _) e = refl
ok_number (Err _) e = absurd (yes_and_no e refl)

-- ---- no second answer

pub started_one : {hertz : ℕ} {s : Settings} {listed : ℕ} {zs : List ℤ} {store : List ℕ} {t₁ t₂ : Tuner} {v₁ v₂ : ℕ} → Started hertz s listed zs store t₁ v₁ → Started hertz s listed zs store t₂ v₂ → (t₁ ≡ t₂) × (v₁ ≡ v₂)
started_one {hertz} {s} {listed} {zs} {store} p q =
    let e = p.number ∙ sym q.number in
    (p.tuner ∙ ap (λ (v : ℕ). cond (eqb v 0) (fresh_tuner hertz s (kept_list listed) zs) default_tuner) e ∙ sym q.tuner, e)

module _ {own : ℕ} {t : Tuner} where
  nine-one : {v w : ℕ} → NineThen own t v → NineThen own t w → v ≡ w
  nine-one (record_out_of_range n) (record_out_of_range m) = refl
  nine-one (record_out_of_range n) (record-good g) = absurd (n g)
  nine-one (record-good g) (record_out_of_range n) = absurd (n g)
  nine-one (record-good g) (record-good h) = refl

  -- to a change, keyboard bytes and a reset
  pub done-one : {taken t₁ t₂ : Tuner} {v₁ v₂ : ℕ} → Done own t taken t₁ v₁ → Done own t taken t₂ v₂ → (t₁ ≡ t₂) × (v₁ ≡ v₂)
  done-one {taken} p q =
      let e = nine-one p.number q.number in
      (p.tuner ∙ ap (λ (v : ℕ). cond (eqb v 0) taken t) e ∙ sym q.tuner, e)

  -- what is refused leaves the tuner
  done_not : {taken : Tuner} {v : ℕ} → NineThen own t v → (v ≡ 0 → ⊥) → Done own t taken t v
  done_not {taken} p h = record { number = p; tuner = sym (cond_no taken t (ne_eqb _ 0 h)) }

  pub done-nine : {taken : Tuner} → (Good t → ⊥) → Done own t taken t 9
  done-nine n = done_not (record_out_of_range n) (λ z. omega arith)

  pub done_refused : {taken : Tuner} {v : ℕ} → Good t → v ≡ own → (v ≡ 0 → ⊥) → Done own t taken t v
  done_refused g e h = done_not (subst (λ (w : ℕ). NineThen own t w) (sym e) (record-good g)) h

  pub done-taken : {taken t' : Tuner} → Good t → own ≡ 0 → t' ≡ taken → Done own t taken t' 0
  done-taken {taken} g e f = record { number = subst (λ (v : ℕ). NineThen own t v) e (record-good g); tuner = f }

  -- by the refusal of a record that was tested, and by the call's own
  pub done-untested : {taken : Tuner} {e : Refusal} → (e ≡ RecordOutOfRange) × (Good t → ⊥) → Done own t taken t (refusal_number e)
  done-untested {taken} p = subst (λ (e : Refusal). Done own t taken t (refusal_number e)) (sym p.0) (done-nine p.1)

  pub done-own : {taken : Tuner} (e : Refusal) → Good t → refusal_number e ≡ own → Done own t taken t (refusal_number e)
  done-own {taken} e g f = done_refused g f (λ z. let h = refused-above e in omega arith)

pub metered_one : {t : Tuner} {r r' : Meter} → Metered t r → Metered t r' → r ≡ r'
metered_one (record_out_of_range n e) (record_out_of_range n' e') = e ∙ sym e'
metered_one (record_out_of_range n e) (read g e' x') = absurd (n g)
metered_one (read g e x) (record_out_of_range n' e') = absurd (n' g)
metered_one (read g e x) (read g' e' x') = e ∙ sym e'
