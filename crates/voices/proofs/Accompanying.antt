-- A voice over any samples of the lead: its position equals its account, it stays in the lead's bounds, and it does not matter how the samples are cut.
use Rattle.std.specs.Prelude.{◌≡◌, List, [], ◌∷◌, ◌++◌, ℤ, ◌+ℤ◌, ◌-ℤ◌, length}
use Rattle.std.proofs.Math.Path.{refl, ap}
use Rattle.std.proofs.Common.{sym, ◌∙◌, subst, add-zero, arith}
use Prim.Native.Nat.{ℕ, zero, suc, ◌+◌}
use Rattle.std.proofs.Math.IntN.{pos, +ℤ_idr}
use Rattle.whole.specs.Ring.{var, con, ◌⊕◌, ◌⊖◌, solve}
use Rattle.rules.specs.declared.InForce.{InForce}
use Rattle.rules.specs.declared.Tone.{Tone}
use Rattle.rules.specs.Rules.{Sound, Take, input_at, cycles, cycle_repeated, cycle_dropped, growth, stepped, after}
use Rattle.rules.specs.Facts.{ForceIn, ToneIn, pitched, unpitched, InBounds}
use Rattle.rules.proofs.Position.{behind_in_bounds, growth_in_bounds}
use Rattle.rules.specs.Sane.{Sane}
use Rattle.rules.proofs.Sane.{stepped_sane}
use Rattle.voices.specs.Voices.{voice_rate, Voiced, voiced, voiced_by, voice_after, voice_gives, voice_rates, voice_cycles, voice_account, Since, since_by, since_after, VoiceAccount, VoiceBounds, VoiceCutting}
use Rattle.voices.specs.Singing.{Tracked, Kept}
use Rattle.voices.proofs.Singing.{rate-kept}

-- ---- cutting
pub voice_cutting : VoiceCutting
unfolding voice_after voice_gives after
voice_cutting f interval t at [] ys = (refl, refl)
voice_cutting f interval t at (x ∷ xs) ys =
    let s = stepped f t x in
    let v = voiced_by f.hertz interval s at in
    let rest = voice_cutting f interval s.next v.position xs ys in
    (rest.0, ap (λ (vs : List Voiced). v ∷ vs) rest.1)

-- ---- the account

rates-more : (vs : List Voiced) (v : Voiced) → voice_rates (vs ++ (v ∷ [])) ≡ voice_rates vs + v.rate
unfolding voice_rates
rates-more [] v = omega arith
rates-more (w ∷ vs) v = omega (arith, rates-more vs v)

cycles-more : (part : Voiced → List ℕ) (vs : List Voiced) (v : Voiced) → voice_cycles part (vs ++ (v ∷ [])) ≡ voice_cycles part vs + cycles (part v)
unfolding voice_cycles
cycles-more part [] v = omega arith
cycles-more part (w ∷ vs) v = omega (arith, cycles-more part vs v)

-- one sample more: level, or by its growth
module _ (n : ℕ) (x : Sound) (p : ℕ) where
  account-more : (rate : ℕ) {at : ℤ} (s : Since) → at ≡ voice_account s.level s.gave
      → let v = voiced n x rate p at in let s' = since_by v.rate s v in v.position ≡ voice_account s'.level s'.gave
  unfolding voiced since_by voice_rates voice_cycles growth
  account-more zero s e = solve (input_at n ∷ []) (var 0) (var 0 ⊕ con (pos 0) ⊖ con (pos 0) ⊕ con (pos 0)) refl
  account-more (suc r) {at} s e =
      let grown = at +ℤ pos (suc r) in
      let again = cycles (cycle_repeated n p grown) in
      let gone = cycles (cycle_dropped n p (grown -ℤ pos again)) in
      let v = voiced n x (suc r) p at in
      let a = voice_rates s.gave in
      let b = voice_cycles (λ (w : Voiced). w.repeats) s.gave in
      let c = voice_cycles (λ (w : Voiced). w.drops) s.gave in
      ap (λ (z : ℤ). z +ℤ pos (suc r) -ℤ pos again +ℤ pos gone) e
      ∙ solve (s.level ∷ pos a ∷ pos b ∷ pos c ∷ pos (suc r) ∷ pos again ∷ pos gone ∷ [])
      (var 0 ⊕ var 1 ⊖ var 2 ⊕ var 3 ⊕ var 4 ⊖ var 5 ⊕ var 6)
      (var 0 ⊕ (var 1 ⊕ var 4) ⊖ (var 2 ⊕ var 5) ⊕ (var 3 ⊕ var 6))
      refl
      ∙ (λ i. s.level
      +ℤ pos (sym (rates-more s.gave v) i)
      -ℤ pos (sym (cycles-more (λ (w : Voiced). w.repeats) s.gave v) i)
      +ℤ pos (sym (cycles-more (λ (w : Voiced). w.drops) s.gave v) i))

pub voice_account_lem : VoiceAccount
unfolding voice_after voice_gives since_after voiced_by
voice_account_lem f interval t at [] s e = e
voice_account_lem f interval t at (x ∷ xs) s e =
    let d = stepped f t x in
    let o = d.given.tone in
    let v = voiced_by f.hertz interval d at in
    voice_account_lem f interval d.next v.position xs (since_by v.rate s v)
    (account-more d.next.count d.next.sound o.period (voice_rate f.hertz interval o.period o.note) s e)

-- ---- the bounds

-- a tone in its ranges is tracked
pub tone-tracked : {t : Tone} → ToneIn t → Tracked t.period t.note
tone-tracked (pitched a b n c d k) = record { from = λ h. a; upto = b; note = λ h. n }
tone-tracked (unpitched z r k) = record { from = λ h. absurd (omega arith); upto = omega arith; note = λ h. absurd (omega arith) }

-- level with the input is in bounds
level_in_bounds : (n : ℕ) → InBounds n (input_at n)
level_in_bounds n = behind_in_bounds {b = 0} (record { is = sym (+ℤ_idr (input_at n)); near = omega arith })

pub voiced_in_bounds : (n : ℕ) (x : Sound) (rate p : ℕ) {at : ℤ} → Kept rate p → InBounds n at → InBounds (suc n) (voiced (suc n) x rate p at).position
unfolding voiced
voiced_in_bounds n x zero p k h = level_in_bounds (suc n)
voiced_in_bounds n x (suc r) p k h = growth_in_bounds (suc r) p h (k (omega arith))

-- the tone that a sample gives is the one that it leaves
tone-left : (f : InForce) (t : Take) (x : ℤ) → (stepped f t x).given.tone ≡ (stepped f t x).next.pitch.tone
unfolding stepped
tone-left f t x = refl

next-count : (f : InForce) (t : Take) (x : ℤ) → (stepped f t x).next.count ≡ suc t.count
unfolding stepped
next-count f t x = refl

-- one sample beside the lead's
pub beside_in_bounds : {f : InForce} → ForceIn f → (interval : ℕ) {t : Take} {at : ℤ} (x : ℤ) → Sane t → InBounds t.count at → InBounds (suc t.count) (voiced_by f.hertz interval (stepped f t x) at).position
unfolding voiced_by
beside_in_bounds {f} r interval {t} {at} x h b =
    let s = stepped f t x in
    let o = s.given.tone in
    let rate = voice_rate f.hertz interval o.period o.note in
    let tracked : Tracked o.period o.note = subst (λ (o : Tone). Tracked o.period o.note) (sym (tone-left f t x)) (tone-tracked (stepped_sane r h x).pitch.tone) in
    subst (λ (n : ℕ). InBounds (suc t.count) (voiced n s.next.sound rate o.period at).position) (sym (next-count f t x))
    (voiced_in_bounds t.count s.next.sound rate o.period (rate-kept r.hertz interval tracked) b)

pub voice_bounds : (f : InForce) (interval : ℕ) (t : Take) (at : ℤ) (xs : List ℤ) → ForceIn f → Sane t → InBounds t.count at → InBounds (t.count + length xs) (voice_after f interval t at xs)
unfolding voice_after
voice_bounds f interval t at [] r h b = subst (λ (n : ℕ). InBounds n at) (sym (add-zero t.count)) b
voice_bounds f interval t at (x ∷ xs) r h b =
    let s = stepped f t x in
    let v = voiced_by f.hertz interval s at in
    let e = next-count f t x in
    subst (λ (n : ℕ). InBounds n (voice_after f interval s.next v.position xs)) (ap (λ (n : ℕ). n + length xs) e ∙ omega arith)
    (voice_bounds f interval s.next v.position xs r (stepped_sane r h x) (subst (λ (n : ℕ). InBounds n v.position) (sym e) (beside_in_bounds r interval x h b)))

pub always_in_bounds : VoiceBounds
always_in_bounds f interval t at xs r p h b = voice_bounds f interval t at xs r (record { pitch = p; bounds = h }) b
