-- A held note reaches its goal: tracking steps toward one raw rate are smoothings of the tone's rate, with what is kept beside it,
-- each with the decay that is in force at it.
use Rattle.std.specs.Prelude.{◌≡◌, refl, List, [], ◌∷◌, ℕ, suc, ◌≤◌, ◌<◌, length}
use Rattle.std.proofs.Common.{sym, ap, ◌∙◌, subst, arith}
use Rattle.rules.specs.declared.InForce.{InForce}
use Rattle.rules.specs.declared.Tone.{Tone}
use Rattle.rules.specs.declared.Smoothed.{Smoothed}
use Rattle.rules.specs.Rules.{least_rate, greatest_rate, goal, tuned}
use Rattle.rules.proofs.Ranges.{ranges}
use Rattle.rules.proofs.Position.{tone-rate, tone-kept}
use Rattle.rules.proofs.Notes.{goal_in}
use Rattle.rules.specs.Tuning.{smoothed, after_steps, DecaysIn, Toward, TrackingStep, tuned_over, AllToward, HeldNoteTheorem}
use Rattle.rules.proofs.Smoothing.{never_passes, steps_stay, reaches}
use Rattle.rules.specs.Held.{decays_of, smoothed_of}

decays_length : (ks : List TrackingStep) → length (decays_of ks) ≡ length ks
unfolding decays_of
decays_length [] = refl
decays_length (k ∷ ks) = ap suc (decays_length ks)

-- they are in their range
decays_in : (raw : ℕ) (ks : List TrackingStep) → AllToward raw ks → DecaysIn (decays_of ks)
unfolding decays_of AllToward DecaysIn
decays_in raw [] h = tt
decays_in raw (k ∷ ks) h = ((ranges k.force.settings h.0.settings).decay.1, decays_in raw ks h.2)

-- a tracking step is one smoothing toward the raw rate of its period
tuned-smooths : (f : InForce) (t : Tone) (p : ℕ) → smoothed_of (tuned f t p) ≡ smoothed f.settings.decay (goal f p).raw (smoothed_of t)
unfolding tuned smoothed
tuned-smooths f t p = refl

-- and so many of them are so many smoothings
tuned_over_smooths : (t : Tone) (raw : ℕ) (ks : List TrackingStep) → AllToward raw ks →
    smoothed_of (tuned_over t ks) ≡ after_steps (decays_of ks) raw (smoothed_of t)
unfolding tuned_over AllToward after_steps decays_of
tuned_over_smooths t raw [] h = refl
tuned_over_smooths t raw (k ∷ ks) h =
    tuned_over_smooths (tuned k.force t k.period) raw ks h.2
    ∙ ap (after_steps (decays_of ks) raw)
    (tuned-smooths k.force t k.period ∙ ap (λ (r : ℕ). smoothed k.force.settings.decay r (smoothed_of t)) h.1)

-- the raw rate of a period lies from a half to two
raw-within : (raw : ℕ) (ks : List TrackingStep) → AllToward raw ks → 0 < length ks → (least_rate ≤ raw) × (raw ≤ greatest_rate)
unfolding AllToward
raw-within raw [] h l = absurd (omega arith)
raw-within raw (k ∷ ks) h l = let g = goal_in h.0 k.period in omega (arith, h.1, g.from, g.upto)

pub held-note : HeldNoteTheorem
held-note raw t ks i h =
    let decays = decays_of ks in
    let d = decays_in raw ks h in
    let is : (after_steps decays raw (smoothed_of t)).rate ≡ (tuned_over t ks).rate = sym (ap (λ (s : Smoothed). s.rate) (tuned_over_smooths t raw ks h)) in
    let k = tone-rate i in
    record {
      toward = subst (λ (r : ℕ). Toward raw t.rate r) is (never_passes decays raw (smoothed_of t) d (tone-kept i));
      stays = λ e. sym is ∙ ap (λ (s : Smoothed). s.rate) (steps_stay decays raw (smoothed_of t) d (tone-kept i) e) ∙ e;
      reaches =
          λ l. let g = raw-within raw ks h (omega arith) in
          sym is ∙ reaches decays raw (smoothed_of t) d (tone-kept i) k.0 k.1 g.0 g.1 (omega (arith, decays_length ks));
    }
