-- A head that is moved over stored rates and periods stands where the rules' own step by step leaves it: the pitch does not hang on where the head is.
use Rattle.std.specs.Prelude.{◌≡◌, List, [], ◌∷◌, ◌++◌, ℤ, pos, ◌-ℤ◌, get_or, drop}
use Rattle.std.proofs.Math.Path.{refl, sym, ap}
use Rattle.std.proofs.Common.{◌∙◌, subst, add-zero, add-suc, add_assoc, arith, add-one}
use Prim.Native.Nat.{ℕ, zero, suc, ◌+◌, ◌≤◌, ◌<◌}
use Rattle.std.proofs.Math.ListN.{length}
use Rattle.rules.specs.declared.InForce.{InForce}
use Rattle.rules.specs.Rules.{Take, Given, Step, Growth, growth, input_at, heard, reading, after, gives, stepped, samples_out, gathered, all_repeated, all_dropped}
use Rattle.rules.proofs.Blocks.{samples_out-append, gathered-more}
use Rattle.rules.specs.Facts.{value_at}
use Rattle.rules.specs.Position.{Paced}
use Rattle.ages.specs.Ages.{ago, ago-next}
use Rattle.reading.specs.declared.Growth.{Growth as Moved}
use Rattle.reading.specs.Gliding.{PacedAll, Head, head_after, head_outs, Glided}
use Rattle.steps.specs.declared.Progress.{Progress}
use Rattle.steps.specs.Running.{take_at_of, take_so_far, Tones, Ready, Ran, Begins, Ended}
use Rattle.steps.specs.Going.{Going, first, tone_of, first-length, after_one, gives_one}

-- what the rules' step does to the position, by the tone that it gives
module _ (f : InForce) (t : Take) (x : ℤ) where
  abbrev d : Step
  d = stepped f t x

  step-position : d.next.position ≡ (growth (suc t.count) d.given.tone.rate d.given.tone.period t.position).position
  unfolding stepped
  step-position = refl

  step-repeats : d.given.repeats ≡ (growth (suc t.count) d.given.tone.rate d.given.tone.period t.position).repeats
  unfolding stepped
  step-repeats = refl

  step-drops : d.given.drops ≡ (growth (suc t.count) d.given.tone.rate d.given.tone.period t.position).drops
  unfolding stepped
  step-drops = refl

  step-out : d.given.out ≡ reading (heard x t.sound) (suc t.count) d.next.position
  unfolding stepped
  step-out = refl

  step_count : d.next.count ≡ suc t.count
  unfolding stepped
  step_count = refl

  step-sound : d.next.sound ≡ heard x t.sound
  unfolding stepped
  step-sound = refl

-- the cycles of one sample more are counted
counts : (part : Given → List ℕ) (hs : List Given) (g : Given) {gs : List Given} {a c : ℕ} → gs ≡ hs ++ (g ∷ []) → a ≡ length (gathered part hs) → c ≡ length (part g) → a + c ≡ length (gathered part gs)
counts part hs g e p q = (λ j. p j + q j) ∙ sym (gathered-more part hs g) ∙ ap (λ (os : List Given). length (gathered part os)) (sym e)

module _ (f : InForce) (t : Take) (s : List ℤ) (m : ℕ) (rates periods : List ℕ) (b : ℕ) (fits : m + b ≤ length s) (sound : t.sound ≡ ago s m)
    (rate : (j : ℕ) → j < b → get_or rates j 0 ≡ (tone_of f t s m j).rate) (period : (j : ℕ) → j < b → get_or periods j 0 ≡ (tone_of f t s m j).period) where
  abbrev headed : ℕ → Head
  headed i = head_after t.count t.position rates periods i

  -- after i samples
  record Met (i : ℕ) : Type 0 where
    count : (after f t (first s m i)).count ≡ t.count + i
    heard_so : (after f t (first s m i)).sound ≡ ago s (m + i)
    position : (headed i).position ≡ (after f t (first s m i)).position
    repeated : (headed i).repeated ≡ length (all_repeated (gives f t (first s m i)))
    dropped : (headed i).dropped ≡ length (all_dropped (gives f t (first s m i)))
    out : head_outs t.count t.position rates periods s m i ≡ samples_out (gives f t (first s m i))

  met-none : Met 0
  unfolding after gives samples_out gathered head_after head_outs
  met-none =
      record {
        count = sym (add-zero t.count);
        heard_so = sound ∙ ap (ago s) (sym (add-zero m));
        position = refl;
        repeated = refl;
        dropped = refl;
        out = refl;
      }

  met-more : (i : ℕ) → i < b → Met i → Met (suc i)
  unfolding samples_out head_after head_outs
  met-more i l k =
      let u = after f t (first s m i) in
      let x = value_at s (m + i) in
      let z : suc i ≡ i + 1 = sym (add-one i) in
      let next : after f t (first s m (suc i)) ≡ (stepped f u x).next = ap (λ (j : ℕ). after f t (first s m j)) z ∙ after_one f t s m i (omega arith) in
      let given : gives f t (first s m (suc i)) ≡ gives f t (first s m i) ++ ((stepped f u x).given ∷ []) = ap (λ (j : ℕ). gives f t (first s m j)) z ∙ gives_one f t s m i (omega arith) in
      let grows : growth (suc (t.count + i)) (get_or rates i 0) (get_or periods i 0) (headed i).position ≡ growth (suc u.count) (stepped f u x).given.tone.rate (stepped f u x).given.tone.period u.position =
      (λ j. growth (suc (sym k.count j)) (rate i l j) (period i l j) (k.position j)) in
      let stands : (headed (suc i)).position ≡ (stepped f u x).next.position = ap (λ (g : Growth). g.position) grows ∙ sym (step-position f u x) in
      let sound-next : heard x u.sound ≡ ago s (m + i + 1) = ap (heard x) k.heard_so ∙ sym (ago-next s (m + i) (omega arith)) in
      record {
        count = ap (λ (v : Take). v.count) next ∙ step_count f u x ∙ ap suc k.count ∙ sym (add-suc t.count i);
        heard_so = ap (λ (v : Take). v.sound) next ∙ step-sound f u x ∙ sound-next ∙ ap (ago s) (add_assoc m i 1 ∙ ap (λ (j : ℕ). m + j) (sym z));
        position = stands ∙ sym (ap (λ (v : Take). v.position) next);
        repeated = counts (λ (o : Given). o.repeats) (gives f t (first s m i)) (stepped f u x).given given k.repeated (ap (λ (g : Growth). length g.repeats) grows ∙ ap length (sym (step-repeats f u x)));
        dropped = counts (λ (o : Given). o.drops) (gives f t (first s m i)) (stepped f u x).given given k.dropped (ap (λ (g : Growth). length g.drops) grows ∙ ap length (sym (step-drops f u x)));
        out =
            (λ j. k.out j ++ (reading (sym sound-next j) (suc (sym k.count j)) (stands j) ∷ []))
            ∙ ap (λ (o : ℤ). samples_out (gives f t (first s m i)) ++ (o ∷ [])) (sym (step-out f u x))
            ∙ sym (samples_out-append (gives f t (first s m i)) ((stepped f u x).given ∷ []))
            ∙ ap samples_out (sym given);
      }

  met : (i : ℕ) → i ≤ b → Met i
  met zero l = met-none
  met (suc i) l = met-more i l (met i (omega arith))

-- what a block leaves: heard, and then read
module _ {f : InForce} {s : List ℤ} {m : ℕ} {y₀ : List ℤ} {ts₀ : Tones} {p : Progress} {b : ℕ} {y : List ℤ} {e : List ℕ} {h : List ℤ} {ts : Tones} {q : Progress}
    (k : Going f s m y₀ ts₀ p b y e h ts q) (fits : m + b ≤ length s) where
  abbrev t : Take
  t = take_so_far s m y₀ p

  pub paced-all : PacedAll b ts.rates ts.periods
  paced-all =
      record {
        each = λ j l. subst (λ (o : ℕ). Paced o (get_or ts.periods j 0)) (sym (k.rate j l)) (subst (λ (o : ℕ). Paced (tone_of f t s m j).rate o) (sym (k.period j l)) (k.paced j l));
      }

  module _ {outs outs' : List ℤ} {g : Moved} (r : Glided p.behind ts.rates ts.periods s m b outs outs' g) where
    abbrev left : Progress
    left = record { count = q.count; places = q.places; behind = g.behind; repeated = g.repeated; dropped = g.dropped; pitch = q.pitch }

    ended : Met f t s m ts.rates ts.periods b fits refl k.rate k.period b
    ended = met f t s m ts.rates ts.periods b fits refl k.rate k.period b (omega arith)

    pub ran : Begins b p → Ran f t (first s m b) (take_so_far s (m + b) y left) outs outs' ts₀ ts p left
    ran begins =
        record {
          take =
              ap (take_at_of s (m + b) y q) ((λ j. input_at (k.count j) -ℤ pos g.behind) ∙ sym (r.position p.count) ∙ ended.position) ∙ k.take;
          out = r.out p.count ∙ (λ j. ended.out j ++ drop (sym (first-length s m b fits) j) outs);
          tone = k.tone;
          repeated = omega (arith, r.repeated p.count, ended.repeated, begins.repeated);
          dropped = omega (arith, r.dropped p.count, ended.dropped, begins.dropped);
        }

    pub ready-left : Ready s (m + b) y e h left
    ready-left = record { right = k.ready.right; eighths = k.ready.eighths; near = r.near; placed = k.ready.placed }

    pub ended-left : Ended b p left
    ended-left = record { count = k.count; places = k.places; repeated = r.few.0; dropped = r.few.1 }
