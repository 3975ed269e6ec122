-- Within a block: what holds between two samples, and what the samples so far have given.
use Rattle.std.specs.Prelude.{◌≡◌, refl, List, ◌++◌, map, ℕ, suc, ◌+◌, ◌/◌, ◌%◌, ◌≤◌, ◌<◌, ℤ, pos, ◌-ℤ◌, length, drop, set}
use Rattle.std.proofs.Common.{sym, ap, ◌∙◌, arith, add-one}
use Rattle.rules.specs.declared.InForce.{InForce}
use Rattle.rules.specs.declared.Tone.{Tone}
use Rattle.rules.specs.Rules.{Sound, Take, Given, Step, Pitch, farthest, input_at, heard, eighths_after, listened, growth, reading, after, gives, stepped, samples_out, all_repeated, all_dropped, take_limit, longest_block, kept_eighths}
use Rattle.ages.specs.Ages.{ago, ago-next, ago-fits}
use Rattle.rules.specs.Facts.{value_at}
use Rattle.rules.specs.Position.{Paced}
use Rattle.rules.proofs.Position.{tone-paced}
use Rattle.pitch.specs.Pitches.{pitch_of, PitchRight}
use Rattle.passing.specs.Distances.{Long}
use Rattle.steps.specs.declared.Progress.{Progress}
use Rattle.pitch.specs.declared.Pitch.{Pitch as KeptPitch}
use Rattle.steps.specs.Eighths.{Eighths, Heard}
use Rattle.pitch.specs.Listening.{Eighth, Listened}

-- the take after the first m samples of the store s, with the eighth-rate samples stored in y and the read position at z
abbrev pub take_at_of : List ℤ → ℕ → List ℤ → Progress → ℤ → Take
take_at_of s m y p z = record { count = p.count; sound = ago s m; eighths = ago y p.places; pitch = pitch_of p.pitch; position = z }

-- the same, the position by how far it lies behind
abbrev pub take_so_far : List ℤ → ℕ → List ℤ → Progress → Take
take_so_far s m y p = take_at_of s m y p (input_at p.count -ℤ pos p.behind)

-- between two samples: the first m of the store s are heard
pub record Ready (s : List ℤ) (m : ℕ) (y : List ℤ) (e : List ℕ) (h : List ℤ) (p : Progress) : Type 0 where
  pub right : PitchRight (ago s m) p.pitch
  pub eighths : Eighths y p.places e h
  pub near : p.behind ≤ farthest
  pub placed : kept_eighths ≤ p.places

-- there is room for one sample more
pub record Room (p : Progress) : Type 0 where
  pub places : (p.count + 1) % 8 ≡ 0 → p.places < 288
  pub count : p.count < take_limit

-- the tones after samples, number by number
pub record Tones : Type 0 where
  pub periods : List ℕ
  pub notes : List ℕ
  pub rates : List ℕ

abbrev pub tones : List ℕ → List ℕ → List ℕ → Tones
tones ps ns rs = record { periods = ps; notes = ns; rates = rs }

-- with the tone o at place i
abbrev pub tone_at : Tones → ℕ → Tone → Tones
tone_at ts i o = tones (set ts.periods i o.period) (set ts.notes i o.note) (set ts.rates i o.rate)

-- with the tones that were given, from the first place on
abbrev pub given : (Tone → ℕ) → List Given → List ℕ → List ℕ
given part gs before = map (λ (g : Given). part g.tone) gs ++ drop (length gs) before

abbrev pub tones_given : Tones → List Given → Tones
tones_given ts gs = tones (given (λ (o : Tone). o.period) gs ts.periods) (given (λ (o : Tone). o.note) gs ts.notes) (given (λ (o : Tone). o.rate) gs ts.rates)

-- there are 512 places for each
pub record Long512 (ts : Tones) : Type 0 where
  pub periods : length ts.periods ≡ longest_block
  pub notes : length ts.notes ≡ longest_block
  pub rates : length ts.rates ≡ longest_block

-- one sample, whatever the read position: from p to r, the tone at place i
pub record Did (f : InForce) (s : List ℤ) (m : ℕ) (y : List ℤ) (p : Progress) (y' : List ℤ) (r : Progress) (ts : Tones) (i : ℕ) (ts' : Tones) : Type 0 where
  pub take : (z : ℤ) → take_at_of s (m + 1) y' r (stepped f (take_at_of s m y p z) (value_at s m)).next.position ≡ (stepped f (take_at_of s m y p z) (value_at s m)).next
  pub given : (z : ℤ) → r.pitch.tone ≡ (stepped f (take_at_of s m y p z) (value_at s m)).given.tone
  pub tone : ts' ≡ tone_at ts i r.pitch.tone
  pub paced : Paced r.pitch.tone.rate r.pitch.tone.period
  pub count : r.count ≡ p.count + 1
  pub phase : (f : ℕ) → p.places + f ≡ kept_eighths + p.count / 8 → r.places + f ≡ kept_eighths + r.count / 8

-- the samples xs: from p to r, the outputs and the tones from the first place on
pub record Ran (f : InForce) (t : Take) (xs : List ℤ) (t' : Take) (outs outs' : List ℤ) (ts ts' : Tones) (p r : Progress) : Type 0 where
  pub take : t' ≡ after f t xs
  pub out : outs' ≡ samples_out (gives f t xs) ++ drop (length xs) outs
  pub tone : ts' ≡ tones_given ts (gives f t xs)
  pub repeated : r.repeated ≡ p.repeated + length (all_repeated (gives f t xs))
  pub dropped : r.dropped ≡ p.dropped + length (all_dropped (gives f t xs))

-- where a block of b samples begins
pub record Begins (b : ℕ) (p : Progress) : Type 0 where
  pub places : p.places ≡ kept_eighths
  pub count : p.count + b ≤ take_limit
  pub repeated : p.repeated ≡ 0
  pub dropped : p.dropped ≡ 0

-- and where it ends
pub record Ended (b : ℕ) (p r : Progress) : Type 0 where
  pub count : r.count ≡ p.count + b
  pub places : r.places + p.count / 8 ≡ kept_eighths + r.count / 8
  pub repeated : r.repeated ≤ b
  pub dropped : r.dropped ≤ b

-- ---- one sample, from its parts

-- what the rules' step leaves and gives, after sample n with this sound at both rates, found to be this, from a position
abbrev stepped_to : ℕ → Sound → Sound → Pitch → ℤ → Step
stepped_to n x y v z =
    let g = growth n v.tone.rate v.tone.period z in
    record {
      next = record { count = n; sound = x; eighths = y; pitch = v; position = g.position };
      given = record { out = reading x n g.position; tone = v.tone; repeats = g.repeats; drops = g.drops };
    }

-- what is left of the sample's parts
abbrev pub next_of : Progress → ℕ → KeptPitch → Progress
next_of p q v = record { count = p.count + 1; places = q; behind = p.behind; repeated = p.repeated; dropped = p.dropped; pitch = v }

-- the rules' step, from what is heard and what that was found to be
stepped-is : (f : InForce) (t : Take) (new : ℤ) (x y : Sound) (v : Pitch) → x ≡ heard new t.sound
    → y ≡ eighths_after (suc t.count) x t.eighths → v ≡ listened f (suc t.count) x y t.pitch
    → stepped f t new ≡ stepped_to (suc t.count) x y v t.position
unfolding stepped
stepped-is f t new x y v ex ey ev = rw (ev, ey, ex)

module _ (f : InForce) (s : List ℤ) (m : ℕ) (y : List ℤ) (p : Progress) {y' : List ℤ} {e : List ℕ} {h : List ℤ} {q : ℕ} (v : KeptPitch) (l : m < length s)
    (hd : Heard (p.count + 1) (ago s (m + 1)) y p.places y' q e h) (ls : Listened f (p.count + 1) (ago s (m + 1)) e h p.pitch v) where
  one-step : (z : ℤ) → stepped f (take_at_of s m y p z) (value_at s m) ≡ stepped_to (suc p.count) (ago s (m + 1)) (ago y' q) (pitch_of v) z
  one-step z =
      stepped-is f (take_at_of s m y p z) (value_at s m) (ago s (m + 1)) (ago y' q) (pitch_of v) (ago-next s m l)
      (hd.sound ∙ ap (λ (n : ℕ). eighths_after n (ago s (m + 1)) (ago y p.places)) (add-one p.count))
      (ls.pitch (ago y' q) hd.eighths.sums ∙ ap (λ (n : ℕ). listened f n (ago s (m + 1)) (ago y' q) (pitch_of p.pitch)) (add-one p.count))

  pub did : (ts : Tones) (i : ℕ) → Did f s m y p y' (next_of p q v) ts i (tone_at ts i v.tone)
  did ts i =
      record {
        take =
            λ z. (λ j. take_at_of s (m + 1) y' (record { count = add-one p.count j; places = q; behind = 0; repeated = 0; dropped = 0; pitch = v }) (one-step z j).next.position)
            ∙ sym (ap (λ (d : Step). d.next) (one-step z));
        given = λ z. sym (ap (λ (d : Step). d.given.tone) (one-step z));
        tone = refl;
        paced = tone-paced ls.right.pitch.tone;
        count = refl;
        phase = λ f k. hd.phase f p.count refl k;
      }

  pub ready-next : kept_eighths ≤ p.places → p.behind ≤ farthest → Ready s (m + 1) y' e h (next_of p q v)
  ready-next k near = record { right = ls.right; eighths = hd.eighths; near = near; placed = omega (arith, hd.more) }

-- what searching asks, of what is stored
pub eighth_of : {y : List ℤ} {q : ℕ} {e : List ℕ} {h : List ℤ} → Eighths y q e h → Eighth e h
eighth_of {y} {q} r = record { sound = ago y q; fits = ago-fits r.samples q; right = r.sums }

-- one sample more of a store that is long enough
pub longer : {s : List ℤ} {m : ℕ} → Long s m → m < length s → Long s (m + 1)
longer k l = record { enough = omega (arith, k.enough); long = omega arith; samples = k.samples }
