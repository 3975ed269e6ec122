-- The lead's parts that a block leaves, from what the fold over its samples leaves.
-- The fold begins with the take that the tuner holds. What it then stores is what was kept and what came, so that what is kept of it is what the rules keep.
use Rattle.std.specs.Prelude.{◌≡◌, refl, ℕ, ◌+◌, ◌-◌, ◌≤◌, ℤ, ◌-ℤ◌, take, replicate}
use Rattle.std.proofs.Math.Path.{sym, ap}
use Rattle.std.proofs.Common.{◌∙◌, subst, arith, length-take-le}
use mathlib.Core.List.{List, [], ◌++◌}
use Rattle.std.proofs.Math.Nat.{zero-add}
use Rattle.std.proofs.Math.IntN.{pos, nat_abs}
use Rattle.std.proofs.Math.ListN.{length, drop, length-append, length-drop}
use Rattle.rules.specs.Rules.{Sound, silence, Take, Given, input_at, after, gives, samples_out, all_repeated, all_dropped}
use Rattle.rules.proofs.Hearing.{heard_all-append}
use Rattle.rules.specs.Position.{Behind}
use Rattle.rules.proofs.Position.{behind-one}
use Rattle.rules.specs.Facts.{Right, keeping}
use Rattle.ages.specs.Ages.{ago}
use Rattle.passing.specs.Distances.{Long}
use Rattle.copying.specs.Copies.{Joined, joined_old, joined-new, joined-sound, joined-keeping, take-drop}
use Rattle.pitch.specs.declared.Pitch.{Pitch as KeptPitch}
use Rattle.pitch.specs.Pitches.{pitch_of, PitchRight, kept_of}
use Rattle.pitch.specs.Listening.{lags_of}
use Rattle.pitch.specs.Keeping.{right-energies, right-correlations}
use Rattle.steps.specs.declared.Progress.{Progress}
use Rattle.steps.specs.Running.{take_so_far, Tones, Ready, Ran, Ended}
use Rattle.steps.specs.Going.{first}
use Rattle.record.specs.Records.{sound_of, made, heard_after}
use Rattle.record.specs.Kept.{same-sound, newest-right, made-length, after-eighths}
use Rattle.tuner.specs.declared.Tuner.{Tuner}
use Rattle.tuner.specs.Tuners.{take_of, force_of, Good}
use Rattle.tuner.specs.Afters.{Led, begins_at}

-- how long the two stores of samples are
pub record StoresLong (t : Tuner) : Type 0 where
  pub store : length t.heard ≡ 1764
  pub eighths : length t.eighths ≡ 224

module _ (t : Tuner) (g : Good t) (st : StoresLong t) {xs s y : List ℤ} (j : Joined t.heard xs 2276 s) (k : Joined t.eighths [] 288 y) where
  sound-before : ago s 1764 ≡ sound_of t.heard
  sound-before = ap (ago s) (sym st.store) ∙ joined_old j

  eighths-before : ago y 224 ≡ sound_of t.eighths
  eighths-before = ap (ago y) (sym st.eighths) ∙ joined_old k

  pub begin_long : Long s 1764
  begin_long = record { enough = omega arith; long = omega (arith, j.long); samples = j.samples }

  pub begin_ready : Ready s 1764 y t.energies t.correlations (begins_at t.numbers)
  begin_ready =
      record {
        right = subst (λ (x : Sound). PitchRight x t.numbers.pitch) (sym sound-before) g.lead.pitch;
        eighths =
            record {
              long = k.long;
              samples = k.samples;
              sums = subst (λ (x : Sound). Right x 2 109 t.energies t.correlations) (sym eighths-before) g.lead.heard.sums;
            };
        near = g.lead.head.behind;
        placed = omega arith;
      }

  pub begin_take : take_so_far s 1764 y (begins_at t.numbers) ≡ take_of t
  unfolding take_of
  begin_take =
      let n = t.numbers in λ i. record { count = n.count; sound = sound-before i; eighths = eighths-before i; pitch = pitch_of n.pitch; position = input_at n.count -ℤ pos n.behind }

  pub block-is : first s 1764 (length xs) ≡ xs
  block-is = ap (λ (n : ℕ). take (length xs) (drop n s)) (sym st.store) ∙ joined-new j

  -- ---- where it ends
  module _ (few : length xs ≤ 512) {y' : List ℤ} {e : List ℕ} {h zeros out : List ℤ} {ts ts' : Tones} {q : Progress} (long : length y' ≡ 288) (rd : Ready s (1764 + length xs) y' e h q)
      (ran : Ran (force_of t) (take_so_far s 1764 y (begins_at t.numbers)) (first s 1764 (length xs)) (take_so_far s (1764 + length xs) y' q) zeros out ts ts' (begins_at t.numbers) q)
      (end : Ended (length xs) (begins_at t.numbers) q) where
    end_take : take_so_far s (1764 + length xs) y' q ≡ after (force_of t) (take_of t) xs
    end_take = ran.take ∙ (λ i. after (force_of t) (begin_take i) (block-is i))

    end-gives : gives (force_of t) (take_so_far s 1764 y (begins_at t.numbers)) (first s 1764 (length xs)) ≡ gives (force_of t) (take_of t) xs
    end-gives = λ i. gives (force_of t) (begin_take i) (block-is i)

    abbrev new8 : List ℤ
    new8 = made t.numbers.count (sound_of t.heard) xs

    end-places : q.places ≡ 224 + length new8
    end-places = omega (arith, end.places, end.count, made-length t.numbers.count (sound_of t.heard) xs)

    end_places_few : q.places ≤ 288
    end_places_few = omega (arith, end.places, end.count)

    -- what is stored at eighth rate: what was kept and what was made
    end-stored : take q.places y' ≡ t.eighths ++ new8
    unfolding ago take_of
    end-stored =
        same-sound (take q.places y') (t.eighths ++ new8)
        (length-take-le q.places y' (omega (arith, long, end_places_few)) ∙ end-places ∙ ap (λ (n : ℕ). n + length new8) (sym st.eighths) ∙ sym (length-append t.eighths new8))
        (ap (λ (u : Take). u.eighths) end_take ∙ after-eighths (force_of t) (take_of t) xs ∙ sym (heard_all-append silence t.eighths new8))

    eighths_are : take (length t.eighths) (drop (q.places - 224) y') ≡ keeping t.eighths new8
    eighths_are =
        let a : q.places - 224 + 224 ≡ q.places = omega (arith, end-places) in
        let b : q.places - 224 ≡ length new8 = omega (arith, end-places) in
        ap (λ (n : ℕ). take n (drop (q.places - 224) y')) st.eighths ∙ take-drop (q.places - 224) 224 y' ∙ ap (λ (n : ℕ). drop (q.places - 224) (take n y')) a ∙ (λ i. drop (b i) (end-stored i))

    -- the sums over what is kept
    kept8 : Right (sound_of (keeping t.eighths new8)) 2 109 e h
    unfolding ago
    kept8 =
        newest-right (length new8) (t.eighths ++ new8) (omega (arith, length-drop (length new8) (t.eighths ++ new8), length-append t.eighths new8, st.eighths))
        (subst (λ (l : List ℤ). Right (sound_of l) 2 109 e h) end-stored rd.eighths.sums)

    end-sound : ago s (1764 + length xs) ≡ sound_of (t.heard ++ xs)
    end-sound = ap (λ (n : ℕ). ago s (n + length xs)) (sym st.store) ∙ joined-sound j

    end-right : PitchRight (sound_of (keeping t.heard xs)) q.pitch
    end-right =
        let v = subst (λ (x : Sound). PitchRight x q.pitch) end-sound rd.right in
        record {
          flag = v.flag;
          pitch = v.pitch;
          sums = λ b. let l = lags_of v b in
              newest-right (length xs) (t.heard ++ xs) (omega (arith, l.upto, length-drop (length xs) (t.heard ++ xs), length-append t.heard xs, st.store)) (v.sums b);
        }

    pub led-is : {store eighths : List ℤ} {w : KeptPitch} → zeros ≡ replicate 512 (pos 0) → store ≡ take (length t.heard) (drop (length xs) s) → eighths ≡ take (length t.eighths) (drop (q.places - 224) y')
        → ((x : Sound) → PitchRight x q.pitch → w ≡ kept_of (pitch_of q.pitch) x) → Led t xs (record { count = q.count; energies = e; correlations = h; store = store; eighths = eighths }) w q.behind q.repeated q.dropped out
    unfolding heard_after
    led-is z a b c =
        let behind : Behind q.count (input_at q.count -ℤ pos q.behind) q.behind = record { is = refl; near = rd.near } in
        record {
          heard-is = λ i. record { count = end.count i; energies = right-energies kept8 i; correlations = right-correlations kept8 i; store = (a ∙ joined-keeping j) i; eighths = (b ∙ eighths_are) i };
          pitch-is = c (sound_of (keeping t.heard xs)) end-right ∙ ap (λ (u : Take). kept_of u.pitch (sound_of (keeping t.heard xs))) end_take;
          behind-is = behind-one behind ∙ (λ i. nat_abs (input_at (end_take i).count -ℤ (end_take i).position));
          repeated-is = ran.repeated ∙ zero-add _ ∙ ap (λ (gs : List Given). length (all_repeated gs)) end-gives;
          dropped-is = ran.dropped ∙ zero-add _ ∙ ap (λ (gs : List Given). length (all_dropped gs)) end-gives;
          out-is = ran.out ∙ (λ i. samples_out (end-gives i) ++ drop (length (block-is i)) (z i));
        }
