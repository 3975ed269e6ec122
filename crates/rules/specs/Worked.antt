-- Document 01's worked numbers, number 11 as document 02's K12 has it, and those of K8: one table, and one statement over it, about the definitions; and the
-- whole case of document 01. Definitions only: they are computed in Computed.
use Rattle.std.specs.Prelude.{◌≡◌, Bool, true, false, List, [], ◌∷◌, ℕ, ◌*◌, ◌/◌, ℤ, pos, neg_ℤ, ◌+ℤ◌}
use Rattle.std.proofs.Math.Option.{some}
use Rattle.rules.specs.Rules.{Sound, silence, heard_all, E, H, D, eighth_sample, meets_eps, meets_floor, offset, start_number, cd_rate, film_rate, note_period, wanted, scale_mode, no_note, wanted_period, raw_rate, goal_of, smooth_rate, smooth_kept, through, growth, fresh_take, gives, samples_out}

-- the sound of some samples alone, the oldest first, as document 01 prints them
abbrev sound_of : List ℤ → Sound
sound_of newest = heard_all silence newest

-- what a worked number says of the definitions
pub data Worked : Type 0 where
  sums : (newest : List ℤ) (L e : ℕ) (h : ℤ) (d : ℕ) → Worked
  eighth : (newest : List ℤ) (out : ℤ) → Worked
  meets_of_eps : (eps d e : ℕ) (meets : Bool) → Worked
  meets_of_floor : (floor L e : ℕ) (meets : Bool) → Worked
  vertex : (d1 d2 d3 : ℕ) (off : ℤ) → Worked
  note : (hertz n p : ℕ) → Worked
  wants : (hertz scale p n : ℕ) → Worked
  raw : (hertz p n r : ℕ) → Worked
  -- the new rate, and what is then kept
  smooths : (decay rate kept goal new left : ℕ) → Worked
  -- the raw rate of the period p while the key n is wanted
  wants_key : (hertz p n r : ℕ) → Worked
  reads : (p a b q : ℤ) (f : ℕ) (out : ℤ) → Worked
  -- the number that a start is answered
  starts : (hertz scale eps decay floor number : ℕ) → Worked
  -- after sample n, with the position grown to `grown` and a period, the position is `at`
  turns : (n p : ℕ) (grown at : ℤ) → Worked

unfoldable pub Holds : Worked → Type 0
Holds (sums newest L e h d) = (E (sound_of newest) L ≡ e) × (H (sound_of newest) L ≡ h) × (D (sound_of newest) L ≡ d)
Holds (eighth newest out) = eighth_sample (sound_of newest) ≡ out
Holds (meets_of_eps eps d e meets) = meets_eps eps d e ≡ meets
Holds (meets_of_floor floor L e meets) = meets_floor floor L e ≡ meets
Holds (vertex d1 d2 d3 off) = offset d1 d2 d3 ≡ off
Holds (note hertz n p) = wanted_period hertz n ≡ p
Holds (wants hertz scale p n) = wanted hertz scale p ≡ some n
Holds (raw hertz p n r) = raw_rate p (note_period hertz n) ≡ r
Holds (smooths decay rate kept goal new left) = (smooth_rate decay rate kept goal ≡ new) × (smooth_kept decay rate kept goal ≡ left)
Holds (wants_key hertz p n r) = goal_of hertz p n ≡ record { note = n; raw = r }
Holds (reads p a b q f out) = through p a b q (f / 16) ≡ out
Holds (starts hertz scale eps decay floor number) = start_number hertz (record { scale = scale; eps = eps; decay = decay; floor = floor; mode = scale_mode; channel = 0 }) ≡ number
Holds (turns n p grown at) = (growth n 0 p grown).position ≡ at

unfoldable pub AllHold : List Worked → Type 0
AllHold [] = Unit
AllHold (w ∷ ws) = Holds w × AllHold ws

-- -n
abbrev minus : ℕ → ℤ
minus n = neg_ℤ (pos n)

-- a scale of A alone: bit 69 mod 12 = 9
abbrev only_a : ℕ
only_a = 512

-- samples in 1/65536
abbrev samples : ℕ → ℤ
samples n = pos (n * 65536)

unfoldable pub numbers : List Worked
numbers =
    -- 1 to 3
    sums (pos 3 ∷ pos 5 ∷ pos 3 ∷ pos 5 ∷ []) 2 68 (pos 34) 0
    ∷ sums (pos 1 ∷ pos 2 ∷ pos 3 ∷ pos 4 ∷ []) 2 30 (pos 11) 8
    ∷ sums (pos 1 ∷ minus 1 ∷ minus 1 ∷ pos 1 ∷ []) 2 4 (minus 2) 8
    -- 4: eight samples summing to -1, and to 7
    ∷ eighth (pos 3 ∷ minus 4 ∷ pos 0 ∷ pos 5 ∷ minus 2 ∷ minus 3 ∷ pos 1 ∷ minus 1 ∷ []) (minus 1)
    ∷ eighth (pos 3 ∷ pos 4 ∷ pos 0 ∷ pos 5 ∷ minus 2 ∷ minus 3 ∷ pos 1 ∷ minus 1 ∷ []) (pos 0)
    -- 5
    ∷ meets_of_eps 200 200 1024 true
    ∷ meets_of_eps 200 202 1024 false
    -- 6
    ∷ meets_of_floor 100 24 4800 true
    ∷ meets_of_floor 100 24 4799 false
    -- 7
    ∷ vertex 6 2 10 (minus 43)
    ∷ vertex 8 2 2 (pos 128)
    -- 8
    ∷ note cd_rate 69 25658
    ∷ note cd_rate 33 205265
    -- 9
    ∷ wants cd_rate only_a 26000 69
    ∷ raw cd_rate 26000 69 66410
    ∷ wants cd_rate only_a 38487 69
    -- 10; and what rounding cut off, added at the next smoothing
    ∷ smooths 128 65536 0 66410 65973 0
    ∷ smooths 255 65281 0 65536 65281 255
    ∷ smooths 255 65281 255 65536 65282 254
    -- 11
    ∷ reads (pos 10) (pos 10) (pos 13) (pos 13) 32768 (pos 11)
    ∷ reads (minus 10) (minus 10) (minus 13) (minus 13) 32768 (minus 12)
    -- 12: position 1000.5 samples, period 100; and position 1000
    ∷ turns 1000 (256 * 100) (samples 1000 +ℤ pos 32768) (samples 900 +ℤ pos 32768)
    ∷ turns 1000 (256 * 100) (samples 1000) (samples 1000)
    -- keys: the bounds are tested on the rounded rate; outside them, outside the table and without a key it is 65536
    ∷ wants_key cd_rate 108734 32 32768
    ∷ wants_key cd_rate 108733 32 65536
    ∷ wants_key cd_rate 8562 100 131072
    ∷ wants_key cd_rate 8563 100 65536
    ∷ wants_key cd_rate 25600 31 65536
    ∷ wants_key cd_rate 25600 101 65536
    ∷ wants_key cd_rate 25600 0 65536
    ∷ wants_key cd_rate 25600 no_note 65536
    -- at 48,000: notes 33 to 102, by the same rule
    ∷ note film_rate 32 0
    ∷ note film_rate 33 223418
    ∷ note film_rate 69 27927
    ∷ note film_rate 101 4398
    ∷ note film_rate 102 4151
    ∷ note film_rate 103 0
    ∷ wants film_rate only_a 26000 69
    ∷ raw film_rate 26000 69 61014
    ∷ wants_key film_rate 8302 102 131072
    ∷ wants_key film_rate 25600 32 65536
    ∷ wants_key film_rate 25600 103 65536
    -- an unknown sample rate is refused before anything else
    ∷ starts film_rate 4095 100 0 100 0
    ∷ starts 1 0 410 256 0 16
    ∷ starts film_rate 0 410 256 0 8
    ∷ []

-- all of them hold
abbrev pub NumbersHold : Type 0
NumbersHold = AllHold numbers

-- the whole case of document 01: its samples out, where each block's samples go through one after the other
abbrev pub WholeCase : Type 0
WholeCase =
    samples_out (gives (record { settings = record { scale = 4095; eps = 200; decay = 0; floor = 100; mode = scale_mode; channel = 0 }; key = no_note; hertz = cd_rate }) fresh_take (pos 1000 ∷ minus 1000 ∷ pos 500 ∷ pos 8 ∷ pos 9 ∷ pos 10 ∷ []))
    ≡ pos 0 ∷ pos 0 ∷ pos 0 ∷ pos 0 ∷ pos 1000 ∷ minus 1000 ∷ []
