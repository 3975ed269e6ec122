-- Document 01's rules, in its order and words. Definitions only: the laws about them stand in the files beside this one.
-- Samples and correlations are signed numbers; counts, lags, energies, periods and rates are natural numbers.
use Rattle.std.specs.Prelude.{Bool, not, cond, ◌&&◌, ◌||◌, List, [], ◌∷◌, ◌++◌, ℕ, zero, suc, ◌+◌, ◌-◌, ◌*◌, ◌/◌, ◌%◌, ◌^◌, min, max, leb, ltb, eqb, ℤ, pos, neg_ℤ, nat_abs, ◌+ℤ◌, ◌-ℤ◌, ◌*ℤ◌, get_or}
use Rattle.std.proofs.Math.Option.{Option, none, some}
use Rattle.std.specs.Int.Signed.{lt_z}
use Rattle.rules.specs.declared.Settings.{Settings}
use Rattle.rules.specs.declared.InForce.{InForce}
use Rattle.rules.specs.declared.Tone.{Tone}
use Rattle.rules.specs.declared.Goal.{Goal}
use Rattle.whole.specs.Numbers.{sum, total, floor_div, nearest_div}

-- ---- Settings: scale, eps, decay, floor, mode and channel, as src/lib.rt declares them, with what is in force at a sample, a tone and a goal; and the sample rate

-- the modes: the wanted note is of the scale, or the key held
abbrev pub scale_mode : ℕ
scale_mode = 0

abbrev pub keyboard_mode : ℕ
keyboard_mode = 1

-- the settings that a start without settings has
unfoldable pub defaults : Settings
defaults = record { scale = 4095; eps = 100; decay = 230; floor = 100; mode = scale_mode; channel = 0 }

-- a number from one to another
abbrev pub within : ℕ → ℕ → ℕ → Bool
within from to x = leb from x && leb x to

-- refused with this number where a test fails, else what the tests after it say
abbrev pub refuse : ℕ → Bool → ℕ → ℕ
refuse number passed later = cond passed later number

-- the number that settings are answered: the first bad one is named, in this order; 0 where all are in range. Scale 0 is bad
unfoldable pub settings_number : Settings → ℕ
settings_number s =
    refuse 8 (within 1 4095 s.scale)
    (refuse 11 (within 0 409 s.eps)
    (refuse 12 (within 0 255 s.decay)
    (refuse 13 (within 1 1000000 s.floor)
    (refuse 14 (within 0 15 s.channel)
    (refuse 15 (within scale_mode keyboard_mode s.mode) 0)))))

-- settings are in range where that number is 0
abbrev pub in_range : Settings → Bool
in_range s = eqb (settings_number s) 0

-- the sample rates: of discs, and of film
abbrev pub cd_rate : ℕ
cd_rate = 44100

abbrev pub film_rate : ℕ
film_rate = 48000

-- one of them
abbrev pub is_rate : ℕ → Bool
is_rate hertz = eqb hertz cd_rate || eqb hertz film_rate

-- the number that a start is answered: an unknown sample rate is named before the settings
unfoldable pub start_number : ℕ → Settings → ℕ
start_number hertz s = refuse 16 (is_rate hertz) (settings_number s)

-- ---- Energies and correlations

-- a sound by age: x k is the sample of k samples ago, x 0 the newest
abbrev pub Sound : Type 0
Sound = ℕ → ℤ

-- samples before the first count as 0
unfoldable pub silence : Sound
silence k = pos 0

-- the sound with one sample more, its newest
unfoldable pub heard : ℤ → Sound → Sound
heard new x zero = new
heard new x (suc k) = x k

-- the sound with some samples more, the last of them its newest
unfoldable pub heard_all : Sound → List ℤ → Sound
heard_all x [] = x
heard_all x (new ∷ more) = heard_all (heard new x) more

-- the sound as it was before its newest sample
abbrev pub older : Sound → Sound
older x k = x (suc k)

-- a square
abbrev pub sq : ℤ → ℕ
sq a = nat_abs (a *ℤ a)

-- E(L): the sum of squares of the newest 2L samples
unfoldable pub E : Sound → ℕ → ℕ
E x L = total (λ (k : ℕ). sq (x k)) (2 * L)

-- H(L): the sum, over the newest L samples, of each times the one L before it
unfoldable pub H : Sound → ℕ → ℤ
H x L = sum (λ (k : ℕ). x k *ℤ x (k + L)) L

-- D(L) = E(L) - 2H(L), never negative (`D-is` in Distance)
unfoldable pub D : Sound → ℕ → ℕ
D x L = nat_abs (pos (E x L) -ℤ pos 2 *ℤ H x L)

-- ---- Eighth rate

-- the sum of the newest eight, divided by 8 and rounded down toward minus infinity
unfoldable pub eighth_sample : Sound → ℤ
eighth_sample x = floor_div (sum x 8) 8

-- it is made after samples 8, 16, 24, ..
unfoldable pub eighth_due : ℕ → Bool
eighth_due n = eqb (n % 8) 0

-- ---- Passing

-- 1024 x D(L) <= eps x E(L)
unfoldable pub meets_eps : ℕ → ℕ → ℕ → Bool
meets_eps eps d e = leb (1024 * d) (eps * e)

-- E(L) >= floor x 2L
unfoldable pub meets_floor : ℕ → ℕ → ℕ → Bool
meets_floor floor L e = leb (floor * (2 * L)) e

-- a lag passes
unfoldable pub passes : Settings → Sound → ℕ → Bool
passes s x L = meets_eps s.eps (D x L) (E x L) && meets_floor s.floor L (E x L)

-- ---- Finding a period: y is the sound at eighth rate

-- a lag, from 3 to 109, is a low: D(L-1) > D(L) <= D(L+1), and it passes
unfoldable pub is_low : Settings → Sound → ℕ → Bool
is_low s y L = ltb (D y L) (D y (L - 1)) && leb (D y L) (D y (L + 1)) && passes s y L

-- the least of the n numbers from `from` on for which the test holds
unfoldable pub least_from : (ℕ → Bool) → ℕ → ℕ → Option ℕ
least_from test from zero = none
least_from test from (suc n) = let later = least_from test (suc from) n in cond (test from) (some from) later

-- the least low above a lag
unfoldable pub low_above : Settings → Sound → ℕ → Option ℕ
low_above s y above = least_from (is_low s y) (suc above) (109 - above)

-- with L1 below 55: of 8 x L1 and 8 x L2 the one with smaller full-rate D, the shorter on equality; without L2, no finding
unfoldable pub choice : Sound → ℕ → Option ℕ → Option ℕ
choice x L1 none = none
choice x L1 (some L2) = some (cond (ltb (D x (8 * L2)) (D x (8 * L1))) (8 * L2) (8 * L1))

-- by L1, the least low: none, no finding; at least 55, the lag 8 x L1; otherwise the choice with L2, the least low above L1
unfoldable pub found_by : Settings → Sound → Sound → Option ℕ → Option ℕ
found_by s x y none = none
found_by s x y (some L1) = cond (leb 55 L1) (some (8 * L1)) (choice x L1 (low_above s y L1))

-- the lag found in the full-rate sound x and the eighth-rate sound y
unfoldable pub found : Settings → Sound → Sound → Option ℕ
found s x y = found_by s x y (low_above s y 2)

-- ---- Tracking: eight lags, low to low + 7

-- lags from 16 to 880, and so periods from 4,096 to 225,280
abbrev pub lowest_lag : ℕ
lowest_lag = 16

abbrev pub highest_lag : ℕ
highest_lag = 880

abbrev pub least_period : ℕ
least_period = 256 * lowest_lag

abbrev pub greatest_period : ℕ
greatest_period = 256 * highest_lag

-- the place of the least of d 0 to d n, the first on equality
unfoldable pub least_place : (ℕ → ℕ) → ℕ → ℕ
least_place d zero = 0
least_place d (suc n) = let before = least_place d n in cond (ltb (d (suc n)) (d before)) (suc n) before

-- 1. best: the place among the eight of the lag of least D, the shortest on equality
unfoldable pub best : Sound → ℕ → ℕ
best x low = least_place (λ (j : ℕ). D x (low + j)) 7

-- how far two numbers lie apart: the greater less the smaller
abbrev pub away : ℕ → ℕ → ℕ
away a b = max a b - min a b

-- 2. lost: best doesn't pass, or differs by more than 3 from the last best
unfoldable pub is_lost : Settings → Sound → ℕ → ℕ → Bool
is_lost s x lag last = not (passes s x lag && leb (away lag last) 3)

-- 128(D1 - D3) / (D1 - 2 D2 + D3) to the nearest whole number, halves up; D2 is the least of the three, D1 above it
unfoldable pub offset : ℕ → ℕ → ℕ → ℤ
offset D1 D2 D3 = nearest_div (pos 128 *ℤ (pos D1 -ℤ pos D3)) (D1 + D3 - 2 * D2)

-- 3. the period in 1/256 sample: 256 x best, and the offset when best is not the first or last of the eight
unfoldable pub period : Sound → ℕ → ℕ → ℕ
period x low at =
    let lag = low + at in
    nat_abs (pos (256 * lag) +ℤ cond (ltb 0 at && ltb at 7) (offset (D x (lag - 1)) (D x lag) (D x (lag + 1))) (pos 0))

-- 4. the lowest lag after the step: down by one among the first three unless it is 16, up by one among the last three unless the highest is 880
unfoldable pub moved : ℕ → ℕ → ℕ
moved low at =
    cond (ltb at 3) (cond (eqb low lowest_lag) low (low - 1))
    (cond (ltb 4 at) (cond (eqb (low + 7) highest_lag) low (low + 1)) low)

-- ---- Note and rate

-- the tables: the periods of MIDI notes 32 to 100 at 44,100, and of 33 to 102 at 48,000, in 1/256 sample; their rule is `Nearest` in Tuning
unfoldable pub cd_table : List ℕ
cd_table =
    217471 ∷ 205265 ∷ 193745 ∷ 182871 ∷ 172607 ∷ 162919 ∷ 153775 ∷ 145145 ∷ 136998 ∷ 129309 ∷ 122052 ∷ 115201 ∷ 108736 ∷ 102633
    ∷ 96872 ∷ 91435 ∷ 86303 ∷ 81460 ∷ 76888 ∷ 72572 ∷ 68499 ∷ 64655 ∷ 61026 ∷ 57601 ∷ 54368 ∷ 51316 ∷ 48436 ∷ 45718 ∷ 43152 ∷ 40730
    ∷ 38444 ∷ 36286 ∷ 34250 ∷ 32327 ∷ 30513 ∷ 28800 ∷ 27184 ∷ 25658 ∷ 24218 ∷ 22859 ∷ 21576 ∷ 20365 ∷ 19222 ∷ 18143 ∷ 17125 ∷ 16164
    ∷ 15256 ∷ 14400 ∷ 13592 ∷ 12829 ∷ 12109 ∷ 11429 ∷ 10788 ∷ 10182 ∷ 9611 ∷ 9072 ∷ 8562 ∷ 8082 ∷ 7628 ∷ 7200 ∷ 6796 ∷ 6415 ∷ 6055
    ∷ 5715 ∷ 5394 ∷ 5091 ∷ 4805 ∷ 4536 ∷ 4281 ∷ []

unfoldable pub film_table : List ℕ
film_table =
    223418 ∷ 210879 ∷ 199043 ∷ 187872 ∷ 177327 ∷ 167375 ∷ 157981 ∷ 149114 ∷ 140745 ∷ 132845 ∷ 125389 ∷ 118352 ∷ 111709 ∷ 105439
    ∷ 99521 ∷ 93936 ∷ 88664 ∷ 83687 ∷ 78990 ∷ 74557 ∷ 70372 ∷ 66423 ∷ 62695 ∷ 59176 ∷ 55855 ∷ 52720 ∷ 49761 ∷ 46968 ∷ 44332 ∷ 41844
    ∷ 39495 ∷ 37278 ∷ 35186 ∷ 33211 ∷ 31347 ∷ 29588 ∷ 27927 ∷ 26360 ∷ 24880 ∷ 23484 ∷ 22166 ∷ 20922 ∷ 19748 ∷ 18639 ∷ 17593 ∷ 16606
    ∷ 15674 ∷ 14794 ∷ 13964 ∷ 13180 ∷ 12440 ∷ 11742 ∷ 11083 ∷ 10461 ∷ 9874 ∷ 9320 ∷ 8797 ∷ 8303 ∷ 7837 ∷ 7397 ∷ 6982 ∷ 6590 ∷ 6220
    ∷ 5871 ∷ 5541 ∷ 5230 ∷ 4937 ∷ 4660 ∷ 4398 ∷ 4151 ∷ []

-- the table of a sample rate, its first note, and how many it holds
unfoldable pub table : ℕ → List ℕ
table hertz = cond (eqb hertz cd_rate) cd_table film_table

unfoldable pub first_note : ℕ → ℕ
first_note hertz = cond (eqb hertz cd_rate) 32 33

unfoldable pub notes : ℕ → ℕ
notes hertz = cond (eqb hertz cd_rate) 69 70

-- the period of a note of the table
unfoldable pub note_period : ℕ → ℕ → ℕ
note_period hertz n = get_or (table hertz) (n - first_note hertz) 0

-- a note is of the scale: bit = note number mod 12
unfoldable pub of_scale : ℕ → ℕ → Bool
of_scale scale n = eqb (scale / 2 ^ (n % 12) % 2) 1

-- of the note wanted so far and a higher one: the one at less distance in period, the higher on equality
unfoldable pub nearer : ℕ → ℕ → Option ℕ → ℕ → ℕ
nearer hertz p none n = n
nearer hertz p (some m) n = cond (leb (away p (note_period hertz n)) (away p (note_period hertz m))) n m

-- the wanted one of the first k notes of the table
unfoldable pub wanted_of : ℕ → ℕ → ℕ → ℕ → Option ℕ
wanted_of hertz scale p zero = none
wanted_of hertz scale p (suc k) =
    let lower = wanted_of hertz scale p k in
    let next = first_note hertz + k in
    cond (of_scale scale next) (some (nearer hertz p lower next)) lower

-- the wanted note of a period: the one of the scale with least distance in period, the higher note on equality
unfoldable pub wanted : ℕ → ℕ → ℕ → Option ℕ
wanted hertz scale p = wanted_of hertz scale p (notes hertz)

-- no wanted note: MIDI notes are 0 to 127
abbrev pub no_note : ℕ
no_note = 128

-- the note of the scale for a period, as a number; no scale in its range has none
unfoldable pub note_of : Option ℕ → ℕ
note_of none = no_note
note_of (some n) = n

-- the wanted note of the period p by what is in force: of the scale, or the key held
unfoldable pub wanted_note : InForce → ℕ → ℕ
wanted_note f p = cond (eqb f.settings.mode scale_mode) (note_of (wanted f.hertz f.settings.scale p)) f.key

-- the wanted period: that of a note of the table; 0 where there is none, or one outside the table
unfoldable pub wanted_period : ℕ → ℕ → ℕ
wanted_period hertz n = cond (leb (first_note hertz) n && ltb n (first_note hertz + notes hertz)) (note_period hertz n) 0

-- period x 65536 / wanted period, nearest, halves up
unfoldable pub raw_rate : ℕ → ℕ → ℕ
raw_rate p w = (2 * (p * 65536) + w) / (2 * w)

-- a fresh tuner's rate, and the bounds of every raw rate: a half and two
abbrev pub fresh_rate : ℕ
fresh_rate = 65536

abbrev pub least_rate : ℕ
least_rate = 32768

abbrev pub greatest_rate : ℕ
greatest_rate = 131072

-- the raw rate: 65536 without a wanted period, or where it is not from a half to two
unfoldable pub raw_toward : ℕ → ℕ → ℕ
raw_toward p w = cond (ltb 0 w && within least_rate greatest_rate (raw_rate p w)) (raw_rate p w) fresh_rate

-- decay x rate + (256 - decay) x raw + what was kept
unfoldable pub smooth_total : ℕ → ℕ → ℕ → ℕ → ℕ
smooth_total decay rate kept raw = decay * rate + (256 - decay) * raw + kept

-- the rate after a smoothing: a 256th of it, rounded down
unfoldable pub smooth_rate : ℕ → ℕ → ℕ → ℕ → ℕ
smooth_rate decay rate kept raw = smooth_total decay rate kept raw / 256

-- what is kept after it: what rounding cut off
unfoldable pub smooth_kept : ℕ → ℕ → ℕ → ℕ → ℕ
smooth_kept decay rate kept raw = smooth_total decay rate kept raw % 256

-- ---- Searching or tracking

-- searching; or tracking the eight lags from low on, with the last best (at first, the found lag)
pub data Mode : Type 0 where
  searching : Mode
  tracking : (low last : ℕ) → Mode

-- what the sound was found to be: the mode, and the tone
pub record Pitch : Type 0 where
  pub mode : Mode
  pub tone : Tone

-- no period, no wanted note, the rate 65536 and nothing kept: fresh, locking, and lost
unfoldable pub no_tone : Tone
no_tone = record { period = 0; note = no_note; rate = fresh_rate; kept = 0 }

abbrev pub no_period : Mode → Pitch
no_period m = record { mode = m; tone = no_tone }

-- what a search leaves: no finding, what there was; a lag found, the eight lags from the found lag minus 3
unfoldable pub searched : Pitch → Option ℕ → Pitch
searched t none = t
searched t (some lag) = no_period (tracking (lag - 3) lag)

-- the goal of the period p: a wanted note, and the raw rate toward it
unfoldable pub goal_of : ℕ → ℕ → ℕ → Goal
goal_of hertz p n = record { note = n; raw = raw_toward p (wanted_period hertz n) }

-- the goal of a successful tracking step that found the period p: the wanted note as it then stands
unfoldable pub goal : InForce → ℕ → Goal
goal f p = goal_of f.hertz p (wanted_note f p)

-- what a successful tracking step makes of a tone: the new period, its wanted note, the rate moved toward the raw rate, and what rounding cut off it
unfoldable pub tuned : InForce → Tone → ℕ → Tone
tuned f t p =
    let g = goal f p in
    let decay = f.settings.decay in
    record { period = p; note = g.note; rate = smooth_rate decay t.rate t.kept g.raw; kept = smooth_kept decay t.rate t.kept g.raw }

-- a tracking step
unfoldable pub tracked : InForce → Sound → Tone → ℕ → ℕ → Pitch
tracked f x t low last =
    let at = best x low in
    cond (is_lost f.settings x (low + at) last) (no_period searching)
    (record { mode = tracking (moved low at) (low + at); tone = tuned f t (period x low at) })

-- a tracking step comes when the take's sample count is a multiple of 5
unfoldable pub step_due : ℕ → Bool
step_due n = eqb (n % 5) 0

-- searching or tracking after sample number n is stored, by the mode in which the sample arrived
unfoldable pub listened_in : Mode → InForce → ℕ → Sound → Sound → Pitch → Pitch
listened_in searching f n x y p = cond (eighth_due n) (searched p (found f.settings x y)) p
listened_in (tracking low last) f n x y p = cond (step_due n) (tracked f x p.tone low last) p

unfoldable pub listened : InForce → ℕ → Sound → Sound → Pitch → Pitch
listened f n x y p = listened_in p.mode f n x y p

-- ---- Reading

-- how far the position may lie behind the input: 1,000 samples
abbrev pub farthest : ℕ
farthest = 1000 * 65536

-- where the input stands after n samples, in 1/65536 sample
unfoldable pub input_at : ℕ → ℤ
input_at n = pos (n * 65536)

-- the periods of the cycle repeated after sample n: one where the position is greater than n x 65536
unfoldable pub cycle_repeated : ℕ → ℕ → ℤ → List ℕ
cycle_repeated n p at = cond (lt_z (input_at n) at) (p ∷ []) []

-- the periods of the cycle dropped: one where it is more than 1,000 samples behind
unfoldable pub cycle_dropped : ℕ → ℕ → ℤ → List ℕ
cycle_dropped n p at = cond (lt_z at (input_at n -ℤ pos farthest)) (p ∷ []) []

-- what cycles come to: a period counts 256 position units for each 1/256 sample
unfoldable pub cycles : List ℕ → ℕ
cycles [] = 0
cycles (p ∷ ps) = 256 * p + cycles ps

-- the position after sample n, and the periods of the cycles repeated and dropped there
pub record Growth : Type 0 where
  pub position : ℤ
  pub repeats : List ℕ
  pub drops : List ℕ

-- the position grows by the rate; if it is now ahead, one period is taken off; if it is too far behind, one period is put on
unfoldable pub growth : ℕ → ℕ → ℕ → ℤ → Growth
growth n rate p at =
    let grown = at +ℤ pos rate in
    let again = cycle_repeated n p grown in
    let held = grown -ℤ pos (cycles again) in
    let gone = cycle_dropped n p held in
    record { position = held +ℤ pos (cycles gone); repeats = again; drops = gone }

-- the sample number i, from 0, of a sound of n samples; below 0 it reads as 0
unfoldable pub sample_at : Sound → ℕ → ℤ → ℤ
sample_at x n i = x (nat_abs (pos n -ℤ pos 1 -ℤ i))

-- 2a + (b - p)v + (2p - 5a + 4b - q)v^2 + (3a - p - 3b + q)v^3 with v = u/4096, in 1/4096^3: a whole number
unfoldable pub curve : ℤ → ℤ → ℤ → ℤ → ℕ → ℤ
curve p a b q u =
    pos 2 *ℤ a *ℤ pos (4096 ^ 3)
    +ℤ (b -ℤ p) *ℤ pos u *ℤ pos (4096 ^ 2)
    +ℤ (pos 2 *ℤ p -ℤ pos 5 *ℤ a +ℤ pos 4 *ℤ b -ℤ q) *ℤ pos u *ℤ pos u *ℤ pos 4096
    +ℤ (pos 3 *ℤ a -ℤ p -ℤ pos 3 *ℤ b +ℤ q) *ℤ pos u *ℤ pos u *ℤ pos u

-- held within -32768 to 32767
unfoldable pub held : ℤ → ℤ
held z = cond (lt_z z (neg_ℤ (pos 32768))) (neg_ℤ (pos 32768)) (cond (lt_z (pos 32767) z) (pos 32767) z)

-- through neighbours p, a, b and q with u of 4096: half of that, rounded down once and then held
unfoldable pub through : ℤ → ℤ → ℤ → ℤ → ℕ → ℤ
through p a b q u = held (floor_div (curve p a b q u) (2 * 4096 ^ 3))

-- the whole samples of a position, and its fraction
unfoldable pub whole_of : ℤ → ℤ
whole_of at = floor_div at 65536

unfoldable pub fraction_of : ℤ → ℕ
fraction_of at = nat_abs (at -ℤ whole_of at *ℤ pos 65536)

-- the output is read 5 samples before the position, through the samples there and beside it, with the upper 12 bits of the fraction
unfoldable pub reading : Sound → ℕ → ℤ → ℤ
reading x n at =
    let i = whole_of at -ℤ pos 5 in
    through (sample_at x n (i -ℤ pos 1)) (sample_at x n i) (sample_at x n (i +ℤ pos 1)) (sample_at x n (i +ℤ pos 2)) (fraction_of at / 16)

-- ---- One sample

-- a take so far: how many samples, the sound at both rates, what it was found to be, and the read position
pub record Take : Type 0 where
  pub count : ℕ
  pub sound : Sound
  pub eighths : Sound
  pub pitch : Pitch
  pub position : ℤ

-- a fresh take
unfoldable pub fresh_take : Take
fresh_take = record { count = 0; sound = silence; eighths = silence; pitch = no_period searching; position = pos 0 }

-- what one sample gives: the sample out, the tone after it, and the periods of the cycles repeated and dropped
pub record Given : Type 0 where
  pub out : ℤ
  pub tone : Tone
  pub repeats : List ℕ
  pub drops : List ℕ

-- what one sample leaves and gives
pub record Step : Type 0 where
  pub next : Take
  pub given : Given

-- the eighth-rate sound after sample n of the full-rate sound x
unfoldable pub eighths_after : ℕ → Sound → Sound → Sound
eighths_after n x y = cond (eighth_due n) (heard (eighth_sample x) y) y

-- one sample: it is stored, an eighth-rate sample made, the tuner searches or tracks; then the position grows by the rate,
-- a cycle is repeated or dropped, and the output is read
unfoldable pub stepped : InForce → Take → ℤ → Step
stepped f t new =
    let n = suc t.count in
    let x = heard new t.sound in
    let y = eighths_after n x t.eighths in
    let pitch = listened f n x y t.pitch in
    let g = growth n pitch.tone.rate pitch.tone.period t.position in
    record {
      next = record { count = n; sound = x; eighths = y; pitch = pitch; position = g.position };
      given = record { out = reading x n g.position; tone = pitch.tone; repeats = g.repeats; drops = g.drops };
    }

-- ---- A block: the fold of the step over its samples

-- a take holds at most 1,000,000,000 samples, a block 1 to 512
abbrev pub take_limit : ℕ
take_limit = 1000000000

abbrev pub longest_block : ℕ
longest_block = 512

-- so many samples are kept, so many at eighth rate, and sums for so many lags at eighth rate, from 2 on
abbrev pub kept_samples : ℕ
kept_samples = 1764

abbrev pub kept_eighths : ℕ
kept_eighths = 224

abbrev pub eighth_lags : ℕ
eighth_lags = 109

-- the take after the samples
unfoldable pub after : InForce → Take → List ℤ → Take
after f t [] = t
after f t (new ∷ more) = after f (stepped f t new).next more

-- what each of the samples gives, one after the other
unfoldable pub gives : InForce → Take → List ℤ → List Given
gives f t [] = []
gives f t (new ∷ more) = (stepped f t new).given ∷ gives f (stepped f t new).next more

-- the samples out
unfoldable pub samples_out : List Given → List ℤ
samples_out [] = []
samples_out (g ∷ gs) = g.out ∷ samples_out gs

-- the periods that the samples' lists have, one after the other: of all cycles repeated, and of all dropped
unfoldable pub gathered : (Given → List ℕ) → List Given → List ℕ
gathered part [] = []
gathered part (g ∷ gs) = part g ++ gathered part gs

abbrev pub all_repeated : List Given → List ℕ
all_repeated gs = gathered (λ (g : Given). g.repeats) gs

abbrev pub all_dropped : List Given → List ℕ
all_dropped gs = gathered (λ (g : Given). g.drops) gs
