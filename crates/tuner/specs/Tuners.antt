-- The tuner: a lead, the list of its take and up to three voices, in one record. When that is good, what a start and a block make of it, and what each call answers and leaves. Definitions only.
use Rattle.std.specs.Prelude.{◌≡◌, Bool, Result, MatchResult, cond, ◌||◌, ℕ, zero, suc, ◌+◌, ◌-◌, ◌*◌, ◌%◌, ◌≤◌, ◌<◌, leb, ltb, eqb, ℤ, pos, nat_abs, ◌-ℤ◌, length, take, drop, get_or, replicate}
use mathlib.Core.List.{List, [], ◌∷◌, ◌++◌, map, flatten}
use Rattle.refusals.specs.declared.Refusal.{Refusal}
use Rattle.refusals.specs.declared.Refusal.TheVariants.{RecordOutOfRange}
use Rattle.rules.specs.declared.Settings.{Settings}
use Rattle.rules.specs.declared.InForce.{InForce}
use Rattle.rules.specs.Rules.{Take, Given, input_at, farthest, refuse, settings_number, start_number, defaults, cd_rate, after, gives, samples_out, take_limit, longest_block, kept_samples, kept_eighths, eighth_lags}
use Rattle.keyboard.specs.declared.Keyboard.{Keyboard}
use Rattle.keyboard.specs.Keys.{fresh, played, on_channel}
use Rattle.pitch.specs.Pitches.{pitch_of, kept_of}
use Rattle.meters.specs.declared.Meter.{Meter}
use Rattle.meters.specs.Meters.{shown_of, Exact}
use Rattle.record.specs.declared.Heard.{Heard}
use Rattle.record.specs.declared.Last.{Last as TestedLast}
use Rattle.record.specs.Records.{sound_of, AllRight, fresh_pitch, heard_after}
use Rattle.lists.specs.Lists.{room, empty_listing, sung_note, notes_sung, Sheet, sheet, after_notes, ListingIn}
use Rattle.reports.specs.Reports.{figures_of}
use Rattle.voices.specs.Voices.{IntervalIn, voice_after, voice_gives, voice_outs}
use Rattle.singers.specs.Singers.{kept_interval, intervals_number}
use Rattle.tuner.specs.declared.Voice.{Voice}
use Rattle.tuner.specs.declared.Last.{Last}
use Rattle.tuner.specs.declared.Numbers.{Numbers}
use Rattle.tuner.specs.declared.Tuner.{Tuner}
use Rattle.tuner.specs.declared.Answer.{Answer}

-- ---- the take that a tuner holds, and what is in force

unfoldable pub take_of : Tuner → Take
take_of t =
    let n = t.numbers in
    record { count = n.count; sound = sound_of t.heard; eighths = sound_of t.eighths; pitch = pitch_of n.pitch; position = input_at n.count -ℤ pos n.behind }

abbrev pub force_of : Tuner → InForce
force_of t = let n = t.numbers in record { settings = n.settings; key = n.keyboard.key; hertz = n.hertz }

-- ---- a good record: it has this layout, and each of its parts is right

-- the number of this layout; no other layout has it
abbrev pub layout_number : ℕ
layout_number = 40000

-- voice j; past the last, one whose numbers are 0
abbrev pub voice_at : List Voice → ℕ → Voice
voice_at vs j = get_or vs j (record { interval = 0; behind = 0 })

-- a voice in its ranges: the interval, and a position within the lead's bounds
pub record VoiceIn (v : Voice) : Type 0 where
  pub interval : IntervalIn v.interval
  pub behind : v.behind ≤ farthest

-- at most three voices are chosen, each of them in its ranges
pub record VoicesIn (many : ℕ) (vs : List Voice) : Type 0 where
  pub few : many ≤ 3
  pub each : (j : ℕ) → j < many → VoiceIn (voice_at vs j)

-- what was heard, and the last block as its length is tested; what is kept for a repeat is not tested
abbrev pub heard_by : Tuner → Heard
heard_by t = record { count = t.numbers.count; energies = t.energies; correlations = t.correlations; store = t.heard; eighths = t.eighths }

abbrev pub tested_last : Last → TestedLast
tested_last l = record { number = l.number; length = l.length; repeated = l.repeated; dropped = l.dropped; out = [] }

pub record Good (t : Tuner) : Type 0 where
  pub layout : t.numbers.layout ≡ layout_number
  pub lead : let n = t.numbers in AllRight n.settings n.hertz n.keyboard (heard_by t) n.pitch (record { behind = n.behind }) (tested_last n.last)
  pub listed : t.numbers.listed ≤ 1
  pub list : ListingIn t.numbers.count t.numbers.list
  pub voices : VoicesIn t.numbers.chosen t.numbers.voices

-- ---- a fresh tuner, and the default one

abbrev pub no_last : Last
no_last = record { number = 0; length = 0; repeated = 0; dropped = 0; pitched = 0; strayed = 0 }

-- a voice level with the input
abbrev pub level_voice : ℕ → Voice
level_voice interval = record { interval = interval; behind = 0 }

-- the voices of these intervals; a voice beyond them is in unison, and not chosen
unfoldable pub chosen_voices : List ℤ → List Voice
chosen_voices zs = level_voice (kept_interval (get_or zs 0 (pos 0))) ∷ level_voice (kept_interval (get_or zs 1 (pos 0))) ∷ level_voice (kept_interval (get_or zs 2 (pos 0))) ∷ []

-- numbers at a sample rate, with settings, a list or none, and so many of these voices
unfoldable pub fresh_numbers : (hertz : ℕ) → Settings → (listed chosen : ℕ) → List Voice → Numbers
fresh_numbers hertz s listed chosen vs =
    record {
      layout = layout_number;
      settings = s;
      hertz = hertz;
      keyboard = fresh;
      count = 0;
      pitch = fresh_pitch;
      behind = 0;
      last = no_last;
      listed = listed;
      chosen = chosen;
      list = empty_listing;
      voices = vs;
    }

-- the places of all outputs that are kept
abbrev pub kept_places : ℕ
kept_places = 4 * longest_block

-- the tuner with these numbers that has heard nothing and keeps no outputs
unfoldable pub silent_tuner : Numbers → Tuner
silent_tuner n =
    record {
      numbers = n;
      energies = replicate eighth_lags 0;
      correlations = replicate eighth_lags (pos 0);
      heard = replicate kept_samples (pos 0);
      eighths = replicate kept_eighths (pos 0);
      outs = replicate kept_places (pos 0);
    }

-- with the voices of these intervals
abbrev pub fresh_tuner : (hertz : ℕ) → Settings → (listed : ℕ) → List ℤ → Tuner
fresh_tuner hertz s listed zs = silent_tuner (fresh_numbers hertz s listed (length zs) (chosen_voices zs))

-- without a list and without voices
abbrev pub default_tuner : Tuner
default_tuner = fresh_tuner cd_rate defaults 0 []

-- ---- a tuner after a block

-- so many samples out, kept for a repeat, the rest of the 512 places 0
abbrev pub kept_out : ℕ → List ℤ → List ℤ
kept_out n zs = zs ++ drop n (replicate longest_block (pos 0))

-- the last block: number k of the samples xs, and what the report counts of what they gave
abbrev pub last_of : ℕ → List ℤ → List Given → Last
last_of k xs given =
    let f = figures_of given in
    record { number = k; length = length xs; repeated = f.repeated; dropped = f.dropped; pitched = f.pitched; strayed = f.sum }

-- where a voice stands in the take of a tuner
abbrev pub stands_at : Tuner → Voice → ℤ
stands_at t v = input_at t.numbers.count -ℤ pos v.behind

-- the voice beside the samples xs: it goes on as the rules say
abbrev pub voice_beside : Tuner → List ℤ → Voice → Voice
voice_beside t xs v =
    record {
      interval = v.interval;
      behind = nat_abs (input_at (t.numbers.count + length xs) -ℤ voice_after (force_of t) v.interval (take_of t) (stands_at t v) xs);
    }

-- what it gives, as it is kept
abbrev pub voice_out : Tuner → List ℤ → Voice → List ℤ
voice_out t xs v = kept_out (length xs) (voice_outs (voice_gives (force_of t) v.interval (take_of t) (stands_at t v) xs))

-- the voices that are chosen go on; those beyond stay as they are
abbrev pub voices_beside : Tuner → List ℤ → List Voice
voices_beside t xs = let n = t.numbers in map (voice_beside t xs) (take n.chosen n.voices) ++ drop n.chosen n.voices

-- the outputs that are kept: the lead's, then the chosen voices'; the places of those beyond stay as they are
abbrev pub outs_beside : Tuner → List ℤ → List ℤ
outs_beside t xs =
    let n = t.numbers in
    kept_out (length xs) (samples_out (gives (force_of t) (take_of t) xs)) ++ flatten (map (voice_out t xs) (take n.chosen n.voices)) ++ drop (longest_block * (1 + n.chosen)) t.outs

-- the list of a tuner that keeps one goes on in a store with the notes sung of the samples xs; without a list nothing is read or written
unfoldable pub list_after : Tuner → List ℤ → List ℕ → Sheet
list_after t xs store =
    let n = t.numbers in
    cond (eqb n.listed 0) (sheet n.list store)
    (after_notes (sung_note n.pitch.tone) n.count (sheet n.list store) (notes_sung (gives (force_of t) (take_of t) xs)))

-- block number k of the samples xs is taken, and this store was lent
unfoldable pub after_block : Tuner → ℕ → List ℤ → List ℕ → Tuner
after_block t k xs store =
    let n = t.numbers in
    let then = after (force_of t) (take_of t) xs in
    let heard = heard_after (heard_by t) xs in
    record {
      numbers =
          record {
            layout = n.layout;
            settings = n.settings;
            hertz = n.hertz;
            keyboard = n.keyboard;
            count = heard.count;
            pitch = kept_of then.pitch (sound_of heard.store);
            behind = nat_abs (input_at then.count -ℤ then.position);
            last = last_of k xs (gives (force_of t) (take_of t) xs);
            listed = n.listed;
            chosen = n.chosen;
            list = (list_after t xs store).listing;
            voices = voices_beside t xs;
          };
      energies = heard.energies;
      correlations = heard.correlations;
      heard = heard.store;
      eighths = heard.eighths;
      outs = outs_beside t xs;
    }

-- ---- outputs: the lead's, then the voices'

-- so many parts of 512 places each
unfoldable pub parts : ℕ → List ℤ → List (List ℤ)
parts zero zs = []
parts (suc n) zs = take longest_block zs ∷ parts n (drop longest_block zs)

-- what lead and chosen voices keep of the last block
abbrev pub kept_outs : Tuner → List (List ℤ)
kept_outs t = parts (1 + t.numbers.chosen) t.outs

-- each of these outputs has room for n samples; further outputs are not tested
unfoldable pub Roomy : ℕ → List (List ℤ) → List (List ℤ) → Type 0
Roomy n [] os = Unit
Roomy n (k ∷ ks) [] = ⊥
Roomy n (k ∷ ks) (o ∷ os) = (n ≤ length o) × Roomy n ks os

-- the first n places of each output are what is kept; nothing past them, and no further output, is touched
unfoldable pub written : ℕ → List (List ℤ) → List (List ℤ) → List (List ℤ)
written n [] os = os
written n (k ∷ ks) [] = []
written n (k ∷ ks) (o ∷ os) = (take n k ++ drop n o) ∷ written n ks os

-- ---- the number of the answer to a block

-- there is a last block, and it has this number
abbrev pub IsLast : Tuner → ℕ → Type 0
IsLast t k = (0 < t.numbers.last.length) × (k ≡ t.numbers.last.number)

-- the samples of the last block: the newest of the kept ones
abbrev pub last_samples : Tuner → List ℤ
last_samples t = drop (kept_samples - t.numbers.last.length) t.heard

-- the first block of a take is 0 and 65535 is followed by 0
abbrev pub next_number : Tuner → ℕ
next_number t = let l = t.numbers.last in cond (eqb l.length 0) 0 ((l.number + 1) % 65536)

-- what comes before any number is looked at: the record is good, the block not empty nor over 512, each output long enough
pub record Fits (t : Tuner) (xs : List ℤ) (os : List (List ℤ)) : Type 0 where
  pub good : Good t
  pub nonempty : 0 < length xs
  pub most : length xs ≤ longest_block
  pub room : Roomy (length xs) (kept_outs t) os

-- document 01's table, in its order
pub data Verdict (t : Tuner) (k : ℕ) (xs : List ℤ) (os : List (List ℤ)) : ℕ → Type 0 where
  record_out_of_range : (Good t → ⊥) → Verdict t k xs os 9
  block_empty : Good t → length xs ≡ 0 → Verdict t k xs os 2
  block_over_512 : Good t → longest_block < length xs → Verdict t k xs os 3
  output_short : Good t → 0 < length xs → length xs ≤ longest_block → (Roomy (length xs) (kept_outs t) os → ⊥) → Verdict t k xs os 4
  number-neither : Fits t xs os → (IsLast t k → ⊥) → (k ≡ next_number t → ⊥) → Verdict t k xs os 5
  other-samples : Fits t xs os → IsLast t k → (xs ≡ last_samples t → ⊥) → Verdict t k xs os 6
  given-again : Fits t xs os → IsLast t k → xs ≡ last_samples t → Verdict t k xs os 1
  take-full : Fits t xs os → (IsLast t k → ⊥) → k ≡ next_number t → take_limit < t.numbers.count + length xs → Verdict t k xs os 7
  taken : Fits t xs os → (IsLast t k → ⊥) → k ≡ next_number t → t.numbers.count + length xs ≤ take_limit → Verdict t k xs os 0

-- ---- what a block leaves, answers and writes, by that number

-- an answer with this number, counts 0, and the list that is then kept
abbrev pub plain : ℕ → Numbers → Answer
plain v n = record { number = v; written = 0; repeated = 0; dropped = 0; pitched = 0; strayed = 0; rows = n.list.rows; left = n.list.left }

-- with what is then kept of the last block, of so many samples
abbrev pub counted : ℕ → ℕ → Numbers → Answer
counted v long n =
    let l = n.last in
    record { number = v; written = long; repeated = l.repeated; dropped = l.dropped; pitched = l.pitched; strayed = l.strayed; rows = n.list.rows; left = n.list.left }

-- 0 and 1 answer with what is then kept, all others with counts 0
unfoldable pub answer_by : ℕ → ℕ → Numbers → Answer
answer_by v long n = cond (leb v 1) (counted v long n) (plain v n)

-- the promise of a block: k and xs to the tuner t, with the outputs os and a store, leaves t', answers a and writes os' and store': 0 and 1 write what is then kept, and 0 alone moves the tuner
pub record Took (t : Tuner) (k : ℕ) (xs : List ℤ) (os : List (List ℤ)) (store : List ℕ) (t' : Tuner) (a : Answer) (os' : List (List ℤ)) (store' : List ℕ) : Type 0 where
  pub number : ℕ
  pub verdict : Verdict t k xs os number
  pub tuner : t' ≡ cond (eqb number 0) (after_block t k xs store) t
  pub answer : a ≡ answer_by number (length xs) t'.numbers
  pub outs : os' ≡ cond (leb number 1) (written (length xs) (kept_outs t') os) os
  pub rows : store' ≡ cond (eqb number 0) (list_after t xs store).store store

-- ---- start

-- 0 keeps no list, any other number keeps one
abbrev pub kept_list : ℕ → ℕ
kept_list listed = cond (eqb listed 0) 0 1

-- no list is asked for, or a store of n numbers has room for one row
abbrev pub store_fits : (listed n : ℕ) → Bool
store_fits listed n = eqb listed 0 || ltb 0 (room n)

-- the number of the answer to a start: the sample rate, the settings, 17 for the store, 18 and 19 for the intervals
unfoldable pub begin_number : ℕ → Settings → (listed : ℕ) → List ℤ → (n : ℕ) → ℕ
begin_number hertz s listed zs n = let v = start_number hertz s in cond (eqb v 0) (refuse 17 (store_fits listed n) (intervals_number zs)) v

-- the promise of a start with a list or none, the voices of these intervals and a store: a fresh tuner, or the default tuner beside the number of the first thing that is bad
pub record Started (hertz : ℕ) (s : Settings) (listed : ℕ) (zs : List ℤ) (store : List ℕ) (t' : Tuner) (v : ℕ) : Type 0 where
  pub number : v ≡ begin_number hertz s listed zs (length store)
  pub tuner : t' ≡ cond (eqb v 0) (fresh_tuner hertz s (kept_list listed) zs) default_tuner

-- ---- change, keyboard bytes, reset

-- 9 where the record is not good, else the call's own number
pub data NineThen (own : ℕ) (t : Tuner) : ℕ → Type 0 where
  record_out_of_range : (Good t → ⊥) → NineThen own t 9
  record-good : Good t → NineThen own t own

-- a record is tested before anything else
abbrev pub Tested : Tuner → Result Unit Refusal → Type 0
Tested t r = MatchResult r (λ _. Good t) (λ e. (e ≡ RecordOutOfRange) × (Good t → ⊥))

-- a call with its own number, answered v: 0 is taken, any other leaves the tuner
pub record Done (own : ℕ) (t taken t' : Tuner) (v : ℕ) : Type 0 where
  pub number : NineThen own t v
  pub tuner : t' ≡ cond (eqb v 0) taken t

-- the tuner with other numbers
abbrev pub with_numbers : Tuner → Numbers → Tuner
with_numbers t n = record { numbers = n; energies = t.energies; correlations = t.correlations; heard = t.heard; eighths = t.eighths; outs = t.outs }

-- the numbers with these settings and this keyboard
unfoldable pub with_keys : Numbers → Settings → Keyboard → Numbers
with_keys n s k =
    record {
      layout = n.layout;
      settings = s;
      hertz = n.hertz;
      keyboard = k;
      count = n.count;
      pitch = n.pitch;
      behind = n.behind;
      last = n.last;
      listed = n.listed;
      chosen = n.chosen;
      list = n.list;
      voices = n.voices;
    }

-- the numbers with other settings; another channel forgets the key, the running status and any half message
abbrev pub with_settings : Numbers → Settings → Numbers
with_settings n s = with_keys n s (on_channel n.settings.channel s.channel n.keyboard)

-- the numbers after bytes from the keyboard, on the channel of the settings
abbrev pub with_bytes : Numbers → List ℕ → Numbers
with_bytes n bytes = with_keys n n.settings (played n.settings.channel n.keyboard bytes)

-- sample rate, settings, whether a list is kept, and the voices stay, each level with the input; everything else is fresh
unfoldable pub begun_again : Numbers → Numbers
begun_again n = fresh_numbers n.hertz n.settings n.listed n.chosen (map (λ (v : Voice). level_voice v.interval) n.voices)

-- the promise of a change
abbrev pub Changed : Tuner → Settings → Tuner → ℕ → Type 0
Changed t s t' v = Done (settings_number s) t (with_numbers t (with_settings t.numbers s)) t' v

-- the promise of keyboard bytes: the keyboard alone is another; period, wanted note and rate stay until the next tracking step
abbrev pub Keyed : Tuner → List ℕ → Tuner → ℕ → Type 0
Keyed t bytes t' v = Done 0 t (with_numbers t (with_bytes t.numbers bytes)) t' v

-- the promise of a reset that lends a store: 9, then 17 where a list is kept and the store has no room for one row
abbrev pub Reset : Tuner → List ℕ → Tuner → ℕ → Type 0
Reset t store t' v = Done (refuse 17 (store_fits t.numbers.listed (length store)) 0) t (silent_tuner (begun_again t.numbers)) t' v

-- ---- the meter

-- the promise of a read of the meter: refused where the record is not good, else what `shown_of` says, each figure exact
pub data Metered (t : Tuner) (r : Meter) : Type 0 where
  record_out_of_range : (Good t → ⊥) → r ≡ Meter.Refused → Metered t r
  read : Good t → r ≡ shown_of t.numbers.hertz t.numbers.pitch → Exact t.numbers.hertz t.numbers.pitch r → Metered t r
