-- The account: what holds of the tuner after any series of calls, nights among them. Definitions only, and seven statements (`Theorem`, `ToneTheorem`, `LateTheorem`, `ListTheorem`, `SentAgain`, `NightAgain`, `NeverNine`); their proofs are `holds`, `tone-holds` and `late_holds` in Holds.antt, `list-holds` in Lists.antt, `again-holds` and `never_nine` in Calls.antt, and `night-again` in Nights.antt.
use Rattle.std.specs.Prelude.{◌≡◌, cond, List, [], ◌∷◌, ◌++◌, map, ℕ, ◌+◌, ◌%◌, ◌<◌, eqb, ℤ, pos, ◌+ℤ◌, ◌-ℤ◌, length, take, drop, get_or}
use Rattle.rules.specs.declared.Settings.{Settings}
use Rattle.rules.specs.Rules.{Sound, silence, heard_all, Given, input_at, cycles, stepped, defaults, cd_rate, after, samples_out, all_repeated, all_dropped, eighth_lags}
use Rattle.rules.specs.Facts.{InBounds, Right, value_at, SixteenBits, WithoutPeriod}
use Rattle.history.specs.History.{Event, sample, new-settings, byte, Course, fresh_course, force_at, happened, course_after, given_by, samples_in, rates_used, total_of, NonePitched, four_late}
use Rattle.reports.specs.declared.Figures.{Figures}
use Rattle.reports.specs.Reports.{figures_of, added, no_figures}
use Rattle.voices.specs.Voices.{Voiced, voiced_by, voice_after, voice_outs, voice_account, Since, since_after}
use Rattle.lists.specs.Lists.{notes_sung, sheet, IsList}
use Rattle.singers.specs.Singers.{kept_interval}
use Rattle.meters.specs.declared.Meter.{Meter}
use Rattle.record.specs.Records.{made}
use Rattle.tuner.specs.declared.Voice.{Voice}
use Rattle.tuner.specs.declared.Tuner.{Tuner}
use Rattle.tuner.specs.declared.Answer.{Answer}
use Rattle.tuner.specs.Tuners.{take_of, force_of, voice_at, Good, stands_at, default_tuner, kept_list, kept_outs, Roomy, plain, Took, Started, Changed, Keyed, Reset, Metered}
use Rattle.nights.specs.declared.NightAnswer.{NightAnswer}
use Rattle.nights.specs.Night as Night
use Rattle.nights.specs.Night.{no_night, Nighted}

-- ---- the history

-- a call with what was lent to it, what it answered, and what it left of outputs and store. The start with the defaults is a start like any other
pub data Call : Type 0 where
  start : (hertz : ℕ) → Settings → (listed : ℕ) → (intervals : List ℤ) → (store : List ℕ) → (number : ℕ) → Call
  change : Settings → (number : ℕ) → Call
  block : ℕ → List ℤ → List (List ℤ) → List ℕ → Answer → List (List ℤ) → List ℕ → Call
  night : (k size : ℕ) → List ℤ → List (List ℤ) → List ℕ → NightAnswer → List (List ℤ) → List ℕ → Call
  midi : List ℕ → (number : ℕ) → Call
  reset : (store : List ℕ) → (number : ℕ) → Call
  meter : Meter → Call

-- the call to the tuner t keeps its promise and leaves t'; a start asks nothing of t, and the meter leaves it
pub data Leaves (t : Tuner) : Call → Tuner → Type 0 where
  by-start : {hertz : ℕ} {s : Settings} {listed : ℕ} {zs : List ℤ} {store : List ℕ} {v : ℕ} {t' : Tuner} → Started hertz s listed zs store t' v → Leaves t (start hertz s listed zs store v) t'
  by-change : {s : Settings} {v : ℕ} {t' : Tuner} → Changed t s t' v → Leaves t (change s v) t'
  by-block : {k : ℕ} {xs : List ℤ} {os os' : List (List ℤ)} {store store' : List ℕ} {a : Answer} {t' : Tuner} → Took t k xs os store t' a os' store' → Leaves t (block k xs os store a os' store') t'
  by-night : {k size : ℕ} {xs : List ℤ} {os os' : List (List ℤ)} {store store' : List ℕ} {a : NightAnswer} {t' : Tuner} → Nighted t k size xs os store t' a os' store' → Leaves t (night k size xs os store a os' store') t'
  by-midi : {bytes : List ℕ} {v : ℕ} {t' : Tuner} → Keyed t bytes t' v → Leaves t (midi bytes v) t'
  by-reset : {store : List ℕ} {v : ℕ} {t' : Tuner} → Reset t store t' v → Leaves t (reset store v) t'
  by-meter : {m : Meter} → Metered t m → Leaves t (meter m) t

-- any calls one after the other, the newest first, from a fresh start on
pub data Series : List Call → Tuner → Type 0 where
  fresh_start : Series [] default_tuner
  and_then : {cs : List Call} {c : Call} {t t' : Tuner} → Series cs t → Leaves t c t' → Series (c ∷ cs) t'

-- since the last start or reset: the sample rate and the settings with which the take began, whether a list is kept, and the voices chosen; what happened in it; what the answers count, added up; and all that was written, of the lead and of each chosen voice
pub record Received : Type 0 where
  pub hertz : ℕ
  pub settings : Settings
  pub listed : ℕ
  pub intervals : List ℕ
  pub events : List Event
  pub figures : Figures
  pub wrote : List (List ℤ)

-- nothing was received yet, and nothing written
abbrev pub begun : ℕ → Settings → ℕ → List ℕ → Received
begun hertz s listed is = record { hertz = hertz; settings = s; listed = listed; intervals = is; events = []; figures = no_figures; wrote = [] ∷ map (λ (i : ℕ). []) is }

-- how far the take has come by it
abbrev pub course_of : Received → Course
course_of r = course_after (fresh_course r.hertz r.settings) r.events

-- more has happened
abbrev pub with_events : Received → List Event → Received
with_events r es = record { hertz = r.hertz; settings = r.settings; listed = r.listed; intervals = r.intervals; events = r.events ++ es; figures = r.figures; wrote = r.wrote }

-- what was written of each output before, and behind it n of the samples that the output now holds, from a place on; further outputs are not looked at
unfoldable pub onward : (from n : ℕ) → List (List ℤ) → List (List ℤ) → List (List ℤ)
onward from n [] os = []
onward from n (w ∷ ws) [] = w ∷ ws
onward from n (w ∷ ws) (o ∷ os) = (w ++ take n (drop from o)) ∷ onward from n ws os

-- samples that were taken: of a recording n from a place on; what was counted; and what the outputs now hold in the same places
abbrev pub with_samples : Received → (from n : ℕ) → List ℤ → Figures → List (List ℤ) → Received
with_samples r from n xs f os =
    record {
      hertz = r.hertz;
      settings = r.settings;
      listed = r.listed;
      intervals = r.intervals;
      events = r.events ++ map sample (take n (drop from xs));
      figures = added r.figures f;
      wrote = onward from n r.wrote os;
    }

-- what the answers to a block and to a night count
abbrev pub counted_by : Answer → Figures
counted_by a = record { samples = a.written; pitched = a.pitched; repeated = a.repeated; dropped = a.dropped; sum = a.strayed }

abbrev pub counted_in : NightAnswer → Figures
counted_in a = record { samples = a.written; pitched = a.pitched; repeated = a.repeated; dropped = a.dropped; sum = a.strayed }

-- what is taken is received once: a call that is refused, and a block given again, add nothing
abbrev pub if_taken : (number : ℕ) → Received → Received → Received
if_taken v r' r = cond (eqb v 0) r' r

-- what one call adds; a start or a reset begins the account again, a refused start with the default tuner's. Of a night a first block that was given again adds nothing
unfoldable pub plus : Call → Received → Received
plus (start hertz s listed zs store v) r = if_taken v (begun hertz s (kept_list listed) (map kept_interval zs)) (begun cd_rate defaults 0 [])
plus (change s v) r = if_taken v (with_events r (new-settings s ∷ [])) r
plus (block k xs os store a os' store') r = if_taken a.number (with_samples r 0 a.written xs (counted_by a) os') r
plus (night k size xs os store a os' store') r = with_samples r a.again.written a.written xs (counted_in a) os'
plus (midi bytes v) r = if_taken v (with_events r (map byte bytes)) r
plus (reset store v) r = if_taken v (begun r.hertz (course_of r).settings r.listed r.intervals) r
plus (meter m) r = r

unfoldable pub received : List Call → Received
received [] = begun cd_rate defaults 0 []
received (c ∷ cs) = plus c (received cs)

-- what the rules give for each sample received
abbrev pub given_of : Received → List Given
given_of r = given_by (fresh_course r.hertz r.settings) r.events

-- all samples received; their sound, and that of the eighth-rate samples made of them: 0 before the first
abbrev pub samples_of : Received → List ℤ
samples_of r = samples_in r.events

abbrev pub heard_of : Received → Sound
heard_of r = heard_all silence (samples_of r)

abbrev pub eighths_of : Received → Sound
eighths_of r = heard_all silence (made 0 silence (samples_of r))

-- ---- a voice beside the history of a take

-- where events leave it: a sample moves it beside the lead's step; new settings and bytes do not
unfoldable pub voice_course : ℕ → Course → ℤ → List Event → ℤ
voice_course interval c at [] = at
voice_course interval c at (sample x ∷ es) = voice_course interval (happened c (sample x)) (voiced_by c.hertz interval (stepped (force_at c) c.take x) at).position es
voice_course interval c at (new-settings s ∷ es) = voice_course interval (happened c (new-settings s)) at es
voice_course interval c at (byte b ∷ es) = voice_course interval (happened c (byte b)) at es

-- what it gives for each of the samples
unfoldable pub voiced_in : ℕ → Course → ℤ → List Event → List Voiced
voiced_in interval c at [] = []
voiced_in interval c at (sample x ∷ es) = let v = voiced_by c.hertz interval (stepped (force_at c) c.take x) at in v ∷ voiced_in interval (happened c (sample x)) v.position es
voiced_in interval c at (new-settings s ∷ es) = voiced_in interval (happened c (new-settings s)) at es
voiced_in interval c at (byte b ∷ es) = voiced_in interval (happened c (byte b)) at es

-- both over all that was received, from the beginning of the take on, where it is level with the input
abbrev pub voice_of : ℕ → Received → ℤ
voice_of interval r = voice_course interval (fresh_course r.hertz r.settings) (input_at 0) r.events

abbrev pub voiced_of : ℕ → Received → List Voiced
voiced_of interval r = voiced_in interval (fresh_course r.hertz r.settings) (input_at 0) r.events

-- where it was last put level, and what it gave since
abbrev pub since_level : ℕ → Received → Since
since_level interval r = since_after (record { level = input_at 0; gave = [] }) (voiced_of interval r)

-- ---- samples out

-- what the rules give over all that was received: of the lead, then of each chosen voice
abbrev pub outs_of : Received → List (List ℤ)
outs_of r = samples_out (given_of r) ∷ map (λ (i : ℕ). voice_outs (voiced_of i r)) r.intervals

-- ---- what holds

-- the account of a voice: its position is that of the rules over the history, and equals what it was put level at, and its rates and cycles since; never ahead of the input nor over 1,000 samples behind: now, and after any beginning xs of the block that comes next
pub record VoiceHolds (r : Received) (t : Tuner) (v : Voice) : Type 0 where
  pub position : stands_at t v ≡ voice_of v.interval r
  pub account : let s = since_level v.interval r in stands_at t v ≡ voice_account s.level s.gave
  pub bounds : InBounds t.numbers.count (stands_at t v)
  pub within : (xs : List ℤ) → InBounds (t.numbers.count + length xs) (voice_after (force_of t) v.interval (take_of t) (stands_at t v) xs)

-- the account of the tuner t over what was received
pub record Accounted (r : Received) (t : Tuner) : Type 0 where
  -- the record is good, so no call is answered 9; settings, sample rate, keyboard, whether a list is kept and the voices are what the calls made them; each sample is counted once
  pub good : Good t
  pub settings : t.numbers.settings ≡ (course_of r).settings
  pub hertz : t.numbers.hertz ≡ r.hertz
  pub keyboard : t.numbers.keyboard ≡ (course_of r).keyboard
  pub listed : t.numbers.listed ≡ r.listed
  pub intervals : map (λ (v : Voice). v.interval) (take t.numbers.chosen t.numbers.voices) ≡ r.intervals
  pub count : t.numbers.count ≡ length (samples_of r)
  -- sums: those at eighth rate and, while tracking, the eight at full rate are the direct sums over all that was received
  pub sums : Right (eighths_of r) 2 eighth_lags t.energies t.correlations
  pub lags : t.numbers.pitch.tracking ≡ 1 → Right (heard_of r) t.numbers.pitch.tracker.low 8 t.numbers.pitch.tracker.e t.numbers.pitch.tracker.h
  -- position: all rates used, minus the period of every cycle repeated, plus the period of every cycle dropped
  pub position : let gs = given_of r in (take_of t).position ≡ pos (total_of (rates_used gs)) -ℤ pos (cycles (all_repeated gs)) +ℤ pos (cycles (all_dropped gs))
  -- what was answered adds up to what the report counts of all that was received: its samples, those with a period, the cycles repeated and dropped, and the sum of the rates' distances from 65536
  pub figures : r.figures ≡ figures_of (given_of r)
  -- everything that lead and chosen voices wrote since the take began, in blocks and in nights, is what the rules give
  pub wrote : r.wrote ≡ outs_of r
  -- never ahead of the input nor over 1,000 samples behind: now, and after any beginning xs of the block that comes next
  pub bounds : InBounds t.numbers.count (take_of t).position
  pub within : (xs : List ℤ) → InBounds (length (samples_of r) + length xs) (after (force_of t) (course_of r).take xs).position
  -- the account of each chosen voice, whatever other voices there are
  pub voices : (j : ℕ) → j < t.numbers.chosen → VoiceHolds r t (voice_at t.numbers.voices j)

-- after any series of calls
abbrev pub Theorem : Type 0
Theorem = (cs : List Call) (t : Tuner) → Series cs t → Accounted (received cs) t

-- after any series of calls: a tuner without a period has no wanted note, the rate 65536, and nothing kept
abbrev pub ToneTheorem : Type 0
ToneTheorem = (cs : List Call) (t : Tuner) → Series cs t → WithoutPeriod t.numbers.pitch.tone

-- until a period is tracked, what the lead wrote is what was received, four samples late; the samples have 16 bits
abbrev pub LateTheorem : Type 0
LateTheorem =
    (cs : List Call) (t : Tuner) → Series cs t → ((i : ℕ) → SixteenBits (value_at (samples_of (received cs)) i)) → NonePitched (given_of (received cs))
    → get_or (received cs).wrote 0 [] ≡ four_late (samples_of (received cs))

-- ---- the list

-- the store was lent each time as it was left, since the list began: the store as it was there, and as it is now
pub data Lent : List Call → (began now : List ℕ) → Type 0 where
  at-start : {cs : List Call} {hertz : ℕ} {s : Settings} {listed : ℕ} {zs : List ℤ} {store : List ℕ} {v : ℕ} → Lent (start hertz s listed zs store v ∷ cs) store store
  at-reset : {cs : List Call} {store : List ℕ} {v : ℕ} → v ≡ 0 → Lent (reset store v ∷ cs) store store
  not_reset : {cs : List Call} {store began now : List ℕ} {v : ℕ} → 0 < v → Lent cs began now → Lent (reset store v ∷ cs) began now
  to_block : {cs : List Call} {k : ℕ} {xs : List ℤ} {os os' : List (List ℤ)} {began store store' : List ℕ} {a : Answer} → Lent cs began store → Lent (block k xs os store a os' store' ∷ cs) began store'
  to-night : {cs : List Call} {k size : ℕ} {xs : List ℤ} {os os' : List (List ℤ)} {began store store' : List ℕ} {a : NightAnswer} → Lent cs began store → Lent (night k size xs os store a os' store' ∷ cs) began store'
  past-change : {cs : List Call} {s : Settings} {v : ℕ} {began now : List ℕ} → Lent cs began now → Lent (change s v ∷ cs) began now
  past-midi : {cs : List Call} {bytes : List ℕ} {v : ℕ} {began now : List ℕ} → Lent cs began now → Lent (midi bytes v ∷ cs) began now
  past-meter : {cs : List Call} {m : Meter} {began now : List ℕ} → Lent cs began now → Lent (meter m ∷ cs) began now

-- the notes of all samples received
abbrev pub notes_of : Received → List ℕ
notes_of r = notes_sung (given_of r)

-- the list of a tuner that keeps one is the one worked out afresh, in the store that was lent where it began
abbrev pub ListTheorem : Type 0
ListTheorem = (cs : List Call) (t : Tuner) (began now : List ℕ) → Series cs t → Lent cs began now → ((received cs).listed ≡ 0 → ⊥) → IsList (notes_of (received cs)) began (sheet t.numbers.list now)

-- ---- a block sent again

-- a call that neither takes a block nor begins anew: settings changed or refused, keyboard bytes, a block refused or given again, a night that took none, a reset refused, the meter read
unfoldable pub TakesNone : Call → Type 0
TakesNone (start hertz s listed zs store v) = ⊥
TakesNone (change s v) = Unit
TakesNone (block k xs os store a os' store') = 0 < a.number
TakesNone (night k size xs os store a os' store') = a.taken ≡ 0
TakesNone (midi bytes v) = Unit
TakesNone (reset store v) = 0 < v
TakesNone (meter m) = Unit

-- any such calls one after the other
pub data Meanwhile (u : Tuner) : Tuner → Type 0 where
  nothing : Meanwhile u u
  and_meanwhile : {c : Call} {w w' : Tuner} → Meanwhile u w → Leaves w c w' → TakesNone c → Meanwhile u w'

-- the same answer, but for its number: given again
abbrev pub again : Answer → Answer
again a = record { number = 1; written = a.written; repeated = a.repeated; dropped = a.dropped; pitched = a.pitched; strayed = a.strayed; rows = a.rows; left = a.left }

-- a block of n samples answered a was given again: 1, with the same counts and figures and the same list; tuner and store as they were; and the same samples out of the lead and each chosen voice
pub record GivenAgain (n : ℕ) (w w' : Tuner) (a b : Answer) (ps qs : List (List ℤ)) (store store' : List ℕ) : Type 0 where
  pub answer : b ≡ again a
  pub unchanged : w' ≡ w
  pub rows : store' ≡ store
  pub samples : let many = 1 + w.numbers.chosen in map (take n) (take many qs) ≡ map (take n) (take many ps)

-- after any series of calls: a block taken, and sent again with room for its samples and only such calls between, gives the same again and changes nothing
abbrev pub SentAgain : Type 0
SentAgain =
    (cs : List Call) (t u w w' : Tuner) (k : ℕ) (xs : List ℤ) (os ps os₂ qs : List (List ℤ)) (store store₁ store₂ store₃ : List ℕ) (a b : Answer)
    → Series cs t → Took t k xs os store u a ps store₁ → a.number ≡ 0 → Meanwhile u w → Roomy (length xs) (kept_outs w) os₂ → Took w k xs os₂ store₂ w' b qs store₃ → GivenAgain (length xs) w w' a b ps qs store₂ store₃

-- ---- a night sent again

-- how many of its blocks were taken or given again: behind them a number that much further on is due
abbrev pub through : NightAnswer → ℕ
through a = a.taken + a.again.number

-- refused with 5 at its first block: the answer names 5 and the block's number k, nothing is taken, and tuner, outputs and store are as they were
pub record NightRefused (k : ℕ) (w w' : Tuner) (b : NightAnswer) (os os' : List (List ℤ)) (store store' : List ℕ) : Type 0 where
  pub answer : b ≡ Night.added (no_night 0 w.numbers) k (plain 5 w.numbers)
  pub unchanged : w' ≡ w
  pub outs : os' ≡ os
  pub rows : store' ≡ store

-- the same answer, but that its one block was given again and not taken
abbrev pub night_again : NightAnswer → NightAnswer
night_again a =
    record {
      number = a.number;
      refused = a.refused;
      taken = 0;
      written = 0;
      repeated = 0;
      dropped = 0;
      pitched = 0;
      strayed = 0;
      again = record { number = 1; written = a.written; repeated = a.repeated; dropped = a.dropped; pitched = a.pitched; strayed = a.strayed; rows = a.rows; left = a.left };
      rows = a.rows;
      left = a.left;
    }

-- the one block that a night took, answered a, was given again: tuner and store as they were, and the same samples out of the lead and each chosen voice
pub record NightGivenAgain (w w' : Tuner) (a b : NightAnswer) (ps qs : List (List ℤ)) (store store' : List ℕ) : Type 0 where
  pub answer : b ≡ night_again a
  pub unchanged : w' ≡ w
  pub rows : store' ≡ store
  pub samples : let n = a.written in let many = 1 + w.numbers.chosen in map (take n) (take many qs) ≡ map (take n) (take many ps)

-- after any series of calls: a night, and the same night sent again with room for its samples and only such calls between. Where two blocks or more were taken or given again it is refused with 5, and where it took its first block alone that is given again.
-- Block numbers wrap: after 65536 blocks the first number is due once more, and after one more it is the last block's. Nothing is said of those
abbrev pub NightAgain : Type 0
NightAgain =
    (cs : List Call) (t u w w' : Tuner) (k size : ℕ) (xs : List ℤ) (os ps os₂ qs : List (List ℤ)) (store store₁ store₂ store₃ : List ℕ) (a b : NightAnswer)
    → Series cs t → Nighted t k size xs os store u a ps store₁ → Meanwhile u w → Roomy (length xs) (kept_outs w) os₂ → Nighted w k size xs os₂ store₂ w' b qs store₃
    → (1 < through a % 65536 → NightRefused k w w' b os₂ qs store₂ store₃) × (a.taken ≡ 1 → a.again.number ≡ 0 → NightGivenAgain w w' a b ps qs store₂ store₃)

-- ---- never 9

-- the call is not answered 9, and a meter not refused
unfoldable pub NotNine : Call → Type 0
NotNine (start hertz s listed zs store v) = v ≡ 9 → ⊥
NotNine (change s v) = v ≡ 9 → ⊥
NotNine (block k xs os store a os' store') = a.number ≡ 9 → ⊥
NotNine (night k size xs os store a os' store') = a.number ≡ 9 → ⊥
NotNine (midi bytes v) = v ≡ 9 → ⊥
NotNine (reset store v) = v ≡ 9 → ⊥
NotNine (meter m) = m ≡ Meter.Refused → ⊥

-- no tuner reached from a start by calls is ever answered 9
abbrev pub NeverNine : Type 0
NeverNine = (cs : List Call) (t t' : Tuner) (c : Call) → Series cs t → Leaves t c t' → NotNine c
