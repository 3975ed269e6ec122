-- What is proved of note and rate: the table's rule, the wanted note, the raw rate, and that a held note reaches its goal. Definitions only;
-- the proofs stand beside it, in Table, Notes, Smoothing and Held.
use Rattle.std.specs.Prelude.{◌≡◌, true, List, [], ◌∷◌, ℕ, ◌+◌, ◌-◌, ◌*◌, ◌^◌, ◌≤◌, ◌<◌, length, replicate}
use Rattle.std.proofs.Math.Option.{some}
use Rattle.rules.specs.declared.InForce.{InForce}
use Rattle.rules.specs.declared.Tone.{Tone}
use Rattle.rules.specs.declared.Smoothed.{Smoothed}
use Rattle.rules.specs.Rules.{first_note, notes, note_period, of_scale, away, wanted, raw_rate, raw_toward, least_period, greatest_period, least_rate, greatest_rate, smooth_total, smooth_rate, smooth_kept, goal, tuned}
use Rattle.rules.specs.Facts.{SampleRate, OfTable, ForceIn, ToneIn}

-- ---- The table: entry p of note n is the whole number nearest to hertz x 256 / (440 x 2^((n-69)/12))

-- the twelfth power of q x 440 x 2^((n-69)/12), times 2^69
abbrev pub times : ℕ → ℕ → ℕ
times n q = q ^ 12 * 440 ^ 12 * 2 ^ n

-- the twelfth power of 2 x hertz x 256, times 2^69
abbrev pub second : ℕ → ℕ
second hertz = (2 * hertz * 256) ^ 12 * 2 ^ 69

-- p is nearest: 2p-1 and 2p+1 lie on the two sides of twice that number
pub record Nearest (hertz n p : ℕ) : Type 0 where
  pub below : times n (2 * p - 1) < second hertz
  pub above : second hertz < times n (2 * p + 1)

-- each entry of the table of either sample rate is nearest
abbrev pub TableRule : Type 0
TableRule = (hertz n : ℕ) → SampleRate hertz → OfTable hertz n → Nearest hertz n (note_period hertz n)

-- and it is the only such number
abbrev pub NearestOne : Type 0
NearestOne = (hertz n p q : ℕ) → Nearest hertz n p → Nearest hertz n q → p ≡ q

-- ---- The wanted note

-- n is the wanted one of the first k notes: of the scale, none of the scale at less distance, none at the same distance higher
pub record IsWantedOf (hertz scale p k n : ℕ) : Type 0 where
  pub in_table : (first_note hertz ≤ n) × (n < first_note hertz + k)
  pub in_scale : of_scale scale n ≡ true
  pub least :
      (m : ℕ) → first_note hertz ≤ m → m < first_note hertz + k → of_scale scale m ≡ true → away p (note_period hertz n) ≤ away p (note_period hertz m)
  pub higher :
      (m : ℕ) → first_note hertz ≤ m → m < first_note hertz + k → of_scale scale m ≡ true → away p (note_period hertz m) ≡ away p (note_period hertz n) → m ≤ n

-- n is the wanted note of the period p
abbrev pub IsWanted : ℕ → ℕ → ℕ → ℕ → Type 0
IsWanted hertz scale p n = IsWantedOf hertz scale p (notes hertz) n

-- for every scale in its range there is a note n that the rules give, and it is the wanted one
abbrev pub WantedRule : Type 0
WantedRule = (hertz scale p : ℕ) → SampleRate hertz → 1 ≤ scale → scale ≤ 4095 → (n : ℕ) × ((wanted hertz scale p ≡ some n) × IsWanted hertz scale p n)

-- and it is the only one
abbrev pub WantedOne : Type 0
WantedOne = (hertz scale p n m : ℕ) → IsWanted hertz scale p n → IsWanted hertz scale p m → n ≡ m

-- ---- The raw rate

-- r is p x 65536 / w to the nearest whole number, halves up: 2r-1 <= 2p x 65536 / w < 2r+1
pub record NearestRate (p w r : ℕ) : Type 0 where
  pub below : 2 * w * r ≤ 2 * (p * 65536) + w
  pub above : 2 * (p * 65536) + w < 2 * w * (r + 1)

-- the raw rate is nearest
abbrev pub RawRateRule : Type 0
RawRateRule = (p w : ℕ) → 0 < w → NearestRate p w (raw_rate p w)

-- it always lies from 32,768 to 131,072, whichever scale
abbrev pub RawRateRange : Type 0
RawRateRange =
    (hertz scale p n : ℕ) → SampleRate hertz → IsWanted hertz scale p n → least_period ≤ p → p ≤ greatest_period
    → (least_rate ≤ raw_rate p (note_period hertz n)) × (raw_rate p (note_period hertz n) ≤ greatest_rate)

-- and so does what the rate is moved toward, whichever key is held, or none
abbrev pub TowardRange : Type 0
TowardRange = (p w : ℕ) → (least_rate ≤ raw_toward p w) × (raw_toward p w ≤ greatest_rate)

-- ---- Smoothing (document 02, K3): with an unchanged raw rate, whatever the decay does on the way

-- one smoothing: the new rate, and what is then kept
unfoldable pub smoothed : ℕ → ℕ → Smoothed → Smoothed
smoothed decay raw s =
    record { rate = smooth_rate decay s.rate s.kept raw; kept = smooth_kept decay s.rate s.kept raw }

-- smoothings one after the other toward one raw rate, each with its own decay
unfoldable pub after_steps : List ℕ → ℕ → Smoothed → Smoothed
after_steps [] raw s = s
after_steps (decay ∷ more) raw s = after_steps more raw (smoothed decay raw s)

-- decays in their range
unfoldable pub DecaysIn : List ℕ → Type 0
DecaysIn [] = Unit
DecaysIn (decay ∷ more) = (decay ≤ 255) × DecaysIn more

-- from a rate to a later one: never past the raw rate, and never away from it
pub record Toward (raw rate later : ℕ) : Type 0 where
  pub rises : rate ≤ raw → (rate ≤ later) × (later ≤ raw)
  pub falls : raw ≤ rate → (raw ≤ later) × (later ≤ rate)

-- nothing is lost: the rate's 256 parts and what is kept are all that was smoothed
abbrev pub NothingLost : Type 0
NothingLost = (decay rate kept raw : ℕ) → 256 * smooth_rate decay rate kept raw + smooth_kept decay rate kept raw ≡ smooth_total decay rate kept raw

-- the rate never passes the raw rate and never moves away from it
abbrev pub NeverPasses : Type 0
NeverPasses = (decays : List ℕ) (raw : ℕ) (s : Smoothed) → DecaysIn decays → s.kept ≤ 255 → Toward raw s.rate (after_steps decays raw s).rate

-- at the raw rate it stays, and what is kept stays
abbrev pub Stays : Type 0
Stays = (decays : List ℕ) (raw : ℕ) (s : Smoothed) → DecaysIn decays → s.kept ≤ 255 → s.rate ≡ raw → after_steps decays raw s ≡ s

-- the most steps from any rate to any raw rate
abbrev pub longest_way : ℕ
longest_way = 3085

-- after so many it is there
abbrev pub Reaches : Type 0
Reaches =
    (decays : List ℕ) (raw : ℕ) (s : Smoothed) → DecaysIn decays → s.kept ≤ 255 → least_rate ≤ s.rate → s.rate ≤ greatest_rate
    → least_rate ≤ raw → raw ≤ greatest_rate → longest_way ≤ length decays → (after_steps decays raw s).rate ≡ raw

-- no smaller number would do: from two to a half with the greatest decay, one step before
abbrev pub LongestWay : Type 0
LongestWay = (after_steps (replicate (longest_way - 1) 255) least_rate (record { rate = greatest_rate; kept = 0 })).rate ≡ least_rate + 1

-- where nothing was kept, as in document 01, a rate 255 below its goal halts there
abbrev pub KeepingNothingHalts : Type 0
KeepingNothingHalts = smooth_rate 255 65281 0 65536 ≡ 65281

-- which otherwise arrives from the same place at step 1,564
abbrev pub KeepingArrives : Type 0
KeepingArrives =
    let s : Smoothed = record { rate = 65281; kept = 0 } in
    ((after_steps (replicate 1563 255) 65536 s).rate ≡ 65535) × ((after_steps (replicate 1564 255) 65536 s).rate ≡ 65536)

-- ---- A held note: the same of a tone

-- a successful tracking step: what is in force at it, and the period that it finds
pub record TrackingStep : Type 0 where
  pub force : InForce
  pub period : ℕ

-- the tone after such steps
unfoldable pub tuned_over : Tone → List TrackingStep → Tone
tuned_over t [] = t
tuned_over t (k ∷ ks) = tuned_over (tuned k.force t k.period) ks

-- each of them is under settings in their ranges, and toward this raw rate
unfoldable pub AllToward : ℕ → List TrackingStep → Type 0
AllToward raw [] = Unit
AllToward raw (k ∷ ks) = ForceIn k.force × ((goal k.force k.period).raw ≡ raw) × AllToward raw ks

-- its rate never passes the raw rate and never moves away from it, stays there, and is there after 3,085 steps at most
pub record HeldNote (raw : ℕ) (t : Tone) (steps : List TrackingStep) : Type 0 where
  pub toward : Toward raw t.rate (tuned_over t steps).rate
  pub stays : t.rate ≡ raw → (tuned_over t steps).rate ≡ raw
  pub reaches : longest_way ≤ length steps → (tuned_over t steps).rate ≡ raw

abbrev pub HeldNoteTheorem : Type 0
HeldNoteTheorem = (raw : ℕ) (t : Tone) (steps : List TrackingStep) → ToneIn t → AllToward raw steps → HeldNote raw t steps
