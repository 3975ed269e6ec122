-- The cutting of a take does not matter, nor do the voices beside it: but for its last block, the lead of a tuner is what happened in its take. Definitions only, and three statements (`LeadTheorem`, `CuttingTheorem`, `ListCutting`); their proofs are `lead-holds` and `cutting-holds` in Holds.antt, and `list-cutting` in Lists.antt.
use Rattle.std.specs.Prelude.{◌≡◌, List, [], ℕ, ◌+◌, ◌-◌, ◌<◌, ℤ, nat_abs, ◌-ℤ◌, get_or}
use Rattle.whole.specs.Numbers.{list_of}
use Rattle.rules.specs.Rules.{Sound, input_at, kept_samples, kept_eighths, eighth_lags}
use Rattle.rules.specs.Facts.{energies_of, correlations_of}
use Rattle.history.specs.History.{Course}
use Rattle.pitch.specs.Pitches.{kept_of}
use Rattle.meters.specs.declared.Meter.{Meter}
use Rattle.tuner.specs.declared.Tuner.{Tuner}
use Rattle.tuner.specs.Tuners.{layout_number, voice_at, stands_at, Metered}
use Rattle.account.specs.Account.{Call, Series, Received, course_of, received, Lent}

-- ---- what a tuner is, by what happened in its take

-- the newest n samples of a sound, the oldest of them first
abbrev pub newest : ℕ → Sound → List ℤ
newest n x = list_of (λ (k : ℕ). x (n - 1 - k)) n

-- the tuner t with the lead of a course: the stores hold the newest samples, the sums are taken directly, and nothing in it knows of blocks; last block, list, voices and outputs are t's
unfoldable pub lead_after : Course → Tuner → Tuner
lead_after c t =
    let n = t.numbers in
    let u = c.take in
    record {
      numbers =
          record {
            layout = layout_number;
            settings = c.settings;
            hertz = c.hertz;
            keyboard = c.keyboard;
            count = u.count;
            pitch = kept_of u.pitch u.sound;
            behind = nat_abs (input_at u.count -ℤ u.position);
            last = n.last;
            listed = n.listed;
            chosen = n.chosen;
            list = n.list;
            voices = n.voices;
          };
      energies = energies_of u.eighths 2 eighth_lags;
      correlations = correlations_of u.eighths 2 eighth_lags;
      heard = newest kept_samples u.sound;
      eighths = newest kept_eighths u.eighths;
      outs = t.outs;
    }

-- after any series of calls the lead is the one that what happened makes, whatever list, voices and last block are beside it
abbrev pub LeadTheorem : Type 0
LeadTheorem = (cs : List Call) (t : Tuner) → Series cs t → t ≡ lead_after (course_of (received cs)) t

-- ---- two series of calls, cut in two ways

-- the same take was received: it began with equal settings at one sample rate, and the same happened in it: the same samples, with changes of settings and keyboard bytes after the same sample and in the same order. List and voices may differ
pub record SameTake (r r' : Received) : Type 0 where
  pub hertz : r.hertz ≡ r'.hertz
  pub settings : r.settings ≡ r'.settings
  pub events : r.events ≡ r'.events

-- one of the outputs: 0 is the lead's, 1 the first voice's
abbrev pub output_at : List (List ℤ) → ℕ → List ℤ
output_at os j = get_or os j []

-- the same was given: all that was counted, all samples out of the lead, every reading of the meter, and every part of the record but the last block, the list, the voices and the kept outputs
pub record Alike (r r' : Received) (t t' : Tuner) : Type 0 where
  pub figures : r.figures ≡ r'.figures
  pub lead : output_at r.wrote 0 ≡ output_at r'.wrote 0
  pub meter : {m m' : Meter} → Metered t m → Metered t' m' → m ≡ m'
  pub settings : t.numbers.settings ≡ t'.numbers.settings
  pub hertz : t.numbers.hertz ≡ t'.numbers.hertz
  pub keyboard : t.numbers.keyboard ≡ t'.numbers.keyboard
  pub count : t.numbers.count ≡ t'.numbers.count
  pub pitch : t.numbers.pitch ≡ t'.numbers.pitch
  pub behind : t.numbers.behind ≡ t'.numbers.behind
  pub energies : t.energies ≡ t'.energies
  pub correlations : t.correlations ≡ t'.correlations
  pub heard : t.heard ≡ t'.heard
  pub eighths : t.eighths ≡ t'.eighths
  -- and wherever the same interval was chosen, the voices wrote the same and stand in one place: a further voice changes nothing
  pub voices : (i j : ℕ) → i < t.numbers.chosen → j < t'.numbers.chosen → let v = voice_at t.numbers.voices i in let w = voice_at t'.numbers.voices j in v.interval ≡ w.interval
      → (output_at r.wrote (1 + i) ≡ output_at r'.wrote (1 + j)) × (stands_at t v ≡ stands_at t' w)

-- any two series of calls that received the same take: in blocks of whatever legal lengths and in nights, with keyboard bytes in whatever calls, repeats, refused calls and readings of the meter anywhere among them, and whatever voices and list there were
abbrev pub CuttingTheorem : Type 0
CuttingTheorem = (cs cs' : List Call) (t t' : Tuner) → Series cs t → Series cs' t' → SameTake (received cs) (received cs') → Alike (received cs) (received cs') t t'

-- and the list, where both keep one, in equal stores that were lent each time as they were left
abbrev pub ListCutting : Type 0
ListCutting =
    (cs cs' : List Call) (t t' : Tuner) (began now now' : List ℕ)
    → Series cs t → Series cs' t' → SameTake (received cs) (received cs') → Lent cs began now → Lent cs' began now' → ((received cs).listed ≡ 0 → ⊥) → ((received cs').listed ≡ 0 → ⊥)
    → (t.numbers.list ≡ t'.numbers.list) × (now ≡ now')
