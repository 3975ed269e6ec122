-- A block that is taken: what must hold before its tones are followed, what follows them, and the tuner that this comes to.
use Rattle.std.specs.Prelude.{◌≡◌, ℕ, ◌+◌, ◌≤◌, ℤ, take, drop}
use mathlib.Core.List.{List, ◌++◌}
use Rattle.std.proofs.Math.ListN.{length}
use Rattle.rules.specs.declared.InForce.{InForce}
use Rattle.rules.specs.Rules.{Sound, farthest, take_limit, longest_block, kept_samples}
use Rattle.rules.specs.Facts.{ForceIn, SampleRate}
use Rattle.passing.specs.Distances.{Long}
use Rattle.pitch.specs.declared.Pitch.{Pitch as KeptPitch}
use Rattle.pitch.specs.Pitches.{pitch_of, PitchRight, kept_of}
use Rattle.reading.specs.declared.Growth.{Growth}
use Rattle.reading.specs.Gliding.{PacedAll, Glided}
use Rattle.steps.specs.declared.Progress.{Progress}
use Rattle.steps.specs.Running.{Tones, Long512, Ready}
use Rattle.lists.specs.declared.Listing.{Listing}
use Rattle.lists.specs.Lists.{sheet, ListingIn}
use Rattle.reports.specs.Counting.{pitched_in, distance_in}
use Rattle.voices.specs.Singing.{TrackedAll}
use Rattle.tuner.specs.declared.Voice.{Voice}
use Rattle.tuner.specs.declared.Last.{Last}
use Rattle.tuner.specs.declared.Numbers.{Numbers}
use Rattle.tuner.specs.Tuners.{VoicesIn, kept_places}
use Rattle.tuner.specs.Afters.{begins_at}
use Rattle.tuner.specs.Following.{RatesUpto, no_out, AllSung, listed_of}

-- ---- what is asked before the samples of a block are heard

-- what is in force
abbrev pub force_by : Numbers → InForce
force_by n = record { settings = n.settings; key = n.keyboard.key; hertz = n.hertz }

pub record Hears (n : Numbers) (y : List ℤ) (e : List ℕ) (h s : List ℤ) (b : ℕ) (ts : Tones) : Type 0 where
  pub force : ForceIn (force_by n)
  pub long : Long s kept_samples
  pub stored : kept_samples + b ≤ length s
  pub few : b ≤ longest_block
  pub ready : Ready s kept_samples y e h (begins_at n)
  pub count : n.count + b ≤ take_limit
  pub places : Long512 ts

-- ---- what is asked before its tones are followed, and what follows them

pub record Follows (n : Numbers) (q : Progress) (ts : Tones) (s : List ℤ) (b : ℕ) (outs : List ℤ) : Type 0 where
  pub hertz : SampleRate n.hertz
  pub voices : VoicesIn n.chosen n.voices
  pub list : ListingIn n.count n.list
  pub near : n.behind ≤ farthest
  pub paced : PacedAll b ts.rates ts.periods
  pub tracked : TrackedAll b ts.periods ts.notes
  pub rates : RatesUpto b ts.rates
  pub long : Long512 ts
  pub stored : kept_samples + b ≤ length s
  pub few : b ≤ longest_block
  pub count : n.count + b ≤ take_limit
  pub places : length outs ≡ kept_places

-- the numbers after a block
abbrev pub numbers_with : Numbers → (count : ℕ) → KeptPitch → (behind : ℕ) → Last → Listing → List Voice → Numbers
numbers_with n count pitch behind last list voices =
    record {
      layout = n.layout;
      settings = n.settings;
      hertz = n.hertz;
      keyboard = n.keyboard;
      count = count;
      pitch = pitch;
      behind = behind;
      last = last;
      listed = n.listed;
      chosen = n.chosen;
      list = list;
      voices = voices;
    }

-- the last block as it is counted: number k of b samples with these tones, and the lead's cycles
abbrev pub last_by : ℕ → ℕ → Tones → Growth → Last
last_by k b ts g = record { number = k; length = b; repeated = g.repeated; dropped = g.dropped; pitched = pitched_in (take b ts.periods); strayed = distance_in (take b ts.rates) }

pub record Followed (n : Numbers) (q : Progress) (k : ℕ) (ts : Tones) (s : List ℤ) (b : ℕ) (outs : List ℤ) (store : List ℕ) (r : Numbers) (outs' : List ℤ) (store' : List ℕ) : Type 0 where
  pub lead : Growth
  pub out : List ℤ
  pub glided : Glided n.behind ts.rates ts.periods s kept_samples b no_out out lead
  pub pitch : (x : Sound) → PitchRight x q.pitch → r.pitch ≡ kept_of (pitch_of q.pitch) x
  pub numbers : r ≡ numbers_with n q.count r.pitch lead.behind (last_by k b ts lead) r.list r.voices
  pub list : sheet r.list store' ≡ listed_of n.listed n.pitch.tone n.count n.list store b ts.periods ts.notes
  pub voices : AllSung n.hertz ts.periods ts.notes s b n.chosen n.chosen n.voices (out ++ drop longest_block outs) r.voices outs'
