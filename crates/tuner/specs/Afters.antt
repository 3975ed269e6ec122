-- The lead's parts that a block leaves, from what the fold over its samples leaves.
-- The fold begins with the take that the tuner holds. What it then stores is what was kept and what came, so that what is kept of it is what the rules keep.
use Rattle.std.specs.Prelude.{◌≡◌, ℕ, ℤ, ◌-ℤ◌}
use mathlib.Core.List.{List}
use Rattle.std.proofs.Math.IntN.{nat_abs}
use Rattle.std.proofs.Math.ListN.{length}
use Rattle.rules.specs.Rules.{input_at, after, gives, samples_out, all_repeated, all_dropped}
use Rattle.pitch.specs.declared.Pitch.{Pitch as KeptPitch}
use Rattle.pitch.specs.Pitches.{kept_of}
use Rattle.steps.specs.declared.Progress.{Progress}
use Rattle.record.specs.declared.Heard.{Heard}
use Rattle.record.specs.Records.{sound_of, heard_after}
use Rattle.tuner.specs.declared.Numbers.{Numbers}
use Rattle.tuner.specs.declared.Tuner.{Tuner}
use Rattle.tuner.specs.Tuners.{take_of, force_of, heard_by, kept_out}

-- ---- where a block begins

abbrev pub begins_at : Numbers → Progress
begins_at n = record { count = n.count; places = 224; behind = n.behind; repeated = 0; dropped = 0; pitch = n.pitch }

-- the lead's parts after the samples xs: what was heard, the pitch, how far behind the read head lies, the cycles, and the samples out
pub record Led (t : Tuner) (xs : List ℤ) (heard : Heard) (pitch : KeptPitch) (behind repeated dropped : ℕ) (out : List ℤ) : Type 0 where
  pub heard-is : heard ≡ heard_after (heard_by t) xs
  pub pitch-is : pitch ≡ kept_of (after (force_of t) (take_of t) xs).pitch (sound_of (heard_after (heard_by t) xs).store)
  pub behind-is : let then = after (force_of t) (take_of t) xs in behind ≡ nat_abs (input_at then.count -ℤ then.position)
  pub repeated-is : repeated ≡ length (all_repeated (gives (force_of t) (take_of t) xs))
  pub dropped-is : dropped ≡ length (all_dropped (gives (force_of t) (take_of t) xs))
  pub out-is : out ≡ kept_out (length xs) (samples_out (gives (force_of t) (take_of t) xs))
