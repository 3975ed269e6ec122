-- Backing voices as they are kept, in the words of change request K13: when they are in their ranges, the room of their outputs, what is written there, and where they begin. Definitions only.
use Rattle.std.specs.Prelude.{Bool, true, cond, ◌&&◌, ◌||◌, List, [], ◌∷◌, ◌++◌, ℕ, ◌≤◌, ◌<◌, min, leb, ltb, ℤ, pos, neg_ℤ, nat_abs, ◌+ℤ◌, length, take, drop, get_or, replicate}
use Rattle.std.specs.Int.Signed.{lt_z}
use Rattle.rules.specs.Rules.{farthest, longest_block, refuse}
use Rattle.voices.specs.Voices.{IntervalIn}
use Rattle.singers.specs.declared.Voice.{Voice}
use Rattle.singers.specs.declared.Voices.{Voices}

-- a voice in its ranges: the interval, and a position within the lead's bounds; its kept output is not tested
pub record VoiceIn (v : Voice) : Type 0 where
  pub interval : IntervalIn v.interval
  pub behind : v.behind ≤ farthest

-- at most three voices are chosen, each of them in its ranges
pub record VoicesIn (vs : Voices) : Type 0 where
  pub count : vs.count ≤ 3
  pub first : 0 < vs.count → VoiceIn vs.first
  pub second : 1 < vs.count → VoiceIn vs.second
  pub third : 2 < vs.count → VoiceIn vs.third

pub record Outs : Type 0 where
  pub first : List ℤ
  pub second : List ℤ
  pub third : List ℤ

abbrev pub outs : List ℤ → List ℤ → List ℤ → Outs
outs first second third = record { first = first; second = second; third = third }

-- voice j of those chosen has an output of n places: the lesser of that and the room of the others; an output beyond the chosen voices is not tested
unfoldable pub room_with : ℕ → ℕ → ℕ → ℕ → ℕ
room_with j chosen n room = cond (ltb j chosen) (min n room) room

-- the least room of the lead's output and the chosen voices'
abbrev pub least_room : ℕ → ℕ → ℕ → ℕ → ℕ → ℕ
least_room chosen lead first second third = room_with 2 chosen third (room_with 1 chosen second (room_with 0 chosen first lead))

-- the first n places of a chosen voice's output are what the voice keeps; nothing past them, and nothing beyond the chosen voices, is touched
unfoldable pub written_by : ℕ → ℕ → ℕ → Voice → List ℤ → List ℤ
written_by j chosen n v ys = cond (ltb j chosen) (take n v.out ++ drop n ys) ys

abbrev pub all_written : ℕ → Voices → Outs → Outs
all_written n vs o =
    record {
      first = written_by 0 vs.count n vs.first o.first;
      second = written_by 1 vs.count n vs.second o.second;
      third = written_by 2 vs.count n vs.third o.third;
    }

-- an interval of -12 to 12 semitones is kept as 0 to 24; any other as 25, which is none
unfoldable pub kept_interval : ℤ → ℕ
kept_interval z = cond (lt_z z (neg_ℤ (pos 12)) || lt_z (pos 12) z) 25 (nat_abs (pos 12 +ℤ z))

-- all are in range
unfoldable pub all_in_range : List ℤ → Bool
all_in_range [] = true
all_in_range (z ∷ zs) = leb (kept_interval z) 24 && all_in_range zs

-- 18 where an interval is out of range, 19 for more than three
unfoldable pub intervals_number : List ℤ → ℕ
intervals_number zs = refuse 18 (all_in_range zs) (refuse 19 (leb (length zs) 3) 0)

-- a voice level with the input, that kept no output
unfoldable pub level_voice : ℕ → Voice
level_voice interval = record { interval = interval; behind = 0; out = replicate longest_block (pos 0) }

-- the voices of these intervals; a voice beyond them is in unison, and not chosen
unfoldable pub chosen_voices : List ℤ → Voices
chosen_voices zs =
    record {
      count = length zs;
      first = level_voice (kept_interval (get_or zs 0 (pos 0)));
      second = level_voice (kept_interval (get_or zs 1 (pos 0)));
      third = level_voice (kept_interval (get_or zs 2 (pos 0)));
    }

-- the same voices, each level
unfoldable pub level_voices : Voices → Voices
level_voices vs =
    record {
      count = vs.count;
      first = level_voice vs.first.interval;
      second = level_voice vs.second.interval;
      third = level_voice vs.third.interval;
    }
