-- What a whole walk says of a file, over what was found, and the take in a file. Definitions only.
use Rattle.std.specs.Prelude.{◌≡◌, Bool, false, cond, ◌&&◌, ◌||◌, List, [], ◌∷◌, ℕ, ◌+◌, ◌*◌, ◌≤◌, leb, ltb, length, Option, Some, None, is_none, Result, Ok, Err, MatchResult}
use Rattle.refusals.specs.declared.Refusal.{Refusal}
use Rattle.refusals.specs.Refusals.{refusal_number}
use Rattle.riff.specs.declared.Walk.{Walk}
use Rattle.riff.specs.declared.Chunk.{Chunk}
use Rattle.riff.specs.Riff.{body, refused_by}
use Rattle.wave.specs.declared.Take.{Take}
use Rattle.wave.specs.declared.WaveTake.{WaveTake}
use Rattle.wave.specs.declared.WaveRead.{WaveRead}
use Rattle.wave.specs.Waves.{rate_at, fields_right, no_fmt, odd_data, no_data, refusal, rate_of, place_of, count_of}

-- the sample rate by the fields from a place on, and of a fmt that was found; none where it is not taken
abbrev pub fields_rate : List ℕ → ℕ → Option ℕ
fields_rate file at = cond (fields_right file at) (Some (rate_at file at)) None

-- a fmt was found, and at least 16 bytes of it lie before the end
abbrev pub whole_fmt : Option Chunk → ℕ → Bool
whole_fmt None end = false
whole_fmt (Some fmt) end = leb 16 fmt.size && leb (body fmt + 16) end

abbrev pub fmt_rate : List ℕ → ℕ → Option Chunk → Option ℕ
fmt_rate file end None = None
fmt_rate file end (Some fmt) = cond (whole_fmt (Some fmt) end) (fields_rate file (body fmt)) None

-- the tests of 21 to 24 over what was found
abbrev pub judged : Walk → (hertz : Option ℕ) → (riff_end_of length : ℕ) → ℕ
judged w hertz riff_end_of length =
    refused_by
    ((21, no_fmt w.fmt w.data)
    ∷ (22, is_none hertz || odd_data w.data)
    ∷ (23, no_data w.data)
    ∷ (24, w.past || ltb length riff_end_of)
    ∷ [])

-- the refusal of that number; or none, and the sample rate and the data that were found
abbrev pub Judged : Walk → (hertz : Option ℕ) → (riff_end_of length : ℕ) → Result (ℕ × Chunk) Refusal → Type 0
Judged w hertz riff_end_of length r =
    MatchResult r (λ found. (judged w hertz riff_end_of length ≡ 0) × (hertz ≡ Some found.0) × (w.data ≡ Some found.1)) (λ refused. judged w hertz riff_end_of length ≡ refusal_number refused)

-- a take or a refusal as it is answered, and as reading answers it
abbrev pub take_answered : Result Take Refusal → WaveTake
take_answered (Ok take) = record { number = 0; hertz = take.hertz; at = take.at; count = take.count }
take_answered (Err refused) = record { number = refusal_number refused; hertz = 0; at = 0; count = 0 }

abbrev pub read_answered : Result Take Refusal → WaveRead
read_answered (Ok take) = record { number = 0; hertz = take.hertz; count = take.count }
read_answered (Err refused) = record { number = refusal_number refused; hertz = 0; count = 0 }

-- the take in a file, or why there is none
pub data TakeIn (file : List ℕ) (t : WaveTake) : Type 0 where
  no-take : (refusal file ≡ 0 → ⊥) → t ≡ record { number = refusal file; hertz = 0; at = 0; count = 0 } → TakeIn file t
  a_take : refusal file ≡ 0 → t ≡ record { number = 0; hertz = rate_of file; at = place_of file; count = count_of file } → place_of file + 2 * count_of file ≤ length file → TakeIn file t
