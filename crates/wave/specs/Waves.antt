-- RIFF WAVE files, in the words of change request K4: PCM, one channel, 16 bits, 44,100 or 48,000 samples a second. When a file is refused, what its take is, and what reading promises. Definitions only.
use Rattle.std.specs.Prelude.{◌≡◌, Bool, true, false, not, cond, ◌&&◌, ◌||◌, List, [], ◌∷◌, ◌++◌, ℕ, ◌+◌, ◌-◌, ◌*◌, ◌/◌, ◌%◌, ◌≤◌, ◌<◌, min, leb, ltb, eqb, ℤ, pos, negsuc, length, drop, Option, Some, None}
use Rattle.whole.specs.Numbers.{list_of}
use Rattle.riff.specs.declared.Chunk.{Chunk}
use Rattle.riff.specs.Riff.{number_at, body, chunks, first_of, any_past, fmt_name, data_name, refused_by}
use Rattle.wave.specs.declared.WaveRead.{WaveRead}

-- ---- a file

-- the names "RIFF" and "WAVE"
abbrev pub riff_name : ℕ
riff_name = number_at (82 ∷ 73 ∷ 70 ∷ 70 ∷ []) 0 4

abbrev pub wave_name : ℕ
wave_name = number_at (87 ∷ 65 ∷ 86 ∷ 69 ∷ []) 0 4

-- a file of at least 12 bytes that begins "RIFF", a size, "WAVE"
unfoldable pub is_wave : List ℕ → Bool
is_wave file = leb 12 (length file) && eqb (number_at file 0 4) riff_name && eqb (number_at file 8 4) wave_name

-- the end of the RIFF chunk, by the size that it has; the walk ends with the RIFF chunk or the file
abbrev pub riff_end_of : List ℕ → ℕ
riff_end_of file = 8 + number_at file 4 4

abbrev pub walk_end : List ℕ → ℕ
walk_end file = min (riff_end_of file) (length file)

-- the chunks of a file; the first fmt and the first data chunk count
abbrev pub chunks_of : List ℕ → List Chunk
chunks_of file = chunks file (walk_end file)

abbrev pub fmt_of : List ℕ → Option Chunk
fmt_of file = first_of fmt_name (chunks_of file)

abbrev pub data_of : List ℕ → Option Chunk
data_of file = first_of data_name (chunks_of file)

-- ---- the fmt

-- the sample rates that are known
unfoldable pub known : ℕ → Bool
known hertz = eqb hertz 44100 || eqb hertz 48000

-- the fields of a fmt whose body begins at a place: tag, channels, sample rate, bytes a second, block, bits
-- tag 1, channels 1, block 2, bits 16
unfoldable pub plain : List ℕ → ℕ → Bool
plain file at = eqb (number_at file at 2) 1 && eqb (number_at file (at + 2) 2) 1 && eqb (number_at file (at + 12) 2) 2 && eqb (number_at file (at + 14) 2) 16

-- the sample rate
abbrev pub rate_at : List ℕ → ℕ → ℕ
rate_at file at = number_at file (at + 4) 4

-- the rate is known, and bytes a second are twice the rate
unfoldable pub fields_right : List ℕ → ℕ → Bool
fields_right file at = plain file at && known (rate_at file at) && eqb (number_at file (at + 8) 4) (2 * rate_at file at)

-- a fmt that is taken: at least 16 bytes of it lie before the end, and their fields are right
unfoldable pub fmt_right : List ℕ → (end : ℕ) → Chunk → Bool
fmt_right file end f = leb 16 f.size && leb (body f + 16) end && fields_right file (body f)

-- ---- refusals

-- 21: no fmt before the data or the end
unfoldable pub no_fmt : (fmt data' : Option Chunk) → Bool
no_fmt None d = true
no_fmt (Some f) None = false
no_fmt (Some f) (Some d) = ltb d.at f.at

-- 22: a fmt that is not taken, or an odd data size
unfoldable pub wrong_fmt : List ℕ → (end : ℕ) → Option Chunk → Bool
wrong_fmt file end None = false
wrong_fmt file end (Some f) = not (fmt_right file end f)

unfoldable pub odd_data : Option Chunk → Bool
odd_data None = false
odd_data (Some d) = eqb (d.size % 2) 1

-- 23: no data chunk
unfoldable pub no_data : Option Chunk → Bool
no_data None = true
no_data (Some d) = false

-- 24: a chunk runs past the RIFF chunk, or that past the file
abbrev pub runs_past : List ℕ → Bool
runs_past file = any_past (riff_end_of file) (chunks_of file) || ltb (length file) (riff_end_of file)

-- what each number says of a file; 21 to 24 are judged over one whole walk
unfoldable pub tests : List ℕ → List (ℕ × Bool)
tests file =
    (20, not (is_wave file))
    ∷ (21, no_fmt (fmt_of file) (data_of file))
    ∷ (22, wrong_fmt file (walk_end file) (fmt_of file) || odd_data (data_of file))
    ∷ (23, no_data (data_of file))
    ∷ (24, runs_past file)
    ∷ []

-- the number that a file is refused by: the least that applies, or 0
unfoldable pub refusal : List ℕ → ℕ
refusal file = refused_by (tests file)

-- ---- the take in a file

-- its sample rate, in the fmt
unfoldable pub rate_in : List ℕ → Option Chunk → ℕ
rate_in file None = 0
rate_in file (Some f) = rate_at file (body f)

abbrev pub rate_of : List ℕ → ℕ
rate_of file = rate_in file (fmt_of file)

-- the place of its samples and their count: the data's body, two bytes a sample
unfoldable pub place_in : Option Chunk → ℕ
place_in None = 0
place_in (Some d) = body d

abbrev pub place_of : List ℕ → ℕ
place_of file = place_in (data_of file)

unfoldable pub count_in : Option Chunk → ℕ
count_in None = 0
count_in (Some d) = d.size / 2

abbrev pub count_of : List ℕ → ℕ
count_of file = count_in (data_of file)

-- sixteen bits as a sample: from 32768 on below 0, as two's complement has it
unfoldable pub sample_of : ℕ → ℤ
sample_of n = cond (ltb n 32768) (pos n) (negsuc (65535 - n))

-- so many samples from a place on
abbrev pub samples_at : List ℕ → (at count : ℕ) → List ℤ
samples_at file at count = list_of (λ (k : ℕ). sample_of (number_at file (at + 2 * k) 2)) count

abbrev pub samples_of : List ℕ → List ℤ
samples_of file = samples_at file (place_of file) (count_of file)

-- ---- what reading promises

-- what was written stands at the front of an output, and what lies past it is untouched
abbrev pub over : {A : Type 0} → List A → List A → List A
over xs out = xs ++ drop (length xs) out

-- the promise of reading: what the file is refused by; then 25, where the output has not room for all samples; nothing is then written
pub data WasRead (file : List ℕ) (out : List ℤ) (r : WaveRead) (out' : List ℤ) : Type 0 where
  not_taken : (refusal file ≡ 0 → ⊥) → r ≡ record { number = refusal file; count = 0; hertz = 0 } → out' ≡ out → WasRead file out r out'
  no_room : refusal file ≡ 0 → length out < count_of file → r ≡ record { number = 25; count = 0; hertz = 0 } → out' ≡ out → WasRead file out r out'
  taken : refusal file ≡ 0 → count_of file ≤ length out → r ≡ record { number = 0; count = count_of file; hertz = rate_of file } → out' ≡ over (samples_of file) out → WasRead file out r out'

-- the numbers that reading may answer: those of the file, then 25
abbrev pub read_tests : List ℕ → (room : ℕ) → List (ℕ × Bool)
read_tests file room = tests file ++ ((25, ltb room (count_of file)) ∷ [])
