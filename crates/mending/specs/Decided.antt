-- What a whole walk to the file's end decides, over what was found. Definitions only.
use Rattle.std.specs.Prelude.{Bool, false, cond, ◌||◌, ℕ, ◌+◌, leb, Option, Some, None, is_none, Result, Ok, Err}
use Rattle.refusals.specs.declared.Refusal.{Refusal}
use Rattle.refusals.specs.Refusals.{refusal_number}
use Rattle.riff.specs.declared.Chunk.{Chunk}
use Rattle.riff.specs.declared.Walk.{Walk}
use Rattle.wave.specs.Waves.{no_fmt}
use Rattle.mending.specs.declared.Mending.{Mending}
use Rattle.mending.specs.declared.Sizes.{Sizes}
use Rattle.mending.specs.Mendings.{sizes_of, no_mending}

-- a chunk was found, and its eight bytes lie before the end
abbrev pub reached : Option Chunk → ℕ → Bool
reached None end = false
reached (Some chunk) end = leb (chunk.at + 8) end

-- the two sizes, or 27 where no data chunk was reached
abbrev pub sizes_in : (length riff : ℕ) → Option Chunk → Mending
sizes_in length riff None = no_mending 27
sizes_in length riff (Some chunk) = cond (reached (Some chunk) length) (sizes_of length riff chunk.at chunk.size) (no_mending 27)

-- 29, 26, 27, or the two sizes
abbrev pub decided : Walk → (hertz : Option ℕ) → (riff length : ℕ) → Mending
decided w hertz riff length =
    cond (leb 2147483648 length) (no_mending 29)
    (cond (no_fmt w.fmt w.data || is_none hertz) (no_mending 26)
    (sizes_in length riff w.data))

-- what is mended, or a refusal, as it is answered
abbrev pub mending_answered : Result Sizes Refusal → Mending
mending_answered (Ok sizes) = record { number = 0; riff = sizes.riff; «data» = sizes.data }
mending_answered (Err refused) = no_mending (refusal_number refused)
