-- A walk over chunks, one step after the other: what it keeps of each chunk that it comes by. Definitions only.
use Rattle.std.specs.Prelude.{false, cond, ◌||◌, ℕ, ltb, eqb, Option, Some, None}
use Rattle.riff.specs.declared.Walk.{Walk}
use Rattle.riff.specs.declared.Chunk.{Chunk}
use Rattle.riff.specs.Riff.{behind, next, fmt_name, data_name}

-- the first chunk of a name stays, after one chunk more
abbrev pub found_first : Option Chunk → ℕ → Chunk → Option Chunk
found_first (Some first) name c = Some first
found_first None name c = cond (eqb c.name name) (Some c) None

-- a walk that found nothing yet, behind "RIFF", a size and "WAVE"
abbrev pub set_out : Walk
set_out = record { at = 12; fmt = None; «data» = None; past = false }

-- a walk to an end after a chunk more
abbrev pub stepped : (end : ℕ) → Walk → Chunk → Walk
stepped end w c = record { at = next c; fmt = found_first w.fmt fmt_name c; «data» = found_first w.data data_name c; past = w.past || ltb end (behind c) }
