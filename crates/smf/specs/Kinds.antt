-- The numbers of phases, and what a step of a file answers.
use Rattle.std.specs.Prelude.{ℕ, ◌≡◌, ◌<◌, Result, Ok, Err, MatchResult}
use Rattle.refusals.specs.declared.Refusal.{Refusal}
use Rattle.refusals.specs.Refusals.{refusal_number}
use Rattle.smf.specs.declared.Phase.{Phase}
use Rattle.smf.specs.declared.Phase.TheVariants.{Header, HeaderLength, Format, Tracks, Division, HeaderRest, Chunk, Size, Track, Body}
use Rattle.smf.specs.declared.UnknownPhase.{UnknownPhase}
use Rattle.smf.specs.declared.Song.{Song}
use Rattle.smf.specs.Songs.{refused}

abbrev pub phase_number : Phase → ℕ
phase_number Header = 0
phase_number HeaderLength = 1
phase_number Format = 2
phase_number Tracks = 3
phase_number Division = 4
phase_number HeaderRest = 5
phase_number Chunk = 6
phase_number Size = 7
phase_number Track = 8
phase_number Body = 9

-- the phase with this number; none has one above 9
abbrev pub Numbered : ℕ → Result Phase UnknownPhase → Type 0
Numbered n r = MatchResult r (λ phase. phase_number phase ≡ n) (λ e. 9 < n)

-- what a step leaves: the file after it, or the one before it, refused
abbrev pub answered : Song → Result Song Refusal → Song
answered s (Ok next) = next
answered s (Err refusal) = refused s (refusal_number refusal)
