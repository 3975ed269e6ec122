-- The numbers of phases and of what became whole, and what a step of a track answers.
use Rattle.std.specs.Prelude.{ℕ, ◌≡◌, ◌<◌, Result, Ok, Err, MatchResult}
use Rattle.refusals.specs.declared.Refusal.{Refusal}
use Rattle.refusals.specs.Refusals.{refusal_number}
use Rattle.tracks.specs.declared.Phase.{Phase}
use Rattle.tracks.specs.declared.Phase.TheVariants.{Ready, Delta, Status, First, Second, Meta, Length, Body, Ended}
use Rattle.tracks.specs.declared.Whole.{Whole}
use Rattle.tracks.specs.declared.Whole.TheVariants.{Nothing, Message, Tempo, End, Other}
use Rattle.tracks.specs.declared.UnknownPhase.{UnknownPhase}
use Rattle.tracks.specs.declared.Track.{Track}
use Rattle.tracks.specs.Tracks.{refused}

abbrev pub phase_number : Phase → ℕ
phase_number Ready = 0
phase_number Delta = 1
phase_number Status = 2
phase_number First = 3
phase_number Second = 4
phase_number Meta = 5
phase_number Length = 6
phase_number Body = 7
phase_number Ended = 8

abbrev pub whole_number : Whole → ℕ
whole_number Nothing = 0
whole_number Message = 1
whole_number Tempo = 2
whole_number End = 3
whole_number Other = 4

-- the phase with this number; none has one above 8
abbrev pub Numbered : ℕ → Result Phase UnknownPhase → Type 0
Numbered n r = MatchResult r (λ phase. phase_number phase ≡ n) (λ e. 8 < n)

-- what a step leaves: the track after it, or the one before it, refused
abbrev pub answered : Track → Result Track Refusal → Track
answered t (Ok next) = next
answered t (Err refusal) = refused t (refusal_number refusal)
