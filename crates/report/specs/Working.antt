-- What the program has before each read: the report of all that was read so far.
use Rattle.std.specs.Prelude.{◌≡◌, List, ◌++◌, ℕ, ◌≤◌, length}
use Rattle.std.proofs.Common.{arith}
use Rattle.reporting.specs.declared.line.Line.{Line}
use Rattle.reporting.specs.declared.Reporting.{Reporting}
use Rattle.reporting.specs.Keeping.{SoFar}
use Rattle.reporting.specs.Steps.{held_in}

-- some bytes were read; after them this is kept, with the first bytes of a line that has not ended, and there is room
pub record Working (r : Reporting) (line : Line) (out : List ℕ) : Type 0 where
  pub input : List ℕ
  pub so_far : SoFar input r (held_in line) out
  pub out-room : 147147 ≤ length out

-- a piece more
pub working_more : {r q : Reporting} {line line' : Line} {out out' : List ℕ} (new : List ℕ) (w : Working r line out) → SoFar (w.input ++ new) q (held_in line') out' → length out' ≡ length out → Working q line' out'
working_more new w s e = record { input = w.input ++ new; so_far = s; out-room = omega (arith, w.out-room, e) }
