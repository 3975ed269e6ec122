-- Input that comes in reads, as the line program gets it: what is answered, what is held for the next read, and what the end of the input answers. Definitions only, and one statement (`Cutting`), whose proof is `cutting` in Cutting.antt.
use Rattle.std.specs.Prelude.{◌≡◌, List, [], ◌∷◌, ◌++◌, ℕ, ◌≤◌, length, take, drop}
use Rattle.tuner.specs.declared.Answer.{Answer}
use Rattle.lines.specs.Lines.{read, Desk, Said, NoEnd, AllSaid}

-- what is held of a line without its end: of one that is too long, one byte too many is enough
abbrev pub held_of : List ℕ → List ℕ
held_of rest = take 8193 rest

-- all lines that end within the input are answered by this text and leave d', and no line ends after the first `at` bytes
pub record AllServed (d : Desk) (input : List ℕ) (d' : Desk) (at : ℕ) (text : List ℕ) : Type 0 where
  pub within : at ≤ length input
  pub said : AllSaid d (take at input) d' text
  pub rest : NoEnd (drop at input)

-- reads one after the other from nothing held on: the desk d becomes d', `held` waits for its end, and this text is answered
pub data Reads (d : Desk) : List (List ℕ) → Desk → List ℕ → List ℕ → Type 0 where
  no_read : Reads d [] d [] []
  one-read : {before : List (List ℕ)} {u d' : Desk} {held text more : List ℕ} (new : List ℕ) {at : ℕ}
      → Reads d before u held text → AllServed u (held ++ new) d' at more → Reads d (before ++ (new ∷ [])) d' (held_of (drop at (held ++ new))) (text ++ more)

-- the end of the input: a last line may lack its end
pub data Ended (d : Desk) : List ℕ → Desk → List ℕ → Type 0 where
  nothing-held : Ended d [] d []
  last_line : {b : ℕ} {more : List ℕ} {d' : Desk} {text : List ℕ} {a : Answer} → Said d (read (b ∷ more)) d' text a → Ended d (b ∷ more) d' text

-- the reads, one after the other
abbrev pub joined : List (List ℕ) → List ℕ
joined [] = []
joined (new ∷ more) = new ++ joined more

-- whichever way the same input is cut into reads, the same tuner and store are left and the answers, one after the other, are the same bytes
abbrev pub Cutting : Type 0
Cutting =
    (d u u' v v' : Desk) (reads reads' : List (List ℕ)) (held held' text text' last last' : List ℕ)
    → joined reads ≡ joined reads' → Reads d reads u held text → Ended u held v last → Reads d reads' u' held' text' → Ended u' held' v' last'
    → (v ≡ v') × (text ++ last ≡ text' ++ last')
