-- What the steps of the line program promise, by the definitions of `Serving`. Its tuner keeps no list, and the store that it lends is empty. Definitions only.
use Rattle.std.specs.Prelude.{◌≡◌, List, [], ◌∷◌, ◌++◌, ℕ, ◌≤◌, length, take, drop, Ok, MatchOption, MatchResult}
use Rattle.std.specs.declared.option.Option.{Option}
use Rattle.std.specs.declared.result.Result.{Result}
use Rattle.streams.specs.declared.Failed.{Failed}
use Rattle.tuner.specs.declared.Tuner.{Tuner}
use Rattle.tuner.specs.Tuners.{default_tuner}
use Rattle.text.specs.Text.{Put}
use Rattle.lines.specs.Lines.{Desk, desk}
use Rattle.lines.specs.Serving.{held_of, AllServed, Reads, Ended}

-- the buffer's first r bytes are what is held of those from `from` to `to`
pub record Kept (buf : List ℕ) (from to r : ℕ) (buf' : List ℕ) : Type 0 where
  pub many : r ≡ length (held_of (drop from (take to buf)))
  pub bytes : take r buf' ≡ held_of (drop from (take to buf))

-- a tuner, and no store
abbrev pub bare : Tuner → Desk
bare t = desk t []

-- all lines that end within the input are answered, by some text
pub record Serves (t : Tuner) (input : List ℕ) (t' : Tuner) (at : ℕ) : Type 0 where
  pub text : List ℕ
  pub served : AllServed (bare t) input (bare t') at text

-- a turn with no read or one: all lines that end with it are answered, and what is left is held
pub data Turned (t : Tuner) (held : List ℕ) : List (List ℕ) → Tuner → List ℕ → Type 0 where
  nothing_read : Turned t held [] t held
  read_once : (new : List ℕ) {at : ℕ} {t' : Tuner} {text : List ℕ} → AllServed (bare t) (held ++ new) (bare t') at text → Turned t held (new ∷ []) t' (held_of (drop at (held ++ new)))

-- all is as it was
abbrev pub AsBefore : Tuner → List ℕ → Tuner → List ℕ → Type 0
AsBefore t held t' buf' = Turned t held [] t' (take (length held) buf')

-- what was read is answered, and at most 8,193 bytes are held; or a write failed, and all is as it was
abbrev pub Answers : Tuner → (held new : List ℕ) → Result ℕ Failed → Tuner → List ℕ → Type 0
Answers t held new r t' buf' = MatchResult r (λ n. (n ≤ 8193) × Turned t held (new ∷ []) t' (take n buf')) (λ e. AsBefore t held t' buf')

-- one turn, whatever came of the read: some bytes were read and answered; or the input ended, or something failed, and all is as it was
abbrev pub OneTurn : Tuner → (held : List ℕ) → Result (Option ℕ) Failed → Tuner → List ℕ → Type 0
OneTurn t held r t' buf' = MatchResult r (λ o. MatchOption o (AsBefore t held t' buf') (λ n. (new : List ℕ) × Answers t held new (Ok n) t' buf')) (λ e. AsBefore t held t' buf')

-- what the program has before each turn: the tuner and the bytes held that its reads so far leave
pub record Working (t : Tuner) (held : List ℕ) : Type 0 where
  pub reads : List (List ℕ)
  pub text : List ℕ
  pub so_far : Reads (bare default_tuner) reads (bare t) held text

-- what the end of the input answers stands at the front of the output
pub record Finishes (t : Tuner) (held out : List ℕ) (n : ℕ) (out' : List ℕ) : Type 0 where
  pub left : Tuner
  pub text : List ℕ
  pub ended : Ended (bare t) held (bare left) text
  pub put : Put out 0 text out' n
