-- The report of an input, byte by byte as it comes, in the words of change request K14. Definitions only.
use Rattle.std.specs.Prelude.{◌≡◌, cond, List, [], ◌∷◌, ◌++◌, ℕ, eqb}
use Rattle.rules.specs.Rules.{Given, gives}
use Rattle.tuner.specs.declared.Tuner.{Tuner}
use Rattle.tuner.specs.declared.Answer.{Answer}
use Rattle.tuner.specs.Tuners.{take_of, force_of, default_tuner}
use Rattle.lines.specs.Lines.{Line, start, change, block, reset, mode, channel, midi, unreadable, read, desk, begins, Said}
use Rattle.reports.specs.Reports.{report_of}

-- takes, the newest first: of each, what the rules gave for its samples
abbrev pub Takes : Type 0
Takes = List (List Given)

-- what the rules give for the samples that a line to the tuner t brings, where it is answered so: only a block that is taken brings any, and none where it is refused or given again
unfoldable pub brought_by : Tuner → Line → Answer → List Given
brought_by t (start hertz s) a = []
brought_by t (change s) a = []
brought_by t (block k xs) a = cond (eqb a.number 0) (gives (force_of t) (take_of t) xs) []
brought_by t reset a = []
brought_by t (mode m) a = []
brought_by t (channel c) a = []
brought_by t (midi bytes) a = []
brought_by t unreadable a = []

-- the newest take goes on
unfoldable pub with_given : List Given → Takes → Takes
with_given gs [] = []
with_given gs (newest ∷ older) = (newest ++ gs) ∷ older

-- the takes after a line to the tuner t that is answered so: a start or a reset that is taken begins one, and all else goes on with the newest
abbrev pub takes_after : Tuner → Line → Answer → Takes → Takes
takes_after t line a takes = cond (begins line a) ([] ∷ takes) (with_given (brought_by t line a) takes)

-- an input byte by byte, with the tuner t, which keeps no list, what its lines made so far, and the bytes of a line that has not ended: each line makes more of it, by what the line program answers it. A last line may lack its end
pub data Through {A : Type 0} (more : Tuner → Line → Answer → A → A) : Tuner → A → (line input : List ℕ) → A → Type 0 where
  no_more : {t : Tuner} {a : A} → Through more t a [] [] a
  last_line : {t : Tuner} {a : A} {b : ℕ} {line : List ℕ} {t' : Tuner} {text : List ℕ} {answer : Answer} → Said (desk t []) (read (b ∷ line)) (desk t' []) text answer → Through more t a (b ∷ line) [] (more t (read (b ∷ line)) answer a)
  one_byte : {t : Tuner} {a : A} {line : List ℕ} {b : ℕ} {input : List ℕ} {a' : A} → (b ≡ 10 → ⊥) → Through more t a (line ++ (b ∷ [])) input a' → Through more t a line (b ∷ input) a'
  line-ends : {t : Tuner} {a : A} {line input : List ℕ} {t' : Tuner} {text : List ℕ} {answer : Answer} {a' : A} → Said (desk t []) (read line) (desk t' []) text answer → Through more t' (more t (read line) answer a) [] input a' → Through more t a line (10 ∷ input) a'

-- the takes of an input
abbrev pub Reported : Tuner → Takes → (line input : List ℕ) → Takes → Type 0
Reported = Through takes_after

-- the report of an input: the opening is a take of the default tuner
pub record Report (input printed : List ℕ) : Type 0 where
  pub takes : Takes
  pub reported : Reported default_tuner ([] ∷ []) [] input takes
  pub text : printed ≡ report_of takes
