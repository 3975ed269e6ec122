-- The wrong programs of document 01's list, and that no program which keeps the promise of a block is one of them (`AllShutOut`). Definitions only.
use Rattle.std.specs.Prelude.{◌≡◌, List, [], ◌∷◌, ℕ, ◌≤◌, ◌<◌, ℤ, pos, neg_ℤ, length, take, replicate}
use Rattle.pitch.specs.declared.Pitch.{Pitch as KeptPitch}
use Rattle.tuner.specs.declared.Numbers.{Numbers}
use Rattle.tuner.specs.declared.Tuner.{Tuner}
use Rattle.tuner.specs.declared.Answer.{Answer}
use Rattle.tuner.specs.Tuners.{default_tuner, with_numbers, Took}

-- ---- programs

-- what a program for the block call leaves, answers and writes
pub record Done : Type 0 where
  pub tuner : Tuner
  pub answer : Answer
  pub out : List ℤ

-- of a tuner, the block's number and samples, and the lead's output as it was: no other output is lent, and no store
abbrev pub Program : Type 0
Program = Tuner → ℕ → List ℤ → List ℤ → Done

-- it keeps the promise of a block on this input
abbrev pub Keeps : Program → Tuner → ℕ → List ℤ → List ℤ → Type 0
Keeps q t k xs ys = Took t k xs (ys ∷ []) [] (q t k xs ys).tuner (q t k xs ys).answer ((q t k xs ys).out ∷ []) []

-- it takes the block, or gives it again
abbrev pub Gives : Program → Tuner → ℕ → List ℤ → List ℤ → Type 0
Gives q t k xs ys = (q t k xs ys).answer.number ≤ 1

-- the samples that it then writes
abbrev pub written : Program → Tuner → ℕ → List ℤ → List ℤ → List ℤ
written q t k xs ys = take (length xs) (q t k xs ys).out

-- ---- document 01's list

-- refuses all
abbrev pub RefusesAll : Program → Type 0
RefusesAll q = (t : Tuner) (k : ℕ) (xs ys : List ℤ) → 1 < (q t k xs ys).answer.number

-- answers silence
abbrev pub AnswersSilence : Program → Type 0
AnswersSilence q = (t : Tuner) (k : ℕ) (xs ys : List ℤ) → Gives q t k xs ys → written q t k xs ys ≡ replicate (length xs) (pos 0)

-- copies the input through
abbrev pub CopiesThrough : Program → Type 0
CopiesThrough q = (t : Tuner) (k : ℕ) (xs ys : List ℤ) → Gives q t k xs ys → written q t k xs ys ≡ xs

-- leaves output and tuner as they are, whatever it answers
abbrev pub LeavesAll : Program → Type 0
LeavesAll q = (t : Tuner) (k : ℕ) (xs ys : List ℤ) → ((q t k xs ys).out ≡ ys) × ((q t k xs ys).tuner ≡ t)

-- tunes the first block, in whatever way, and passes the rest: where there is a last block, the input comes out
abbrev pub PassesTheRest : Program → Type 0
PassesTheRest q = (t : Tuner) (k : ℕ) (xs ys : List ℤ) → 0 < t.numbers.last.length → Gives q t k xs ys → written q t k xs ys ≡ xs

-- invents the repeated and dropped counts: it makes them up from the block alone, whatever the take was before (that no other count keeps the promise either is `took_one`)
abbrev pub InventsCounts : Program → Type 0
InventsCounts q =
    (r d : ℕ → List ℤ → ℕ) × ((t : Tuner) (k : ℕ) (xs ys : List ℤ) → Gives q t k xs ys → ((q t k xs ys).answer.repeated ≡ r k xs) × ((q t k xs ys).answer.dropped ≡ d k xs))

-- ---- the calls on which they are tried

-- the two blocks of document 01's whole case, here to a tuner with the defaults, and an output with room for either
abbrev pub first_block : List ℤ
first_block = pos 1000 ∷ neg_ℤ (pos 1000) ∷ pos 500 ∷ []

abbrev pub second_block : List ℤ
second_block = pos 8 ∷ pos 9 ∷ pos 10 ∷ []

abbrev pub room : List ℤ
room = pos 0 ∷ pos 0 ∷ pos 0 ∷ []

-- the numbers with another pitch
abbrev pub with_pitch : Numbers → KeptPitch → Numbers
with_pitch n v =
    record {
      layout = n.layout;
      settings = n.settings;
      hertz = n.hertz;
      keyboard = n.keyboard;
      count = n.count;
      pitch = v;
      behind = n.behind;
      last = n.last;
      listed = n.listed;
      chosen = n.chosen;
      list = n.list;
      voices = n.voices;
    }

-- a good record, as a host may hand it in: fresh, but reading at twice the rate, so that the first sample repeats a cycle
unfoldable pub ahead : Tuner
ahead =
    with_numbers default_tuner
    (with_pitch default_tuner.numbers
    (record { tracker = record { low = 16; last = 16; e = replicate 8 0; h = replicate 8 (pos 0) }; tone = record { period = 4096; note = 69; rate = 131072; kept = 0 }; tracking = 1 }))

-- the program keeps the promise on three calls: the whole case's first block, its second, and the first block to the record `ahead`
pub record Tried (q : Program) : Type 0 where
  pub first : Keeps q default_tuner 0 first_block room
  pub second : Keeps q (q default_tuner 0 first_block room).tuner 1 second_block room
  pub level : Keeps q ahead 0 first_block room

-- it is none of the list
pub record ShutOut (q : Program) : Type 0 where
  pub refuses_all : RefusesAll q → ⊥
  pub answers_silence : AnswersSilence q → ⊥
  pub copies_through : CopiesThrough q → ⊥
  pub leaves_all : LeavesAll q → ⊥
  pub passes_the_rest : PassesTheRest q → ⊥
  pub invents_counts : InventsCounts q → ⊥

-- no program that keeps the promise, if only on those calls, is one of the list
abbrev pub AllShutOut : Type 0
AllShutOut = (q : Program) → Tried q → ShutOut q
