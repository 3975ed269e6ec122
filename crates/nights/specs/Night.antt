-- A night's blocks in one call, in the words of change request K2: the single calls one by one, what they add up to, and what the one call promises. Definitions only.
use Rattle.std.specs.Prelude.{◌≡◌, ℕ, zero, suc, ◌+◌, ◌%◌, ◌<◌, ◌≤◌, ◌⊎◌, List, [], ◌∷◌, ◌++◌, map, length, take, drop, ℤ}
use Rattle.rules.specs.Rules.{longest_block}
use Rattle.tuner.specs.declared.Numbers.{Numbers}
use Rattle.tuner.specs.declared.Tuner.{Tuner}
use Rattle.tuner.specs.declared.Answer.{Answer}
use Rattle.tuner.specs.Tuners.{Good, Roomy, kept_outs, Took}
use Rattle.nights.specs.declared.NightAnswer.{NightAnswer}

-- ---- a recording in blocks

-- the first n stretches of so many samples each; the last may be shorter
unfoldable pub first_stretches : (n size : ℕ) → List ℤ → List (List ℤ)
first_stretches zero size xs = []
first_stretches (suc n) size [] = []
first_stretches (suc n) size (x ∷ xs) = take size (x ∷ xs) ∷ first_stretches n size (drop size (x ∷ xs))

-- all stretches of a recording: there are no more than samples
abbrev pub stretches : ℕ → List ℤ → List (List ℤ)
stretches size xs = first_stretches (length xs) size xs

-- block numbers wrap: 65535 is followed by 0
abbrev pub number_after : ℕ → ℕ
number_after k = (k + 1) % 65536

-- ---- the answer

-- an answer that says nothing
abbrev pub no_answer : Answer
no_answer = record { number = 0; written = 0; repeated = 0; dropped = 0; pitched = 0; strayed = 0; rows = 0; left = 0 }

-- with this number: nothing was taken and nothing given again, and the list is as it was
abbrev pub no_night : ℕ → Numbers → NightAnswer
no_night v n = record { number = v; refused = 0; taken = 0; written = 0; repeated = 0; dropped = 0; pitched = 0; strayed = 0; again = no_answer; rows = n.list.rows; left = n.list.left }

-- one single call more, of block number k: a block that was taken is counted and what it counts is added, one given again is answered apart, and a refusal is named with its block; the list is the one then kept
unfoldable pub added_by : ℕ → NightAnswer → ℕ → Answer → NightAnswer
added_by zero n k a =
    record {
      number = n.number;
      refused = n.refused;
      taken = n.taken + 1;
      written = n.written + a.written;
      repeated = n.repeated + a.repeated;
      dropped = n.dropped + a.dropped;
      pitched = n.pitched + a.pitched;
      strayed = n.strayed + a.strayed;
      again = n.again;
      rows = a.rows;
      left = a.left;
    }
added_by (suc zero) n k a =
    record {
      number = n.number;
      refused = n.refused;
      taken = n.taken;
      written = n.written;
      repeated = n.repeated;
      dropped = n.dropped;
      pitched = n.pitched;
      strayed = n.strayed;
      again = a;
      rows = a.rows;
      left = a.left;
    }
added_by (suc (suc v)) n k a =
    record {
      number = suc (suc v);
      refused = k;
      taken = n.taken;
      written = n.written;
      repeated = n.repeated;
      dropped = n.dropped;
      pitched = n.pitched;
      strayed = n.strayed;
      again = n.again;
      rows = a.rows;
      left = a.left;
    }

abbrev pub added : NightAnswer → ℕ → Answer → NightAnswer
added n k a = added_by a.number n k a

-- ---- the single calls one by one

-- the first n samples of each output, and what is behind them
unfoldable pub before : ℕ → List (List ℤ) → List (List ℤ) → List (List ℤ)
before n [] qs = []
before n (p ∷ ps) [] = p ∷ ps
before n (p ∷ ps) (q ∷ qs) = (take n p ++ q) ∷ before n ps qs

-- blocks from number k on, each by the single call with what is left of the outputs and the store as it was left, after the answer n: until all are done, or one is refused
pub data OneByOne : Tuner → ℕ → NightAnswer → List (List ℤ) → List (List ℤ) → List ℕ → Tuner → NightAnswer → List (List ℤ) → List ℕ → Type 0 where
  all_done : {t : Tuner} {k : ℕ} {n : NightAnswer} {os : List (List ℤ)} {store : List ℕ} → OneByOne t k n [] os store t n os store
  and_on : {t u t' : Tuner} {k : ℕ} {n n' : NightAnswer} {xs : List ℤ} {xss os ps qs : List (List ℤ)} {store mid store' : List ℕ} {a : Answer}
      → Took t k xs os store u a ps mid → a.number ≤ 1 → OneByOne u (number_after k) (added n k a) xss (map (drop (length xs)) ps) mid t' n' qs store' → OneByOne t k n (xs ∷ xss) os store t' n' (before (length xs) ps qs) store'
  refused : {t u : Tuner} {k : ℕ} {n : NightAnswer} {xs : List ℤ} {xss os ps : List (List ℤ)} {store store' : List ℕ} {a : Answer}
      → Took t k xs os store u a ps store' → 1 < a.number → OneByOne t k n (xs ∷ xss) os store u (added n k a) ps store'

-- ---- the promise

-- refused before the first block: nothing changes
pub record Untouched (v : ℕ) (t : Tuner) (os : List (List ℤ)) (store : List ℕ) (t' : Tuner) (a : NightAnswer) (os' : List (List ℤ)) (store' : List ℕ) : Type 0 where
  pub tuner : t' ≡ t
  pub answer : a ≡ no_night v t.numbers
  pub outs : os' ≡ os
  pub rows : store' ≡ store

-- the recording xs in blocks of so many samples, from number k on, to the tuner t, with the outputs os and a store, leaves t', answers a and writes os' and store': 9 first, then 3, then 4, and else the single calls one by one
pub data Nighted (t : Tuner) (k size : ℕ) (xs : List ℤ) (os : List (List ℤ)) (store : List ℕ) (t' : Tuner) (a : NightAnswer) (os' : List (List ℤ)) (store' : List ℕ) : Type 0 where
  record_out_of_range : (Good t → ⊥) → Untouched 9 t os store t' a os' store' → Nighted t k size xs os store t' a os' store'
  size_out_of_range : Good t → (size ≡ 0) ⊎ (longest_block < size) → Untouched 3 t os store t' a os' store' → Nighted t k size xs os store t' a os' store'
  output_short : Good t → 0 < size → size ≤ longest_block → (Roomy (length xs) (kept_outs t) os → ⊥) → Untouched 4 t os store t' a os' store' → Nighted t k size xs os store t' a os' store'
  one_by_one : Good t → 0 < size → size ≤ longest_block → Roomy (length xs) (kept_outs t) os → OneByOne t k (no_night 0 t.numbers) (stretches size xs) os store t' a os' store' → Nighted t k size xs os store t' a os' store'
