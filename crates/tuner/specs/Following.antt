-- What the parts of a block promise: the voices that sing beside it, the list that goes on, and the room and the writing of the outputs.
use Rattle.std.specs.Prelude.{◌≡◌, cond, ℕ, ◌+◌, ◌*◌, ◌≤◌, ◌<◌, leb, ltb, eqb, ℤ, pos, take, drop, get_or, replicate}
use mathlib.Core.List.{List, [], ◌∷◌, ◌++◌, map, flatten}
use Rattle.rules.specs.declared.Tone.{Tone}
use Rattle.rules.specs.Rules.{longest_block, kept_samples, greatest_rate}
use Rattle.lists.specs.declared.Listing.{Listing}
use Rattle.lists.specs.Lists.{Sheet, sheet, sung_note, after_notes}
use Rattle.lists.specs.Hushes.{hushed}
use Rattle.voices.specs.Singing.{Sang}
use Rattle.tuner.specs.declared.Voice.{Voice}
use Rattle.tuner.specs.declared.Numbers.{Numbers}
use Rattle.tuner.specs.declared.Tuner.{Tuner}
use Rattle.tuner.specs.Tuners.{voice_at, Good, kept_outs, Roomy, written, Verdict}
use Rattle.tuner.specs.Parted.{tuner_of}

-- ---- the figures

-- so many rates, none over twice
abbrev pub RatesUpto : ℕ → List ℕ → Type 0
RatesUpto b rates = (i : ℕ) → i < b → get_or rates i 0 ≤ greatest_rate

-- ---- the voices

-- 512 places of 0
abbrev pub no_out : List ℤ
no_out = replicate longest_block (pos 0)

-- voice v sang beside b samples of the store s, into places that were 0
pub record SangBeside (hertz : ℕ) (periods notes : List ℕ) (s : List ℤ) (b : ℕ) (v v' : Voice) (out : List ℤ) : Type 0 where
  pub interval : v'.interval ≡ v.interval
  pub sang : Sang hertz v.interval v.behind periods notes s kept_samples b no_out out v'.behind

-- what each of the chosen voices becomes and gives when it sang
pub record Goes (hertz : ℕ) (periods notes : List ℕ) (s : List ℤ) (b chosen : ℕ) (vs : List Voice) (go : Voice → Voice) (out : Voice → List ℤ) : Type 0 where
  pub each : (j : ℕ) → j < chosen → (v' : Voice) (o : List ℤ) → SangBeside hertz periods notes s b (voice_at vs j) v' o → (v' ≡ go (voice_at vs j)) × (o ≡ out (voice_at vs j))

-- j voices sang, the others are as they were; and the outputs up to theirs
pub record SungTo (j : ℕ) (vs : List Voice) (outs : List ℤ) (go : Voice → Voice) (out : Voice → List ℤ) (vs' : List Voice) (outs' : List ℤ) : Type 0 where
  pub voices : vs' ≡ map go (take j vs) ++ drop j vs
  pub front : take (longest_block * (1 + j)) outs' ≡ take longest_block outs ++ flatten (map out (take j vs))
  pub behind : drop (longest_block * (1 + j)) outs' ≡ drop (longest_block * (1 + j)) outs

-- whatever they become and give
abbrev pub AllSung : (hertz : ℕ) → List ℕ → List ℕ → List ℤ → (b chosen j : ℕ) → List Voice → List ℤ → List Voice → List ℤ → Type 0
AllSung hertz periods notes s b chosen j vs outs vs' outs' =
    (go : Voice → Voice) (out : Voice → List ℤ) → Goes hertz periods notes s b chosen vs go out → SungTo j vs outs go out vs' outs'

-- ---- the list

-- of a tuner that keeps one, after b samples with these periods and notes
unfoldable pub listed_of : (listed : ℕ) → Tone → (count : ℕ) → Listing → List ℕ → (b : ℕ) → (periods notes : List ℕ) → Sheet
listed_of listed tone count l store b periods notes = cond (eqb listed 0) (sheet l store) (after_notes (sung_note tone) count (sheet l store) (take b (hushed b periods notes)))

-- ---- the outputs

-- the outputs lent, the lead's first
abbrev pub four : (a b c d : List ℤ) → List (List ℤ)
four a b c d = a ∷ b ∷ c ∷ d ∷ []

-- the greatest room that each output asked for has
pub record LeastRoom (t : Tuner) (os : List (List ℤ)) (room : ℕ) : Type 0 where
  pub fits : (n : ℕ) → n ≤ room → Roomy n (kept_outs t) os
  pub least : (n : ℕ) → Roomy n (kept_outs t) os → n ≤ room

-- voice j of those chosen: the first n places of its output are what is kept
unfoldable pub written_by : (j chosen n : ℕ) → (kept ys : List ℤ) → List ℤ
written_by j chosen n kept ys = cond (ltb j chosen) (take n (drop (longest_block * (1 + j)) kept) ++ drop n ys) ys

-- by a number: 0 and 1 write what is kept
abbrev pub given_by : (v n : ℕ) → (kept os : List (List ℤ)) → List (List ℤ)
given_by v n kept os = cond (leb v 1) (written n kept os) os

-- the number of the answer to a block, whatever the other parts of a good tuner are
abbrev pub Judged : Numbers → (heard : List ℤ) → (k : ℕ) (xs : List ℤ) (room : ℕ) → ℕ → Type 0
Judged n heard k xs room v =
    (energies : List ℕ) (correlations eighths outs : List ℤ) (os : List (List ℤ)) → let t = tuner_of n energies correlations heard eighths outs in LeastRoom t os room → Good t → Verdict t k xs os v
