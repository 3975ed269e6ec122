-- A voice over the samples of a block: where its position stands after each, and what it writes there. The code keeps it by how far it lies behind the input.
-- Its rate is the tracked period over an entry of the table, so it lies no farther from one than a cycle is long: the lead's bounds are its own.
use Rattle.std.specs.Prelude.{◌≡◌, List, [], ◌∷◌, ◌++◌, ◌-ℤ◌, length, get_or}
use Prim.Native.Nat.{ℕ, zero, suc, ◌+◌, ◌≤◌, ◌<◌}
use Rattle.std.proofs.Math.IntN.{ℤ, pos}
use Rattle.std.proofs.Math.ListN.{set, drop}
use Rattle.rules.specs.Rules.{longest_block, no_note, least_period, greatest_period, farthest, input_at, growth}
use Rattle.rules.specs.Position.{Paced}
use Rattle.ages.specs.Ages.{ago}
use Rattle.voices.specs.Voices.{voice_period, voice_rate, Voiced, voiced}

-- ---- what the parts promise

-- no period; or a tracked one, beside a wanted note or none
pub record Tracked (p n : ℕ) : Type 0 where
  pub from : 0 < p → least_period ≤ p
  pub upto : p ≤ greatest_period
  pub note : 0 < p → n ≤ no_note

-- so many of them
pub record TrackedAll (b : ℕ) (periods notes : List ℕ) : Type 0 where
  pub each : (i : ℕ) → i < b → Tracked (get_or periods i 0) (get_or notes i 0)

-- silent, or at a rate that one cycle mends
abbrev pub Kept : ℕ → ℕ → Type 0
Kept rate p = 0 < rate → Paced rate p

-- what a voice keeps beside the period p and the wanted note n: the entry of its note where there is a period, and its rate
abbrev pub Reckoned : (hertz interval p n entry rate : ℕ) → Type 0
Reckoned hertz interval p n entry rate = (0 < p → entry ≡ voice_period hertz interval n) × (rate ≡ voice_rate hertz interval p n)

-- after one sample more, whatever its number, a position so far behind lies r behind
pub record Moved (behind rate p r : ℕ) : Type 0 where
  pub near : r ≤ farthest
  pub position : (n : ℕ) → (growth (suc n) rate p (input_at n -ℤ pos behind)).position ≡ input_at (suc n) -ℤ pos r

-- a voice so far behind, at this rate beside this period and note, which are those of the sample that is next, of b
pub record Sings (behind rate p n : ℕ) (periods notes : List ℕ) (s : List ℤ) (m from b : ℕ) : Type 0 where
  pub near : behind ≤ farthest
  pub kept : Kept rate p
  pub stored : m + b ≤ length s
  pub enough : 1005 ≤ m
  pub most : b ≤ longest_block
  pub some : from < b
  pub period : p ≡ get_or periods from 0
  pub note : n ≡ get_or notes from 0

-- one sample, whatever its number: the voice that lay so far behind lies r behind, and its output is at place i
pub record Sounded (behind rate p : ℕ) (s : List ℤ) (m i : ℕ) (outs outs' : List ℤ) (r : ℕ) : Type 0 where
  pub near : r ≤ farthest
  pub position : (n : ℕ) → (voiced (suc n) (ago s m) rate p (input_at n -ℤ pos behind)).position ≡ input_at (suc n) -ℤ pos r
  pub out : (n : ℕ) → outs' ≡ set outs i (voiced (suc n) (ago s m) rate p (input_at n -ℤ pos behind)).out

-- the samples that follow sample n, which stand in the store s after the first m, beside these periods and wanted notes
module _ (hertz interval n : ℕ) (at : ℤ) (periods notes : List ℕ) (s : List ℤ) (m : ℕ) where
  -- what the voice makes of the next one after i of them
  abbrev pub sing_next : ℕ → ℤ → Voiced
  sing_next i z = voiced (suc (n + i)) (ago s (m + i + 1)) (voice_rate hertz interval (get_or periods i 0) (get_or notes i 0)) (get_or periods i 0) z

  -- where i of them leave it, and what it writes
  unfoldable pub sing_after : ℕ → ℤ
  sing_after zero = at
  sing_after (suc i) = (sing_next i (sing_after i)).position

  unfoldable pub sing_outs : ℕ → List ℤ
  sing_outs zero = []
  sing_outs (suc i) = sing_outs i ++ ((sing_next i (sing_after i)).out ∷ [])

-- b samples, whatever the number of the sample before them
pub record Sang (hertz interval behind : ℕ) (periods notes : List ℕ) (s : List ℤ) (m b : ℕ) (outs outs' : List ℤ) (r : ℕ) : Type 0 where
  pub near : r ≤ farthest
  pub position : (n : ℕ) → sing_after hertz interval n (input_at n -ℤ pos behind) periods notes s m b ≡ input_at (n + b) -ℤ pos r
  pub out : (n : ℕ) → outs' ≡ sing_outs hertz interval n (input_at n -ℤ pos behind) periods notes s m b ++ drop b outs

-- the samples up to `at` are sung at one rate, after those up to `from`, whatever came before
pub record SangTo (rate p n behind : ℕ) (periods notes : List ℕ) (s : List ℤ) (m from : ℕ) (out out' : List ℤ) (at r : ℕ) : Type 0 where
  pub near : r ≤ farthest
  pub same : length out' ≡ length out
  pub sang : (hertz interval first : ℕ) (outs : List ℤ) → length outs ≡ longest_block → rate ≡ voice_rate hertz interval p n → Sang hertz interval first periods notes s m from outs out behind → Sang hertz interval first periods notes s m at outs out' r

-- a rate from 1,201 to 3,556,721
pub record RateIn (rate : ℕ) : Type 0 where
  pub from : 1201 ≤ rate
  pub upto : rate ≤ 3556721
