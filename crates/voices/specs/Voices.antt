-- Backing voices, in the words of change request K13: a voice beside the lead is a fold over what the rules give for each sample of the lead. Definitions only, and three statements (`VoiceAccount`, `VoiceBounds`, `VoiceCutting`); their proofs are `voice_account_lem`, `always_in_bounds` and `voice_cutting` in Accompanying.antt.
use Rattle.std.specs.Prelude.{cond, ◌&&◌, ◌||◌, ◌≡◌, List, [], ◌∷◌, ◌++◌, ℕ, zero, suc, ◌+◌, ◌-◌, ◌≤◌, ltb, eqb, ℤ, pos, ◌+ℤ◌, ◌-ℤ◌, length}
use Rattle.rules.specs.declared.InForce.{InForce}
use Rattle.rules.specs.Rules.{Sound, Take, Step, no_note, wanted_period, raw_rate, input_at, cycles, growth, reading, stepped, after}
use Rattle.rules.specs.Facts.{ForceIn, PitchIn, InBounds}

-- ---- note and rate of a voice

-- intervals of -12 to 12 semitones are kept as 0 to 24: 12 is no interval, less is below the wanted note
abbrev pub unison : ℕ
unison = 12

abbrev pub IntervalIn : ℕ → Type 0
IntervalIn interval = interval ≤ 24

-- the note of a voice: so many semitones from the wanted note; none where there is no wanted note, or below note 0
unfoldable pub voice_note : ℕ → ℕ → ℕ
voice_note interval n = cond (eqb n no_note || ltb (n + interval) unison) no_note (n + interval - unison)

-- the table entry of its note, 0 where that is outside the table
abbrev pub voice_period : ℕ → ℕ → ℕ → ℕ
voice_period hertz interval n = wanted_period hertz (voice_note interval n)

-- its rate beside the tracked period p and the wanted note n: p over the entry of its note, nearest, halves up; 0, silent, without a period, a wanted note or an entry
unfoldable pub voice_rate : ℕ → ℕ → ℕ → ℕ → ℕ
voice_rate hertz interval p n = cond (ltb 0 p && ltb 0 (voice_period hertz interval n)) (raw_rate p (voice_period hertz interval n)) 0

-- ---- one sample

-- what a voice makes of a sample: its rate, its position after it, the sample out, and the periods of the cycles repeated and dropped
pub record Voiced : Type 0 where
  pub rate : ℕ
  pub position : ℤ
  pub out : ℤ
  pub repeats : List ℕ
  pub drops : List ℕ

-- after sample n of the sound x, beside the period p: silent, it writes 0 and is put level with the input; else its position grows by its rate, and it reads as the lead does
unfoldable pub voiced : ℕ → Sound → ℕ → ℕ → ℤ → Voiced
voiced n x zero p at = record { rate = 0; position = input_at n; out = pos 0; repeats = []; drops = [] }
voiced n x (suc r) p at =
    let g = growth n (suc r) p at in
    record { rate = suc r; position = g.position; out = reading x n g.position; repeats = g.repeats; drops = g.drops }

-- beside the lead's step: by the period and the wanted note after the sample
unfoldable pub voiced_by : ℕ → ℕ → Step → ℤ → Voiced
voiced_by hertz interval s at = let t = s.given.tone in voiced s.next.count s.next.sound (voice_rate hertz interval t.period t.note) t.period at

-- ---- the samples of a block, one after the other, beside the lead's

-- where they leave the voice
unfoldable pub voice_after : InForce → ℕ → Take → ℤ → List ℤ → ℤ
voice_after f interval t at [] = at
voice_after f interval t at (new ∷ more) = let s = stepped f t new in voice_after f interval s.next (voiced_by f.hertz interval s at).position more

-- what it gives for each
unfoldable pub voice_gives : InForce → ℕ → Take → ℤ → List ℤ → List Voiced
voice_gives f interval t at [] = []
voice_gives f interval t at (new ∷ more) = let s = stepped f t new in let v = voiced_by f.hertz interval s at in v ∷ voice_gives f interval s.next v.position more

-- the samples out
unfoldable pub voice_outs : List Voiced → List ℤ
voice_outs [] = []
voice_outs (v ∷ vs) = v.out ∷ voice_outs vs

-- ---- the account of a voice

-- the sum of its rates
unfoldable pub voice_rates : List Voiced → ℕ
voice_rates [] = 0
voice_rates (v ∷ vs) = v.rate + voice_rates vs

-- what its cycles come to: those repeated, or those dropped
unfoldable pub voice_cycles : (Voiced → List ℕ) → List Voiced → ℕ
voice_cycles part [] = 0
voice_cycles part (v ∷ vs) = cycles (part v) + voice_cycles part vs

-- from a position on, by what it gave since: all its rates, minus the period of every cycle repeated, plus the period of every cycle dropped
abbrev pub voice_account : ℤ → List Voiced → ℤ
voice_account at vs = at +ℤ pos (voice_rates vs) -ℤ pos (voice_cycles (λ (v : Voiced). v.repeats) vs) +ℤ pos (voice_cycles (λ (v : Voiced). v.drops) vs)

-- where a voice was last put level, and what it gave since
pub record Since : Type 0 where
  pub level : ℤ
  pub gave : List Voiced

-- one sample more, at this rate: silent, it is put level
unfoldable pub since_by : ℕ → Since → Voiced → Since
since_by zero s v = record { level = v.position; gave = [] }
since_by (suc r) s v = record { level = s.level; gave = s.gave ++ (v ∷ []) }

unfoldable pub since_after : Since → List Voiced → Since
since_after s [] = s
since_after s (v ∷ vs) = since_after (since_by v.rate s v) vs

-- its position equals its account, over any samples, and so over any series of them
abbrev pub VoiceAccount : Type 0
VoiceAccount =
    (f : InForce) (interval : ℕ) (t : Take) (at : ℤ) (xs : List ℤ) (s : Since) → at ≡ voice_account s.level s.gave
    → let since = since_after s (voice_gives f interval t at xs) in voice_after f interval t at xs ≡ voice_account since.level since.gave

-- it is never ahead of the input nor over 1,000 samples behind: in bounds it stays so after any samples, at rates from 1,201 to 3,556,721 where it sounds
abbrev pub VoiceBounds : Type 0
VoiceBounds =
    (f : InForce) (interval : ℕ) (t : Take) (at : ℤ) (xs : List ℤ)
    → ForceIn f → PitchIn t.pitch → InBounds t.count t.position → InBounds t.count at → InBounds (t.count + length xs) (voice_after f interval t at xs)

-- however the samples are cut
abbrev pub VoiceCutting : Type 0
VoiceCutting =
    (f : InForce) (interval : ℕ) (t : Take) (at : ℤ) (xs ys : List ℤ)
    → (voice_after f interval t at (xs ++ ys) ≡ voice_after f interval (after f t xs) (voice_after f interval t at xs) ys)
    × (voice_gives f interval t at (xs ++ ys) ≡ voice_gives f interval t at xs ++ voice_gives f interval (after f t xs) (voice_after f interval t at xs) ys)
