-- No second answer to reading, no second take in a file, and that the number answered is the least that applies.
use Rattle.std.specs.Prelude.{◌≡◌, List, [], ◌∷◌, ℕ, ℤ, length}
use Rattle.std.proofs.Math.Path.{refl, sym, ap}
use Rattle.std.proofs.Common.{◌∙◌, subst, arith, lt-ltb, le-ltb}
use Rattle.std.proofs.Math.Dec.{ltb}
use Rattle.riff.specs.Riff.{refused_by, Least}
use Rattle.riff.specs.Refusals.{refused-least, refused-first, refused-next}
use Rattle.wave.specs.declared.WaveRead.{WaveRead}
use Rattle.wave.specs.declared.WaveTake.{WaveTake}
use Rattle.wave.specs.Judged.{TakeIn, no-take, a_take}
use Rattle.wave.specs.Waves.{tests, refusal, count_of, read_tests, WasRead, not_taken, no_room, taken}

pub read_one : {file : List ℕ} {out : List ℤ} {r₁ r₂ : WaveRead} {o₁ o₂ : List ℤ} → WasRead file out r₁ o₁ → WasRead file out r₂ o₂ → (r₁ ≡ r₂) × (o₁ ≡ o₂)
read_one (not_taken n p o) (not_taken n' p' o') = (p ∙ sym p', o ∙ sym o')
read_one (not_taken n p o) (no_room z l p' o') = absurd (n z)
read_one (not_taken n p o) (taken z l p' o') = absurd (n z)
read_one (no_room z l p o) (not_taken n p' o') = absurd (n z)
read_one (no_room z l p o) (no_room z' l' p' o') = (p ∙ sym p', o ∙ sym o')
read_one (no_room z l p o) (taken z' l' p' o') = absurd (omega arith)
read_one (taken z l p o) (not_taken n p' o') = absurd (n z)
read_one (taken z l p o) (no_room z' l' p' o') = absurd (omega arith)
read_one (taken z l p o) (taken z' l' p' o') = (p ∙ sym p', o ∙ sym o')

-- the take in a file
pub take-one : {file : List ℕ} {t u : WaveTake} → TakeIn file t → TakeIn file u → t ≡ u
take-one (no-take n e) (no-take m f) = e ∙ sym f
take-one (no-take n e) (a_take z f l) = absurd (n z)
take-one (a_take z e l) (no-take m f) = absurd (m z)
take-one (a_take z e l) (a_take y f k) = e ∙ sym f

-- ---- the least number
pub file-least : (file : List ℕ) → Least (tests file) (refusal file)
unfolding refusal tests
file-least file = refused-least 0 (tests file) refl

module _ {file : List ℕ} {out out' : List ℤ} {r : WaveRead} where
  number_is : WasRead file out r out' → r.number ≡ refused_by (read_tests file (length out))
  unfolding refusal tests refused_by
  number_is (not_taken n p o) = ap (λ (k : WaveRead). k.number) p ∙ sym (refused-first (tests file) ((25, ltb (length out) (count_of file)) ∷ []) n)
  number_is (no_room z l p o) =
      ap (λ (k : WaveRead). k.number) p ∙ sym (refused-next 0 (tests file) ((25, ltb (length out) (count_of file)) ∷ []) refl z ∙ rw (lt-ltb (length out) (count_of file) l))
  number_is (taken z l p o) =
      ap (λ (k : WaveRead). k.number) p ∙ sym (refused-next 0 (tests file) ((25, ltb (length out) (count_of file)) ∷ []) refl z ∙ rw (le-ltb (length out) (count_of file) l))

pub read-least : {file : List ℕ} {out out' : List ℤ} {r : WaveRead} → WasRead file out r out' → Least (read_tests file (length out)) r.number
unfolding tests
read-least {file} {out} {r = r} p = subst (Least (read_tests file (length out))) (sym (number_is p)) (refused-least 0 (read_tests file (length out)) refl)
