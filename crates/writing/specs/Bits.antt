-- Laws of a sample as sixteen bits, and of samples whose bytes are stored one after the other.
use Rattle.std.specs.Prelude.{◌≡◌, refl, List, [], ◌∷◌, ◌++◌, ℕ, ◌+◌, ◌-◌, ◌*◌, ◌<◌, ℤ, pos, negsuc, length, get_or, take}
use Rattle.std.proofs.Common.{sym, ap, ◌∙◌, append-nil, append_assoc, add-one, arith, length-append, length-take-le, take-suc, SFits}
use Rattle.std.proofs.lemmas.List.Edits.{sets}
use Rattle.std.specs.Int.{w16, cast_unsigned}
use Rattle.riff.specs.Riff.{bytes_of}
use Rattle.riff.specs.Stores.{stored_then}
use Rattle.riff.specs.Numbers.{length-bytes_of}
use Rattle.wave.specs.Waves.{sample_of}
use Rattle.wave.specs.Samples.{sample-low, sample-high}
use Rattle.writing.specs.Canonical.{bits_of, sample_bytes}

-- ---- a sample as bits
pub bits_small : (x : ℤ) → SFits w16 x → bits_of x < 65536
unfolding bits_of
bits_small (pos n) f = omega (arith, f.sfits)
bits_small (negsuc n) f = omega arith

-- as std has it
pub bits_cast : (x : ℤ) → cast_unsigned w16 x ≡ bits_of x
unfolding bits_of
bits_cast (pos n) = refl
bits_cast (negsuc n) = omega arith

-- ---- back
pub sample-back : (x : ℤ) → SFits w16 x → sample_of (bits_of x) ≡ x
unfolding bits_of
sample-back (pos n) f = sample-low n f.sfits
sample-back (negsuc n) f = let e : 65535 - (65535 - n) ≡ n = omega (arith, f.sfits) in sample-high (65535 - n) (omega (arith, f.sfits)) ∙ ap negsuc e

-- ---- many
pub length-sample_bytes : (xs : List ℤ) → length (sample_bytes xs) ≡ 2 * length xs
unfolding sample_bytes
length-sample_bytes [] = refl
length-sample_bytes (x ∷ xs) = omega (arith, length-append (bytes_of 2 (bits_of x)) (sample_bytes xs), length-bytes_of 2 (bits_of x), length-sample_bytes xs)

pub bytes-more : (xs : List ℤ) (x : ℤ) → sample_bytes (xs ++ (x ∷ [])) ≡ sample_bytes xs ++ bytes_of 2 (bits_of x)
unfolding sample_bytes
bytes-more [] x = append-nil (bytes_of 2 (bits_of x))
bytes-more (y ∷ xs) x = ap (λ (l : List ℕ). bytes_of 2 (bits_of y) ++ l) (bytes-more xs x) ∙ sym (append_assoc (bytes_of 2 (bits_of y)) (sample_bytes xs) (bytes_of 2 (bits_of x)))

pub bytes-put : (xs : List ℤ) (i : ℕ) (l : List ℕ) {out out' : List ℕ} → i < length xs → out ≡ sets l 0 (sample_bytes (take i xs)) → out' ≡ sets out (2 * i) (bytes_of 2 (bits_of (get_or xs i (pos 0)))) →
    out' ≡ sets l 0 (sample_bytes (take (i + 1) xs))
bytes-put xs i l {out} h p q =
    let x = get_or xs i (pos 0) in
    let n = length-sample_bytes (take i xs) ∙ ap (λ (k : ℕ). 2 * k) (length-take-le i xs (omega arith)) in
    stored_then l 0 (2 * i) (sample_bytes (take i xs)) (bytes_of 2 (bits_of x)) n p (q ∙ ap (λ (k : ℕ). sets out k (bytes_of 2 (bits_of x))) (let e : 2 * i ≡ 0 + 2 * i = omega arith in e))
    ∙ ap (sets l 0) (sym (ap sample_bytes (ap (λ (k : ℕ). take k xs) (add-one i) ∙ take-suc xs i (pos 0) h) ∙ bytes-more (take i xs) x))
