-- No second answer to the header before some samples, and to samples and bytes that are moved.
use Rattle.std.specs.Prelude.{◌≡◌, List, ℕ, ℤ, take}
use Rattle.std.proofs.Common.{sym, ap, ◌∙◌}
use Rattle.wave.specs.Waves.{samples_at, over}
use Rattle.writing.specs.declared.WaveWritten.{WaveWritten}
use Rattle.writing.specs.Canonical.{sample_bytes, HeaderWritten, no_header, a-header}
use Rattle.files.specs.Files.{SamplesMoved, BytesMoved}

pub header-one : {hertz count : ℕ} {out o₁ o₂ : List ℕ} {w₁ w₂ : WaveWritten} → HeaderWritten hertz count out w₁ o₁ → HeaderWritten hertz count out w₂ o₂ → (w₁ ≡ w₂) × (o₁ ≡ o₂)
header-one (no_header n p o) (no_header n' p' o') = (p ∙ sym p', o ∙ sym o')
header-one (no_header n p o) (a-header u p' o') = absurd (n u)
header-one (a-header u p o) (no_header n p' o') = absurd (n u)
header-one (a-header u p o) (a-header u' p' o') = (p ∙ sym p', o ∙ sym o')

pub samples_moved_one : {bytes : List ℕ} {out o₁ o₂ : List ℤ} {n₁ n₂ : ℕ} → SamplesMoved bytes out n₁ o₁ → SamplesMoved bytes out n₂ o₂ → (n₁ ≡ n₂) × (o₁ ≡ o₂)
samples_moved_one {bytes} {out} p q = let e = p.count ∙ sym q.count in (e, p.moved ∙ ap (λ (n : ℕ). over (samples_at bytes 0 n) out) e ∙ sym q.moved)

pub bytes_moved_one : {samples : List ℤ} {out o₁ o₂ : List ℕ} {n₁ n₂ : ℕ} → BytesMoved samples out n₁ o₁ → BytesMoved samples out n₂ o₂ → (n₁ ≡ n₂) × (o₁ ≡ o₂)
bytes_moved_one {samples} {out} p q = let e = p.count ∙ sym q.count in (e, p.moved ∙ ap (λ (n : ℕ). over (sample_bytes (take n samples)) out) e ∙ sym q.moved)
