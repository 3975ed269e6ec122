-- Laws of writing: the room that the canonical form takes, and what is answered.
use Rattle.std.specs.Prelude.{◌≡◌, refl, not, List, ℕ, ◌+◌, ◌*◌, ◌≤◌, ltb, ℤ, length, Result, Ok, Err}
use Rattle.std.proofs.Common.{sym, ◌∙◌, arith, length-append, ltb-false}
use Rattle.std.proofs.lemmas.List.Edits.{sets}
use Rattle.refusals.specs.declared.Refusal.{Refusal}
use Rattle.riff.specs.Riff.{bytes_of}
use Rattle.riff.specs.Refusals.{passed}
use Rattle.riff.specs.Stores.{stored_then, sets-front}
use Rattle.wave.specs.Waves.{known}
use Rattle.wave.specs.Judging.{refusal_some}
use Rattle.writing.specs.Canonical.{sample_bytes, format, header, canonical, limit, unwritten_by, unwritten, Begun, written_answered, WasWritten, written, HeaderWritten, no_header, a-header}
use Rattle.writing.specs.Bits.{length-sample_bytes}

-- nothing refused: there is room
pub begun_long : (hertz count bytes room : ℕ) → unwritten_by hertz count bytes room ≡ 0 → bytes ≤ room
unfolding unwritten_by
begun_long hertz count bytes room u =
    let a = passed 15 (not (known hertz)) _ u in
    let b = passed 6 (ltb limit count) _ a.1 in
    ltb-false room bytes (passed 24 (ltb room bytes) _ b.1).0

-- 44 bytes, and two for each sample
pub length-header : (hertz size : ℕ) → length (header hertz size) ≡ 44
unfolding header format bytes_of
length-header hertz size = refl

pub length-canonical : (hertz : ℕ) (xs : List ℤ) → length (canonical hertz xs) ≡ 44 + 2 * length xs
length-canonical hertz xs = omega (arith, length-append (header hertz (2 * length xs)) (sample_bytes xs), length-header hertz (2 * length xs), length-sample_bytes xs)

-- the header that was written, or a refusal, as it is answered
pub header_answered : {hertz count : ℕ} {out out' : List ℕ} (r : Result ℕ Refusal) → Begun hertz count 44 out r out' → HeaderWritten hertz count out (written_answered r) out'
header_answered (Err refused) (u, o) = no_header (λ z. omega (arith, u, z, refusal_some refused)) (λ i. record { number = sym u i; length = 0 }) o
header_answered {hertz} {count} {out} (Ok bytes) (u, e, h, o) =
    a-header u (λ i. record { number = 0; length = e i }) (o ∙ sets-front out (header hertz (2 * count)) (omega (arith, length-header hertz (2 * count))))

-- the header, and the samples behind it
pub take_written : {hertz n : ℕ} {xs : List ℤ} {out front out' : List ℕ} → unwritten hertz xs (length out) ≡ 0 → n ≡ 44 + 2 * length xs → front ≡ sets out 0 (header hertz (2 * length xs)) → out' ≡ sets front 44 (sample_bytes xs) →
    WasWritten hertz xs out (record { number = 0; length = n }) out'
take_written {hertz} {n} {xs} {out} u e p q =
    written u (λ i. record { number = 0; length = e i })
    (stored_then out 0 44 (header hertz (2 * length xs)) (sample_bytes xs) (length-header hertz (2 * length xs)) p q
    ∙ sets-front out (canonical hertz xs) (omega (arith, length-canonical hertz xs, begun_long hertz (length xs) (44 + 2 * length xs) (length out) u)))
