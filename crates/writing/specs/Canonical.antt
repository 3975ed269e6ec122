-- The canonical form of a take as a RIFF WAVE file, a header of 44 bytes and the samples, what writing promises, and that reading and writing give each other back. Definitions only.
use Rattle.std.specs.Prelude.{◌≡◌, not, List, [], ◌∷◌, ◌++◌, ℕ, ◌+◌, ◌-◌, ◌*◌, ◌≤◌, ◌<◌, ltb, ℤ, pos, negsuc, length, get_or, take, Result, Ok, Err, MatchResult}
use Rattle.std.specs.Int.{w16}
use Rattle.std.proofs.Common.{SFits}
use Rattle.std.proofs.lemmas.List.Edits.{sets}
use Rattle.refusals.specs.declared.Refusal.{Refusal}
use Rattle.refusals.specs.Refusals.{refusal_number}
use Rattle.riff.specs.Riff.{bytes_of, head_bytes, fmt_name, data_name, refused_by}
use Rattle.wave.specs.declared.WaveRead.{WaveRead}
use Rattle.wave.specs.Waves.{riff_name, wave_name, known, refusal, rate_of, count_of, samples_of, over, WasRead}
use Rattle.writing.specs.declared.WaveWritten.{WaveWritten}

-- ---- the canonical form

-- a sample as sixteen bits, and samples as bytes
unfoldable pub bits_of : ℤ → ℕ
bits_of (pos n) = n
bits_of (negsuc n) = 65535 - n

unfoldable pub sample_bytes : List ℤ → List ℕ
sample_bytes [] = []
sample_bytes (x ∷ xs) = bytes_of 2 (bits_of x) ++ sample_bytes xs

-- the 16 bytes of fmt, and the 44 before so many bytes of samples
unfoldable pub format : (hertz : ℕ) → List ℕ
format hertz = bytes_of 2 1 ++ bytes_of 2 1 ++ bytes_of 4 hertz ++ bytes_of 4 (2 * hertz) ++ bytes_of 2 2 ++ bytes_of 2 16

unfoldable pub header : (hertz size : ℕ) → List ℕ
header hertz size = head_bytes riff_name (36 + size) ++ bytes_of 4 wave_name ++ head_bytes fmt_name 16 ++ format hertz ++ head_bytes data_name size

abbrev pub canonical : (hertz : ℕ) → List ℤ → List ℕ
canonical hertz xs = header hertz (2 * length xs) ++ sample_bytes xs

-- ---- what writing promises

-- the most samples of a take that is written
abbrev pub limit : ℕ
limit = 1000000000

-- the number that writing is refused by: 16 for a sample rate that is not known, then 7 over the limit, then 25 where the output has not room for all bytes
unfoldable pub unwritten_by : (hertz count bytes room : ℕ) → ℕ
unwritten_by hertz count bytes room = refused_by ((16, not (known hertz)) ∷ (7, ltb limit count) ∷ (25, ltb room bytes) ∷ [])

abbrev pub unwritten : (hertz : ℕ) → List ℤ → (room : ℕ) → ℕ
unwritten hertz xs room = unwritten_by hertz (length xs) (44 + 2 * length xs) room

-- the header before so many samples, where there is room for so many bytes; or a refusal, and nothing is written
abbrev pub Begun : (hertz count bytes : ℕ) → List ℕ → Result ℕ Refusal → List ℕ → Type 0
Begun hertz count bytes out r out' =
    MatchResult r (λ written. (unwritten_by hertz count bytes (length out) ≡ 0) × (written ≡ bytes) × (bytes ≤ length out) × (out' ≡ sets out 0 (header hertz (2 * count))))
    (λ refused. (unwritten_by hertz count bytes (length out) ≡ refusal_number refused) × (out' ≡ out))

-- the bytes written, or a refusal, as it is answered
abbrev pub written_answered : Result ℕ Refusal → WaveWritten
written_answered (Ok bytes) = record { number = 0; length = bytes }
written_answered (Err refused) = record { number = refusal_number refused; length = 0 }

-- the promise of writing: it is refused, and nothing is written; or the canonical form is
pub data WasWritten (hertz : ℕ) (xs : List ℤ) (out : List ℕ) (r : WaveWritten) (out' : List ℕ) : Type 0 where
  not_written : (unwritten hertz xs (length out) ≡ 0 → ⊥) → r ≡ record { number = unwritten hertz xs (length out); length = 0 } → out' ≡ out → WasWritten hertz xs out r out'
  written : unwritten hertz xs (length out) ≡ 0 → r ≡ record { number = 0; length = 44 + 2 * length xs } → out' ≡ over (canonical hertz xs) out → WasWritten hertz xs out r out'

-- the promise of writing the header alone, before so many samples
pub data HeaderWritten (hertz count : ℕ) (out : List ℕ) (r : WaveWritten) (out' : List ℕ) : Type 0 where
  no_header : (unwritten_by hertz count 44 (length out) ≡ 0 → ⊥) → r ≡ record { number = unwritten_by hertz count 44 (length out); length = 0 } → out' ≡ out → HeaderWritten hertz count out r out'
  a-header : unwritten_by hertz count 44 (length out) ≡ 0 → r ≡ record { number = 0; length = 44 } → out' ≡ over (header hertz (2 * count)) out → HeaderWritten hertz count out r out'

-- ---- the statements of the theorems

-- what a lent slice of bytes holds, and one of 16-bit samples
abbrev pub Bytes : List ℕ → Type 0
Bytes bs = (i : ℕ) → get_or bs i 0 < 256

abbrev pub Samples : List ℤ → Type 0
Samples xs = (i : ℕ) → SFits w16 (get_or xs i (pos 0))

-- a file is taken, and its take is these samples at this rate
pub record TakeOf (file : List ℕ) (hertz : ℕ) (xs : List ℤ) : Type 0 where
  pub taken : refusal file ≡ 0
  pub rate : rate_of file ≡ hertz
  pub count : count_of file ≡ length xs
  pub samples : samples_of file ≡ xs

-- the canonical form of a file that is taken
abbrev pub form_of : List ℕ → List ℕ
form_of file = canonical (rate_of file) (samples_of file)

-- a file is read, what was read is written, and these are the bytes written
pub data Rewritten (file : List ℕ) : List ℕ → Type 0 where
  rewritten : {room room' : List ℤ} {r : WaveRead} {out out' : List ℕ} {w : WaveWritten} → WasRead file room r room' → r.number ≡ 0 → WasWritten r.hertz (take r.count room') out w out' → w.number ≡ 0 → Rewritten file (take w.length out')

-- where there is room, reading the file gives these samples at this rate
abbrev pub ReadAs : (file : List ℕ) (hertz : ℕ) → List ℤ → Type 0
ReadAs file hertz xs = (room room' : List ℤ) (r : WaveRead) → length xs ≤ length room → WasRead file room r room' → (r ≡ record { number = 0; count = length xs; hertz = hertz }) × (room' ≡ over xs room)

-- writing and then reading gives the samples back, from the bytes written alone and from the output with what stands behind them
abbrev pub WrittenIsRead : Type 0
WrittenIsRead = (hertz : ℕ) (xs : List ℤ) (out out' : List ℕ) (w : WaveWritten) → Samples xs → WasWritten hertz xs out w out' → w.number ≡ 0 → ReadAs (take w.length out') hertz xs × ReadAs out' hertz xs

-- reading and then writing gives the canonical form
abbrev pub ReadIsWritten : Type 0
ReadIsWritten = (file bytes : List ℕ) → Rewritten file bytes → bytes ≡ form_of file

-- which is a fixed point: it holds the same take, and reading and then writing it gives it again
abbrev pub FormIsFixed : Type 0
FormIsFixed = (file bytes : List ℕ) → Bytes file → Rewritten file bytes → TakeOf bytes (rate_of file) (samples_of file) × ((again : List ℕ) → Rewritten bytes again → again ≡ bytes)
