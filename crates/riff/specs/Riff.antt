-- RIFF files, in the words of Microsoft's and IBM's Multimedia Programming Interface and Data Specifications: numbers, chunks, and the walk over them. Definitions only.
-- A file is the list of its bytes, each 0 to 255, and a place counts from 0; past the file's end a byte counts as 0.
use Rattle.std.specs.Prelude.{◌≡◌, ◌⊎◌, Bool, true, false, cond, ◌||◌, List, [], ◌∷◌, ◌++◌, ℕ, zero, suc, ◌+◌, ◌*◌, ◌/◌, ◌%◌, ◌≤◌, leb, ltb, eqb, get_or, Option, Some, None}
use Rattle.riff.specs.declared.Chunk.{Chunk}

-- ---- numbers

-- the number of the k bytes from a place on, the least byte first
unfoldable pub number_at : List ℕ → ℕ → ℕ → ℕ
number_at file at zero = 0
number_at file at (suc k) = get_or file at 0 + 256 * number_at file (suc at) k

-- a number as k bytes, the least byte first
unfoldable pub bytes_of : ℕ → ℕ → List ℕ
bytes_of zero n = []
bytes_of (suc k) n = (n % 256) ∷ bytes_of k (n / 256)

-- ---- chunks

-- the chunk at a place: four bytes of name, four of size, then the body
abbrev pub chunk_at : List ℕ → ℕ → Chunk
chunk_at file at = record { at = at; name = number_at file at 4; size = number_at file (at + 4) 4 }

-- a chunk's name and size as bytes
abbrev pub head_bytes : (name size : ℕ) → List ℕ
head_bytes name size = bytes_of 4 name ++ bytes_of 4 size

-- where its body begins, and the place behind it
abbrev pub body : Chunk → ℕ
body c = c.at + 8

abbrev pub behind : Chunk → ℕ
behind c = body c + c.size

-- the next chunk's place: an odd body has a pad byte behind it
abbrev pub next : Chunk → ℕ
next c = behind c + c.size % 2

-- ---- the walk

-- the chunks from a place on, at most n of them: until under 8 bytes are left before the end
unfoldable pub chunks_from : (n : ℕ) → List ℕ → (end at : ℕ) → List Chunk
chunks_from zero file end at = []
chunks_from (suc n) file end at = cond (leb (at + 8) end) (chunk_at file at ∷ chunks_from n file end (next (chunk_at file at))) []

-- the chunks of a file as far as an end, behind "RIFF", a size and "WAVE"; there are fewer than bytes
abbrev pub chunks : List ℕ → (end : ℕ) → List Chunk
chunks file end = chunks_from end file end 12

-- the first chunk with a name
unfoldable pub first_of : ℕ → List Chunk → Option Chunk
first_of name [] = None
first_of name (c ∷ cs) = cond (eqb c.name name) (Some c) (first_of name cs)

-- a chunk runs past the end
unfoldable pub any_past : (end : ℕ) → List Chunk → Bool
any_past end [] = false
any_past end (c ∷ cs) = ltb end (behind c) || any_past end cs

-- the names "fmt " and "data"
abbrev pub fmt_name : ℕ
fmt_name = number_at (102 ∷ 109 ∷ 116 ∷ 32 ∷ []) 0 4

abbrev pub data_name : ℕ
data_name = number_at (100 ∷ 97 ∷ 116 ∷ 97 ∷ []) 0 4

-- ---- refusals

-- tests in their order, each with the number that it refuses by; the answer is the number of the first that holds, 0 where none does
unfoldable pub refused_by : List (ℕ × Bool) → ℕ
refused_by [] = 0
refused_by (test ∷ tests) = cond test.1 test.0 (refused_by tests)

-- a number applies: a test that has it holds
abbrev pub Applies : ℕ → List (ℕ × Bool) → Type 0
Applies n [] = ⊥
Applies n (test ∷ tests) = ((test.0 ≡ n) × (test.1 ≡ true)) ⊎ Applies n tests

-- the least number that applies; 0 where none does
pub data Least (tests : List (ℕ × Bool)) : ℕ → Type 0 where
  none_applies : ((m : ℕ) → Applies m tests → ⊥) → Least tests 0
  least : {n : ℕ} → Applies n tests → ((m : ℕ) → Applies m tests → n ≤ m) → Least tests n
