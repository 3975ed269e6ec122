-- A file whose pieces are given to a seek, each as it is wanted: what the seek comes to. Definitions only.
use Rattle.std.specs.Prelude.{◌≡◌, List, ℕ, zero, suc, ◌+◌, ◌/◌, ◌^◌, ◌≤◌, ◌<◌, length, take, drop}
use Rattle.wave.specs.Judged.{TakeIn}
use Rattle.mending.specs.Mendings.{mending_of}
use Rattle.seeking.specs.declared.Piece.{Piece}
use Rattle.seeking.specs.declared.Seek.{Seek}
use Rattle.seeking.specs.Seeks.{begun, given_to, found_in, mended_in}

-- the piece of a file that is wanted
abbrev pub piece_of : List ℕ → Piece → List ℕ
piece_of file p = take p.count (drop p.at file)

-- a seek after so many of them
abbrev pub fed : List ℕ → (n : ℕ) → Seek → Seek
fed file zero s = s
fed file (suc n) s = fed file n (given_to s (piece_of file s.wanted))

abbrev pub sought : List ℕ → (mends n : ℕ) → Seek
sought file mends n = fed file n (begun (length file) mends)

-- what is wanted lies in the file; after an eighth as many pieces as the file has bytes, and one, no more is wanted; the seek has then found the file's take, or what is mended in it
pub record Sought (file : List ℕ) : Type 0 where
  pub inside : (mends n : ℕ) → (sought file mends n).wanted.at + (sought file mends n).wanted.count ≤ length file
  pub ends : (mends n : ℕ) → length file / 8 + 1 ≤ n → (sought file mends n).wanted.count ≡ 0
  pub found : (n : ℕ) → length file / 8 + 1 ≤ n → TakeIn file (found_in (sought file 0 n))
  pub mended : (n : ℕ) → length file / 8 + 1 ≤ n → mended_in (sought file 1 n) ≡ mending_of file

-- every file (none has 2 ^ 63 bytes)
abbrev pub SeekTheorem : Type 0
SeekTheorem = (file : List ℕ) → length file < 2 ^ 63 → Sought file
