-- What crosses to a host of WAVE files piece by piece: samples that are moved, and the pieces of a take put together. Definitions only.
use Rattle.std.specs.Prelude.{◌≡◌, List, [], ◌∷◌, ◌++◌, map, ℕ, ◌+◌, ◌*◌, ◌/◌, min, ℤ, length, take, drop}
use Rattle.wave.specs.Waves.{samples_at, over}
use Rattle.writing.specs.Canonical.{sample_bytes, header, canonical}

-- bytes as samples: as many as both have room for, at the front of the output
pub record SamplesMoved (bytes : List ℕ) (out : List ℤ) (n : ℕ) (out' : List ℤ) : Type 0 where
  pub count : n ≡ min (length bytes / 2) (length out)
  pub moved : out' ≡ over (samples_at bytes 0 n) out

-- samples as bytes
pub record BytesMoved (samples : List ℤ) (out : List ℕ) (n : ℕ) (out' : List ℕ) : Type 0 where
  pub count : n ≡ min (length samples) (length out / 2)
  pub moved : out' ≡ over (sample_bytes (take n samples)) out

-- ---- the statements of the theorems: takes that are moved in parts

-- parts, put together
abbrev pub joined : {A : Type 0} → List (List A) → List A
joined [] = []
joined (part ∷ parts) = part ++ joined parts

-- the header before all samples and then the bytes of each part are the canonical form
abbrev pub WrittenInParts : Type 0
WrittenInParts = (hertz : ℕ) (parts : List (List ℤ)) → header hertz (2 * length (joined parts)) ++ joined (map sample_bytes parts) ≡ canonical hertz (joined parts)

-- so many samples at a time, each time of the bytes behind those before: the samples of them all
abbrev pub parts_at : List ℕ → (at : ℕ) → (counts : List ℕ) → List (List ℤ)
parts_at file at [] = []
parts_at file at (n ∷ counts) = samples_at (take (2 * n) (drop at file)) 0 n ∷ parts_at file (at + 2 * n) counts

abbrev pub total : List ℕ → ℕ
total [] = 0
total (n ∷ counts) = n + total counts

abbrev pub ReadInParts : Type 0
ReadInParts = (file : List ℕ) (at : ℕ) (counts : List ℕ) → joined (parts_at file at counts) ≡ samples_at file at (total counts)
