-- The list of a take after any series of calls that lend the store each time as it was left. It is the one worked out afresh (`list-holds`).
-- Block for block and night for night the notes of the samples come behind those before them, and the list is a fold over them.
use Rattle.std.specs.Prelude.{◌≡◌, ℕ}
use mathlib.Core.List.{List}
use Rattle.rules.specs.Rules.{no_note}
use Rattle.lists.specs.Lists.{sheet, empty_listing, after_notes}
use Rattle.tuner.specs.declared.Tuner.{Tuner}
use Rattle.account.specs.Account.{Received, notes_of}

-- the list so far: a fold over the notes so far
abbrev pub Listed : List ℕ → Received → Tuner → List ℕ → Type 0
Listed began r t now = (r.listed ≡ 0 → ⊥) → sheet t.numbers.list now ≡ after_notes no_note 0 (sheet empty_listing began) (notes_of r)
