-- Notes of which those without a period are hushed: the notes sung.
use Rattle.std.specs.Prelude.{cond, List, [], ◌∷◌, ℕ, zero, suc, eqb}
use Rattle.rules.specs.Rules.{no_note}

-- the first n notes, each none where its period is 0
unfoldable pub hushed : ℕ → (periods notes : List ℕ) → List ℕ
hushed zero ps ns = ns
hushed (suc n) [] ns = ns
hushed (suc n) (p ∷ ps) [] = []
hushed (suc n) (p ∷ ps) (m ∷ ns) = cond (eqb p 0) no_note m ∷ hushed n ps ns
