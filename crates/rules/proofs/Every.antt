-- A test that antt computes once over a whole list holds at each of its places.
-- The test reads the place, counted from any number, and the entry there.
use Rattle.std.specs.Prelude.{◌≡◌, Bool, true, List, [], ◌∷◌, ℕ, zero, suc, ◌+◌, ◌<◌, length, get_or}
use Rattle.std.proofs.Common.{add-zero, add-suc, suc-add, arith}
use Rattle.whole.specs.Tests.{and_left, and_right}
use Rattle.rules.specs.Every.{every}

pub at_each_place : {A : Type 0} (test : ℕ → A → Bool) (list : List A) (none : A) (i : ℕ) → every test i list ≡ true →
    (k : ℕ) → k < length list → test (i + k) (get_or list k none) ≡ true
at_each_place test [] none i e k h = absurd (omega arith)
at_each_place test (a ∷ more) none i e zero h = rw add-zero (and_left (test i a) (every test (suc i) more) e)
at_each_place test (a ∷ more) none i e (suc k) h =
    rw (add-suc, ← suc-add)
    (at_each_place test more none (suc i) (and_right (test i a) (every test (suc i) more) e) k (omega arith))
