-- The account of the read position, over any history: each sample's growth adds its rate, takes off what it repeats and puts on what it drops,
-- and accounts of samples one after the other add up (`accounted-append`); so nothing else moves the position, neither new settings nor a byte from the keyboard.
use Rattle.std.specs.Prelude.{◌≡◌, refl, List, [], ◌∷◌, ◌++◌, ℕ, ◌+◌, ℤ, pos, ◌+ℤ◌, ◌-ℤ◌}
use Rattle.std.proofs.Common.{sym, ◌∙◌, append-nil, add-zero, arith}
use Rattle.std.proofs.Math.Nat.{zero-add}
use Rattle.whole.specs.Ring.{var, con, ◌⊕◌, ◌⊖◌, solve}
use Rattle.rules.specs.declared.InForce.{InForce}
use Rattle.rules.specs.declared.Settings.{Settings}
use Rattle.rules.specs.Rules.{Take, Given, cycles, growth, fresh_take, stepped, gathered, all_repeated, all_dropped}
use Rattle.rules.proofs.Blocks.{gathered-append}
use Rattle.history.specs.History.{Event, sample, new-settings, byte, Course, fresh_course, force_at, happened, course_after, given_by, rates_used, total_of}
use Rattle.history.specs.Accounts.{accounted}

-- ---- accounts one after the other add up
total-append : (gs hs : List Given) → total_of (rates_used (gs ++ hs)) ≡ total_of (rates_used gs) + total_of (rates_used hs)
unfolding total_of
total-append [] hs = sym (zero-add (total_of (rates_used hs)))
total-append (g ∷ gs) hs = omega (arith, total-append gs hs)

pub cycles-append : (ps qs : List ℕ) → cycles (ps ++ qs) ≡ cycles ps + cycles qs
unfolding cycles
cycles-append [] qs = sym (zero-add (cycles qs))
cycles-append (p ∷ ps) qs = omega (arith, cycles-append ps qs)

nothing-accounted : (at : ℤ) → at ≡ accounted at []
unfolding total_of gathered cycles
nothing-accounted at = solve (at ∷ []) (var 0) (var 0 ⊕ con (pos 0) ⊖ con (pos 0) ⊕ con (pos 0)) refl

-- where z is an account, an account from z on is one account more
pub accounted-append : (at : ℤ) (gs hs : List Given) {z : ℤ} → z ≡ accounted at gs → accounted z hs ≡ accounted at (gs ++ hs)
accounted-append at gs hs e =
    simp (e, total-append, gathered-append, cycles-append)
    (solve (at ∷ pos (total_of (rates_used gs)) ∷ pos (total_of (rates_used hs)) ∷ pos (cycles (all_repeated gs)) ∷ pos (cycles (all_repeated hs)) ∷ pos (cycles (all_dropped gs)) ∷ pos (cycles (all_dropped hs)) ∷ [])
    (var 0 ⊕ var 1 ⊖ var 3 ⊕ var 5 ⊕ var 2 ⊖ var 4 ⊕ var 6)
    (var 0 ⊕ (var 1 ⊕ var 2) ⊖ (var 3 ⊕ var 4) ⊕ (var 5 ⊕ var 6))
    refl)

-- a growth is the account of its sample
one-accounted : (f : InForce) (t : Take) (x : ℤ) → (stepped f t x).next.position ≡ accounted t.position ((stepped f t x).given ∷ [])
unfolding stepped growth total_of gathered
one-accounted f t x = simp (append-nil, add-zero)

account-from : (c : Course) (es : List Event) → (course_after c es).take.position ≡ accounted c.take.position (given_by c es)
unfolding course_after given_by happened
account-from c [] = nothing-accounted c.take.position
account-from c (sample x ∷ es) =
    let next = happened c (sample x) in
    let given = (stepped (force_at c) c.take x).given in
    account-from next es ∙ accounted-append c.take.position (given ∷ []) (given_by next es) (one-accounted (force_at c) c.take x)
account-from c (new-settings s ∷ es) = account-from (happened c (new-settings s)) es
account-from c (byte b ∷ es) = account-from (happened c (byte b)) es

-- the read position equals the sum of all rates used, minus the period of every cycle repeated, plus the period of every cycle dropped
module _ (hertz : ℕ) (s : Settings) (es : List Event) where
  abbrev given : List Given
  given = given_by (fresh_course hertz s) es

  pub account : (course_after (fresh_course hertz s) es).take.position ≡ pos (total_of (rates_used given)) -ℤ pos (cycles (all_repeated given)) +ℤ pos (cycles (all_dropped given))
  unfolding fresh_take
  account = rw zero-add at (account-from (fresh_course hertz s) es)
