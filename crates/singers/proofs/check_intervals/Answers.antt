-- `singers::check_intervals` meets its contract: its tests in their order.
use Rattle.std.specs.Prelude.{◌≡◌, Bool, true, false, ◌&&◌, List, [], ◌∷◌, ℕ, zero, suc, ◌≤◌, ◌<◌, leb, ℤ, pos, length, get_or}
use Rattle.std.proofs.Common.{refl, sym, ◌∙◌, arith, le-leb, leb-true}
use Rattle.whole.specs.Tests.{Decides, by, and_left, and_right}
use Rattle.singers.specs.Singers.{kept_interval, all_in_range}
use Rattle.singers.specs.Voicing.{number_18, number_19, number_0}
use Rattle.singers.proofs.check_intervals.Goals as goal

both : (a b : Bool) → a ≡ true → b ≡ true → a && b ≡ true
both true b e f = f
both false b e f = e

all-in : (zs : List ℤ) → ((i : ℕ) → i < length zs → kept_interval (get_or zs i (pos 0)) ≤ 24) → all_in_range zs ≡ true
unfolding all_in_range
all-in [] h = refl
all-in (z ∷ zs) h = both (leb (kept_interval z) 24) (all_in_range zs) (le-leb _ 24 (h 0 (omega arith))) (all-in zs (λ i l. h (suc i) (omega arith)))

each-in : (zs : List ℤ) → all_in_range zs ≡ true → (i : ℕ) → i < length zs → kept_interval (get_or zs i (pos 0)) ≤ 24
unfolding all_in_range
each-in [] e i h = absurd (omega arith)
each-in (z ∷ zs) e zero h = leb-true _ 24 (and_left (leb (kept_interval z) 24) (all_in_range zs) e)
each-in (z ∷ zs) e (suc i) h = each-in zs (and_right (leb (kept_interval z) 24) (all_in_range zs) e) i (omega arith)

-- what decides each place is the definition's test
is-in-range : {b : Bool} (zs : List ℤ) → Decides b ((i : ℕ) → i < length zs → kept_interval (get_or zs i (pos 0)) ≤ 24) → b ≡ all_in_range zs
is-in-range {b} zs d = by b (λ e. e ∙ sym (all-in zs (d.yes e))) (λ e. by (all_in_range zs) (λ t. absurd (d.no e (each-in zs t))) (λ f. e ∙ sym f))

pub returns-then-not-all_in_range : goal.returns-then-not-all_in_range
returns-then-not-all_in_range c = let zs = c.args.intervals.now in sym (number_18 zs (sym (is-in-range zs c.all_in_range.ensures) ∙ c.if-not-all_in_range.true))

pub returns-then-intervals-gt-MOST_VOICES : goal.returns-then-intervals-gt-MOST_VOICES
returns-then-intervals-gt-MOST_VOICES c = let zs = c.args.intervals.now in sym (number_19 zs (sym (is-in-range zs c.all_in_range.ensures) ∙ c.if-not-all_in_range.false) (omega arith))

pub returns : goal.returns
returns c = let zs = c.args.intervals.now in sym (number_0 zs (sym (is-in-range zs c.all_in_range.ensures) ∙ c.if-not-all_in_range.false) (omega arith))
