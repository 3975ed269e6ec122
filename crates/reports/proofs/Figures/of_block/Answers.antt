-- `Figures::of_block` meets its contract: each sample is counted after those before it.
use Rattle.std.proofs.Common.{◌≡◌, Bool, true, false, cond, not, refl, ◌∷◌, [], ◌++◌, ℕ, ◌+◌, ◌≤◌, ◌<◌, length, take, get_or, take_all, sym, ap, ◌∙◌, arith}
use mir.Val.{bool_byte}
use Rattle.std.specs.Int.{abs_diff}
use Rattle.std.proofs.lemmas.List.{length_push}
use Rattle.std.proofs.lemmas.Slice.Zip.{zip_turn, zip_end}
use Rattle.rules.specs.Rules.{away, fresh_rate}
use Rattle.reports.specs.Counting.{pitched_in, distance_in, one_pitched}
use Rattle.reports.proofs.Counting.{none-pitched, no_distance, pitched-more, distance-more, one_pitched_few}
use Rattle.reports.proofs.Figures.of_block.Goals as goal

one_or_none : (b : Bool) → bool_byte (not b) ≡ cond b 0 1
one_or_none true = refl
one_or_none false = refl

far : (r : ℕ) → r < 4294967296 → (abs_diff r 65536 ≡ away r fresh_rate) × (away r fresh_rate ≤ 4294967296)
far r h = (omega arith, omega arith)

pub loop-period-init : goal.loop-period-init
loop-period-init c = record { can = (tt, tt); finite = tt; pitched_is = sym none-pitched; sum_is = sym no_distance; pitched_few = omega arith; sum_few = omega arith; within = omega arith }

pub loop-period-preserved : goal.loop-period-preserved
loop-period-preserved c =
    let a = c.args in
    let l = c.loop-period in
    let v = l.invariant in
    let i = length l.yielded in
    let t = zip_turn a.periods.now a.rates.now l.yielded c.into_iter-period-iterator.result l.period-iterator c.next.new.self c.next.result (cc) (cc) l.yielded_by (c.in-Some.period, c.in-Some.rate) c.in-Some.is c.next.ensures.steps in
    let n : length (l.yielded ++ ((c.in-Some.period, c.in-Some.rate) ∷ [])) ≡ i + 1 = length_push l.yielded (c.in-Some.period, c.in-Some.rate) in
    let p : c.from-pitched.result ≡ one_pitched (get_or a.periods.now i 0) = c.from-pitched.ensures ∙ one_or_none _ ∙ ap one_pitched (t.2 0) in
    let r : c.in-Some.rate.now ≡ get_or a.rates.now i 0 = t.3 0 in
    let d = far c.in-Some.rate.now (omega (arith, r, c.type_inv.rates i)) in
    let s : c.from-sum.result ≡ away (get_or a.rates.now i 0) fresh_rate = c.from-sum.ensures ∙ c.abs_diff.ensures ∙ d.0 ∙ ap (λ (m : ℕ). away m fresh_rate) r in
    record {
      can = (tt, tt);
      finite = tt;
      pitched_is = (λ j. v.pitched_is j + p j) ∙ sym (pitched-more a.periods.now i t.0) ∙ ap (λ (m : ℕ). pitched_in (take m a.periods.now)) (sym n);
      sum_is = (λ j. v.sum_is j + s j) ∙ sym (distance-more a.rates.now i t.1) ∙ ap (λ (m : ℕ). distance_in (take m a.rates.now)) (sym n);
      pitched_few = omega (arith, n, p, one_pitched_few (get_or a.periods.now i 0));
      sum_few = omega (arith, n, d.0, d.1, c.from-sum.ensures, c.abs_diff.ensures);
      within = omega (arith, n, t.0);
    }

pub returns : goal.returns
returns c =
    let a = c.args in
    let l = c.loop-period in
    let v = l.invariant in
    let e = zip_end a.periods.now a.rates.now l.yielded c.into_iter-period-iterator.result l.period-iterator c.next.new.self c.next.result (cc) (cc) l.yielded_by c.in-None.is c.next.ensures.steps in
    let p : take (length l.yielded) a.periods.now ≡ a.periods.now = take_all _ _ (omega (arith, e, c.requires.1)) in
    let r : take (length l.yielded) a.rates.now ≡ a.rates.now = take_all _ _ (omega (arith, e, c.requires.1)) in
    λ j. record {
      samples = length a.periods.now;
      pitched = (v.pitched_is ∙ ap pitched_in p) j;
      repeated = c.from.ensures j;
      dropped = c.from-2.ensures j;
      sum = (v.sum_is ∙ ap distance_in r) j;
    }
