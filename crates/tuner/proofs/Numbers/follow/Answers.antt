-- `tuner::Numbers::follow` meets its contract: each follower from the same tones.
use mathlib.Core.Path.{◌≡◌}
use Prim.Native.Nat.{◌-◌, ◌≤◌}
use native.Mathlib.Omega.{arith}
use lib.ListN.{length, take}
use Rattle.lists.proofs.Counting.{counted-front, counted-within}
use Rattle.reports.specs.Counting.{pitched_in}
use Rattle.tuner.specs.Taking.{numbers_with}
use Rattle.tuner.proofs.Taking.{pitched-counted}
use Rattle.tuner.proofs.Numbers.follow.Goals as goal

pub overflow_sub-pitched : goal.overflow_sub-pitched
overflow_sub-pitched c = let a = c.args in let p = c.requires in omega (arith, c.count_of.ensures, counted-front 0 a.ts.now.periods a.b (omega (arith, p.few, p.long.periods)), counted-within 0 a.ts.now.periods a.b)

pub listed-self-requires : goal.listed-self-requires
listed-self-requires c =
    let a = c.args in
    let p = c.requires in
    (p.few, p.count, p.list, omega (arith, c.count_of.ensures, counted-front 0 a.ts.now.periods a.b (omega (arith, p.few, p.long.periods)), counted-within 0 a.ts.now.periods a.b))

pub returns : goal.returns
returns c =
    let a = c.args in
    let n = a.self.now in
    let ts = a.ts.now in
    let p = c.requires in
    let d = c.led-g in
    let sang = c.all_sung in
    let on = c.listed-self in
    let w = c.settled-self in
    let many = c.count_of in
    let pitched : a.b - many.result ≡ pitched_in (take a.b ts.periods) = (let fits : a.b ≤ length ts.periods = omega (arith, p.few, p.long.periods) in omega (arith, many.ensures, counted-front 0 ts.periods a.b fits, pitched-counted ts.periods a.b fits)) in
    record {
      lead = d.result;
      out = d.new.out;
      glided = d.ensures;
      pitch = w.ensures;
      numbers =
          λ i. numbers_with n (c.from-self.ensures i) w.result (c.from-self-2.ensures i)
          (record { number = a.number; length = a.b; repeated = d.result.repeated; dropped = d.result.dropped; pitched = pitched i; strayed = c.strayed.ensures i }) on.result sang.new.vs;
      list = on.ensures;
      voices = sang.ensures;
    }
