-- `notes::smooth` meets its contract. Each product is at most 256 times the greatest rate, so that their sum and what was kept fit 32 bits.
use borrow.Author.Rules.{rules}
use Prim.Native.Nat.{◌-◌, ◌≤◌}
use native.Mathlib.Nat.{mul-le-mul}
use native.Mathlib.Omega.{arith}
use Rattle.rules.specs.Rules.{smooth_total, smooth_rate, smooth_kept}
use Rattle.notes.proofs.smooth.Goals as goal

pub overflow_mul-total : goal.overflow_mul-total
overflow_mul-total c = omega (arith, mul-le-mul c.requires.0 c.requires.1)

pub overflow_mul-total-2 : goal.overflow_mul-total-2
overflow_mul-total-2 c = let d : 256 - c.args.decay ≤ 256 = omega arith in omega (arith, mul-le-mul d c.requires.3)

pub overflow_add-total : goal.overflow_add-total
overflow_add-total c =
    let d : 256 - c.args.decay ≤ 256 = omega arith in
    omega (arith, mul-le-mul c.requires.0 c.requires.1, mul-le-mul d c.requires.3)

pub overflow_add-total-2 : goal.overflow_add-total-2
overflow_add-total-2 c =
    let d : 256 - c.args.decay ≤ 256 = omega arith in
    omega (arith, mul-le-mul c.requires.0 c.requires.1, mul-le-mul d c.requires.3)

pub returns : goal.returns
unfolding smooth_total smooth_rate smooth_kept
returns c = search rules
