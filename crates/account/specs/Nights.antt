-- A night sent again. After a night the last block is the last of its blocks that were taken or given again, so that its first number is neither that block's nor the one due, unless the numbers have wrapped.
-- A night that took its first block alone ends with it as the last block, so that it is given again, and what was refused behind it is refused once more.
use Rattle.std.specs.Prelude.{◌≡◌, ℕ, ◌+◌, ◌-◌, ◌%◌, ◌<◌, ℤ, length}
use mathlib.Core.List.{List}
use Rattle.tuner.specs.declared.Tuner.{Tuner}
use Rattle.tuner.specs.declared.Answer.{Answer}
use Rattle.tuner.specs.Tuners.{written, taken}
use Rattle.nights.specs.declared.NightAnswer.{NightAnswer}
use Rattle.nights.specs.Night as Night
use Rattle.nights.specs.Night.{refused}
use Rattle.account.specs.Account.{again, night_again}

-- ---- how far a night went

-- there is a last block, and this number is due behind it
abbrev pub DueAfter : Tuner → ℕ → Type 0
DueAfter u next = (0 < u.numbers.last.length) × ((u.numbers.last.number + 1) % 65536 ≡ next % 65536)

-- blocks of which none is given again: how many are taken
pub record Gone (t u : Tuner) (k : ℕ) (n n' : NightAnswer) : Type 0 where
  pub many : ℕ
  pub taken : n'.taken ≡ n.taken + many
  pub again : n'.again ≡ n.again
  pub none : many ≡ 0 → u ≡ t
  pub wrote : many ≡ 0 → n'.written ≡ n.written
  pub some : 0 < many → DueAfter u (k + many)

-- what was refused behind the one block is refused again, and no more is taken
pub record Ended (w w' : Tuner) (a b : NightAnswer) (store store' : List ℕ) : Type 0 where
  pub answer : b ≡ night_again a
  pub unchanged : w' ≡ w
  pub rows : store' ≡ store

-- the first block of a night that took it alone
pub record OneTaken (u v : Tuner) (xs : List ℤ) (a m : NightAnswer) (c : Answer) : Type 0 where
  pub zero_is : c.number ≡ 0
  pub stays : u ≡ v
  pub none : a.taken ≡ m.taken
  pub wrote : a.written ≡ length xs
