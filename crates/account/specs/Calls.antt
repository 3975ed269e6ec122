-- A good tuner is never answered 9, and every series of calls leaves a good tuner.
-- The last block sent again, whatever was refused or set in between, gives the same: no such call touches the last block, its samples, the kept outputs or the list.
use Rattle.std.specs.Prelude.{◌≡◌, ◌-◌}
use Rattle.tuner.specs.declared.Tuner.{Tuner}
use Rattle.nights.specs.Night as Night

-- ---- what no such call touches

pub record SameLast (u w : Tuner) : Type 0 where
  pub count : w.numbers.count ≡ u.numbers.count
  pub heard : w.heard ≡ u.heard
  pub outs : w.outs ≡ u.outs
  pub last : w.numbers.last ≡ u.numbers.last
  pub chosen : w.numbers.chosen ≡ u.numbers.chosen
  pub list : w.numbers.list ≡ u.numbers.list
