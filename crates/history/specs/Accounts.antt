-- The account of the read position, over any history: each sample's growth adds its rate, takes off what it repeats and puts on what it drops,
-- and accounts of samples one after the other add up (`accounted-append`); so nothing else moves the position, neither new settings nor a byte from the keyboard.
use Rattle.std.specs.Prelude.{List, ℤ, pos, ◌+ℤ◌, ◌-ℤ◌}
use Rattle.rules.specs.Rules.{Given, cycles, all_repeated, all_dropped}
use Rattle.history.specs.History.{rates_used, total_of}

-- ---- the account

-- from a position on: the sum of all rates used, minus the period of every cycle repeated, plus the period of every cycle dropped
abbrev pub accounted : ℤ → List Given → ℤ
accounted at gs = at +ℤ pos (total_of (rates_used gs)) -ℤ pos (cycles (all_repeated gs)) +ℤ pos (cycles (all_dropped gs))
