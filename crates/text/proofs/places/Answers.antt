-- `text::places` meets its contract: one place more than the logarithm, or all of them.
use Rattle.std.proofs.Common.{◌-◌, arith}
use Rattle.text.specs.Spelling.{places_from_log}
use Rattle.text.proofs.places.Goals as goal

pub returns-clause-value : goal.returns-clause-value
returns-clause-value c =
    let a = c.args in
    let h = c.checked_ilog10.ensures in
    omega (arith, places_from_log (a.most - 1) a.n c.checked_ilog10.result h.none h.power_le h.next_power_gt, c.unwrap_or-more.ensures, c.min.ensures)
