-- `singers::chosen_voice` meets its contract: an interval past the last is none.
use mathlib.Core.Path.{sym, ap, ◌∙◌}
use native.Mathlib.Omega.{arith}
use Rattle.singers.specs.Singers.{level_voice}
use Rattle.singers.specs.Voicing.{interval-none}
use Rattle.singers.proofs.chosen_voice.Goals as goal

pub returns-in-None : goal.returns-in-None
returns-in-None c = let a = c.args in c.level_voice-in-None.ensures ∙ ap level_voice (sym (interval-none a.intervals.now a.j (grind arith)))
