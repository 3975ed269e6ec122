-- `tuner::Numbers::begun_again` meets its contract: each voice is put level.
use borrow.Author.Rules.{rules}
use mathlib.Core.Path.{◌≡◌, sym, ap, ◌∙◌}
use mathlib.Core.List.{[], ◌∷◌}
use lib.ListN.{length}
use Rattle.tuner.specs.declared.Voice.{Voice}
use Rattle.tuner.specs.Tuners.{level_voice, fresh_numbers, begun_again}
use Rattle.tuner.proofs.Voices.{three}
use Rattle.tuner.proofs.Numbers.begun_again.Goals as goal

pub returns : goal.returns
unfolding begun_again
returns c =
    let n = c.args.self.now in
    let long : length n.voices ≡ 3 = search rules in
    c.fresh.ensures
    ∙ (λ i. fresh_numbers n.hertz n.settings n.listed n.chosen (c.level.ensures i ∷ c.level-2.ensures i ∷ c.level-3.ensures i ∷ []))
    ∙ ap (fresh_numbers n.hertz n.settings n.listed n.chosen) (sym (three (λ (v : Voice). level_voice v.interval) n.voices long))
