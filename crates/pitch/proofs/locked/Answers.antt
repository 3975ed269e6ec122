-- `pitch::locked` meets its contract: the eight lags from the found lag minus 3, with their sums right at once.
use Rattle.pitch.specs.Listening.{became_locked}
use Rattle.pitch.proofs.locked.Goals as goal

pub returns : goal.returns
returns c =
    let s = c in
    became_locked s.args.lag s.requires.0 s.requires.1 c.at.ensures c.no_tone.ensures
