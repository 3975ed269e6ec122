use Rattle.std.proofs.Common.{rules}
use Rattle.nights.proofs.lengths.Goals as goal

pub returns : goal.returns
returns c = record { heard = search rules; eighths = search rules; energies = search rules; correlations = search rules; outs = search rules; voices = search rules }
