-- What the types of numbers and of a tuner say of their arrays. A proof of a function with the numbers n as its first parameter cites `voices-long c.args.n _ c.well_formed.0`.
-- Assumes nothing.
use mathlib.Core.Path.{◌≡◌}
use mathlib.Core.List.{List}
use borrow.Author.Rules.{length_unmapped}
use lib.ListN.{length}
use mir.Val.{Val}
use denote.Laws.{Is}
use Rattle.record.proofs.Fields.{field-samples}
use Rattle.record.specs.Parts.{Stores}
use Rattle.tuner.specs.declared.Numbers.{Numbers}
use Rattle.tuner.specs.declared.Tuner.{Tuner}
use Rattle.tuner.specs.Tuners.{heard_by}
use Rattle.tuner.specs.contracts.Numbers as numbers
use Rattle.tuner.specs.contracts.Tuner.{the_row}

pub voices-long : (n : Numbers) (vs : List Val) → Is numbers.the_row n vs → length n.voices ≡ 3
voices-long n vs p = p.1.1.1.1.1.1.1.1.1.1.1.1.1.0.1.0.1

pub stores : (t : Tuner) (vs : List Val) → Is the_row t vs → Stores (heard_by t)
stores t vs p =
    record {
      store = search length_unmapped;
      eighths = search length_unmapped;
      energies = search length_unmapped;
      correlations = search length_unmapped;
      store_fits = search field-samples;
      eighths_fit = search field-samples;
    }

pub outs-long : (t : Tuner) (vs : List Val) → Is the_row t vs → length t.outs ≡ 2048
outs-long t vs p = search length_unmapped
