-- `lists::stretch` meets its contract: the listing goes on with its first sample, and the row is written as long as it is after its last.
use mathlib.Core.Path.{◌≡◌, ap, ◌∙◌}
use Prim.Native.Nat.{ℕ}
use native.Mathlib.Omega.{arith}
use lib.ListN.{length}
use Rattle.lists.specs.declared.Listing.{Listing}
use Rattle.lists.specs.Lists.{room, sheet, listing_after, store_after}
use Rattle.lists.specs.Folds.{after_stretch}
use Rattle.lists.proofs.Folds.{first-within}
use Rattle.lists.proofs.stretch.Goals.{After-listed-with}
use Rattle.lists.proofs.stretch.Goals as goal

with-is : (c : After-listed-with)
    → let a = c.args in c.listed-with.result ≡ listing_after (room (length a.store.now)) a.last a.at a.note a.l
with-is c =
    let a = c.args in
    c.listed-with.ensures ∙ ap (λ (n : ℕ). listing_after n a.last a.at a.note a.l) c.room.ensures

pub write-requires : goal.write-requires
write-requires c =
    let s = c in
    let a = s.args in
    let f = first-within (room (length a.store.now)) a.last a.at a.note a.l s.requires.0.first in
    omega (arith, f, ap (λ (l : Listing). l.first) (with-is (goal.at.write-requires c).After-listed-with), s.requires.1)

pub returns : goal.returns
unfolding after_stretch
returns c =
    let a = c.args in
    let e = with-is (goal.at.returns c).After-listed-with in
    λ i. sheet (e i) ((c.write.ensures ∙ ap (λ (l : Listing). store_after a.to a.note l a.store.now) e) i)
