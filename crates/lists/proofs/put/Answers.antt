-- `lists::put` meets its contract: three numbers are stored one after the other.
use native.Mathlib.Omega.{arith}
use Prim.Native.Nat.{◌+◌, ◌*◌}
use lib.ListN.{set, length-set}
use Rattle.lists.proofs.Stores.{put_is}
use Rattle.lists.proofs.put.Goals as goal

pub bounds-store-at-2 : goal.bounds-store-at-2
bounds-store-at-2 c = let a = c.args in omega (arith, length-set a.store.now (3 * a.place) a.note)

pub bounds-store-at-3 : goal.bounds-store-at-3
bounds-store-at-3 c =
    let a = c.args in
    let s = set a.store.now (3 * a.place) a.note in
    omega (arith, length-set a.store.now (3 * a.place) a.note, length-set s (3 * a.place + 1) a.first)

pub returns : goal.returns
returns c = let a = c.args in put_is a.store.now a.place (omega arith) a.note a.first a.count
