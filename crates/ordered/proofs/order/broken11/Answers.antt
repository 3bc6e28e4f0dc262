-- `ordered::order::broken11` meets its contract.
use Prim.Native.Nat.{◌<◌}
use native.Mathlib.Omega.{arith}
use borrow.Author.Tests.{lt-ltb, le-ltb}
use Rattle.model.specs.Layout.{size, sync}
use Rattle.model.specs.Rules.{broken11}
use Rattle.model.proofs.Search.{count_le}
use Rattle.positions.specs.Firsts.{keys}
use Rattle.positions.proofs.Tables.{place_before}
use Rattle.ordered.proofs.order.broken11.Goals as goal

pub returns-else-sync : goal.returns-else-sync
unfolding broken11
returns-else-sync c = rw (← c.sync.ensures, c.if-sync.false)

pub returns-then-total-place : goal.returns-then-total-place
unfolding broken11
returns-then-total-place c =
    rw (← c.sync.ensures, c.if-sync.true, ← c.requires.total_value, ← c.place-place.ensures, lt-ltb _ _ c.if-total-place.true)

pub bounds-places-place : goal.bounds-places-place
bounds-places-place c = omega (arith, count_le (sync c.args.x.now) (size c.args.x.now))

pub returns-else-total-place : goal.returns-else-total-place
unfolding broken11
returns-else-total-place c =
    let x = c.args.x.now in
    let place = c.place-place in
    let small : place.result < keys = omega (arith, count_le (sync x) (size x)) in
    rw (
      place_before x (omega arith) c.args.a place.ensures small (omega arith) c.requires.places_value,
      ← c.sync.ensures,
      c.if-sync.true,
      ← c.requires.total_value,
      ← place.ensures,
      le-ltb _ _ c.if-total-place.false,
    )
