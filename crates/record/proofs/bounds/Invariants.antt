-- `record::bounds` meets its contract. The loop's invariant: p is the first byte of the next section, and no further on than the longest counts lead.
use Prim.Native.Nat.{◌+◌, ◌*◌, ◌≤◌}
use mathlib.Core.Path.{◌≡◌}
use Rattle.model.specs.Layout.{start}
use Rattle.record.proofs.bounds.Given as goal

abbrev pub invariant-loop : goal.invariant-loop
invariant-loop l = (l.counter ≤ l.s) × (l.p ≡ start l.r l.counter) × (l.p ≤ 17 + 1310702 * l.counter)
