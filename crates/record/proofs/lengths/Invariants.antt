-- `record::lengths` meets its contract. The loop's invariant: p is the first byte of section s, within the record, and no section before s is cut.
use Prim.Native.Nat.{◌+◌, ◌≤◌}
use mathlib.Core.Path.{◌≡◌}
use lib.ListN.{length}
use Rattle.model.specs.Answers.{up_to}
use Rattle.model.specs.Layout.{start, K}
use Rattle.record.proofs.Cuts.{cuts}
use Rattle.record.proofs.lengths.Given as goal

abbrev pub invariant-loop-s : goal.invariant-loop-s
invariant-loop-s l =
    (l.s ≤ K l.r + 1) × (l.p ≡ start l.r l.s) × (l.p ≤ length l.r) × ((up_to l.s (cuts l.r)).n ≡ 0)
