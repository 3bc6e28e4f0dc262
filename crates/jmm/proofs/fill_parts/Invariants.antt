-- `jmm::fill_parts` meets its contract.
use Prim.Native.Nat.{◌≤◌}
use mathlib.Core.Path.{◌≡◌}
use Rattle.model.specs.WorkArea.{filled}
use Rattle.jmm.proofs.fill_parts.Given as goal

abbrev pub invariant-loop-s : goal.invariant-loop-s
invariant-loop-s l = (l.s ≤ l.parts) × (l.work ≡ filled l.«record» l.s l.initial.work)
