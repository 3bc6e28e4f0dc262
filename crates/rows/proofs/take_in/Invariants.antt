-- `rows::take_in` meets its contract. The loop's invariant: row `to` took in the first `j` words of row `from`.
use mathlib.Core.Bool.{true}
use Prim.Native.Nat.{◌≤◌}
use Rattle.model.specs.Limits.{row_words}
use Rattle.rows.specs.Rounds.{Joined}
use Rattle.rows.proofs.take_in.Given as goal

abbrev pub invariant-loop-j : goal.invariant-loop-j
invariant-loop-j l = (l.j ≤ row_words) × Joined row_words l.initial.part l.part l.to l.other l.from true l.j
