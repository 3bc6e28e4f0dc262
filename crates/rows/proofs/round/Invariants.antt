-- `rows::round` meets its contract. The loop's invariant: the rows before `a` are through round k. The words, being lent ones, have 64 bits, so those bits settle them.
use Prim.Native.Nat.{◌≤◌}
use Rattle.model.specs.Limits.{row_words}
use Rattle.model.proofs.Words.{Words}
use Rattle.rows.specs.Rounds.{Round}
use Rattle.rows.proofs.round.Given as goal

abbrev pub invariant-loop-a : goal.invariant-loop-a
invariant-loop-a l = (l.a ≤ l.n) × Words l.part × Round row_words l.initial.part l.part l.k l.a
