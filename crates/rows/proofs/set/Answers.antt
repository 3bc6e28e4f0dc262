-- `rows::set` meets its contract: where the words have no bit for (a, b) they stay as they are.
use Prim.Native.Nat.{◌%◌}
use mathlib.Core.Path.{sym}
use native.Mathlib.Nat.{one-mul}
use native.Mathlib.Omega.{arith}
use lib.Dec.{lit<}
use lib.Pow.{shl_exact}
use Rattle.rows.proofs.Marked.{marked_wide, marked_past, marked_in}
use Rattle.rows.proofs.set.Goals as goal
use Rattle.rows.proofs.set.Goals.{else-b-via-then-b+else-i-part, else-b-via-else-b}

pub returns-then-i-part : goal.returns-then-i-part
returns-then-i-part c =
    rw (shl_exact 1 (c.args.b % 64) 64 (lit< tt) (omega arith), one-mul) (sym (marked_in _ _ _ _ c.if-b.true))

pub returns-else-b : goal.returns-else-b
returns-else-b c =
    elim c.else-b.branch [
      | else-b-via-then-b+else-i-part w ↦ sym (marked_past _ _ _ _ w.if-b.true w.if-i-part.false)
      | else-b-via-else-b w ↦ sym (marked_wide _ _ _ _ w.if-b.false)
    ]
