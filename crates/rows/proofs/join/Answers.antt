-- `rows::join` meets its contract: where a row is missing the words stay as they are.
use mathlib.Core.Path.{sym}
use native.Mathlib.Omega.{arith}
use lib.Dec.{lit<}
use Rattle.rows.proofs.Steps.{joined_past, joined_lacks, joined_by}
use Rattle.rows.proofs.join.Goals as goal

pub returns-then-to-part : goal.returns-then-to-part
returns-then-to-part c = sym (joined_past _ _ _ _ _ c.if-to-part.true)

pub returns-then-from-other : goal.returns-then-from-other
returns-then-from-other c = sym (joined_lacks _ _ _ _ _ c.if-from-other.true)

pub returns : goal.returns
returns c =
    joined_by _ _ _ _ _ (lit< tt) (omega arith) (omega arith) (λ i. (c.type_inv.part i).fits) c.take_in.ensures
