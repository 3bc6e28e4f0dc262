-- `positions::lists::within` meets its contract.
use borrow.Author.Tests.{le-leb, lt-leb}
use Rattle.positions.proofs.lists.within.Goals as goal

pub returns-then-n-gt-MAX_ACTIONS : goal.returns-then-n-gt-MAX_ACTIONS
returns-then-n-gt-MAX_ACTIONS c = rw (← c.size-n.ensures, lt-leb _ _ c.if-n-gt-MAX_ACTIONS.true)

pub returns-else-n-gt-MAX_ACTIONS : goal.returns-else-n-gt-MAX_ACTIONS
returns-else-n-gt-MAX_ACTIONS c = rw (← c.size-n.ensures, le-leb _ _ c.if-n-gt-MAX_ACTIONS.false)
