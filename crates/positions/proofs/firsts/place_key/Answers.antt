-- `positions::firsts::place_key` meets its contract.
use Rattle.positions.proofs.Sets.{are_syncs}
use Rattle.positions.proofs.firsts.place_key.Goals as goal

pub returns-then-of_kinds : goal.returns-then-of_kinds
returns-then-of_kinds c = rw (← are_syncs _ _, ← c.of_kinds.ensures, c.if-of_kinds.true) c.place.ensures

pub returns-else-of_kinds : goal.returns-else-of_kinds
returns-else-of_kinds c = rw (← are_syncs _ _, ← c.of_kinds.ensures, c.if-of_kinds.false)
