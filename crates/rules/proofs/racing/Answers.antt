-- `rules::racing` meets its contract.
use Rattle.positions.proofs.Limited.{over_limit, within_limit}
use Rattle.rules.proofs.racing.Goals as goal

pub returns-then-size-gt-MAX_ACTIONS : goal.returns-then-size-gt-MAX_ACTIONS
returns-then-size-gt-MAX_ACTIONS c = over_limit _ _ c.size.ensures c.if-size-gt-MAX_ACTIONS.true

pub returns : goal.returns
returns c = within_limit _ _ c.size.ensures c.if-size-gt-MAX_ACTIONS.false c.race_free.ensures
