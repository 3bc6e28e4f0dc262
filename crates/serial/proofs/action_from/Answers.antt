-- `serial::action_from` meets its contract.
use Rattle.std.proofs.Common.{rules, tests}
use Rattle.serial.specs.Cursors.{action_from}
use Rattle.model.proofs.Chains.{first_from}
use Rattle.serial.proofs.action_from.Goals as goal

pub returns : goal.returns
unfolding action_from
returns c = first_from _ c.size.ensures c.find.ensures.ran (λ x b q k. search (rules, tests))
