-- `positions::idents::position_of` meets its contract.
use mathlib.Core.Path.{◌∙◌, ap}
use Rattle.std.proofs.Common.{rules, tests}
use Rattle.std.specs.Prelude.{unwrap_or}
use Rattle.model.specs.Layout.{size}
use Rattle.model.proofs.Options.{below_or}
use Rattle.model.proofs.Chains.{first_from}
use Rattle.positions.specs.Idents.{from_slot}
use Rattle.positions.proofs.idents.position_of.Goals as goal

pub returns : goal.returns
unfolding from_slot
returns c =
    c.unwrap_or.ensures ∙ ap (unwrap_or c.find.result) c.size-n.ensures
    ∙ below_or (size c.args.x.now) _ (first_from _ c.size-n.ensures c.find.ensures.ran (λ x b q k. search (rules, tests)))
