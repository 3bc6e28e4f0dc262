-- `edges::joined` meets its contract.
use mathlib.Core.Path.{refl, sym, ◌∙◌}
use Rattle.std.proofs.Common.{rules, tests}
use Rattle.model.specs.Justified.{sw#}
use Rattle.model.proofs.Chains.{any_below}
use Rattle.edges.proofs.Own.{by_own}
use Rattle.edges.proofs.joined.Goals as goal

pub returns-then-stands : goal.returns-then-stands
returns-then-stands c = c.if-stands.true ∙ sym (by_own _ _ (sym c.stands.ensures ∙ c.if-stands.true))

pub returns-else-stands : goal.returns-else-stands
unfolding sw#
returns-else-stands c = any_below refl c.size.ensures c.any.ensures.ran (λ x b q k. search (rules, tests))
