-- `rules::seen::Found::broken18` meets its contract.
use mathlib.Core.Path.{sym, ◌∙◌}
use Rattle.model.specs.Rules.{broken18}
use Rattle.model.proofs.Ways.{ways, was_on, was_off, either, or_last}
use Rattle.rules.proofs.Hiding.{hidden_breaks}
use Rattle.rules.proofs.seen.Found.broken18.Goals as goal

pub returns-then-kind : goal.returns-then-kind
unfolding broken18
returns-then-kind c = search ways

pub returns-then-foreseen : goal.returns-then-foreseen
returns-then-foreseen c =
    c.if-foreseen.true ∙ sym (either _ (was_on c.foreseen.ensures c.if-foreseen.true))
    ∙ hidden_breaks _ _ _ _ (sym c.kind.ensures ∙ c.if-kind.false) c.source-w.ensures

pub returns-else-foreseen : goal.returns-else-foreseen
returns-else-foreseen c =
    or_last (was_off c.foreseen.ensures c.if-foreseen.false) c.hidden.ensures
    ∙ hidden_breaks _ _ _ _ (sym c.kind.ensures ∙ c.if-kind.false) c.source-w.ensures
