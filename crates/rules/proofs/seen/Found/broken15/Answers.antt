-- `rules::seen::Found::broken15` meets its contract.
use mathlib.Core.Path.{sym, ◌∙◌}
use Rattle.model.proofs.Ways.{was_on}
use Rattle.rules.proofs.Sources.{none_unbroken, some_broken, some_unbroken}
use Rattle.rules.proofs.seen.Found.broken15.Goals as goal

pub returns-in_default : goal.returns-in_default
returns-in_default c = none_unbroken _ _ (sym c.source.ensures ∙ c.in_default.is)

pub returns-then-not-written : goal.returns-then-not-written
returns-then-not-written c = rw c.sees_write.ensures (some_broken _ _ (sym c.source.ensures ∙ c.in-Some.is))

pub returns-else-not-written : goal.returns-else-not-written
returns-else-not-written c =
    rw c.if-not-written.false (some_unbroken _ _ (sym c.source.ensures ∙ c.in-Some.is) (was_on c.written.ensures c.if-not-written.false))
