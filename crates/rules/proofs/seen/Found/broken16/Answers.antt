-- `rules::seen::Found::broken16` meets its contract: values are compared by their bits.
use mathlib.Core.Path.{◌∙◌}
use Rattle.model.specs.Rules.{broken16}
use Rattle.model.proofs.Signed.{same_bits}
use Rattle.model.proofs.Ways.{fails, was_on, was_off}
use Rattle.rules.proofs.Sources.{value_seen}
use borrow.Author.Rules.{rules}
use Rattle.rules.proofs.seen.Found.broken16.Goals as goal

pub returns-then-read : goal.returns-then-read
unfolding broken16
returns-then-read c =
    let r = was_on c.read.ensures c.if-read.true in
    rw (
      same_bits c.value.result c.value_at.result (search rules) (search rules),
      c.value.ensures,
      c.value_at.ensures,
      c.source.ensures,
      value_seen _ _ r,
      r,
    )

pub returns-else-read : goal.returns-else-read
unfolding broken16
returns-else-read c = c.if-read.false ∙ fails _ (was_off c.read.ensures c.if-read.false)
