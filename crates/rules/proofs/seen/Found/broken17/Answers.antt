-- `rules::seen::Found::broken17` meets its contract.
use mathlib.Core.Path.{sym, ◌∙◌}
use Rattle.model.specs.Rules.{latest, broken17}
use Rattle.model.proofs.Ways.{ne, fails, unequal, equal}
use Rattle.rules.proofs.Latest.{ident_below}
use Rattle.rules.proofs.seen.Found.broken17.Goals as goal

pub returns-then-kind : goal.returns-then-kind
unfolding broken17
returns-then-kind c =
    let x = c.args.self.now.x.now in
    rw (
      c.ident_at.ensures,
      c.latest.ensures,
      ident_below x (latest x c.args.a),
      c.seen.ensures,
      equal _ c.kind.ensures c.if-kind.true,
    )

pub returns-else-kind : goal.returns-else-kind
unfolding broken17
returns-else-kind c = sym (ne c.if-kind.false) ∙ fails _ (unequal _ c.kind.ensures c.if-kind.false)
