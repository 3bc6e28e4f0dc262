-- `rules::seen::Found::source` meets its contract.
use mathlib.Core.Path.{◌∙◌}
use Rattle.model.proofs.Options.{no_position, some_position}
use Rattle.rules.proofs.seen.Found.source.Goals as goal

pub returns-then-w : goal.returns-then-w
returns-then-w c = no_position c.if-w.true ∙ c.args.self.now.kept.entry c.args.a c.requires

pub returns-else-w : goal.returns-else-w
returns-else-w c = some_position c.if-w.false ∙ c.args.self.now.kept.entry c.args.a c.requires
