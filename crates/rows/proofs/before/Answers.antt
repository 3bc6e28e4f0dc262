-- `rows::before` meets its contract: row a has what a happens before.
use mathlib.Core.Path.{sym, ◌∙◌}
use Rattle.rows.proofs.Part.{shown_cell}
use Rattle.rows.proofs.before.Goals as goal

pub returns : goal.returns
returns c = c.get.ensures ∙ sym (shown_cell _ _ _)
