-- `justify::row::shares` meets its contract.
use mathlib.Core.Path.{◌∙◌}
use Rattle.justify.proofs.Words.{shares_differs}
use Rattle.justify.proofs.row.shares.Goals as goal

pub returns : goal.returns
returns c = c.differ.ensures ∙ shares_differs c.args.p.now c.args.mask.now c.args.a
