-- What is found is kept in tables with room for the limit. A section over the limit is in no record that isn't refused, and passes.
use Rattle.std.specs.Prelude.{List, cond, ℕ, leb}
use Rattle.model.specs.declared.Answer.{Answer}
use Rattle.model.specs.Limits.{max_actions}
use Rattle.model.specs.Layout.{size}
use Rattle.model.specs.Answers.{pass}

unfoldable pub limited : List ℕ → Answer → Answer
limited x q = cond (leb (size x) max_actions) q pass
