-- `justify::step::Step::in_f` meets its contract.
use mathlib.Core.Path.{◌∙◌}
use Rattle.justify.proofs.Least.{twin_found}
use Rattle.justify.proofs.step.Step.in_f.Goals as goal

pub returns : goal.returns
returns c = c.position_of.ensures ∙ twin_found _ c.args.self.now.f_idents
