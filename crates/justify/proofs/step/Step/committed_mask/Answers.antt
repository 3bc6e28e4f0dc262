-- `justify::step::Step::committed_mask` meets its contract.
use Rattle.std.proofs.Common.{rules, tests}
use Rattle.model.specs.Justified.{C}
use Rattle.justify.proofs.step.Step.committed_mask.Goals as goal

pub returns : goal.returns
returns c = rw c.size.ensures at (c.mask.ensures (C c.args.self.now.e.now c.args.self.now.i) (λ b v l k. search (rules, tests)))
