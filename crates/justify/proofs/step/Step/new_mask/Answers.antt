-- `justify::step::Step::new_mask` meets its contract.
use Rattle.std.proofs.Common.{rules, tests}
use Rattle.model.specs.Justified.{new}
use Rattle.justify.proofs.step.Step.new_mask.Goals as goal

pub returns : goal.returns
unfolding new
returns c = rw c.size.ensures at (c.mask.ensures (new c.args.self.now.e.now c.args.self.now.f.now c.args.self.now.i) (λ b v l k. search (rules, tests)))
