-- `justify::step::Step::heard` meets its contract.
use Rattle.std.proofs.Common.{rules, tests}
use Rattle.relations.specs.Objects.{taken, key}
use Rattle.justify.proofs.step.Step.heard.Goals as goal

pub returns : goal.returns
returns c = rw c.size.ensures at (c.table.ensures (λ y. key (taken c.args.self.now.f.now y)) (λ a v l k. search (rules, tests)))
