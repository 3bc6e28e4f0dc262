-- `justify::step::Step::partner28` meets its contract.
use native.Mathlib.Omega.{arith}
use mathlib.Core.Path.{◌≡◌, ap, ◌∙◌}
use borrow.Author.Rules.{rules}
use Rattle.std.proofs.Common.{tests}
use Rattle.model.specs.declared.Class.TheVariants.{NothingGiven}
use Rattle.model.specs.Kinds.{number_of}
use Rattle.model.proofs.Options.{position_never}
use Rattle.model.proofs.Chains.{found_below}
use Rattle.relations.specs.Objects.{key}
use Rattle.justify.proofs.Lead.{idle28, by_key28}
use Rattle.justify.proofs.step.Step.partner28.Goals as goal

pub returns-then-g : goal.returns-then-g
returns-then-g c =
    let own = c.args.self.now in
    let nothing : c.given-g.result.class ≡ number_of NothingGiven = search rules in
    position_never _ _
    (λ y l.
    idle28 own.r.now own.e.now own.f.now own.i own.first_section own.own_section own.f_part.now c.args.x y (rw c.given-g.ensures at nothing))

pub returns : goal.returns
returns c =
    let own = c.args.self.now in
    by_key28 own.r.now own.e.now own.f.now own.i own.first_section own.own_section own.f_part.now c.args.x c.key-k.result c.args.heard.now (c.key-k.ensures ∙ ap key c.given-g.ensures) c.requires.heard_held
    (found_below _ c.size.ensures (omega arith) c.find.ensures.ran (λ x b q k. search (rules, tests)))
