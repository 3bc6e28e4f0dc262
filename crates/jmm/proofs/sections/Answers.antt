-- `jmm::sections` meets its contract.
use Prim.Native.Nat.{ℕ, ◌*◌}
use mathlib.Core.Path.{refl, ap, ◌∙◌}
use lib.ListN.{take, drop}
use Rattle.std.proofs.Common.{rules, tests}
use Rattle.model.specs.declared.Answer.{Answer}
use Rattle.model.specs.Answers.{checked}
use Rattle.model.specs.Limits.{part_words}
use Rattle.model.specs.Layout.{section}
use Rattle.model.specs.Rules.{well_formed}
use Rattle.model.specs.WorkArea.{shown}
use Rattle.model.proofs.Checks.{checked_below}
use Rattle.positions.specs.Limit.{limited}
use Rattle.jmm.proofs.Shown.{up_to_same, formed_at}
use Rattle.jmm.proofs.sections.Goals as goal

pub returns : goal.returns
returns c =
    let r = c.args.«record».now in
    let ws = c.args.work.now in
    let asked : ℕ → Answer = λ s. limited (section r s) (well_formed (shown (take part_words (drop (part_words * s) ws))) s (section r s)) in
    checked_below asked refl refl c.try_for_each.ensures.ran (λ x b q k. search (rules, tests))
    ∙ ap checked (up_to_same asked _ c.args.n (λ s l. formed_at _ _ _ c.requires s l))
