-- `jmm::sequence` meets its contract.
use Prim.Native.Nat.{ℕ, ◌+◌, ◌*◌}
use native.Mathlib.Omega.{arith}
use mathlib.Core.Path.{refl, ap, ◌∙◌}
use lib.ListN.{take, drop}
use Rattle.std.proofs.Common.{rules, tests}
use Rattle.model.specs.declared.Answer.{Answer}
use Rattle.model.specs.Answers.{checked}
use Rattle.model.specs.Limits.{part_words}
use Rattle.model.specs.Layout.{section}
use Rattle.model.specs.Justified.{committing}
use Rattle.model.specs.WorkArea.{shown}
use Rattle.model.proofs.Checks.{checked_below}
use Rattle.positions.specs.Limit.{limited}
use Rattle.jmm.proofs.Shown.{up_to_same, justified_at}
use Rattle.jmm.proofs.sequence.Goals as goal

pub returns : goal.returns
returns c =
    let r = c.args.«record».now in
    let ws = c.args.work.now in
    let asked : ℕ → Answer =
    λ j. limited (section r 0) (limited (section r (j + 1)) (committing (shown (take part_words (drop (part_words * 0) ws))) (shown (take part_words (drop (part_words * (j + 1)) ws))) r (j + 1))) in
    checked_below asked refl refl c.try_for_each.ensures.ran (λ x b q k. search (rules, tests))
    ∙ ap checked (up_to_same asked _ c.args.k (λ j l. justified_at _ _ _ c.requires (j + 1) (omega arith)))
