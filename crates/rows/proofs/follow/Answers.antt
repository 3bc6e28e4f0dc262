-- `rows::follow` meets its contract.
use mathlib.Core.Path.{◌≡◌, ◌∙◌}
use mathlib.Core.Bool.{true, false}
use borrow.Author.Tests.{eq-eqb, ne_eqb}
use Rattle.model.proofs.Words.{bit_in}
use Rattle.rows.specs.Part.{cell}
use Rattle.rows.proofs.Rounds.{joined_not}
use Rattle.rows.proofs.follow.Goals as goal

pub returns-then-word-k-eq1 : goal.returns-then-word-k-eq1
returns-then-word-k-eq1 c =
    let e : cell c.args.part.now c.args.a c.args.k ≡ true = bit_in _ _ _ _ c.requires.bit_in_row ∙ eq-eqb _ _ c.if-word-k-eq1.true in
    rw e c.take_in.ensures

pub returns-else-word-k-eq1 : goal.returns-else-word-k-eq1
returns-else-word-k-eq1 c =
    let e : cell c.args.part.now c.args.a c.args.k ≡ false = bit_in _ _ _ _ c.requires.bit_in_row ∙ ne_eqb _ _ c.if-word-k-eq1.false in
    rw e (joined_not _ _ _ _ _ _)
