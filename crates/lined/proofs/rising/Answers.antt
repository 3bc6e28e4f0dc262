-- `lined::rising` meets its contract: the actions before a are fit, and their places below `due`.
use mathlib.Core.Path.{sym, ◌∙◌}
use native.Mathlib.Omega.{arith}
use Rattle.model.proofs.Search.{any_none, any_pass}
use Rattle.lined.proofs.Line.{unfit_broad, unfit_place, fit_place, fit_other, reached_none, reached_placed, reached_other, refused}
use Rattle.lined.proofs.rising.Goals as goal
use Rattle.lined.proofs.rising.Goals.{in-Some+else-p-due, in_default}

pub loop-a-init : goal.loop-a-init
loop-a-init c = record { high = omega arith; fit = any_none _; below = reached_none _ }

pub returns-then-broad : goal.returns-then-broad
returns-then-broad c = refused _ _ _ (omega arith) (unfit_broad _ _ (sym c.broad.ensures ∙ c.if-broad.true))

pub returns-then-p-due : goal.returns-then-p-due
returns-then-p-due c =
    refused _ _ _ (omega arith) (unfit_place _ _ _ c.loop-a.invariant.below c.in-Some.ensures c.if-p-due.true)

pub loop-a-preserved : goal.loop-a-preserved
loop-a-preserved c =
    let i = c.loop-a.invariant in
    let own = sym c.broad.ensures ∙ c.if-broad.false in
    elim c.match-place_of.branch [
      | in-Some+else-p-due w ↦
          record {
            high = omega arith;
            fit = any_pass _ _ i.fit (fit_place _ _ _ i.below w.in-Some.ensures own w.if-p-due.false);
            below = rw w.due-is (reached_placed _ _ _ i.below w.in-Some.ensures w.if-p-due.false);
          }
      | in_default w ↦
          record {
            high = omega arith;
            fit = any_pass _ _ i.fit (fit_other _ _ _ i.below w.in_default.ensures own);
            below = rw w.due-is (reached_other _ _ _ i.below w.in_default.ensures);
          }
    ]
