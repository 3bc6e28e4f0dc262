-- `section::first_repeated` meets its contract. The loop's invariant: no identifier before a was already met, and the map shows those before a.
use native.Mathlib.Omega.{arith}
use mathlib.Core.Path.{◌≡◌, sym, ap, ◌∙◌}
use lib.ListN.{length}
use borrow.Author.Rules.{rules}
use Rattle.model.specs.Layout.{size}
use Rattle.model.specs.Refused.{met}
use Rattle.model.proofs.Search.{any_none, any_pass}
use Rattle.model.proofs.Options.{position_none, position_at}
use Rattle.rows.proofs.Part.{table_cleared, length_table}
use Rattle.section.proofs.Map.{map_none, map_met, map_more}
use Rattle.section.proofs.first_repeated.Goals as goal

pub loop-a-init : goal.loop-a-init
loop-a-init c = (search rules, any_none _, table_cleared 512 ∙ map_none c.args.x.now)

pub returns-then-get : goal.returns-then-get
returns-then-get c =
    let asked : met c.args.x.now c.loop-a.a ≡ c.get.result = let d = c.ident-d in
    sym (c.get.ensures ∙ rw c.loop-a.invariant.2 (map_met c.args.x.now c.loop-a.a d.result d.ensures (search rules))) in
    position_at _ _ c.loop-a.a (omega arith) (omega arith) c.loop-a.invariant.1 (asked ∙ c.if-get.true)

pub loop-a-preserved : goal.loop-a-preserved
loop-a-preserved c =
    let asked : met c.args.x.now c.loop-a.a ≡ c.get.result = let d = c.ident-d in
    sym (c.get.ensures ∙ rw c.loop-a.invariant.2 (map_met c.args.x.now c.loop-a.a d.result d.ensures (search rules))) in
    let d = c.ident-d in (
      omega arith,
      any_pass _ _ c.loop-a.invariant.1 (asked ∙ c.if-get.false),
      rw (c.set.ensures, c.loop-a.invariant.2) (map_more c.args.x.now c.loop-a.a d.result d.ensures),
    )

pub returns : goal.returns
returns c =
    let e : c.loop-a.a ≡ size c.args.x.now = omega arith in
    position_none _ _ (rw e at c.loop-a.invariant.1)

pub slice_bounds-get-end : goal.slice_bounds-get-end
slice_bounds-get-end c = let h = ap length c.loop-a.invariant.2 ∙ length_table 512 _ in search rules

pub slice_bounds-set-end : goal.slice_bounds-set-end
slice_bounds-set-end c = let h = ap length c.loop-a.invariant.2 ∙ length_table 512 _ in search rules
