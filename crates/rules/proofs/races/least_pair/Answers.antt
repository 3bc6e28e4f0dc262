-- `rules::races::least_pair` meets its contract: the least pair is in the rest, whose writes are kept beside it.
use mathlib.Core.Path.{sym, ◌∙◌}
use Rattle.model.specs.WorkArea.{shown}
use Rattle.rules.specs.Searches.{races}
use Rattle.rules.proofs.Pairs.{pair_here, pair_later, pair_nowhere, behind_filter}
use Rattle.rules.proofs.races.least_pair.Goals as goal

pub raced-requires : goal.raced-requires
raced-requires c = behind_filter c.args.x.now c.behind-written.ensures c.loop-a.invariant.1 c.in-Some.ensures.cases.0

pub returns-in-Some-raced : goal.returns-in-Some-raced
returns-in-Some-raced c =
    let t = races (shown c.args.part.now) c.args.x.now in
    sym (pair_here t c.in-Some.a.now c.in-Some.later.now (sym c.raced.ensures ∙ c.in-Some-raced.is)) ∙ rw c.in-Some.ensures.cases.0 at c.loop-a.invariant.0

pub loop-a-preserved : goal.loop-a-preserved
loop-a-preserved c =
    let t = races (shown c.args.part.now) c.args.x.now in (
      sym (pair_later t c.in-Some.a.now c.in-Some.later.now (sym c.raced.ensures ∙ c.in_default-raced.is)) ∙ rw c.in-Some.ensures.cases.0 at c.loop-a.invariant.0,
      behind_filter c.args.x.now c.behind-written.ensures c.loop-a.invariant.1 c.in-Some.ensures.cases.0,
    )

pub returns : goal.returns
returns c = sym (pair_nowhere _ _ c.in_default.ensures.cases) ∙ c.loop-a.invariant.0
