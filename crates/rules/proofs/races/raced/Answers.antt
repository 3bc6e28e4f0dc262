-- `rules::races::raced` meets its contract.
use mathlib.Core.Path.{sym, ap, ◌∙◌}
use Rattle.std.specs.List.{find}
use Rattle.model.specs.WorkArea.{shown}
use Rattle.rules.specs.Searches.{meets}
use Rattle.rules.proofs.Pairs.{raced_write, raced_read}
use Rattle.rules.proofs.races.raced.Goals as goal

pub returns-then-write : goal.returns-then-write
returns-then-write c =
    c.met.ensures ∙ raced_write (shown c.args.part.now) c.args.x.now c.args.a (sym c.if-write.ensures) c.args.later.now

pub returns-else-write : goal.returns-else-write
returns-else-write c =
    let h = shown c.args.part.now in
    c.met-else-write.ensures ∙ ap (find (meets h c.args.x.now c.args.a)) c.requires
    ∙ raced_read h c.args.x.now c.args.a (sym c.write.ensures ∙ c.if-write.false) c.args.later.now
