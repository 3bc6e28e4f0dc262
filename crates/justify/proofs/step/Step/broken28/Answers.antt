-- `justify::step::Step::broken28` meets its contract.
use Rattle.justify.proofs.Lead.{by_lead28}
use Rattle.justify.proofs.step.Step.broken28.Goals as goal

pub returns-then-shares : goal.returns-then-shares
returns-then-shares c =
    let own = c.args.self.now in
    rw (by_lead28 own.r.now own.e.now own.f.now own.i own.first_section own.own_section own.f_part.now c.args.mask.now own.f_idents.few c.requires c.args.x c.args.y, ← c.sw.ensures, c.if-sw.true, ← c.shares.ensures, c.if-shares.true) c.loose.ensures

pub returns-else-shares : goal.returns-else-shares
returns-else-shares c =
    let own = c.args.self.now in
    rw (by_lead28 own.r.now own.e.now own.f.now own.i own.first_section own.own_section own.f_part.now c.args.mask.now own.f_idents.few c.requires c.args.x c.args.y, ← c.sw.ensures, c.if-sw.true, ← c.shares.ensures, c.if-shares.false)

pub returns-else-sw : goal.returns-else-sw
returns-else-sw c =
    let own = c.args.self.now in
    rw (by_lead28 own.r.now own.e.now own.f.now own.i own.first_section own.own_section own.f_part.now c.args.mask.now own.f_idents.few c.requires c.args.x c.args.y, ← c.sw.ensures, c.if-sw.false)
