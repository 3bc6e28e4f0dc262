-- `justify::with_tables` meets its contract: what the rules are asked with is found.
use mathlib.Core.Path.{◌≡◌, ◌∙◌}
use Rattle.std.proofs.Common.{rules, tests}
use Rattle.model.specs.Layout.{ident}
use Rattle.model.specs.Justified.{twin_of}
use Rattle.positions.specs.Idents.{from_slot}
use Rattle.justify.specs.Found.{Idents}
use Rattle.justify.proofs.Least.{twin_found}
use Rattle.justify.proofs.with_tables.Goals as goal

pub least_commits-least-requires : goal.least_commits-least-requires
least_commits-least-requires c = record { few = c.requires.2; firsts_held = c.firsts-e_firsts.ensures }

pub invariant_of-in_order : goal.invariant_of-in_order
invariant_of-in_order c =
    let pre = c.requires in
    let f_idents : Idents c.args.f.now c.firsts-f_firsts.result = record { few = pre.3; firsts_held = c.firsts-f_firsts.ensures } in
    record {
      first_section = pre.0;
      own_section = pre.1;
      staged = record { idents = record { few = pre.2; firsts_held = c.firsts-e_firsts.ensures }; least_held = c.least_commits-least.ensures };
      f_idents = f_idents;
      twins_held = rw c.size.ensures at (c.table-twins.ensures (twin_of c.args.e.now c.args.f.now) (λ a v l k. let h : v ≡ from_slot c.args.f.now c.firsts-f_firsts.result (ident c.args.e.now a) = search (rules, tests) in h ∙ twin_found _ f_idents));
    }
