-- `record::repeated` meets its contract.
use Prim.Native.Nat.{◌+◌}
use mathlib.Core.Path.{◌≡◌, refl, ap, subst}
use Rattle.std.proofs.Common.{rules, tests}
use Rattle.model.specs.declared.Header.{Header}
use Rattle.model.specs.Answers.{checked, up_to, rule}
use Rattle.model.specs.Layout.{K, section, size}
use Rattle.model.specs.Refused.{met, sections, rule7}
use Rattle.model.proofs.Checks.{checked_below}
use Rattle.record.proofs.repeated.Goals as goal

pub returns : goal.returns
unfolding rule7 sections
returns c =
    let r = c.args.r.now in
    subst (λ (h : Header). c.try_for_each.result ≡ checked (up_to (K r + 1) (λ s. let x = section r s in rule 7 s (size x) (met x)))) c.requires.0
    (checked_below _ refl (ap (λ (h : Header). h.justifying + 1) c.requires.0) c.try_for_each.ensures.ran (λ x b q k. search (rules, tests)))
