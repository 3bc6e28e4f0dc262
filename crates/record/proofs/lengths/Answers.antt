-- `record::lengths` meets its contract. The loop's invariant: p is the first byte of section s, within the record, and no section before s is cut.
use Prim.Native.Nat.{◌+◌}
use native.Mathlib.Omega.{arith}
use mathlib.Core.Path.{◌≡◌, refl, sym, ap, ◌∙◌}
use mathlib.Core.Bool.{true, false}
use borrow.Author.Rules.{rules}
use Rattle.model.specs.Layout.{past, start, K}
use Rattle.model.proofs.Checked.{passed_none}
use Rattle.model.specs.Refused.{cut_at}
use Rattle.record.proofs.Parts.{start_more}
use Rattle.record.proofs.Cuts.{uncut, cuts_pass, rule5_cut, rule5_left, rule5_pass}
use Rattle.record.proofs.lengths.Goals as goal

pub loop-s-init : goal.loop-s-init
unfolding start
loop-s-init c = (search rules, search rules, search rules, passed_none _)

pub returns-then-cut : goal.returns-then-cut
returns-then-cut c =
    let r = c.args.r.now in
    let h : cut_at r (start r c.loop-s.s) ≡ true = rw c.loop-s.invariant.1 at (sym c.cut.ensures ∙ c.if-cut.true) in
    rule5_cut r c.loop-s.s (omega arith) c.loop-s.invariant.3 h c.numbered.ensures

pub loop-s-preserved : goal.loop-s-preserved
loop-s-preserved c =
    let r = c.args.r.now in
    let h : cut_at r c.loop-s.p ≡ false = sym c.cut.ensures ∙ c.if-cut.false in
    let k : cut_at r (start r c.loop-s.s) ≡ false = rw c.loop-s.invariant.1 at h in (
      omega arith,
      c.past-p.ensures ∙ ap (past r) c.loop-s.invariant.1 ∙ sym (start_more r c.loop-s.s),
      rw c.past-p.ensures (uncut r c.loop-s.p h).1,
      cuts_pass r c.loop-s.s k c.loop-s.invariant.3,
    )

pub returns-then-p-r : goal.returns-then-p-r
returns-then-p-r c =
    let r = c.args.r.now in
    let z : c.loop-s.s ≡ K r + 1 = omega arith in
    let p : c.loop-s.p ≡ start r (K r + 1) = rw z at c.loop-s.invariant.1 in
    rule5_left r (rw z at c.loop-s.invariant.3) (omega arith) (c.numbered-then-p-r.ensures ∙ rw c.justifying-last.ensures refl)

pub returns : goal.returns
returns c =
    let r = c.args.r.now in
    let z : c.loop-s.s ≡ K r + 1 = omega arith in
    let p : c.loop-s.p ≡ start r (K r + 1) = rw z at c.loop-s.invariant.1 in
    rule5_pass r (rw z at c.loop-s.invariant.3) (omega arith)
