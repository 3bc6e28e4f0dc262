-- `record::refusal` meets its contract.
use Prim.Native.Nat.{◌≤◌}
use mathlib.Core.Path.{◌≡◌, sym, ap, ◌∙◌}
use mathlib.Core.Bool.{not, false}
use lib.Dec.{eqb, lit<}
use borrow.Author.Tests.{eq-eqb, ne_eqb, lt-ltb, le-ltb}
use Rattle.std.specs.Prelude.{Result}
use Rattle.model.specs.declared.Answer.{Answer}
use Rattle.model.specs.Answers.{checked, ◌then◌}
use Rattle.model.specs.Layout.{version}
use Rattle.model.specs.Refused.{unmarked, out_of_range, rule5, rule6, rule7, refusal}
use Rattle.model.proofs.Checked.{on, ended}
use Rattle.model.proofs.Checks.{handed}
use Rattle.record.proofs.Stages.{given, not_given, long, in_range}
use Rattle.record.proofs.refusal.Goals as goal
use Rattle.record.proofs.refusal.Goals.{Else-lent-need}

-- past the fourth, 5, 6 and 7 are left
left : (c : Else-lent-need) (a : Result (Unit {0}) Answer) → let p = c.args in a ≡ checked (rule5 p.r.now then rule6 p.r.now then rule7 p.r.now) → a ≡ checked (refusal p.r.now p.need p.lent)
unfolding refusal
left c a e =
    let marked : unmarked c.args.r.now ≡ false = sym c.unmarked.ensures ∙ c.if-unmarked.false in
    let versioned : not (eqb (version c.args.r.now) 1) ≡ false = rw (eq-eqb _ _ (sym c.version.ensures ∙ c.if-version-ne1.false)) in
    let ranged : out_of_range c.header-h.result ≡ false = sym c.out_of_range.ensures ∙ c.if-out_of_range.false in
    not_given _ _ marked
    (not_given _ _ versioned
    (not_given _ _ (rw c.header-h.ensures at ranged) (not_given _ _ (le-ltb _ _ c.if-lent-need.false) e)))

pub returns-then-unmarked : goal.returns-then-unmarked
unfolding refusal
returns-then-unmarked c =
    given _ (lit< tt) (sym c.unmarked.ensures ∙ c.if-unmarked.true) c.numbered.ensures

pub returns-then-version-ne1 : goal.returns-then-version-ne1
unfolding refusal
returns-then-version-ne1 c =
    let marked : unmarked c.args.r.now ≡ false = sym c.unmarked.ensures ∙ c.if-unmarked.false in
    not_given _ _ marked
    (given _ (lit< tt) (ap not (ne_eqb _ 1 (λ e. c.if-version-ne1.true (c.version.ensures ∙ e)))) c.numbered-then-version-ne1.ensures)

pub returns-then-out_of_range : goal.returns-then-out_of_range
unfolding refusal
returns-then-out_of_range c =
    let marked : unmarked c.args.r.now ≡ false = sym c.unmarked.ensures ∙ c.if-unmarked.false in
    let versioned : not (eqb (version c.args.r.now) 1) ≡ false = rw (eq-eqb _ _ (sym c.version.ensures ∙ c.if-version-ne1.false)) in
    not_given _ _ marked
    (not_given _ _ versioned
    (given _ (lit< tt) (rw c.header-h.ensures at (sym c.out_of_range.ensures ∙ c.if-out_of_range.true)) c.numbered-then-out_of_range.ensures))

pub returns-then-lent-need : goal.returns-then-lent-need
unfolding refusal
returns-then-lent-need c =
    let marked : unmarked c.args.r.now ≡ false = sym c.unmarked.ensures ∙ c.if-unmarked.false in
    let versioned : not (eqb (version c.args.r.now) 1) ≡ false = rw (eq-eqb _ _ (sym c.version.ensures ∙ c.if-version-ne1.false)) in
    let ranged : out_of_range c.header-h.result ≡ false = sym c.out_of_range.ensures ∙ c.if-out_of_range.false in
    not_given _ _ marked
    (not_given _ _ versioned
    (not_given _ _ (rw c.header-h.ensures at ranged) (given _ (lit< tt) (lt-ltb _ _ c.if-lent-need.true) c.numbered-then-lent-need.ensures)))

pub lengths-requires : goal.lengths-requires
lengths-requires c =
    let marked : unmarked c.args.r.now ≡ false = sym c.unmarked.ensures ∙ c.if-unmarked.false in
    let ranged : out_of_range c.header-h.result ≡ false = sym c.out_of_range.ensures ∙ c.if-out_of_range.false in
    let few : c.header-h.result.justifying ≤ 8 = (in_range c.header-h.result ranged).0 in
    (long c.args.r.now marked, rw c.header-h.ensures at few)

pub misfielded-requires : goal.misfielded-requires
misfielded-requires c =
    let ranged : out_of_range c.header-h.result ≡ false = sym c.out_of_range.ensures ∙ c.if-out_of_range.false in
    let few : c.header-h.result.justifying ≤ 8 = (in_range c.header-h.result ranged).0 in
    (c.header-h.ensures, rw c.header-h.ensures at few)

pub repeated-requires : goal.repeated-requires
repeated-requires c =
    let ranged : out_of_range c.header-h.result ≡ false = sym c.out_of_range.ensures ∙ c.if-out_of_range.false in
    let few : c.header-h.result.justifying ≤ 8 = (in_range c.header-h.result ranged).0 in
    (c.header-h.ensures, rw c.header-h.ensures at few)

pub returns-in_err-lengths : goal.returns-in_err-lengths
returns-in_err-lengths c =
    left (goal.at.returns-in_err-lengths c).Else-lent-need _ (handed c.from_residual.ensures ∙ ended _ _ (sym c.in_err-lengths.was ∙ c.lengths.ensures))

pub returns-in_err-misfielded : goal.returns-in_err-misfielded
returns-in_err-misfielded c =
    left (goal.at.returns-in_err-misfielded c).Else-lent-need _
    (handed c.from_residual-in_err-misfielded.ensures
    ∙ on _ _ (sym c.in_ok-lengths.was ∙ c.lengths.ensures) (ended _ _ (sym c.in_err-misfielded.was ∙ c.misfielded.ensures)))

pub returns : goal.returns
returns c =
    left (goal.at.returns c).Else-lent-need _
    (on _ _ (sym c.in_ok-lengths.was ∙ c.lengths.ensures) (on _ _ (sym c.in_ok-misfielded.was ∙ c.misfielded.ensures) c.repeated.ensures))
