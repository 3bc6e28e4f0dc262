-- `ordered::monitors::least13` meets its contract: the pass keeps the broken action of least place.
use Prim.Native.Nat.{ℕ, ◌+◌, ◌*◌, ◌<◌}
use native.Mathlib.Omega.{arith}
use mathlib.Core.Path.{◌≡◌, sym, ◌∙◌}
use mathlib.Core.Bool.{true, false, ◌&&◌, and-false}
use mathlib.Core.List.{List}
use borrow.Author.Tests.{lt-ltb}
use Rattle.std.specs.Prelude.{Option, Some, None}
use Rattle.std.proofs.Common.{rules, tests}
use Rattle.model.specs.Search.{none, found, position}
use Rattle.model.specs.Layout.{size, place}
use Rattle.model.specs.Rules.{least, broken13}
use Rattle.positions.specs.Lists.{locks}
use Rattle.positions.proofs.Sets.{are_locks}
use Rattle.positions.proofs.Listing.{is_listed}
use Rattle.model.proofs.Best.{kept_none, kept_take, kept_keep, kept_found}
use Rattle.model.proofs.Options.{no_position, some_position}
use Rattle.ordered.proofs.monitors.least13.Invariants.{pass, Best, below}
use Rattle.ordered.proofs.monitors.least13.Goals as goal
use Rattle.ordered.proofs.monitors.least13.Goals.{then-is_none_or+then-broken13, else-is_none_or, else-is_none_or-via-then-is_none_or+else-broken13, else-is_none_or-via-else-is_none_or}

module _ (x : List ℕ) (i : ℕ) (fits : place x i < 65536) where
  best_take : (m : Option ℕ) → i < none → Best x i m → broken13 x i ≡ true → below x i m ≡ true → Best x (i + 1) (Some i)
  best_take None l k h e = (l, kept_take (pass x) none i none 65536 k h (lt-ltb (place x i) 65536 fits))
  best_take (Some m) l k h e = (l, kept_take (pass x) none i m (place x m) k.1 h e)

  best_keep : (m : Option ℕ) → Best x i m → broken13 x i && below x i m ≡ false → Best x (i + 1) m
  best_keep None k h = kept_keep (pass x) none i none 65536 k (λ e. lt-ltb (place x i) 65536 fits) (rw (lt-ltb (place x i) 65536 fits) h)
  best_keep (Some m) k h = (k.0, kept_keep (pass x) none i m (place x m) k.1 (λ e. lt-ltb (place x i) 65536 fits) h)

best_found : (x : List ℕ) (m : Option ℕ) → Best x (size x) m → m ≡ position (found (size x) (least x (broken13 x)))
unfolding least
best_found x None k = no_position (kept_found (pass x) (size x) none 65536 k)
best_found x (Some m) k = rw (kept_found (pass x) (size x) m (place x m) k.1) (some_position (λ e. omega (arith, k.0)))

pub loop-a-init : goal.loop-a-init
loop-a-init c = (omega arith, kept_none (pass c.args.x.now) none)

pub broken13-requires : goal.broken13-requires
broken13-requires c = c.as_slice-list.ensures ∙ c.listed-listed.ensures ∙ is_listed c.args.x.now locks (are_locks c.args.x.now) c.requires

pub loop-a-preserved : goal.loop-a-preserved
loop-a-preserved c =
    let x = c.args.x.now in
    let a = c.loop-a.a-counter in
    let best = c.loop-a.best in
    let kept = c.loop-a.invariant.1 in
    let test : c.is_none_or.result ≡ below x a best = search (rules, tests) in
    let fits : place x a < 65536 = omega (arith, c.type_inv.x (2 + 20 * a + 6), c.type_inv.x (2 + 20 * a + 6 + 1)) in (
      omega arith,
      elim c.if-is_none_or.branch [
        | then-is_none_or+then-broken13 w ↦
            rw w.best-is (best_take x a fits best (omega arith) kept (sym w.broken13.ensures ∙ w.if-broken13.true) (sym test ∙ w.if-is_none_or.true))
        | else-is_none_or w ↦
            rw w.best-is
            (best_keep x a fits best kept
            (elim w.else-is_none_or.branch [
              | else-is_none_or-via-then-is_none_or+else-broken13 v ↦ rw (← v.broken13.ensures, v.if-broken13.false)
              | else-is_none_or-via-else-is_none_or v ↦ rw (← test, v.if-is_none_or.false) (and-false (broken13 x a))
            ]))
      ],
    )

pub returns : goal.returns
returns c =
    let x = c.args.x.now in
    let e : c.loop-a.a-counter ≡ size x = omega (arith, c.size-a-end.ensures) in
    best_found x c.loop-a.best (rw e at c.loop-a.invariant.1)
