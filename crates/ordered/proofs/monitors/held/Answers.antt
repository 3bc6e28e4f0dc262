-- `ordered::monitors::held` meets its contract: `locks` and `unlocks` count those in the list so far.
use Prim.Native.Nat.{ℕ}
use mathlib.Core.Path.{◌≡◌, refl, ◌∙◌}
use mathlib.Core.Bool.{Bool, true, false, not, ◌&&◌, ◌||◌, and-false}
use mathlib.Core.List.{List}
use lib.Dec.{eqb, ltb}
use lib.ListN.{take}
use borrow.Author.Tests.{eqb-true}
use Rattle.std.specs.Prelude.{Option}
use Rattle.std.specs.List.{count_by}
use Rattle.std.proofs.lemmas.List.{take_all}
use Rattle.model.specs.Layout.{size, thread, kind, target, place}
use Rattle.model.specs.Rules.{held, monitored}
use Rattle.model.proofs.Search.{count_same}
use Rattle.positions.specs.Lists.{positions}
use Rattle.positions.proofs.Listing.{count_listed}
use Rattle.ordered.specs.Monitors.{monitoring, admits, counted}
use Rattle.ordered.proofs.monitors.held.Goals as goal

-- an action in the list is a lock, or else an unlock
lock : (k : ℕ) (p q r : Bool) → (eqb k 5 || eqb k 6) && (eqb k 5 && (p && q && r)) ≡ eqb k 5 && p && q && r
lock k p q r = go (eqb k 5)
  where
    go : (b : Bool) → (b || eqb k 6) && (b && (p && q && r)) ≡ b && p && q && r
    go true = refl
    go false = and-false (eqb k 6)

unlock : (k : ℕ) (p q r : Bool) → (eqb k 5 || eqb k 6) && (not (eqb k 5) && (p && q && r)) ≡ eqb k 6 && p && q && r
unlock k p q r = go (eqb k 5) refl
  where
    go : (b : Bool) → eqb k 5 ≡ b → (b || eqb k 6) && (not b && (p && q && r)) ≡ eqb k 6 && p && q && r
    go true e = rw (eqb-true k 5 e)
    go false e = either (eqb k 6)
      where
        either : (b : Bool) → b && (p && q && r) ≡ b && p && q && r
        either true = refl
        either false = refl

-- the locks and the unlocks before a's place
module _ (x : List ℕ) (a : ℕ) (by : Option ℕ) {v p : ℕ} (e : v ≡ target x a) (q : p ≡ place x a) {l : List ℕ} (h : l ≡ positions (monitoring x) (size x)) {m : ℕ} where
  all_locks : m ≡ count_by (λ b. eqb (kind x b) 5 && counted x v p by b) l → m ≡ monitored x a (admits by) 5
  unfolding monitored
  all_locks t =
      count_listed (monitoring x) (λ b. eqb (kind x b) 5 && counted x v p by b) (size x) h t
      ∙ rw (← e, ← q)
      (count_same _ _ (size x) (λ b u. lock (kind x b) (eqb (target x b) v) (ltb (place x b) p) (admits by (thread x b))))

  all_unlocks : m ≡ count_by (λ b. not (eqb (kind x b) 5) && counted x v p by b) l → m ≡ monitored x a (admits by) 6
  unfolding monitored
  all_unlocks t =
      count_listed (monitoring x) (λ b. not (eqb (kind x b) 5) && counted x v p by b) (size x) h t
      ∙ rw (← e, ← q)
      (count_same _ _ (size x) (λ b u. unlock (kind x b) (eqb (target x b) v) (ltb (place x b) p) (admits by (thread x b))))

pub returns : goal.returns
unfolding held
returns c =
    let x = c.args.x.now in
    let l = c.loop-b in
    let whole : take l.b-index c.args.list.now ≡ c.args.list.now = take_all l.b-index c.args.list.now c.loop-b-test.false in
    let locks = all_locks x c.args.a c.args.by c.target-monitor.ensures c.place-place.ensures c.requires (rw whole at l.invariant.locked) in
    let unlocks = all_unlocks x c.args.a c.args.by c.target-monitor.ensures c.place-place.ensures c.requires (rw whole at l.invariant.unlocked) in
    rw (locks, unlocks)
