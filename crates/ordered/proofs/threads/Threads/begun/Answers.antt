-- `ordered::threads::Threads::begun` meets its contract: the table has the first action of a's target.
use Prim.Native.Nat.{ℕ, ◌<◌, ◌≤◌}
use native.Mathlib.Omega.{arith}
use mathlib.Core.Path.{◌≡◌, sym, ◌∙◌}
use mathlib.Core.Bool.{false, not, ◌&&◌}
use mathlib.Core.List.{List}
use lib.Dec.{eqb, ltb}
use lib.ListN.{get_or}
use borrow.Author.Tests.{eq-eqb, ne_eqb}
use Rattle.model.specs.Search.{found, none}
use Rattle.model.specs.Layout.{size, thread, kind, target, place}
use Rattle.model.specs.Rules.{first_of, begun}
use Rattle.model.proofs.Search.{found_nothing, found_something}
use Rattle.model.proofs.Ways.{leb_not}
use Rattle.positions.specs.Firsts.{keys, firsts}
use Rattle.positions.specs.declared.firsts.Key.TheVariants.{Thread}
use Rattle.positions.proofs.Tables.{first_entry}
use Rattle.ordered.proofs.threads.Threads.begun.Goals as goal

module _ (x : List ℕ) (a : ℕ) {v : ℕ} (own : v ≡ target x a) (small : v < keys) {l : List ℕ} (e : l ≡ firsts x Thread) where
  first_found : get_or l v 0 ≡ found (size x) (λ b. eqb (thread x b) (target x a))
  first_found = rw (e, ← own) (first_entry x Thread v small)

  begun_none : size x ≤ none → get_or l v 0 ≡ none → false ≡ begun x a
  unfolding begun first_of
  begun_none fits h = rw (found_nothing (λ b. eqb (thread x b) (target x a)) (size x) fits (sym first_found ∙ h))

  begun_at : (get_or l v 0 ≡ none → ⊥) → begun x a ≡ not (eqb (kind x (get_or l v 0)) 8 && ltb (place x a) (place x (get_or l v 0)))
  unfolding begun first_of
  begun_at h =
      let (same, some) = found_something (λ b. eqb (thread x b) (target x a)) (size x) (λ z. h (first_found ∙ z)) in
      rw (some, same, ← first_found)

pub returns-else-b : goal.returns-else-b
returns-else-b c =
    rw c.if-b.false (begun_none c.args.self.now.x.now c.args.a c.target.ensures (omega arith) c.args.self.now.have_first (omega (arith, c.args.self.now.limited)) c.if-b.false)

pub returns-then-kind : goal.returns-then-kind
returns-then-kind c =
    rw (
      begun_at c.args.self.now.x.now c.args.a c.target.ensures (omega arith) c.args.self.now.have_first c.if-b.true,
      ← c.kind.ensures,
      ne_eqb _ _ c.if-kind.true,
    )

pub returns-else-kind : goal.returns-else-kind
returns-else-kind c =
    rw (
      begun_at c.args.self.now.x.now c.args.a c.target.ensures (omega arith) c.args.self.now.have_first c.if-b.true,
      ← c.kind.ensures,
      eq-eqb _ _ c.if-kind.false,
      ← c.place.ensures,
      ← c.place-else-kind.ensures,
    ) (leb_not _ _)
