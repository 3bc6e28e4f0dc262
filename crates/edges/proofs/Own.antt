-- An edge that stands where its own section has it.
use Prim.Native.Nat.{ℕ}
use mathlib.Core.Path.{◌≡◌}
use mathlib.Core.List.{List}
use mathlib.Core.Bool.{true, ◌&&◌}
use lib.Dec.{eqb, ltb}
use borrow.Author.Tests.{ltb-true}
use Rattle.model.specs.Layout.{size, ident}
use Rattle.model.specs.Justified.{sw_to, joins, sw#}
use Rattle.model.proofs.Bools.{both}
use Rattle.model.proofs.Search.{any_at}
use Rattle.edges.specs.declared.Edge.{Edge}
use Rattle.edges.specs.Edge.{stands}

pub by_own : (x : List ℕ) (e : Edge) → stands x e ≡ true → sw# x e.from e.to ≡ true
unfolding stands sw# joins
by_own x e h =
    let inside = ltb e.first (size x) && ltb e.second (size x) in
    let begins = eqb (ident x e.first) e.from in
    let (k, q) = both (inside && begins) (sw_to x e.to e.first e.second) h in
    let (i, p) = both inside begins k in
    let (l, m) = both (ltb e.first (size x)) (ltb e.second (size x)) i in
    any_at (joins x e.from e.to) (size x) e.first (ltb-true _ _ l) (rw (p, any_at (sw_to x e.to e.first) (size x) e.second (ltb-true _ _ m) q))
