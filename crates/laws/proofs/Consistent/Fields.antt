-- Numbers 3 and 6 give what `Passed` says of threads, places, identifiers and volatile variables.
use Prim.Native.Nat.{ℕ, ◌<◌, ◌≤◌}
use native.Mathlib.Omega.{arith}
use mathlib.Core.Path.{◌≡◌, sym, ap, ◌∙◌}
use mathlib.Core.List.{List}
use mathlib.Core.Bool.{Bool, true, false, not, ◌&&◌, beq}
use lib.Dec.{eqb, ltb}
use borrow.Author.Tests.{ltb-true, eqb-true, eqb-false, not-true, not-false}
use Rattle.model.specs.declared.KindRow.{KindRow}
use Rattle.model.specs.declared.Target.TheVariants.{Variable}
use Rattle.model.specs.declared.Header.{Header}
use Rattle.model.specs.Search.{any}
use Rattle.model.specs.Layout.{volatile, size, action, ident, thread, kind, target, commit, place, unused, row, sync, read, write}
use Rattle.model.specs.Relations.{race, hb}
use Rattle.model.specs.Refused.{targeted, committed_in, carried, fielded, misfielded, met}
use Rattle.model.specs.Rules.{rival, broken11, broken12, broken14, broken15}
use Rattle.model.proofs.Search.{any_not}
use Rattle.model.proofs.Bools.{both, same_bool}
use Rattle.laws.proofs.Consistent.Kinds.{reads_variable, writes_variable}
use Rattle.laws.proofs.Consistent.Section.{Passed}

-- a variable is volatile as the table says of the kind that names it
variable_volatile : (h : Header) (k : KindRow) (t : ℕ) → k.target ≡ Variable → targeted h k t ≡ true → volatile h t ≡ k.volatile
unfolding targeted
variable_volatile h k t v e =
    same_bool (volatile h t) k.volatile
    (both (ltb t h.variables) (beq (volatile h t) k.volatile) (rw v at e)).1

-- The fields of an action that orders speak of
record Fields (h : Header) (x : List ℕ) (a : ℕ) : Type 0 where
  pub named : ident x a ≡ 0 → ⊥
  pub threaded : thread x a < h.threads
  pub targets : targeted h (row x a) (target x a) ≡ true
  pub placed : sync x a ≡ true → 1 ≤ place x a

placed_from : (b : Bool) (p : ℕ) → beq b (not (eqb p 0)) ≡ true → b ≡ true → 1 ≤ p
placed_from b p e h =
    let z : p ≡ 0 → ⊥ = eqb-false p 0 (not-true (eqb p 0) (sym (same_bool b (not (eqb p 0)) e) ∙ h)) in omega arith

fields : (h : Header) (x : List ℕ) (s a : ℕ) → misfielded h s x a ≡ false → Fields h x a
unfolding misfielded fielded
fields h x s a e =
    record {
      named = eqb-false (ident x a) 0 (not-true (eqb (ident x a) 0) u.0);
      threaded = ltb-true (thread x a) h.threads u.1;
      targets = t.1;
      placed = placed_from (sync x a) (place x a) v.1;
    }
  where
    owned : Bool
    owned = not (eqb (ident x a) 0) && ltb (thread x a) h.threads

    aimed : Bool
    aimed = owned && targeted h (row x a) (target x a)

    committed : Bool
    committed = aimed && committed_in h.justifying s (commit x a)

    put : Bool
    put = committed && beq (sync x a) (not (eqb (place x a) 0))

    rest : put ≡ true
    rest =
        let tables = put && carried (row x a) (action x a) in
        (both put (carried (row x a) (action x a)) (both (eqb (unused x a) 0) tables (not-false (eqb (unused x a) 0 && tables) e)).1).0

    v : (committed ≡ true) × (beq (sync x a) (not (eqb (place x a) 0)) ≡ true)
    v = both committed (beq (sync x a) (not (eqb (place x a) 0))) rest

    t : (owned ≡ true) × (targeted h (row x a) (target x a) ≡ true)
    t = both owned (targeted h (row x a) (target x a)) (both aimed (committed_in h.justifying s (commit x a)) v.0).0

    u : (not (eqb (ident x a) 0) ≡ true) × (ltb (thread x a) h.threads ≡ true)
    u = both (not (eqb (ident x a) 0)) (ltb (thread x a) h.threads) t.0

-- Section s of a record with the header h and at most 16 threads, whose bytes are x, passes 6, 7, 11, 12, 14 and 15 and has no race
pub record Checked (h : Header) (s : ℕ) (x : List ℕ) : Type 0 where
  pub threads_few : h.threads ≤ 16
  pub rule6 : any (size x) (misfielded h s x) ≡ false
  pub rule7 : any (size x) (met x) ≡ false
  pub rule11 : any (size x) (broken11 x) ≡ false
  pub rule12 : any (size x) (broken12 x) ≡ false
  pub rule14 : any (size x) (broken14 x) ≡ false
  pub rule15 : any (size x) (broken15 x) ≡ false
  pub race_free : any (size x) (λ a. any (size x) (λ b. ltb a b && race (hb x) x a b)) ≡ false

module _ (h : Header) (s : ℕ) (x : List ℕ) (c : Checked h s x) where
  at : (a : ℕ) → a < size x → Fields h x a
  at a l = fields h x s a (any_not (misfielded h s x) (size x) a l c.rule6)

  alike : (a b : ℕ) → a < size x → b < size x → read x a ≡ true → rival x a b ≡ true → (row x a).volatile ≡ (row x b).volatile
  unfolding rival
  alike a b l k e f =
      let t = both (write x b) (eqb (target x b) (target x a)) f in
      sym (variable_volatile h (row x a) (target x a) (reads_variable (kind x a) e) (at a l).targets)
      ∙ ap (volatile h) (sym (eqb-true (target x b) (target x a) t.1))
      ∙ variable_volatile h (row x b) (target x b) (writes_variable (kind x b) t.0) (at b k).targets

  pub checked_passed : Passed x
  checked_passed =
      record {
        placed =
            record {
              threads = λ a l. omega (arith, (at a l).threaded, c.threads_few);
              places = λ a l. (at a l).placed;
              rule11 = c.rule11;
              rule12 = c.rule12;
            };
        rule14 = c.rule14;
        rule15 = c.rule15;
        race_free = c.race_free;
        rule7 = c.rule7;
        named = λ a l. (at a l).named;
        volatiles = alike;
      }
