-- What the sets of kinds are in the model's words: one law over the table of kinds.
use Prim.Native.Nat.{ℕ, ◌^◌, ◌<◌, ◌≤◌}
use native.Mathlib.Nat.{div-eq_of_lt}
use native.Mathlib.Decide.{dec_lt}
use native.Mathlib.Omega.{arith}
use mathlib.Core.Path.{◌≡◌, refl, sym}
use mathlib.Core.List.{List}
use mathlib.Core.Bool.{Bool, false, not, ◌&&◌, ◌||◌, beq}
use lib.Dec.{eqb, lit<}
use lib.Pow.{pow_mono}
use borrow.Author.Tests.{ne_eqb, not-false}
use Rattle.model.specs.Search.{any}
use Rattle.model.specs.declared.Class.TheVariants as class
use Rattle.model.specs.Kinds.{same_class, kind_row}
use Rattle.model.specs.Layout.{kind, row, sync, write}
use Rattle.model.specs.Relations.{plain}
use Rattle.model.proofs.Bools.{same_bool}
use Rattle.model.proofs.Search.{any_not}
use Rattle.model.proofs.Words.{on}
use Rattle.model.proofs.Synchronizes.{past_table}
use Rattle.positions.specs.Lists.{writes, plains, plain_writes, locks, lasts, takers, syncs, of_kinds}

-- a set and a test of kinds that agree on the twelve rows of the table, where the test fails past them
set_is : (s : ℕ) (p : ℕ → Bool) → s < 4096 → any 12 (λ k. not (beq (on s k) (p k))) ≡ false → ((k : ℕ) → 12 ≤ k → p k ≡ false) → (k : ℕ) → on s k ≡ p k
set_is s p small agree past k =
    elim (dec_lt k 12) [
      | yes h ↦ same_bool (on s k) (p k) (not-false (beq (on s k) (p k)) (any_not (λ k. not (beq (on s k) (p k))) 12 k h agree))
      | no g ↦
          let h : 12 ≤ k = omega arith in
          let l : s < 2 ^ k = omega (arith, pow_mono h) in rw (div-eq_of_lt l) (sym (past k h))
    ]

module _ (x : List ℕ) (b : ℕ) where
  pub are_writes : of_kinds x writes b ≡ write x b
  unfolding of_kinds any kind_row
  are_writes = set_is writes (λ k. (kind_row k).write) (lit< tt) refl (λ k h. rw (past_table k h)) (kind x b)

  pub are_syncs : of_kinds x syncs b ≡ sync x b
  unfolding of_kinds any kind_row
  are_syncs = set_is syncs (λ k. (kind_row k).sync) (lit< tt) refl (λ k h. rw (past_table k h)) (kind x b)

  pub are_takers : of_kinds x takers b ≡ not (same_class (row x b).takes.class class.NothingTaken)
  unfolding of_kinds any kind_row
  are_takers = set_is takers (λ k. not (same_class (kind_row k).takes.class class.NothingTaken)) (lit< tt) refl (λ k h. rw (past_table k h)) (kind x b)

  pub are_plain : of_kinds x plains b ≡ plain x b
  unfolding of_kinds any
  are_plain = set_is plains (λ k. eqb k 1 || eqb k 2) (lit< tt) refl (λ k h. rw (ne_eqb k 1 (λ e. omega arith), ne_eqb k 2 (λ e. omega arith))) (kind x b)

  pub are_plain_writes : of_kinds x plain_writes b ≡ plain x b && write x b
  unfolding of_kinds any kind_row
  are_plain_writes = set_is plain_writes (λ k. (eqb k 1 || eqb k 2) && (kind_row k).write) (lit< tt) refl (λ k h. rw (ne_eqb k 1 (λ e. omega arith), ne_eqb k 2 (λ e. omega arith))) (kind x b)

  pub are_locks : of_kinds x locks b ≡ eqb (kind x b) 5 || eqb (kind x b) 6
  unfolding of_kinds any
  are_locks = set_is locks (λ k. eqb k 5 || eqb k 6) (lit< tt) refl (λ k h. rw (ne_eqb k 5 (λ e. omega arith), ne_eqb k 6 (λ e. omega arith))) (kind x b)

  pub are_lasts : of_kinds x lasts b ≡ eqb (kind x b) 9
  unfolding of_kinds any
  are_lasts = set_is lasts (λ k. eqb k 9) (lit< tt) refl (λ k h. ne_eqb k 9 (λ e. omega arith)) (kind x b)
