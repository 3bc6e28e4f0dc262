-- What the table of kinds says of reads and writes.
use Prim.Native.Nat.{ℕ}
use mathlib.Core.Path.{◌≡◌, refl, sym, ap, ◌∙◌}
use mathlib.Core.Bool.{Bool, true, false, not, ◌&&◌, false≢true}
use lib.Dec.{eqb, ltb}
use borrow.Author.Tests.{ltb-true, ltb-false, eqb-true, not-true, not-false}
use Rattle.model.specs.declared.KindRow.{KindRow}
use Rattle.model.specs.declared.Target.{Target}
use Rattle.model.specs.declared.Target.TheVariants as target
use Rattle.model.specs.Search.{any}
use Rattle.model.specs.Kinds.{no_kind_row, kind_row}
use Rattle.model.proofs.Search.{any_not}
use Rattle.model.proofs.Synchronizes.{past_table}

-- where q holds of a row of the table, p holds of its kind
module _ (q : KindRow → Bool) (p : ℕ → Bool) (no_row : q no_kind_row ≡ false) (table : any 12 (λ k. q (kind_row k) && not (p k)) ≡ false) where
  tabled : (k : ℕ) → q (kind_row k) ≡ true → p k ≡ true
  tabled k h = go (ltb k 12) refl
    where
      go : (b : Bool) → ltb k 12 ≡ b → p k ≡ true
      go true e =
          not-false (p k) (rw h at (any_not (λ k. q (kind_row k) && not (p k)) 12 k (ltb-true k 12 e) table))
      go false e = absurd (false≢true (sym no_row ∙ ap q (sym (past_table k (ltb-false k 12 e))) ∙ h))

is_variable : Target → Bool
is_variable target.NoKind = false
is_variable target.Variable = true
is_variable target.Monitor = false
is_variable target.Thread = false
is_variable target.Zero = false
is_variable target.Any = false

variable_is : (c : Target) → is_variable c ≡ true → c ≡ target.Variable
unfolding is_variable
variable_is target.NoKind e = absurd (false≢true e)
variable_is target.Variable e = refl
variable_is target.Monitor e = absurd (false≢true e)
variable_is target.Thread e = absurd (false≢true e)
variable_is target.Zero e = absurd (false≢true e)
variable_is target.Any e = absurd (false≢true e)

module _ (k : ℕ) where
  pub plain_read : (kind_row k).read ≡ true → (kind_row k).volatile ≡ false → k ≡ 1
  unfolding kind_row any
  plain_read r v = eqb-true k 1 (tabled (λ w. w.read && not w.volatile) (λ k. eqb k 1) refl refl k (simp (r, v)))

  pub volatile_read : (kind_row k).read ≡ true → (kind_row k).volatile ≡ true → k ≡ 3
  unfolding kind_row any
  volatile_read r v = eqb-true k 3 (tabled (λ w. w.read && w.volatile) (λ k. eqb k 3) refl refl k (simp (r, v)))

  pub plain_write : (kind_row k).write ≡ true → (kind_row k).volatile ≡ false → k ≡ 2
  unfolding kind_row any
  plain_write r v = eqb-true k 2 (tabled (λ w. w.write && not w.volatile) (λ k. eqb k 2) refl refl k (simp (r, v)))

  pub volatile_sync : (kind_row k).volatile ≡ true → (kind_row k).sync ≡ true
  unfolding kind_row any
  volatile_sync = tabled (λ w. w.volatile) (λ k. (kind_row k).sync) refl refl k

  pub write_unread : (kind_row k).write ≡ true → (kind_row k).read ≡ false
  unfolding kind_row any
  write_unread w = not-true (kind_row k).read (tabled (λ w. w.write) (λ k. not (kind_row k).read) refl refl k w)

  pub reads_variable : (kind_row k).read ≡ true → (kind_row k).target ≡ target.Variable
  unfolding kind_row any is_variable
  reads_variable r = variable_is (kind_row k).target (tabled (λ w. w.read) (λ k. is_variable (kind_row k).target) refl refl k r)

  pub writes_variable : (kind_row k).write ≡ true → (kind_row k).target ≡ target.Variable
  unfolding kind_row any is_variable
  writes_variable r = variable_is (kind_row k).target (tabled (λ w. w.write) (λ k. is_variable (kind_row k).target) refl refl k r)
