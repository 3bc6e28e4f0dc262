-- What a question leaves in the words and in the list.
use Prim.Native.Nat.{ℕ, ◌≤◌}
use mathlib.Core.Path.{◌≡◌, ◌∙◌}
use mathlib.Core.List.{List, ◌++◌}
use mathlib.Core.Bool.{cond}
use lib.ListN.{length, drop}
use lib.Dec.{leb}
use borrow.Author.Tests.{eq-eqb, ne_eqb, le-leb}
use Rattle.model.specs.declared.Answer.{Answer}
use Rattle.std.specs.Prelude.{Ok, Err}
use Rattle.model.specs.Answers.{checked}
use Rattle.model.proofs.Checked.{passes, breaks}
use Rattle.model.specs.WorkArea.{filled}
use Rattle.model.specs.Layout.{section, size}
use Rattle.model.specs.Serial.{serial}
use Rattle.model.specs.Questions.{left, order, order_list}

-- what a question that refuses leaves in the words, and one that does not
module _ (r : Answer) (x : List ℕ) (n : ℕ) (ws : List ℕ) where
  pub untouched : {e : Answer} → Err e ≡ checked r → ws ≡ left r x n ws
  unfolding left
  untouched h = rw (ne_eqb r.n 0 ((breaks r h).1))

  pub left_filled : Ok tt ≡ checked r → {us : List ℕ} → us ≡ filled x n ws → us ≡ left r x n ws
  unfolding left
  left_filled h f = rw (eq-eqb r.n 0 (passes r h)) f

-- what order leaves in the list
module _ (r : List ℕ) (lent : ℕ) (l : List ℕ) where
  pub list_kept : {e : Answer} → Err e ≡ checked (order r lent (length l)) → l ≡ order_list r lent l
  unfolding order_list
  list_kept h = rw (ne_eqb (order r lent (length l)).n 0 ((breaks _ h).1))

  pub list_serial : Ok tt ≡ checked (order r lent (length l)) → {x us : List ℕ} → x ≡ section r 0 → size (section r 0) ≤ length l →
      us ≡ cond (leb (size x) (length l)) (serial x (size x) ++ drop (size x) l) l → us ≡ order_list r lent l
  unfolding order_list
  list_serial h whole room f =
      rw (eq-eqb (order r lent (length l)).n 0 (passes _ h))
      (f ∙ rw (whole, le-leb (size (section r 0)) (length l) room))
