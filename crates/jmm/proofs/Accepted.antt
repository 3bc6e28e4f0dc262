-- What the steps behind the refusals may go by, of a record that is not refused.
use Prim.Native.Nat.{ℕ, ◌+◌, ◌*◌, ◌≤◌}
use native.Mathlib.Omega.{arith}
use mathlib.Core.Path.{◌≡◌}
use mathlib.Core.List.{List}
use lib.Dec.{ltb}
use borrow.Author.Tests.{ltb-false}
use Rattle.model.specs.Search.{none}
use Rattle.model.specs.Answers.{answer, when}
use Rattle.model.specs.Limits.{part_words}
use Rattle.model.specs.Layout.{K, section, size}
use Rattle.model.specs.Refused.{refusal}
use Rattle.model.specs.Questions.{race_refusal, order_refusal}
use Rattle.model.proofs.Answers.{then_both, when_not}
use Rattle.record.proofs.Unrefused.{unrefused}
use Rattle.jmm.specs.Accepted.{Accepted}

pub accepted : (r : List ℕ) (need lent : ℕ) → (refusal r need lent).n ≡ 0 → (n : ℕ) → n ≤ K r + 1 → part_words * n ≤ need → Accepted r n lent
accepted r need lent h n l e =
    let u = unrefused r need lent h in
    let few = u.few_sections in
    let enough = u.lent_enough in
    record { few = omega arith; room = omega arith; sized = λ s m. u.sized s (omega arith) }

-- and of one that order does not refuse
module _ (r : List ℕ) (lent room : ℕ) (h : (order_refusal r lent room).n ≡ 0) where
  both : ((refusal r part_words lent).n ≡ 0) × ((when (ltb room (size (section r 0))) (answer 8 0 none none)).n ≡ 0)
  unfolding order_refusal race_refusal
  both = then_both (refusal r part_words lent) (when (ltb room (size (section r 0))) (answer 8 0 none none)) h

  pub order_passed : (refusal r part_words lent).n ≡ 0
  order_passed = both.0

  pub list_room : size (section r 0) ≤ room
  list_room = ltb-false room (size (section r 0)) (when_not (ltb room (size (section r 0))) 8 0 (omega arith) both.1)
