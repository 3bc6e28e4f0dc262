-- Checks that pass a section over the limit: n is what the code got for the section's count, and r what it answers.
use Prim.Native.Nat.{ℕ, ◌<◌, ◌≤◌}
use mathlib.Core.Path.{◌≡◌}
use mathlib.Core.List.{List}
use borrow.Author.Tests.{le-leb, lt-leb}
use Rattle.std.specs.Prelude.{Result, Ok}
use Rattle.model.specs.declared.Answer.{Answer}
use Rattle.model.specs.Limits.{max_actions}
use Rattle.model.specs.Layout.{size}
use Rattle.model.specs.Answers.{checked}
use Rattle.positions.specs.Limit.{limited}

module _ (x : List ℕ) (q : Answer) {n : ℕ} (e : n ≡ size x) where
  pub over_limit : max_actions < n → Ok tt ≡ checked (limited x q)
  unfolding limited checked
  over_limit h = rw (← e, lt-leb n max_actions h)

  pub within_limit : {r : Result (Unit {0}) Answer} → n ≤ max_actions → r ≡ checked q → r ≡ checked (limited x q)
  unfolding limited
  within_limit h p = rw (← e, le-leb n max_actions h) p
