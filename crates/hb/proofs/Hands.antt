-- What the passed actions of a thread synchronize with.
use Prim.Native.Nat.{ℕ, ◌+◌, ◌<◌}
use mathlib.Core.Path.{◌≡◌, ◌∙◌}
use mathlib.Core.List.{List}
use mathlib.Core.Bool.{false, ◌&&◌, ◌||◌, and-false}
use lib.Dec.{eqb}
use borrow.Author.Tests.{lt-ltb, lt-leb, not-false, eqb-true}
use Rattle.model.specs.declared.Class.TheVariants as class
use Rattle.model.specs.Kinds.{number_of}
use Rattle.model.specs.Layout.{thread, row}
use Rattle.model.specs.Relations.{sw}
use Rattle.model.proofs.Search.{any_never, any_from}
use Rattle.relations.specs.Objects.{taken}
use Rattle.relations.proofs.Objects.{sw_nothing_taken}
use Rattle.hb.specs.Passing.{receives, hands}

-- nothing synchronizes with what does not receive
module _ (x : List ℕ) (a b : ℕ) where
  pub unreceived : receives x b ≡ false → sw x a b ≡ false
  unfolding taken
  unreceived s =
      sw_nothing_taken x a b (eqb-true (number_of (row x b).takes.class) (number_of class.NothingTaken) (not-false _ s))

module _ (x : List ℕ) (n : ℕ) where
  pub hands_none : (t b : ℕ) → hands x n n t b ≡ false
  unfolding hands
  hands_none t b = any_never _ n (λ c l. rw (lt-leb n c l))

  pub hands_to : (s t b : ℕ) → receives x b ≡ false → hands x n s t b ≡ false
  unfolding hands
  hands_to s t b r = any_never _ n (λ c l. rw (unreceived x c b r) (simp and-false))

  pub hands_more : (s a : ℕ) → s ≡ a + 1 → a < n → (t b : ℕ) → hands x n a t b ≡ hands x n s t b || eqb t (thread x a) && sw x a b
  unfolding hands
  hands_more s a e l t b = any_from (λ c. eqb t (thread x c) && sw x c b) s a e n ∙ rw (lt-ltb a n l)
