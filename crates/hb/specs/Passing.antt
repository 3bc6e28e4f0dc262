-- What the rows hold while the actions are passed from the last to the first: those from position s on are passed, of n.
use Rattle.std.specs.Prelude.{ℕ, List, Bool, not, ◌&&◌, ◌||◌, eqb, ltb, leb}
use Rattle.model.specs.Search.{any}
use Rattle.model.specs.declared.Class.TheVariants.{NothingTaken}
use Rattle.model.specs.Kinds.{same_class}
use Rattle.model.specs.Layout.{thread, row}
use Rattle.model.specs.Relations.{po, sw}

-- others synchronize with b, by what its kind takes
abbrev pub receives : List ℕ → ℕ → Bool
receives x b = not (same_class (row x b).takes.class NothingTaken)

-- a passed action of thread t synchronizes with b
unfoldable pub hands : List ℕ → ℕ → ℕ → ℕ → ℕ → Bool
hands x n s t b = any n (λ c. leb s c && (eqb t (thread x c) && sw x c b))

-- b is a passed action of thread t, or such an action synchronizes with it
abbrev pub passed : List ℕ → ℕ → ℕ → ℕ → ℕ → Bool
passed x n s t b = ltb b n && (leb s b && eqb t (thread x b) || hands x n s t b)

-- b is after the passed action a in program order, or a or an action after it synchronizes with b
abbrev pub leads : List ℕ → ℕ → ℕ → ℕ → ℕ → Bool
leads x n s a b = leb s a && ltb a n && (ltb b n && (po x a b || hands x n a (thread x a) b))
