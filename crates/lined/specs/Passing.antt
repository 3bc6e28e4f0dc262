-- What is noted while the actions are passed from the last to the first: those from position s on are passed.
use Rattle.std.specs.Prelude.{ℕ, List, Bool, ◌&&◌, ◌||◌, eqb, leb}
use Rattle.model.specs.Search.{any}
use Rattle.model.specs.Layout.{size}
use Rattle.model.specs.Relations.{hb}

-- b is a passed action, or after one, whose row by f is o
unfoldable pub noted : List ℕ → (ℕ → ℕ) → ℕ → ℕ → ℕ → Bool
noted x f s o b = any (size x) (λ c. leb s c && (eqb o (f c) && (eqb b c || hb x c b)))

-- a is passed, and b after it
abbrev pub passed : List ℕ → ℕ → ℕ → ℕ → Bool
passed x s a b = leb s a && hb x a b
