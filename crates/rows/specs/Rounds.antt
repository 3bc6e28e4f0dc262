-- What the steps of a round in place make of the words ws, in rows of W words: the words ws'. It is the step's promise and, while the step is under way, the invariant of its loop.
use Rattle.std.specs.Prelude.{ℕ, ◌*◌, ◌≡◌, List, Bool, ◌&&◌, ◌||◌, length, eqb, ltb}
use Rattle.model.specs.WorkArea.{bit}

-- where `has`, the first m words of row `from` of the words us are or-ed into row `to`
pub record Joined (W : ℕ) (ws ws' : List ℕ) (to : ℕ) (us : List ℕ) (from : ℕ) (has : Bool) (m : ℕ) : Type 0 where
  pub long : length ws' ≡ length ws
  pub bits : (a b : ℕ) → bit W ws' a b ≡ bit W ws a b || eqb a to && ltb b (64 * m) && (has && bit W us from b)

-- the words r are row k of the words ws
pub record Row (W : ℕ) (ws : List ℕ) (k : ℕ) (r : List ℕ) : Type 0 where
  pub long : length r ≡ W
  pub bits : (b : ℕ) → bit W r 0 b ≡ bit W ws k b

-- the first m rows are through round k
pub record Round (W : ℕ) (ws ws' : List ℕ) (k m : ℕ) : Type 0 where
  pub long : length ws' ≡ length ws
  pub bits : (a b : ℕ) → bit W ws' a b ≡ bit W ws a b || ltb a m && (bit W ws a k && bit W ws k b)
