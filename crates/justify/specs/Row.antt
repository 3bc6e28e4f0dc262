-- What is asked of rows of happens-before under a mask, which is one row as a set of actions.
use Rattle.std.specs.Prelude.{ℕ, ◌≡◌, List, Bool, not, ◌&&◌, ltb}
use Rattle.std.specs.Bool.{beq}
use Rattle.model.specs.WorkArea.{shown}
use Rattle.rows.specs.Part.{has}

-- b is in the mask, and p and q differ in whether a hb b
unfoldable pub differs : List ℕ → List ℕ → List ℕ → ℕ → ℕ → Bool
differs p q mask a b = has mask b && not (beq (shown p a b) (shown q a b))

-- b is in the mask, and a hb b in p
unfoldable pub shares : List ℕ → List ℕ → ℕ → ℕ → Bool
shares p mask a b = has mask b && shown p a b

-- the mask has the actions below n at which t holds, and no others
pub record Masked (mask : List ℕ) (n : ℕ) (t : ℕ → Bool) : Type 0 where
  pub bits : (b : ℕ) → has mask b ≡ ltb b n && t b
