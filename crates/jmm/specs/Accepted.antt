-- What the steps behind the refusals may go by.
use Rattle.std.specs.Prelude.{ℕ, ◌*◌, ◌<◌, ◌≤◌, ◌≡◌, List, length, take, drop}
use Rattle.model.specs.Limits.{max_actions, part_words}
use Rattle.model.specs.Layout.{section, size}
use Rattle.model.specs.WorkArea.{part}

-- the first n sections of r are within their limits, and so are their parts within the words lent
pub record Accepted (r : List ℕ) (n lent : ℕ) : Type 0 where
  pub few : n ≤ 9
  pub room : part_words * n ≤ lent
  pub sized : (s : ℕ) → s < n → size (section r s) ≤ max_actions

-- and the parts of these sections are filled in the words ws
pub record Filled (r : List ℕ) (n : ℕ) (ws : List ℕ) : Type 0 where
  pub accepted : Accepted r n (length ws)
  pub parts : (s : ℕ) → s < n → take part_words (drop (part_words * s) ws) ≡ part (section r s)
