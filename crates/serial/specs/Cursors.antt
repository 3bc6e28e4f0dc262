-- The steps of the order over what the code keeps: cs, at place t thread t's next action, and d, the place due.
use Rattle.std.specs.Prelude.{ℕ, ◌+◌, ◌<◌, ◌≡◌, List, Bool, false, not, ◌&&◌, ◌||◌, length, get_or, set, eqb, leb, Option, Some, None, position}
use Rattle.model.specs.Search.{first, below}
use Rattle.model.specs.Layout.{size, thread, place, sync}

-- thread t's first action from position c on
unfoldable pub action_from : List ℕ → ℕ → ℕ → Option ℕ
action_from x t c = below (size x) (first (size x) (λ a. leb c a && eqb (thread x a) t))

-- there is a next action, and it "isn't a synchronization action or has the next place due"
abbrev pub ready_at : List ℕ → ℕ → Option ℕ → Bool
ready_at x d None = false
ready_at x d (Some a) = not (sync x a) || eqb (place x a) d

-- "the lowest-numbered thread" that is ready
abbrev pub lowest : List ℕ → List (Option ℕ) → ℕ → Option ℕ
lowest x cs d = position (ready_at x d) cs

-- its next action
abbrev pub turn_at : List ℕ → List (Option ℕ) → ℕ → Option ℕ
turn_at x cs d = elim (lowest x cs d) [ None ↦ None | Some t ↦ get_or cs t None ]

-- the next actions once that one is listed
abbrev pub moved : List ℕ → List (Option ℕ) → ℕ → List (Option ℕ)
moved x cs d =
    elim (lowest x cs d) [
      | None ↦ cs
      | Some t ↦ elim (get_or cs t None) [ None ↦ cs | Some a ↦ set cs t (action_from x t (a + 1)) ]
    ]

-- cs has each thread's first action
pub record Starts (x : List ℕ) (cs : List (Option ℕ)) : Type 0 where
  pub all : length cs ≡ 16
  pub first_action : (t : ℕ) → t < 16 → get_or cs t None ≡ action_from x t 0

-- the next actions stand in section x
pub record Within (x : List ℕ) (cs : List (Option ℕ)) : Type 0 where
  pub below : (t a : ℕ) → get_or cs t None ≡ Some a → a < size x
