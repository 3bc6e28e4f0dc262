-- The one-at-a-time order of a race-free section x: which positions it lists after k steps.
use Rattle.std.specs.Prelude.{ℕ, zero, suc, ◌+◌, List, [], ◌∷◌, ◌++◌, Bool, not, cond, ◌&&◌, ◌||◌, length, get_or, eqb, ltb}
use Rattle.model.specs.Search.{any, first, count}
use Rattle.model.specs.Layout.{size, thread, place, sync}

-- position a stands in the list l
unfoldable pub listed : List ℕ → ℕ → Bool
listed l a = any (length l) (λ i. eqb (get_or l i 0) a)

-- thread t's next action after those listed; the section's size where there is none
unfoldable pub next : List ℕ → List ℕ → ℕ → ℕ
next x l t = first (size x) (λ a. eqb (thread x a) t && not (listed l a))

-- the place due after the positions listed
unfoldable pub due : List ℕ → List ℕ → ℕ
due x l = count (length l) (λ i. sync x (get_or l i 0)) + 1

-- thread t has a next action that "isn't a synchronization action or has the next place due"
unfoldable pub ready : List ℕ → List ℕ → ℕ → Bool
ready x l t = ltb (next x l t) (size x) && (not (sync x (next x l t)) || eqb (place x (next x l t)) (due x l))

-- "at each step the lowest-numbered thread" that is ready, threads being below 16; the section's size where there is none
unfoldable pub turn : List ℕ → List ℕ → ℕ
turn x l = let t = first 16 (ready x l) in cond (ltb t 16) (next x l t) (size x)

unfoldable pub serial : List ℕ → ℕ → List ℕ
serial x zero = []
serial x (suc k) = let l = serial x k in l ++ (turn x l ∷ [])
