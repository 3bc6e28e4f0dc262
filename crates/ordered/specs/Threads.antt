-- 12 and 14: what is kept of each thread.
use Rattle.std.specs.Prelude.{ℕ, ◌<◌, ◌≡◌, List, Bool, cond, ◌&&◌, eqb, ltb, get_or}
use Rattle.model.specs.Search.{any}
use Rattle.model.specs.Layout.{size, thread, kind, sync}
use Rattle.positions.specs.Firsts.{keys}

-- entry v of l is the largest f of the positions below n whose key is v: exactly what is below it is below one of those
pub record Largest (key f : ℕ → ℕ) (n : ℕ) (l : List ℕ) : Type 0 where
  pub above : (v p : ℕ) → v < keys → ltb p (get_or l v 0) ≡ any n (λ b. eqb (key b) v && ltb p (f b))

-- 12: a synchronization action is kept by its thread
abbrev pub thread_key : List ℕ → ℕ → ℕ
thread_key x b = cond (sync x b) (thread x b) keys

-- the last action of each thread
abbrev pub Lasts : List ℕ → List ℕ → Type 0
Lasts x = Largest (thread x) (λ b. b) (size x)

-- b is the last action of a thread
abbrev pub ending : List ℕ → ℕ → Bool
ending x b = eqb (kind x b) 9
