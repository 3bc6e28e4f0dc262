-- Laws of the tables that are filled entry by entry.
use Prim.Native.Nat.{ℕ, ◌+◌, ◌<◌, ◌≤◌}
use native.Mathlib.Nat.{eq-or-lt_of_le}
use native.Mathlib.Omega.{arith}
use mathlib.Core.Path.{◌≡◌}
use mathlib.Core.Logic.{⊎_elim}
use mathlib.Core.List.{List}
use lib.ListN.{length, set}
use lib.Seq.{get_or-set_same, get_or-set_other}
use Rattle.justify.specs.Found.{Holds}

module _ (f : ℕ → ℕ) where
  pub holds_none : (t : List ℕ) → Holds t 0 f
  holds_none t = record { entry = λ a l. absurd (let z : ⊥ = omega arith in z) }

  -- one entry more
  pub holds_more : (t : List ℕ) (n v : ℕ) → n < length t → Holds t n f → v ≡ f n → Holds (set t n v) (n + 1) f
  holds_more t n v l h e =
      record {
        entry = λ a m.
            ⊎_elim (λ (q : a ≡ n). rw (q, get_or-set_same t n v 0 l) e)
            (λ (q : a < n). rw (get_or-set_other t n a v 0 (λ z. omega arith)) (h.entry a q))
            (eq-or-lt_of_le (let z : a ≤ n = omega arith in z));
      }
