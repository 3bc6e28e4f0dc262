-- What `(0..n).filter(..).count()` comes to in the searches of the model.
use Prim.Native.Nat.{ℕ, zero, suc, ◌+◌}
use native.Mathlib.Nat.{add-zero}
use native.Mathlib.Omega.{arith}
use mathlib.Core.Path.{◌≡◌, refl}
use mathlib.Core.Bool.{Bool, true, false, cond}
use mathlib.Core.List.{◌∷◌}
use lib.ListN.{length}
use Rattle.std.specs.List.{range_with_len, filter}
use Rattle.model.specs.Search.{count}
use Rattle.model.proofs.Search.{count_none, count_more}

-- those among the n positions from a on
count_from : (p : ℕ → Bool) (a n : ℕ) → count a p + length (filter p (range_with_len a n)) ≡ count (a + n) p
count_from p a zero = rw (add-zero a, add-zero (count a p))
count_from p a (suc n) = go (count_from p (a + 1) n) (p a) refl
  where
    more : count (a + 1) p ≡ count a p + cond (p a) 1 0
    more = count_more p a

    same : a + 1 + n ≡ a + suc n
    same = omega arith

    go : count (a + 1) p + length (filter p (range_with_len (a + 1) n)) ≡ count (a + 1 + n) p → (b : Bool) → p a ≡ b → count a p + length (filter p (a ∷ range_with_len (a + 1) n)) ≡ count (a + suc n) p
    go rest true e = rw e (omega (arith, rw same at rest, rw e at more))
    go rest false e = rw e (omega (arith, rw same at rest, rw e at more))

pub count_below : (p : ℕ → Bool) (n : ℕ) → length (filter p (range_with_len 0 n)) ≡ count n p
count_below p n =
    let e : 0 + n ≡ n = omega arith in
    let h = rw e at (count_from p 0 n) in omega (arith, h, count_none p)
