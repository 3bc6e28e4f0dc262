-- A pass that keeps the largest so far of each key.
use Prim.Native.Nat.{ℕ, ◌+◌, ◌<◌, ◌≤◌}
use native.Mathlib.Omega.{arith}
use native.Mathlib.Decide.{ℕ_discrete}
use mathlib.Core.Path.{◌≡◌, refl, sym, ap, ◌∙◌}
use mathlib.Core.Bool.{Bool, true, false, ◌&&◌, ◌||◌, and-false, and_comm, or-false}
use mathlib.Core.List.{List}
use lib.Dec.{eqb, ltb}
use lib.ListN.{length, replicate, set, get_or, get_or-replicate}
use lib.Seq.{get_or-set_same, get_or-set_other}
use borrow.Author.Tests.{ltb-true, ltb-false, lt-ltb, le-ltb, eq-eqb, ne_eqb}
use Rattle.model.specs.Search.{any}
use Rattle.model.specs.Layout.{size, thread, place, sync}
use Rattle.model.specs.Rules.{broken12}
use Rattle.model.proofs.Search.{any_none, any_more, any_never, any_same}
use Rattle.positions.specs.Firsts.{keys}
use Rattle.positions.proofs.Tables.{keyed}
use Rattle.ordered.specs.Threads.{Largest, Lasts, thread_key}

module _ (k f : ℕ → ℕ) where
  pub largest_none : Largest k f 0 (replicate keys 0)
  largest_none = record { above = λ v p h. rw (get_or-replicate {A = ℕ} keys v 0 0 h) (le-ltb p 0 (omega arith) ∙ sym (any_none _)) }

  module _ (n : ℕ) (l : List ℕ) (kept : Largest k f n l) where
    -- position n is of no key v
    same : (v p : ℕ) → v < keys → (k n ≡ v → ⊥) → ltb p (get_or l v 0) ≡ any (n + 1) (λ b. eqb (k b) v && ltb p (f b))
    same v p h g = rw (any_more, ne_eqb (k n) v g) (kept.above v p h ∙ sym (or-false _))

    pub largest_past : keys ≤ k n → Largest k f (n + 1) l
    largest_past h = record { above = λ v p u. same v p u (λ e. omega arith) }

    -- position n has an f that isn't below the largest so far
    pub largest_more : {w y : ℕ} → w ≡ k n → y ≡ f n → w < length l → w < keys → get_or l w 0 ≤ y → Largest k f (n + 1) (set l w y)
    largest_more {w} {y} q e len m h = record { above = λ v p u. at v p u (ℕ_discrete v w) }
      where
        over : (p : ℕ) (b : Bool) → ltb p (get_or l w 0) ≡ b → ltb p y ≡ b || ltb p y
        over p true z = lt-ltb p y (omega (arith, ltb-true p (get_or l w 0) z))
        over p false z = refl

        at : (v p : ℕ) → v < keys → Dec (v ≡ w) → ltb p (get_or (set l w y) v 0) ≡ any (n + 1) (λ b. eqb (k b) v && ltb p (f b))
        at v p u (yes z) =
            rw (z, get_or-set_same l w y 0 len, any_more, eq-eqb (k n) w (sym q), ← e, ← kept.above w p m) (over p (ltb p (get_or l w 0)) refl)
        at v p u (no g) = rw (get_or-set_other l w v y 0 (λ z. g z)) (same v p u (λ z. g (sym (q ∙ z))))

    -- where f is the position, the largest is a position before n
    pub largest_le : ((b : ℕ) → f b ≡ b) → (v : ℕ) → v < keys → get_or l v 0 ≤ n
    largest_le e v h =
        ltb-false n (get_or l v 0)
        (kept.above v n h ∙ any_never _ n (λ b u. rw (e b, le-ltb n b (omega arith)) (and-false (eqb (k b) v))))

module _ (x : List ℕ) where
  pub sync_key : (a : ℕ) → sync x a ≡ true → thread_key x a ≡ thread x a
  sync_key a s = rw s

  -- 12: an earlier synchronization action of a's thread has a larger place
  pub largest_breaks :
      (l : List ℕ) (a : ℕ) → Largest (thread_key x) (place x) a l → sync x a ≡ true → {v p : ℕ} → v ≡ thread x a → p ≡ place x a → v < keys →
      ltb p (get_or l v 0) ≡ broken12 x a
  unfolding broken12
  largest_breaks l a kept s {v} {p} e q h =
      rw (s, ← e, ← q)
      (kept.above v p h ∙ any_same _ _ a (λ b u. ap (λ (z : Bool). z && ltb p (place x b)) (keyed (sync x b) (thread x b) v h)))

  pub no_sync : (a : ℕ) → sync x a ≡ false → broken12 x a ≡ false
  unfolding broken12
  no_sync a s = rw s

  -- 14: an action of a thread comes after a
  pub last_after : (l : List ℕ) → Lasts x l → (a : ℕ) {v w : ℕ} → v ≡ w → v < keys → ltb a (get_or l v 0) ≡ any (size x) (λ b. ltb a b && eqb (thread x b) w)
  last_after l kept a {v} e h =
      rw (← e) (kept.above v a h ∙ any_same _ _ (size x) (λ b u. and_comm (eqb (thread x b) v) (ltb a b)))
