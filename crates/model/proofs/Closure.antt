-- Happens-before is the transitive closure of program order and synchronizes-with together, whatever the section's bytes.
use Prim.Native.Nat.{ℕ, zero, suc, ◌<◌, ◌≤◌}
use mathlib.Core.Path.{◌≡◌, refl, sym, ◌∙◌}
use mathlib.Core.List.{List}
use mathlib.Core.Bool.{Bool, true, false, ◌&&◌, ◌||◌, and_comm, or-true, and-eq-true_iff, false≢true}
use mathlib.Core.Logic.{◌↔◌, ◌⊎◌, inl, inr, ⊎_elim}
use mathlib.Mathlib.Data.Bool.Basic.{eq-false_of_not-eq-true}
use native.Mathlib.Nat.{not-le_of_lt}
use borrow.Author.Tests.{ltb-true, eqb-true, eq-eqb}
use lib.Dec.{eqb, ltb}
use Rattle.model.specs.Layout.{size}
use Rattle.model.specs.Search.{any}
use Rattle.model.specs.Relations.{po, sw, edge, reach, hb}
use Rattle.model.proofs.Bools.{either, same_truth}
use Rattle.model.proofs.Search.{any_at}

-- a way of one or more edges of e
pub data Path⁺ (e : ℕ → ℕ → Bool) : ℕ → ℕ → Type 0 where
  one : {a b : ℕ} → e a b ≡ true → Path⁺ e a b
  join : {a b c : ℕ} → Path⁺ e a c → Path⁺ e c b → Path⁺ e a b

absorbs : (s t : Bool) → s || s && t ≡ s
absorbs true t = refl
absorbs false t = refl

-- by e, or by e on a way whose inner positions are the first m that `at` lists: `reach`, with the rounds in any order and over some of the positions
unfoldable pub via : (ℕ → ℕ → Bool) → (ℕ → ℕ) → ℕ → ℕ → ℕ → Bool
via e at zero a b = e a b
via e at (suc i) a b = via e at i a b || via e at i a (at i) && via e at i (at i) b

-- r is transitive through c
abbrev pub Through : (ℕ → ℕ → Bool) → ℕ → Type 0
Through r c = (a b : ℕ) → r a c ≡ true → r c b ≡ true → r a b ≡ true

module _ (e : ℕ → ℕ → Bool) (at : ℕ → ℕ) where
  stays : (i a b : ℕ) → via e at i a b ≡ true → via e at (suc i) a b ≡ true
  unfolding via
  stays i a b h = rw h

  through : (i a b : ℕ) → via e at i a (at i) ≡ true → via e at i (at i) b ≡ true → via e at (suc i) a b ≡ true
  unfolding via
  through i a b h g = rw (h, g, or-true (via e at i a b))

  -- what reaches in i + 1 rounds reached in i, or goes through the position of round i
  abbrev Ways : ℕ → ℕ → ℕ → Type 0
  Ways i a b = (via e at i a b ≡ true) ⊎ ((via e at i a (at i) ≡ true) × (via e at i (at i) b ≡ true))

  ways : (i a b : ℕ) → via e at (suc i) a b ≡ true → Ways i a b
  unfolding via
  ways i a b h =
      ⊎_elim (λ s. inl s) (λ s. inr ((and-eq-true_iff (via e at i a (at i)) (via e at i (at i) b)).0 s))
      (either (via e at i a b) (via e at i a (at i) && via e at i (at i) b) h)

  -- Warshall: a round makes the relation transitive through its position, and keeps it so through every other
  gains : (i : ℕ) → Through (via e at (suc i)) (at i)
  unfolding via
  gains i a b f g =
      through i a b (sym (absorbs (via e at i a (at i)) (via e at i (at i) (at i))) ∙ f)
      (sym (absorbs (via e at i (at i) b) (via e at i (at i) (at i))) ∙ rw (and_comm (via e at i (at i) b) (via e at i (at i) (at i))) g)

  keeps : (i c : ℕ) → Through (via e at i) c → Through (via e at (suc i)) c
  keeps i c m a b f g = below (ways i a c f) (ways i c b g)
    where
      below : Ways i a c → Ways i c b → via e at (suc i) a b ≡ true
      below (inl s) (inl t) = stays i a b (m a b s t)
      below (inl s) (inr t) = through i a b (m a (at i) s t.0) t.1
      below (inr s) (inl t) = through i a b s.0 (m (at i) b s.1 t)
      below (inr s) (inr t) = through i a b s.0 t.1

  kept : (m c : ℕ) → Through e c → Through (via e at m) c
  unfolding via
  kept zero c t = t
  kept (suc m) c t = keeps m c (kept m c t)

  listed : (m c : ℕ) → any m (λ i. eqb c (at i)) ≡ true → Through (via e at m) c
  unfolding any
  listed zero c h = absurd (false≢true h)
  listed (suc m) c h =
      ⊎_elim (λ s. keeps m c (listed m c s)) (λ s. rw (eqb-true c (at m) s) (gains m))
      (either (any m (λ i. eqb c (at i))) (eqb c (at m)) h)

  sound : (m a b : ℕ) → via e at m a b ≡ true → Path⁺ e a b
  unfolding via
  sound zero a b h = one h
  sound (suc i) a b h =
      ⊎_elim (λ s. sound i a b s) (λ s. join (sound i a (at i) s.0) (sound i (at i) b s.1)) (ways i a b h)

  grows : (m a b : ℕ) → e a b ≡ true → via e at m a b ≡ true
  unfolding via
  grows zero a b h = h
  grows (suc i) a b h = stays i a b (grows i a b h)

  -- where e relates positions below n alone
  module _ (n : ℕ) (within : (a b : ℕ) → e a b ≡ true → (a < n) × (b < n)) where
    pub via_within : (m a b : ℕ) → via e at m a b ≡ true → (a < n) × (b < n)
    unfolding via
    via_within zero a b h = within a b h
    via_within (suc i) a b h =
        ⊎_elim (λ s. via_within i a b s)
        (λ s. ((via_within i a (at i) s.0).0, (via_within i (at i) b s.1).1))
        (ways i a b h)

    -- and each of them is listed, or e is transitive through it: after m rounds the relation is the transitive closure of e
    module _ (m : ℕ) (cover : (c : ℕ) → c < n → (any m (λ i. eqb c (at i)) ≡ true) ⊎ Through e c) where
      complete : {a b : ℕ} → Path⁺ e a b → via e at m a b ≡ true
      complete {a} {b} (one h) = grows m a b h
      complete {a} {b} (join {c = c} p q) =
          ⊎_elim (λ s. listed m c s a b (complete p) (complete q)) (λ t. kept m c t a b (complete p) (complete q))
          (cover c (via_within m a c (complete p)).1)

      via_closure : (a b : ℕ) → (via e at m a b ≡ true) ↔ Path⁺ e a b
      via_closure a b = (sound m a b, complete)

-- every position in turn
reach_via : (e : ℕ → ℕ → Bool) (k a b : ℕ) → reach e k a b ≡ via e (λ i. i) k a b
unfolding reach via
reach_via e zero a b = refl
reach_via e (suc k) a b = rw (reach_via e k a b, reach_via e k a k, reach_via e k k b)

module _ (e : ℕ → ℕ → Bool) (n : ℕ) (within : (a b : ℕ) → e a b ≡ true → (a < n) × (b < n)) where
  pub reach_within : (k a b : ℕ) → reach e k a b ≡ true → (a < n) × (b < n)
  reach_within k a b h = via_within e (λ i. i) n within k a b (sym (reach_via e k a b) ∙ h)

  -- after n rounds the relation is the transitive closure of e
  pub reach_closure : (a b : ℕ) → (reach e n a b ≡ true) ↔ Path⁺ e a b
  reach_closure a b =
      rw (reach_via e n a b)
      (via_closure e (λ i. i) n within n (λ c l. inl (any_at (λ i. eqb c i) n c l (eq-eqb c c refl))) a b)

-- ways of ways
lift : {e f : ℕ → ℕ → Bool} → ((a b : ℕ) → f a b ≡ true → Path⁺ e a b) → {a b : ℕ} → Path⁺ f a b → Path⁺ e a b
lift h {a} {b} (one s) = h a b s
lift h (join p q) = join (lift h p) (lift h q)

-- rounds over some positions alone are enough, from a relation f between e and its closure that is transitive through every other
pub via_reach :
    (e f : ℕ → ℕ → Bool) (n : ℕ) → ((a b : ℕ) → f a b ≡ true → (a < n) × (b < n)) → ((a b : ℕ) → e a b ≡ true → f a b ≡ true) →
    ((a b : ℕ) → f a b ≡ true → Path⁺ e a b) → (at : ℕ → ℕ) (m : ℕ) →
    ((c : ℕ) → c < n → (any m (λ i. eqb c (at i)) ≡ true) ⊎ Through f c) → (a b : ℕ) → via f at m a b ≡ reach e n a b
via_reach e f n within more ways at m cover a b =
    let (sound, complete) = via_closure f at n within m cover a b in
    let (sound', complete') = reach_closure e n (λ c d h. within c d (more c d h)) a b in
    same_truth (via f at m a b) (reach e n a b)
    (λ h. complete' (lift ways (sound h)))
    (λ h. complete (lift (λ c d s. one (more c d s)) (sound' h)))

-- the relation turned round
pub reach_flip : (e : ℕ → ℕ → Bool) (k a b : ℕ) → reach (λ x y. e y x) k a b ≡ reach e k b a
unfolding reach
reach_flip e zero a b = refl
reach_flip e (suc k) a b =
    rw (reach_flip e k a b, reach_flip e k a k, reach_flip e k k b, and_comm (reach e k k a) (reach e k b k))

module _ (x : List ℕ) where
  pub edge_within : (a b : ℕ) → edge x a b ≡ true → (a < size x) × (b < size x)
  unfolding edge
  edge_within a b h =
      let (both, rest) = (and-eq-true_iff (ltb a (size x) && ltb b (size x)) (po x a b || sw x a b)).0 h in
      let (s, t) = (and-eq-true_iff (ltb a (size x)) (ltb b (size x))).0 both in
      (ltb-true a (size x) s, ltb-true b (size x) t)

  pub hb_closure : (a b : ℕ) → (hb x a b ≡ true) ↔ Path⁺ (edge x) a b
  unfolding hb
  hb_closure = reach_closure (edge x) (size x) edge_within

  -- it relates positions of the section alone
  pub hb_within : (a b : ℕ) → hb x a b ≡ true → (a < size x) × (b < size x)
  unfolding hb
  hb_within = reach_within (edge x) (size x) edge_within (size x)

  pub hb_from_outside : (a b : ℕ) → size x ≤ a → hb x a b ≡ false
  hb_from_outside a b h = eq-false_of_not-eq-true (λ t. not-le_of_lt (hb_within a b t).0 h)

  pub hb_to_outside : (a b : ℕ) → size x ≤ b → hb x a b ≡ false
  hb_to_outside a b h = eq-false_of_not-eq-true (λ t. not-le_of_lt (hb_within a b t).1 h)
