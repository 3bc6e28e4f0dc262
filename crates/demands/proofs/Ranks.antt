-- Every total order comes from exactly one sequence: a position stands at the step that is the number of positions before it.
use Prim.Native.Nat.{ℕ, zero, suc, ◌+◌, ◌<◌, ◌≤◌}
use native.Mathlib.Nat.{eq-or-lt_of_le}
use native.Mathlib.Decide.{ℕ_discrete, dec_lt}
use native.Mathlib.Omega.{arith}
use mathlib.Core.Path.{◌≡◌, refl, sym, ap, ◌∙◌}
use mathlib.Core.List.{List}
use mathlib.Core.Logic.{◌↔◌, ⊎_elim}
use mathlib.Core.Bool.{Bool, true, false, cond, false≢true}
use mathlib.Mathlib.Data.Bool.Basic.{eq-false_of_not-eq-true}
use lib.ListN.{get_or}
use lib.Dec.{eqb}
use borrow.Author.Tests.{eqb-true, eq-eqb}
use Rattle.model.specs.Search.{first, count}
use Rattle.model.specs.Layout.{size}
use Rattle.model.specs.WorkArea.{list}
use Rattle.model.proofs.Words.{length_list, get_or_list}
use Rattle.model.proofs.Search.{first_is, first_upto}
use Rattle.model.proofs.Serial.Pigeonhole.{Into, image, count_all, count_one, count_into}
use Rattle.demands.specs.Demands.{TotalOrder, Sequence, Precedes, ComesFrom}
use Rattle.demands.proofs.Sequences.{order_of, total_order, only_list}

module _ (p q : ℕ → Bool) where
  -- q holds where p does
  count_mono : (n : ℕ) → ((b : ℕ) → b < n → p b ≡ true → q b ≡ true) → count n p ≤ count n q
  count_mono n f =
      count_into n p n q (λ b. b) (record { within = λ b h e. h; holds = f; apart = λ a b h k s t e. e })

  -- q holds where p does, and at c besides
  count_less : (n c : ℕ) → c < n → p c ≡ false → q c ≡ true → ((b : ℕ) → b < n → p b ≡ true → q b ≡ true) → count n p < count n q
  unfolding count
  count_less zero c l s t f = absurd (let z : ⊥ = omega arith in z)
  count_less (suc n) c l s t f =
      ⊎_elim (λ (e : c ≡ n). rw (ap p (sym e) ∙ s, ap q (sym e) ∙ t) (omega (arith, count_mono n (λ b h. f b (omega arith)))))
      (λ (m : c < n). step (p n) (q n) (count_less n c m s t (λ b h. f b (omega arith))) (f n (omega arith)))
      (eq-or-lt_of_le (let z : c ≤ n = omega arith in z))
    where
      step : (u v : Bool) → count n p < count n q → (u ≡ true → v ≡ true) → count n p + cond u 1 0 < count n q + cond v 1 0
      step true true h g = omega arith
      step true false h g = absurd (false≢true (g refl))
      step false true h g = omega arith
      step false false h g = omega arith

module _ (x : List ℕ) (◌≺◌ : ℕ → ℕ → Type 0) (order : TotalOrder x ◌≺◌) where
  infix 50 ◌≺◌
  abbrev n : ℕ
  n = size x

  asymmetric : (a b : ℕ) → a < n → b < n → a ≺ b → b ≺ a → ⊥
  asymmetric a b h k e f = order.irreflexive a h (order.transitive a b a h k h e f)

  -- the relation as a test
  tested : (a b : ℕ) → a < n → b < n → (t : Bool) × ((t ≡ true) ↔ a ≺ b)
  tested a b h k = go (ℕ_discrete a b)
    where
      go : Dec (a ≡ b) → (t : Bool) × ((t ≡ true) ↔ a ≺ b)
      go (yes e) = (false, (λ q. absurd (false≢true q), λ s. absurd (order.irreflexive b k (rw e at s))))
      go (no f) =
          ⊎_elim (λ (s : a ≺ b). (true, (λ q. s, λ q. refl)))
          (λ (s : b ≺ a). (false, (λ q. absurd (false≢true q), λ q. absurd (asymmetric a b h k q s))))
          (order.total a b h k f)

  less_at : (a b : ℕ) → Dec (a < n) → Dec (b < n) → Bool
  less_at a b (yes h) (yes k) = (tested a b h k).0
  less_at a b (yes h) (no k) = false
  less_at a b (no h) d = false

  less : ℕ → ℕ → Bool
  less a b = less_at a b (dec_lt a n) (dec_lt b n)

  less_is : (a b : ℕ) → a < n → b < n → (less a b ≡ true) ↔ a ≺ b
  unfolding less less_at
  less_is a b h k = go (dec_lt a n) (dec_lt b n)
    where
      go : (d : Dec (a < n)) (e : Dec (b < n)) → (less_at a b d e ≡ true) ↔ a ≺ b
      go (yes i) (yes j) = (tested a b i j).1
      go (yes i) (no j) = absurd (j k)
      go (no i) e = absurd (i h)

  -- how many positions are before a
  rank : ℕ → ℕ
  rank a = count n (λ b. less b a)

  self : (a : ℕ) → a < n → less a a ≡ false
  self a h = eq-false_of_not-eq-true (λ e. order.irreflexive a h ((less_is a a h h).0 e))

  rank_less : (a b : ℕ) → a < n → b < n → a ≺ b → rank a < rank b
  unfolding rank
  rank_less a b h k e =
      count_less (λ c. less c a) (λ c. less c b) n a h (self a h) ((less_is a b h k).1 e)
      (λ c m q. (less_is c b m k).1 (order.transitive c a b m h k ((less_is c a m h).0 q) e))

  rank_below : (a : ℕ) → a < n → rank a < n
  unfolding rank
  rank_below a h =
      omega (arith, count_less (λ c. less c a) (λ c. true) n a h (self a h) refl (λ b k q. refl), count_all n)

  rank_apart : (a b : ℕ) → a < n → b < n → rank a ≡ rank b → a ≡ b
  rank_apart a b h k e = go (ℕ_discrete a b)
    where
      go : Dec (a ≡ b) → a ≡ b
      go (yes q) = q
      go (no q) =
          ⊎_elim (λ (s : a ≺ b). absurd (let z : ⊥ = omega (arith, rank_less a b h k s) in z))
          (λ (s : b ≺ a). absurd (let z : ⊥ = omega (arith, rank_less b a k h s) in z))
          (order.total a b h k q)

  -- the position of rank i
  at : ℕ → ℕ
  at i = first n (λ a. eqb (rank a) i)

  at_is : (i : ℕ) → i < n → (at i < n) × (rank (at i) ≡ i)
  unfolding at
  at_is i h =
      let m = image n (λ a. true) rank into i (rw count_all h) in
      let l : at i < n = omega (arith, first_upto (λ a. eqb (rank a) i) n m.at (eq-eqb (rank m.at) i m.equal), m.below) in
      (l, eqb-true (rank (at i)) i ((first_is (λ a. eqb (rank a) i) n).holds l))
    where
      into : Into n (λ a. true) (count n (λ a. true)) (λ i. true) rank
      into =
          record {
            within = λ a h e. rw count_all (rank_below a h);
            holds = λ a h e. refl;
            apart = λ a b h k p q. rank_apart a b h k;
          }

  -- the positions by rank
  l : List ℕ
  l = list n at

  l_at : (i : ℕ) → i < n → get_or l i 0 ≡ at i
  unfolding l
  l_at i h = get_or_list n at i h

  l_rank : (a : ℕ) → a < n → get_or l (rank a) 0 ≡ a
  l_rank a h =
      let t = at_is (rank a) (rank_below a h) in
      l_at (rank a) (rank_below a h) ∙ rank_apart (at (rank a)) a t.0 h t.1

  keeps : (i j : ℕ) → i < n → j < n → at i ≺ at j → i < j
  keeps i j h k e =
      let s = at_is i h in
      let t = at_is j k in
      omega (arith, rank_less (at i) (at j) s.0 t.0 e, s.1, t.1)

  sequence : Sequence x l
  unfolding l
  sequence =
      record {
        whole = length_list n at;
        positions = λ i h. rw (l_at i h) (at_is i h).0;
        once = once;
        keeps_po = λ i j h k. rw (l_at i h, l_at j k) (λ e. keeps i j h k (order.keeps_po (at i) (at j) (at_is i h).0 (at_is j k).0 e));
        keeps_so = λ i j h k. rw (l_at i h, l_at j k) (λ e. keeps i j h k (order.keeps_so (at i) (at j) (at_is i h).0 (at_is j k).0 e));
      }
    where
      once : (a : ℕ) → a < n → count n (λ i. eqb (get_or l i 0) a) ≡ 1
      once a h =
          count_one (λ i. eqb (get_or l i 0) a) n (rank a) (rank_below a h) (eq-eqb (get_or l (rank a) 0) a (l_rank a h))
          (λ j k q. sym (at_is j k).1 ∙ ap rank (sym (l_at j k) ∙ eqb-true (get_or l j 0) a q))

  precedes : (a b : ℕ) → a < n → b < n → a ≺ b → Precedes l a b
  precedes a b h k e =
      (rank a, rank b, rank_less a b h k e, omega (arith, rank_below b k, sequence.whole), l_rank a h, l_rank b k)

  -- the two are total, so neither has more
  preceded : (a b : ℕ) → a < n → b < n → Precedes l a b → a ≺ b
  preceded a b h k e = go (ℕ_discrete a b)
    where
      o : TotalOrder x (Precedes l)
      o = total_order x l (order_of x l sequence)

      go : Dec (a ≡ b) → a ≺ b
      go (yes q) = absurd (o.irreflexive b k (rw q at e))
      go (no q) =
          ⊎_elim (λ (s : a ≺ b). s)
          (λ (s : b ≺ a). absurd (o.irreflexive a h (o.transitive a b a h k h e (precedes b a k h s))))
          (order.total a b h k q)

  -- it comes from this sequence and from no other
  pub one_sequence : (l : List ℕ) × ComesFrom x ◌≺◌ l × ((k : List ℕ) → ComesFrom x ◌≺◌ k → k ≡ l)
  one_sequence = (l, (sequence, λ a b h k. (precedes a b h k, preceded a b h k)), only)
    where
      only : (k : List ℕ) → ComesFrom x ◌≺◌ k → k ≡ l
      only k (s, same) =
          only_list x k l (order_of x k s) (order_of x l sequence)
          (λ a b h m. (λ e. precedes a b h m ((same a b h m).1 e), λ e. (same a b h m).0 (preceded a b h m e)))
