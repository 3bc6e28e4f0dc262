-- In a section in line an action synchronizes with the later ones that take its object, and what happens after it does so after one of those or a later one of its thread.
use Prim.Native.Nat.{ℕ, ◌+◌, ◌<◌, ◌≤◌}
use native.Mathlib.Decide.{dec_lt, ℕ_discrete}
use native.Mathlib.Omega.{arith}
use mathlib.Core.Path.{◌≡◌, refl, sym, ◌∙◌}
use mathlib.Core.List.{List}
use mathlib.Core.Bool.{Bool, true, false, not, ◌&&◌, ◌||◌, or-true, and-false, and-true, false≢true}
use mathlib.Core.Logic.{⊎_elim}
use lib.Dec.{eqb, ltb, leb}
use borrow.Author.Tests.{lt-ltb, le-ltb, le-leb, eq-eqb, eqb-true, ltb-true, leb-true}
use Rattle.model.specs.Search.{any}
use Rattle.model.specs.Layout.{size, thread, place, row}
use Rattle.model.specs.Relations.{po, sw, hands, tabled_sw, edge, hb}
use Rattle.model.proofs.Bools.{both, either, same_truth}
use Rattle.model.proofs.Search.{any_at, any_elim}
use Rattle.model.proofs.Synchronizes.{sw_table}
use Rattle.model.proofs.Closure.{Path⁺, one, join, edge_within, hb_closure}
use Rattle.relations.specs.Objects.{given, taken}
use Rattle.lined.specs.Line.{given_row, taken_row, placed, unfit, late}
use Rattle.lined.specs.Passing.{noted}
use Rattle.lined.proofs.Objects.{given_placed, taken_placed, own_class, same_row}
use Rattle.lined.proofs.Line.{small, place_rises, never_late}

module _ (x : List ℕ) (n : ℕ) (fit : any n (unfit x) ≡ false) (timely : any n (late x) ≡ false) (a b : ℕ) (from : a < n) (to : b < n) where
  -- where b takes a's object, places rise from a to b, or do not matter
  in_line : (t : Bool) → (row x a).gives.placed ≡ t → eqb (given x a).class (taken x b).class ≡ true → eqb (given_row x a) (taken_row x b) ≡ true →
      not t || ltb (place x a) (place x b) ≡ ltb a b
  in_line true p c e =
      elim (dec_lt a b) [
        | yes h ↦ rw (lt-ltb a b h) (lt-ltb (place x a) (place x b) (place_rises x n fit a b h to giver taker))
        | no g ↦
            rw (le-ltb a b (omega arith))
            (le-ltb (place x a) (place x b)
            (elim (ℕ_discrete a b) [
              | yes q ↦ rw q (omega arith)
              | no o ↦ let r = place_rises x n fit b a (omega arith) from taker giver in omega arith
            ]))
      ]
    where
      giver : placed x a ≡ true
      giver = rw p

      taker : placed x b ≡ true
      taker =
          rw (taken_placed x b, ← eqb-true (given x a).class (taken x b).class c, ← given_placed x a, p) (or-true (row x b).gives.placed)
  in_line false p c e =
      sym (elim (dec_lt a b) [
        | yes h ↦ lt-ltb a b h
        | no g ↦
            absurd
            (elim (ℕ_discrete a b) [
              | yes q ↦ false≢true (sym (own_class x b) ∙ (rw q at c))
              | no o ↦ false≢true (sym (never_late x n timely a b (omega arith) from p) ∙ e)
            ])
      ])

  pub sw_line : sw x a b ≡ ltb a b && eqb (given_row x a) (taken_row x b)
  unfolding tabled_sw hands given taken
  sw_line = sw_table x a b ∙ go (hands x a b) refl
    where
      same : eqb (given_row x a) (taken_row x b) ≡ hands x a b
      same = same_row x a b (small x n fit a from).1 (small x n fit b to).2

      go : (t : Bool) → hands x a b ≡ t → hands x a b && (not (row x a).gives.placed || ltb (place x a) (place x b)) ≡ ltb a b && eqb (given_row x a) (taken_row x b)
      go false h = rw (same, h) (sym (and-false (ltb a b)))
      go true h = rw (same, h, and-true) (in_line (row x a).gives.placed refl (both _ _ h).0 (same ∙ h))

-- b is c, or after it
abbrev pub reaches : List ℕ → ℕ → ℕ → Bool
reaches x c b = eqb b c || hb x c b

-- a way by its first edge
module _ (x : List ℕ) where
  reaches_on : (c d b : ℕ) → reaches x c d ≡ true → Path⁺ (edge x) d b → reaches x c b ≡ true
  reaches_on c d b h q = rw after (or-true (eqb b c))
    where
      after : hb x c b ≡ true
      after =
          ⊎_elim (λ s. rw (← eqb-true d c s) ((hb_closure x d b).1 q)) (λ s. (hb_closure x c b).1 (join ((hb_closure x c d).0 s) q))
          (either (eqb d c) (hb x c d) h)

  first_edge : {R : Type 0} {a b : ℕ} → Path⁺ (edge x) a b → ((c : ℕ) → edge x a c ≡ true → reaches x c b ≡ true → R) → R
  first_edge {b = b} (one h) f = f b h (rw (eq-eqb b b refl))
  first_edge {b = b} (join {c = c} p q) f = first_edge p (λ d e r. f d e (reaches_on d c b r q))

  edge_on : (a b c : ℕ) → edge x a c ≡ true → reaches x c b ≡ true → hb x a b ≡ true
  edge_on a b c e h =
      (hb_closure x a b).1
      (⊎_elim (λ s. rw (eqb-true b c s) (one e)) (λ s. join (one e) ((hb_closure x c b).0 s)) (either (eqb b c) (hb x c b) h))

-- what is noted of the passed actions
module _ (x : List ℕ) (f : ℕ → ℕ) (s o b : ℕ) where
  noted_out : (c : ℕ) → c < size x → s ≤ c → o ≡ f c → reaches x c b ≡ true → noted x f s o b ≡ true
  unfolding noted
  noted_out c l h e r = any_at _ (size x) c l (rw (le-leb s c h, eq-eqb o (f c) e, r))

  noted_in : {R : Type 0} → noted x f s o b ≡ true → ((c : ℕ) → c < size x → s ≤ c → o ≡ f c → reaches x c b ≡ true → R) → R
  unfolding noted
  noted_in h g = any_elim _ (size x) h (λ c l t.
      let (p, rest) = both (leb s c) (eqb o (f c) && reaches x c b) t in
      let (q, r) = both (eqb o (f c)) (reaches x c b) rest in
      g c l (leb-true s c p) (eqb-true o (f c) q) r)

module _ (x : List ℕ) (fit : any (size x) (unfit x) ≡ false) (timely : any (size x) (late x) ≡ false) (s a : ℕ) (e : s ≡ a + 1) (inside : a < size x) (b : ℕ) where
  abbrev n : ℕ
  n = size x

  edge_out : (c : ℕ) → c < n → (po x a c || sw x a c) ≡ true → edge x a c ≡ true
  unfolding edge
  edge_out c q h = rw (lt-ltb a n inside, lt-ltb c n q, h)

  edge_in : (c : ℕ) → edge x a c ≡ true → (po x a c || sw x a c) ≡ true
  unfolding edge
  edge_in c h = (both (ltb a n && ltb c n) (po x a c || sw x a c) h).1

  abbrev mine : Bool
  mine = noted x (thread x) s (thread x a) b

  abbrev theirs : Bool
  theirs = noted x (taken_row x) s (given_row x a) b

  onward : hb x a b ≡ true → mine || theirs ≡ true
  unfolding po
  onward h = first_edge x ((hb_closure x a b).0 h) (λ c d r.
      let l = (edge_within x a c d).1 in
      ⊎_elim
      (λ p.
      let (g, t) = both (ltb a c) (eqb (thread x a) (thread x c)) p in
      let g' = ltb-true a c g in
      rw (noted_out x (thread x) s (thread x a) b c l (omega arith) (eqb-true (thread x a) (thread x c) t) r))
      (λ w.
      let (g, t) = both (ltb a c) (eqb (given_row x a) (taken_row x c)) (sym (sw_line x n fit timely a c inside l) ∙ w) in
      let g' = ltb-true a c g in
      rw (noted_out x (taken_row x) s (given_row x a) b c l (omega arith) (eqb-true (given_row x a) (taken_row x c) t) r) (or-true mine))
      (either (po x a c) (sw x a c) (edge_in c d)))

  back : mine || theirs ≡ true → hb x a b ≡ true
  unfolding po
  back h =
      ⊎_elim
      (λ m. noted_in x (thread x) s (thread x a) b m (λ c l g t r.
      edge_on x a b c (edge_out c l (rw (lt-ltb a c (omega arith), eq-eqb (thread x a) (thread x c) t))) r))
      (λ m. noted_in x (taken_row x) s (given_row x a) b m (λ c l g t r.
      edge_on x a b c
      (edge_out c l (rw (sw_line x n fit timely a c inside l, lt-ltb a c (omega arith), eq-eqb (given_row x a) (taken_row x c) t) (or-true (eqb (thread x a) (thread x c))))) r))
      (either mine theirs h)

  -- what happens after a
  pub hb_line : hb x a b ≡ mine || theirs
  hb_line = same_truth (hb x a b) (mine || theirs) onward back
