-- The rows of the sweep, from one action to the one before it.
use Prim.Native.Nat.{ℕ, ◌+◌, ◌<◌, ◌≤◌}
use native.Mathlib.Decide.{dec_le, dec_lt, ℕ_discrete}
use native.Mathlib.Omega.{arith}
use mathlib.Core.Path.{◌≡◌, refl, sym, ap, ◌∙◌}
use mathlib.Core.List.{List}
use mathlib.Core.Bool.{Bool, true, false, ◌&&◌, ◌||◌, true≢false, or-true, or-false, and-false}
use lib.ListN.{replicate}
use lib.Dec.{eqb, ltb, leb}
use borrow.Author.Tests.{lt-ltb, le-ltb, le-leb, lt-leb, eq-eqb, ne_eqb}
use Rattle.model.specs.Limits.{max_actions, part_words}
use Rattle.model.specs.Layout.{thread}
use Rattle.model.specs.Relations.{po, sw}
use Rattle.rows.specs.Part.{marked, joined, table}
use Rattle.rows.proofs.Part.{table_same, table_cleared, table_marked, table_joined}
use Rattle.positions.specs.Lists.{positions}
use Rattle.hb.specs.Passing.{receives, hands, passed, leads}
use Rattle.hb.specs.Edges.{from}
use Rattle.hb.proofs.Hands.{hands_none, hands_more}
use Rattle.hb.proofs.Marks.{from_rows}

module _ (x : List ℕ) (n : ℕ) where
  -- nothing is passed
  beyond : (c : ℕ) → (leb n c && ltb c n) ≡ false
  beyond c =
      elim (dec_lt c n) [
        | yes h ↦ rw (lt-leb n c h)
        | no g ↦ rw (le-ltb c n (omega arith)) (and-false (leb n c))
      ]

  pub sweep_none : {k : ℕ} → k ≡ part_words → replicate k 0 ≡ table max_actions (leads x n n)
  sweep_none e =
      rw e (table_cleared max_actions ∙ table_same max_actions (λ c d. false) (leads x n n) (λ c d. rw (beyond c)))

  pub later_none : replicate 512 0 ≡ table 256 (passed x n n)
  later_none =
      table_cleared 256
      ∙ table_same 256 (λ c d. false) (passed x n n) (λ t d. rw (hands_none x n t d) (turned (leb n d) (ltb d n) (eqb t (thread x d)) (beyond d)))
    where
      turned : (p q r : Bool) → p && q ≡ false → false ≡ q && (p && r || false)
      turned true true r e = absurd (true≢false e)
      turned p false r e = refl
      turned false true r e = refl

  -- action a is passed, after those from s on
  module _ (s a : ℕ) (e : s ≡ a + 1) (inside : a < n) {t : ℕ} (own : t ≡ thread x a) where
    before : (c : ℕ) → (c ≡ a → ⊥) → leb s c ≡ leb a c
    before c other =
        elim (dec_le a c) [
          | yes h ↦ le-leb s c (omega arith) ∙ sym (le-leb a c h)
          | no g ↦ lt-leb s c (omega arith) ∙ sym (lt-leb a c (omega arith))
        ]

    after : (d : ℕ) → leb s d ≡ ltb a d
    after d =
        elim (dec_lt a d) [
          | yes h ↦ le-leb s d (omega arith) ∙ sym (lt-ltb a d h)
          | no g ↦ lt-leb s d (omega arith) ∙ sym (le-ltb a d (omega arith))
        ]

    -- what a's own thread synchronizes with, and another's
    own_hands : (d : ℕ) → hands x n a (thread x a) d ≡ hands x n s (thread x a) d || sw x a d
    own_hands d = hands_more x n s a e inside (thread x a) d ∙ rw (eq-eqb (thread x a) (thread x a) refl)

    other_hands : (u d : ℕ) → (u ≡ thread x a → ⊥) → hands x n a u d ≡ hands x n s u d
    other_hands u d o = hands_more x n s a e inside u d ∙ rw (ne_eqb u (thread x a) o) (or-false (hands x n s u d))

    -- a itself is no action of another thread
    other_time : (u d : ℕ) → (u ≡ thread x a → ⊥) → leb s d && eqb u (thread x d) ≡ leb a d && eqb u (thread x d)
    other_time u d o =
        elim (ℕ_discrete d a) [
          | yes q ↦ rw (q, ne_eqb u (thread x a) o) (simp and-false)
          | no r ↦ rw (before d r)
        ]

    row : (c d : ℕ) → ((leads x n s c d || eqb c a && passed x n s t d) || eqb c a && (ltb d n && sw x a d)) ≡ leads x n a c d
    unfolding po
    row c d =
        elim (ℕ_discrete c a) [
          | yes q ↦
              rw (q, own, eq-eqb a a refl, lt-leb s a (omega arith), le-leb a a (omega arith), lt-ltb a n inside, after d, own_hands d)
              (joined_up (ltb d n) (ltb a d && eqb (thread x a) (thread x d)) (hands x n s (thread x a) d) (sw x a d))
          | no o ↦ rw (ne_eqb c a o, before c o) (simp or-false)
        ]
      where
        joined_up : (b p h w : Bool) → b && (p || h) || b && w ≡ b && (p || (h || w))
        joined_up false p h w = refl
        joined_up true true h w = refl
        joined_up true false h w = refl

    column : (u d : ℕ) → ((passed x n s u d || eqb u t && leads x n a a d) || eqb u t && eqb d a) ≡ passed x n a u d
    unfolding po
    column u d =
        elim (ℕ_discrete u t) [
          | no o ↦
              let o' : u ≡ thread x a → ⊥ = λ h. o (h ∙ sym own) in
              rw (ne_eqb u t o, other_hands u d o', other_time u d o') (simp or-false)
          | yes q ↦
              rw (q, own, eq-eqb (thread x a) (thread x a) refl, le-leb a a (omega arith), lt-ltb a n inside)
              (elim (ℕ_discrete d a) [
                | yes r ↦ rw (r, eq-eqb a a refl, eq-eqb (thread x a) (thread x a) refl, le-leb a a (omega arith), lt-ltb a n inside) (simp or-true)
                | no o ↦
                    rw (ne_eqb d a o, ← after d, before d o, own_hands d)
                    (joined_up (ltb d n) (leb a d && eqb (thread x a) (thread x d)) (hands x n s (thread x a) d) (sw x a d))
              ])
        ]
      where
        joined_up : (b p h w : Bool) → (b && (p || h) || b && (p || (h || w))) || false ≡ b && (p || (h || w))
        joined_up false p h w = refl
        joined_up true true h w = refl
        joined_up true false true w = refl
        joined_up true false false w = or-false w

    module _ (later : List ℕ) (by_thread : later ≡ table 256 (passed x n s)) (byte : t < 256) (few : n ≤ max_actions) where
      pub sweep_more :
          {list : List ℕ} → list ≡ positions (receives x) n → {part us vs : List ℕ} → part ≡ table max_actions (leads x n s) → us ≡ joined part a later t → vs ≡ from x a list us →
          vs ≡ table max_actions (leads x n a)
      sweep_more all h j f =
          rw (f, all, j, h, by_thread)
          (ap (from x a (positions (receives x) n)) (table_joined max_actions (leads x n s) a 256 (passed x n s) t (omega arith) byte)
          ∙ from_rows x a n _ ∙ table_same max_actions _ (leads x n a) row)

      pub later_more :
          {part us : List ℕ} → part ≡ table max_actions (leads x n a) → us ≡ joined later t part a → marked us t a ≡ table 256 (passed x n a)
      later_more h j =
          rw (j, by_thread, h)
          (ap (λ (ws : List ℕ). marked ws t a) (table_joined 256 (passed x n s) t max_actions (leads x n a) a byte (omega arith))
          ∙ table_marked 256 _ t a ∙ table_same 256 _ (passed x n a) column)
