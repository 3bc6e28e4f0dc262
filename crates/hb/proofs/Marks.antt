-- The edges from one action, marked one after another: in any words, and in the rows of a relation.
use Prim.Native.Nat.{ℕ, zero, suc, ◌+◌, ◌<◌}
use native.Mathlib.Decide.{ℕ_discrete, dec_lt}
use native.Mathlib.Omega.{arith}
use mathlib.Core.Path.{◌≡◌, refl, sym, ap, ◌∙◌}
use mathlib.Core.List.{List, ◌∷◌, []}
use mathlib.Core.Bool.{Bool, true, false, cond, ◌&&◌, ◌||◌, or-false, and-false, and-true}
use lib.ListN.{length, get_or, take}
use lib.Dec.{eqb, ltb}
use borrow.Author.Tests.{eq-eqb, ne_eqb, lt-ltb, le-ltb}
use Rattle.std.proofs.Common.{fold}
use Rattle.std.proofs.lemmas.List.Folds.{fold_stays}
use Rattle.std.proofs.lemmas.List.Sums.{fold-append, fold_more}
use Rattle.model.specs.Limits.{max_actions}
use Rattle.model.specs.declared.Class.TheVariants.{NothingGiven}
use Rattle.model.specs.Kinds.{number_of}
use Rattle.model.specs.Relations.{sw}
use Rattle.rows.specs.Part.{marked, rounded, table}
use Rattle.rows.proofs.Marked.{length_marked}
use Rattle.rows.proofs.Steps.{length_rounded}
use Rattle.rows.proofs.Part.{table_same, table_marked}
use Rattle.relations.specs.declared.Offer.{Offer}
use Rattle.relations.specs.Objects.{given, offered, accepts}
use Rattle.relations.proofs.Objects.{accepts_sw, sw_nothing_given}
use Rattle.positions.specs.Lists.{positions}
use Rattle.hb.specs.Passing.{receives}
use Rattle.hb.specs.Edges.{from, rounds}
use Rattle.hb.proofs.Hands.{unreceived}

module _ (x : List ℕ) (a : ℕ) where
  -- an action that gives nothing has no edges
  pub from_nothing : {w : Offer} → w ≡ offered x a → w.object.class ≡ number_of NothingGiven → (list ws : List ℕ) → ws ≡ from x a list ws
  unfolding given offered
  from_nothing e h list ws =
      sym (fold_stays (λ us b. cond (sw x a b) (marked us a b) us) ws (λ b. rw (sw_nothing_given x a b (ap (λ (w : Offer). w.object.class) (sym e) ∙ h))) list)

  -- one entry more, where t is whether it accepts what a offers
  module _ (list ws : List ℕ) (j : ℕ) {us : List ℕ} {w : Offer} {t : Bool} (so_far : us ≡ from x a (take j list) ws) (l : j < length list) (offers : w ≡ offered x a) (e : t ≡ accepts x w (get_or list j 0)) where
    more : cond t (marked us a (get_or list j 0)) us ≡ from x a (take (j + 1) list) ws
    more =
        let h : t ≡ sw x a (get_or list j 0) = e ∙ rw offers (accepts_sw x a (get_or list j 0)) in
        rw (fold_more (λ us b. cond (sw x a b) (marked us a b) us) ws list j 0 l, so_far, h)

    pub from_edge : t ≡ true → marked us a (get_or list j 0) ≡ from x a (take (j + 1) list) ws
    from_edge h = rw h at more

    pub from_kept : t ≡ false → us ≡ from x a (take (j + 1) list) ws
    from_kept h = rw h at more

  -- the edge to b, in the rows of a relation
  edge_row : (p : ℕ → ℕ → Bool) (b : ℕ) → cond (sw x a b) (marked (table max_actions p) a b) (table max_actions p) ≡ table max_actions (λ c d. p c d || eqb c a && (eqb d b && sw x a b))
  edge_row p b = go (sw x a b)
    where
      go : (t : Bool) → cond t (marked (table max_actions p) a b) (table max_actions p) ≡ table max_actions (λ c d. p c d || eqb c a && (eqb d b && t))
      go true = table_marked max_actions p a b ∙ table_same max_actions _ _ (λ c d. rw (and-true (eqb d b)))
      go false = table_same max_actions _ _ (λ c d. simp (and-false, or-false))

  -- the edges to those positions below n that receive, which are all edges to positions below n
  pub from_rows : (n : ℕ) (p : ℕ → ℕ → Bool) → from x a (positions (receives x) n) (table max_actions p) ≡ table max_actions (λ c d. p c d || eqb c a && (ltb d n && sw x a d))
  unfolding positions
  from_rows zero p = table_same max_actions _ _ (λ c d. rw (le-ltb d 0 (omega arith), and-false) (sym (or-false (p c d))))
  from_rows (suc n) p =
      rw (fold-append (λ us b. cond (sw x a b) (marked us a b) us) (table max_actions p) (positions (receives x) n) (cond (receives x n) (n ∷ []) []), from_rows n p)
      (last (receives x n) refl ∙ table_same max_actions _ _ one_more)
    where
      so_far : ℕ → ℕ → Bool
      so_far c d = p c d || eqb c a && (ltb d n && sw x a d)

      last : (t : Bool) → receives x n ≡ t → fold (λ us b. cond (sw x a b) (marked us a b) us) (table max_actions so_far) (cond t (n ∷ []) []) ≡ table max_actions (λ c d. so_far c d || eqb c a && (eqb d n && sw x a n))
      last true e = edge_row so_far n
      last false e = table_same max_actions _ _ (λ c d. rw (unreceived x a n e) (simp (and-false, or-false)))

      one_more : (c d : ℕ) → (so_far c d || eqb c a && (eqb d n && sw x a n)) ≡ p c d || eqb c a && (ltb d (suc n) && sw x a d)
      one_more c d =
          elim (ℕ_discrete d n) [
            | yes e ↦ rw (e, eq-eqb n n refl, le-ltb n n (omega arith), lt-ltb n (suc n) (omega arith), and-false, or-false)
            | no o ↦ rw (ne_eqb d n o, and-false, or-false, same d o)
          ]
        where
          same : (d : ℕ) → (d ≡ n → ⊥) → ltb d n ≡ ltb d (suc n)
          same d o =
              elim (dec_lt d n) [
                | yes h ↦ lt-ltb d n h ∙ sym (lt-ltb d (suc n) (omega arith))
                | no g ↦ le-ltb d n (omega arith) ∙ sym (le-ltb d (suc n) (omega arith))
              ]

  pub length_from : (list ws : List ℕ) → length (from x a list ws) ≡ length ws
  length_from [] ws = refl
  length_from (b ∷ list) ws = length_from list (cond (sw x a b) (marked ws a b) ws) ∙ step (sw x a b)
    where
      step : (t : Bool) → length (cond t (marked ws a b) ws) ≡ length ws
      step true = length_marked _ ws a b
      step false = refl

pub length_rounds : (n : ℕ) (list ws : List ℕ) → length (rounds n list ws) ≡ length ws
length_rounds n [] ws = refl
length_rounds n (k ∷ list) ws = length_rounds n list (rounded ws n k) ∙ length_rounded _ ws n k
