-- The rows of the sweep, from one action to the one before it.
use Prim.Native.Nat.{ℕ, ◌+◌, ◌*◌, ◌<◌}
use native.Mathlib.Decide.{dec_le, ℕ_discrete}
use native.Mathlib.Omega.{arith}
use mathlib.Core.Path.{◌≡◌, refl, sym, ap, ◌∙◌}
use mathlib.Core.List.{List}
use mathlib.Core.Bool.{Bool, true, false, ◌&&◌, ◌||◌, or-false, or_comm}
use lib.ListN.{replicate}
use lib.Dec.{eqb, leb}
use borrow.Author.Tests.{lt-ltb, le-leb, lt-leb, eq-eqb, ne_eqb}
use Rattle.model.specs.Limits.{max_actions, row_words, part_words}
use Rattle.model.specs.Search.{any}
use Rattle.model.specs.Layout.{size, thread}
use Rattle.model.specs.Relations.{hb}
use Rattle.model.specs.WorkArea.{part}
use Rattle.model.proofs.Search.{any_never, any_from}
use Rattle.model.proofs.Closure.{hb_from_outside}
use Rattle.rows.specs.Part.{marked, joined, table}
use Rattle.rows.proofs.Part.{table_same, table_cleared, table_marked, table_joined}
use Rattle.lined.specs.Line.{given_row, taken_row, unfit, late}
use Rattle.lined.specs.Passing.{noted, passed}
use Rattle.lined.proofs.Edges.{hb_line}

module _ (x : List ℕ) where
  -- nothing is passed
  pub passed_none : {k : ℕ} → k ≡ part_words → replicate k 0 ≡ table max_actions (passed x (size x))
  passed_none e =
      rw e (table_cleared max_actions ∙ table_same max_actions (λ c d. false) (passed x (size x)) (λ c d. sym (beyond c d)))
    where
      beyond : (c d : ℕ) → (leb (size x) c && hb x c d) ≡ false
      beyond c d =
          elim (dec_le (size x) c) [
            | yes h ↦ rw (le-leb (size x) c h) (hb_from_outside x c d h)
            | no g ↦ rw (lt-leb (size x) c (omega arith))
          ]

  pub noted_none : (f : ℕ → ℕ) (m : ℕ) → replicate (row_words * m) 0 ≡ table m (noted x f (size x))
  unfolding noted
  noted_none f m =
      table_cleared m
      ∙ table_same m (λ c d. false) (noted x f (size x)) (λ o d. sym (any_never _ (size x) (λ c l. rw (lt-leb (size x) c l))))

  -- all is passed
  pub passed_all : table max_actions (passed x 0) ≡ part x
  unfolding part
  passed_all = table_same max_actions (passed x 0) (hb x) (λ c d. rw (le-leb 0 c (omega arith)))

  -- action a is passed, after those from s on
  module _ (s a : ℕ) (e : s ≡ a + 1) (inside : a < size x) where
    before : (c : ℕ) → (c ≡ a → ⊥) → leb s c ≡ leb a c
    before c other =
        elim (dec_le a c) [
          | yes h ↦ le-leb s c (omega arith) ∙ sym (le-leb a c h)
          | no g ↦ lt-leb s c (omega arith) ∙ sym (lt-leb a c (omega arith))
        ]

    module _ (fit : any (size x) (unfit x) ≡ false) (timely : any (size x) (late x) ≡ false) where
      -- what happens after a, in a row of its own
      abbrev after : ℕ → ℕ → Bool
      after c d = (false || eqb c 0 && noted x (thread x) s (thread x a) d) || eqb c 0 && noted x (taken_row x) s (given_row x a) d

      pub after_row :
          {t g : ℕ} → t ≡ thread x a → t < 64 → g ≡ given_row x a → g < 384 → {later through us vs : List ℕ} →
          later ≡ table 64 (noted x (thread x) s) → through ≡ table 384 (noted x (taken_row x) s) → us ≡ joined (replicate row_words 0) 0 later t →
          vs ≡ joined us 0 through g → vs ≡ table 1 after
      after_row {t} {g} q small r less i j u v =
          rw (v, u, i, j)
          (ap (λ (ws : List ℕ). joined (joined ws 0 (table 64 (noted x (thread x) s)) t) 0 (table 384 (noted x (taken_row x) s)) g) (table_cleared 1)
          ∙ ap (λ (ws : List ℕ). joined ws 0 (table 384 (noted x (taken_row x) s)) g)
          (table_joined 1 (λ c d. false) 0 64 (noted x (thread x) s) t (omega arith) small)
          ∙ table_joined 1 _ 0 384 (noted x (taken_row x) s) g (omega arith) less
          ∙ rw (q, r))

      row : (c d : ℕ) → (passed x s c d || eqb c a && after 0 d) ≡ passed x a c d
      row c d =
          elim (ℕ_discrete c a) [
            | yes q ↦ rw (q, eq-eqb a a refl, lt-leb s a (omega arith), le-leb a a (omega arith)) (sym (hb_line x fit timely s a e inside d))
            | no o ↦ rw (ne_eqb c a o, before c o) (or-false (leb a c && hb x c d))
          ]

      pub passed_more :
          {part us vs : List ℕ} → part ≡ table max_actions (passed x s) → us ≡ table 1 after → a < max_actions → vs ≡ joined part a us 0 → vs ≡ table max_actions (passed x a)
      passed_more h i few v =
          rw (v, h, i)
          (table_joined max_actions (passed x s) a 1 after 0 few (omega arith)
          ∙ table_same max_actions _ (passed x a) row)

      -- and a with it
      abbrev from : ℕ → ℕ → Bool
      from c d = after c d || eqb c 0 && (false || true && eqb d a)

      pub from_row : {us vs ws : List ℕ} → us ≡ table 1 after → vs ≡ marked (replicate row_words 0) 0 a → ws ≡ joined us 0 vs 0 → ws ≡ table 1 from
      from_row {us} {vs} i h j =
          let single : vs ≡ table 1 (λ c d. false || eqb c 0 && eqb d a) =
          h ∙ ap (λ (ws : List ℕ). marked ws 0 a) (table_cleared 1) ∙ table_marked 1 (λ c d. false) 0 a in
          rw (j, i, single) (table_joined 1 after 0 1 (λ c d. false || eqb c 0 && eqb d a) 0 (omega arith) (omega arith))

      -- a is noted in the row of its number by f, of m rows
      module _ (f : ℕ → ℕ) (m : ℕ) {o : ℕ} (own : o ≡ f a) (inner : o < m) where
        wider : (u d : ℕ) → noted x f a u d ≡ noted x f s u d || eqb u (f a) && (eqb d a || hb x a d)
        unfolding noted
        wider u d = any_from (λ c. eqb u (f c) && (eqb d c || hb x c d)) s a e (size x) ∙ rw (lt-ltb a (size x) inside)

        more : (u d : ℕ) → (noted x f s u d || eqb u o && from 0 d) ≡ noted x f a u d
        more u d = rw (wider u d, or_comm (eqb d a) (hb x a d), hb_line x fit timely s a e inside d, own)

        pub noted_more :
            {ws us vs : List ℕ} → ws ≡ table m (noted x f s) → us ≡ table 1 from → vs ≡ joined ws o us 0 → vs ≡ table m (noted x f a)
        noted_more h p j =
            rw (j, h, p)
            (table_joined m (noted x f s) o 1 from 0 inner (omega arith)
            ∙ table_same m _ (noted x f a) more)
