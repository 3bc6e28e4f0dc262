-- The laws of the steps at the width of a record's rows, over tables of whole rows; and what the words of a part show, asked by rows.
use Prim.Native.Nat.{ℕ, ◌*◌, ◌<◌, ◌≤◌}
use native.Mathlib.Omega.{arith}
use mathlib.Core.Path.{◌≡◌, refl}
use mathlib.Core.List.{List}
use mathlib.Core.Bool.{Bool, true, false, ◌&&◌, ◌||◌}
use lib.ListN.{length, replicate}
use lib.Dec.{eqb, lit<}
use Rattle.model.specs.Limits.{row_words}
use Rattle.model.specs.WorkArea.{shown}
use Rattle.model.proofs.Words.{length_rows, rows_same}
use Rattle.rows.specs.Part.{cell, marked, joined, rounded, table}
use Rattle.rows.proofs.Cleared.{cleared_rows}
use Rattle.rows.proofs.Marked.{marked_rows}
use Rattle.rows.proofs.Steps.{joined_rows, rounded_rows}

-- row a of a part has what a happens before
pub shown_cell : (ws : List ℕ) (a b : ℕ) → shown ws a b ≡ cell ws a b
unfolding shown
shown_cell ws a b = refl

pub table_same : (m : ℕ) (p q : ℕ → ℕ → Bool) → ((c d : ℕ) → p c d ≡ q c d) → table m p ≡ table m q
table_same m p q f = rows_same row_words (row_words * m) p q (lit< tt) (λ a b k l. f a b)

module _ (m : ℕ) where
  pub table_cleared : replicate (row_words * m) 0 ≡ table m (λ c d. false)
  table_cleared = cleared_rows row_words (row_words * m) (lit< tt)

  module _ (p : ℕ → ℕ → Bool) where
    pub length_table : length (table m p) ≡ row_words * m
    length_table = length_rows row_words (row_words * m) p

    pub table_marked : (a b : ℕ) → marked (table m p) a b ≡ table m (λ c d. p c d || eqb c a && eqb d b)
    table_marked a b = marked_rows row_words (row_words * m) p a b (lit< tt)

    pub table_joined : (to k : ℕ) (q : ℕ → ℕ → Bool) (from : ℕ) → to < m → from < k →
        joined (table m p) to (table k q) from ≡ table m (λ a b. p a b || eqb a to && q from b)
    table_joined to k q from h g =
        joined_rows row_words (row_words * m) p to (row_words * k) q from (lit< tt) (omega arith) (omega arith)

    pub table_rounded : (n k : ℕ) → n ≤ m → n ≤ 64 * row_words → ((a b : ℕ) → p a b ≡ true → (a < n) × (b < n)) → k < n →
        rounded (table m p) n k ≡ table m (λ a b. p a b || p a k && p k b)
    table_rounded n k fits wide within h = rounded_rows row_words m p n k (lit< tt) fits wide within h
