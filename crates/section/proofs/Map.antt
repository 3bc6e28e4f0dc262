-- The map of identifiers, from one action to the next.
use Prim.Native.Nat.{ℕ, ◌+◌, ◌/◌, ◌%◌, ◌<◌}
use native.Mathlib.Decide.{ℕ_discrete}
use native.Mathlib.Omega.{arith}
use mathlib.Core.Path.{◌≡◌, refl, sym, ◌∙◌}
use mathlib.Core.List.{List}
use mathlib.Core.Bool.{false, ◌&&◌, and-false}
use lib.Dec.{eqb}
use borrow.Author.Tests.{eq-eqb, ne_eqb}
use Rattle.model.specs.Layout.{ident}
use Rattle.model.specs.Refused.{met}
use Rattle.model.proofs.Search.{any_none, any_more, any_same}
use Rattle.model.proofs.Words.{bit_rows}
use Rattle.rows.specs.Part.{cell, marked, table}
use Rattle.rows.proofs.Part.{table_same, table_marked}
use Rattle.section.specs.Map.{noted, noting}

-- a number is its row and its place in the row
same_digits : (c d : ℕ) → (eqb (d / 128) (c / 128) && eqb (d % 128) (c % 128)) ≡ eqb c d
same_digits c d =
    elim (ℕ_discrete c d) [
      | yes e ↦ rw (e, eq-eqb (d / 128) (d / 128) refl, eq-eqb (d % 128) (d % 128) refl, eq-eqb d d refl)
      | no n ↦
          elim (ℕ_discrete (d / 128) (c / 128)) [
            | no m ↦ rw (ne_eqb (d / 128) (c / 128) m, ne_eqb c d n)
            | yes e ↦ rw (ne_eqb (d % 128) (c % 128) (λ f. n (omega arith)), ne_eqb c d n, and-false)
          ]
    ]

module _ (x : List ℕ) where
  pub map_none : table 512 (λ c e. false) ≡ noting x 0
  map_none = table_same 512 (λ c e. false) (noted x 0) (λ c e. sym (any_none _))

  module _ (n d : ℕ) (u : d ≡ ident x n) where
    pub map_met : d < 65536 → cell (noting x n) (d / 128) (d % 128) ≡ met x n
    unfolding met
    map_met l =
        bit_rows _ _ (noted x n) (d / 128) (d % 128) (omega arith) (omega arith)
        ∙ any_same (λ b. eqb (d / 128) (ident x b / 128) && eqb (d % 128) (ident x b % 128)) (λ b. eqb (ident x b) (ident x n)) n (λ b k. same_digits (ident x b) d ∙ rw u)

    pub map_more : marked (noting x n) (d / 128) (d % 128) ≡ noting x (n + 1)
    map_more =
        table_marked 512 (noted x n) (d / 128) (d % 128)
        ∙ table_same 512 _ (noted x (n + 1)) (λ c e. rw u (sym (any_more (λ b. eqb c (ident x b / 128) && eqb e (ident x b % 128)) n)))
