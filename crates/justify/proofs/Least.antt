-- The least commit numbers, at the first position of each identifier.
use Prim.Native.Nat.{ℕ, zero, suc, ◌+◌, ◌<◌, ◌≤◌}
use native.Mathlib.Numerals.{add-one}
use native.Mathlib.Decide.{ℕ_discrete}
use native.Mathlib.Omega.{arith}
use mathlib.Core.Path.{◌≡◌, refl, sym, ap, ◌∙◌}
use mathlib.Core.List.{List}
use mathlib.Core.Bool.{false, and-false}
use lib.ListN.{length, set, get_or, replicate, get_or-replicate}
use lib.Seq.{get_or-set_same, get_or-set_other}
use lib.Dec.{eqb}
use borrow.Author.Tests.{eq-eqb, ne_eqb, eqb-true, lt-ltb, le-ltb}
use Rattle.model.specs.Search.{any, none}
use Rattle.model.specs.Layout.{size, ident, commit}
use Rattle.model.specs.Rules.{twin}
use Rattle.model.specs.Justified.{twin_of}
use Rattle.model.proofs.Search.{any_less, any_not, first_is, first_least, first_below}
use Rattle.positions.specs.Idents.{from_slot}
use Rattle.positions.proofs.Slots.{slot_twin}
use Rattle.justify.specs.Found.{Idents, lower, least_commit, Least}

-- the position that is found by the table
pub twin_found : {x t : List ℕ} (d : ℕ) → Idents x t → from_slot x t d ≡ twin x d
twin_found {x} {t} d h = slot_twin x t d (omega (arith, h.few)) h.firsts_held

module _ (x : List ℕ) where
  -- an action that is found has the identifier
  pub twin_has : (d : ℕ) → twin x d < size x → ident x (twin x d) ≡ d
  unfolding twin
  twin_has d l = eqb-true (ident x (twin x d)) d ((first_is (λ a. eqb (ident x a) d) (size x)).holds l)

  pub twin_below : (a : ℕ) → a < size x → twin_of x x a < size x
  unfolding twin
  twin_below a l = first_below (λ b. eqb (ident x b) (ident x a)) (size x) a l (eq-eqb (ident x a) (ident x a) refl)

module _ (e : List ℕ) (d a : ℕ) where
  more : least_commit e d (a + 1) ≡ lower e d a (least_commit e d a)
  unfolding least_commit
  more = rw (add-one a)

  module _ (s : ℕ) where
    lower_other : (ident e a ≡ d → ⊥) → lower e d a s ≡ s
    unfolding lower
    lower_other n = rw (ne_eqb (ident e a) d n)

    lower_not : s ≤ commit e a → lower e d a s ≡ s
    unfolding lower
    lower_not l = rw (le-ltb (commit e a) s l, and-false)

    lower_own : ident e a ≡ d → commit e a < s → lower e d a s ≡ commit e a
    unfolding lower
    lower_own q l = rw (eq-eqb (ident e a) d q, lt-ltb (commit e a) s l)

module _ (e : List ℕ) where
  pub least_none : (n : ℕ) → size e ≤ n → Least e (replicate n none) 0
  unfolding least_commit
  least_none n l = record { held = λ a m f. get_or-replicate n a none 0 (omega arith) }

  -- one action more: its number is not less than what stands at its first position, or it is put there
  module _ (t : List ℕ) (a : ℕ) (h : Least e t a) where
    other : (y : ℕ) → y < size e → twin_of e e y ≡ y → (y ≡ twin_of e e a → ⊥) → get_or t y 0 ≡ least_commit e (ident e y) (a + 1)
    other y m f n =
        h.held y m f ∙ sym (more e (ident e y) a ∙ lower_other e (ident e y) a (least_commit e (ident e y) a) (λ q. n (sym f ∙ ap (twin e) (sym q))))

    skip : get_or t (twin_of e e a) 0 ≤ commit e a → Least e t (a + 1)
    skip l =
        record {
          held = λ y m f. elim (ℕ_discrete y (twin_of e e a)) [ yes q ↦ here y m f q | no n ↦ other y m f n ];
        }
      where
        here : (y : ℕ) → y < size e → twin_of e e y ≡ y → y ≡ twin_of e e a → get_or t y 0 ≡ least_commit e (ident e y) (a + 1)
        here y m f q =
            let k : get_or t y 0 ≤ commit e a = rw q l in
            h.held y m f ∙ sym (more e (ident e y) a ∙ lower_not e (ident e y) a (least_commit e (ident e y) a) (rw (h.held y m f) at k))

    put : a < size e → size e ≤ length t → commit e a < get_or t (twin_of e e a) 0 → Least e (set t (twin_of e e a) (commit e a)) (a + 1)
    put i long l =
        record {
          held = λ y m f.
              elim (ℕ_discrete y (twin_of e e a)) [
                | yes q ↦ here y m f q
                | no n ↦ get_or-set_other t (twin_of e e a) y (commit e a) 0 n ∙ other y m f n
              ];
        }
      where
        below : twin_of e e a < size e
        below = twin_below e a i

        here : (y : ℕ) → y < size e → twin_of e e y ≡ y → y ≡ twin_of e e a → get_or (set t (twin_of e e a) (commit e a)) y 0 ≡ least_commit e (ident e y) (a + 1)
        here y m f q =
            let k : commit e a < get_or t y 0 = rw q l in
            let s : ident e y ≡ ident e a = ap (ident e) q ∙ twin_has e (ident e a) below in
            let b : twin_of e e a < length t = omega (arith, below) in
            ap (λ (z : ℕ). get_or (set t (twin_of e e a) (commit e a)) z 0) q ∙ get_or-set_same t (twin_of e e a) (commit e a) 0 b
            ∙ sym (more e (ident e y) a ∙ lower_own e (ident e y) a (least_commit e (ident e y) a) (sym s) (rw (h.held y m f) at k))

    module _ (b v : ℕ) (first : b ≡ twin_of e e a) (own : v ≡ commit e a) where
      pub least_skip : get_or t b 0 ≤ v → Least e t (a + 1)
      least_skip l = skip (rw (first, own) at l)

      pub least_put : a < size e → size e ≤ length t → v < get_or t b 0 → Least e (set t b v) (a + 1)
      least_put i long l = rw (first, own) (put i long (rw (first, own) at l))

  -- what the table says of an identifier
  module _ (d : ℕ) where
    pub least_at : (t : List ℕ) → Least e t (size e) → twin e d < size e → get_or t (twin e d) 0 ≡ least_commit e d (size e)
    least_at t h l =
        let s : ident e (twin e d) ≡ d = twin_has e d l in
        h.held (twin e d) l (ap (twin e) s) ∙ ap (λ (c : ℕ). least_commit e c (size e)) s

    least_absent : (n : ℕ) → any n (λ a. eqb (ident e a) d) ≡ false → least_commit e d n ≡ none
    unfolding least_commit lower
    least_absent zero h = refl
    least_absent (suc n) h =
        rw (any_not (λ a. eqb (ident e a) d) (suc n) n (omega arith) h)
        (least_absent n (any_less (λ a. eqb (ident e a) d) (suc n) n (omega arith) h))

    pub least_past : size e ≤ twin e d → least_commit e d (size e) ≡ none
    unfolding twin
    least_past l = least_absent (size e) (any_less (λ a. eqb (ident e a) d) (twin e d) (size e) l (first_least (λ a. eqb (ident e a) d) (size e)))
