-- `record::strays` meets its contract: bits from V up are set exactly when something is left of the map past its first V bits.
use Prim.Native.Nat.{ℕ, ◌+◌, ◌-◌, ◌/◌, ◌^◌, ◌<◌}
use native.Mathlib.Decide.{dec_le}
use native.Mathlib.Omega.{arith}
use mathlib.Core.Path.{◌≡◌, refl, sym, ap, subst, ◌∙◌}
use mathlib.Core.Bool.{Bool, true, false, not, true≢false}
use lib.Dec.{eqb}
use lib.Pow.{pow_pos, shr-shr, shr_lt}
use borrow.Author.Rules.{rules}
use borrow.Author.Tests.{eq-eqb, ne_eqb, le-ltb, le-leb, lt-leb}
use Rattle.model.specs.declared.Header.{Header}
use Rattle.model.specs.Search.{any}
use Rattle.model.specs.Refused.{stray}
use Rattle.model.proofs.Search.{any_never, any_not}
use Rattle.model.proofs.Words.{on, on_zero, same_bits}
use Rattle.record.proofs.strays.Goals as goal

module _ (h : Header) where
  -- the map past the variables' bits
  abbrev rest : ℕ
  rest = h.map / 2 ^ h.variables

  below : (v : ℕ) → v < h.variables → stray h v ≡ false
  unfolding stray
  below v l = rw (lt-leb h.variables v l)

  above : (j : ℕ) → stray h (h.variables + j) ≡ on rest j
  unfolding stray
  above j = rw (le-leb h.variables (h.variables + j) (omega arith), shr-shr h.map h.variables j)

  clear : rest ≡ 0 → any 64 (stray h) ≡ false
  clear e = any_never (stray h) 64 (λ v l. at v)
    where
      at : (v : ℕ) → stray h v ≡ false
      at v =
          elim (dec_le h.variables v) [
            | no g ↦ below v (omega arith)
            | yes g ↦
                let q : h.variables + (v - h.variables) ≡ v = omega arith in
                rw q at (above (v - h.variables) ∙ ap (λ (n : ℕ). on n (v - h.variables)) e ∙ on_zero (v - h.variables))
          ]

  cleared : h.map < 2 ^ 64 → h.variables < 64 → any 64 (stray h) ≡ false → rest ≡ 0
  cleared small l e =
      let k = 64 - h.variables in
      let q : 64 ≡ k + h.variables = omega arith in
      same_bits k rest 0 (shr_lt k h.variables (subst (λ (n : ℕ). h.map < 2 ^ n) q small)) (pow_pos k)
      (λ j m. sym (above j) ∙ any_not (stray h) 64 (h.variables + j) (omega arith) e ∙ sym (on_zero j))

  strayed : h.map < 2 ^ 64 → h.variables < 64 → not (eqb rest 0) ≡ any 64 (stray h)
  strayed small l = go (any 64 (stray h)) refl
    where
      go : (b : Bool) → any 64 (stray h) ≡ b → not (eqb rest 0) ≡ b
      go true e = rw (ne_eqb rest 0 (λ z. true≢false (sym e ∙ clear z)))
      go false e = rw (eq-eqb rest 0 (cleared small l e))

pub returns-else-h-lt-MAX_VARIABLES : goal.returns-else-h-lt-MAX_VARIABLES
returns-else-h-lt-MAX_VARIABLES c = let h = c.args.h in le-ltb h.variables 64 c.if-h-lt-MAX_VARIABLES.false ∙ sym (any_never (stray h) 64 (λ v l. below h v (omega arith)))

pub returns-then-h-lt-MAX_VARIABLES : goal.returns-then-h-lt-MAX_VARIABLES
returns-then-h-lt-MAX_VARIABLES c = strayed c.args.h (search rules) (search rules)
