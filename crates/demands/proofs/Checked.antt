-- What the answers' tests give of a race-free record: the searches behind them find nothing, which is what the laws of orders ask.
use Prim.Native.Nat.{ℕ, ◌+◌, ◌<◌, ◌≤◌}
use native.Mathlib.Omega.{arith}
use mathlib.Core.Path.{◌≡◌, ap}
use mathlib.Core.List.{List}
use mathlib.Core.Logic.{◌↔◌}
use mathlib.Core.Bool.{Bool, false, ◌&&◌}
use lib.Dec.{ltb}
use Rattle.model.specs.declared.Answer.{Answer}
use Rattle.model.specs.Limits.{max_actions}
use Rattle.model.specs.Search.{any}
use Rattle.model.specs.Answers.{rule, ◌then◌}
use Rattle.model.specs.Layout.{K, header, section, size}
use Rattle.model.specs.Relations.{hb, race}
use Rattle.model.specs.Refused.{misfielded, met, sections, rule6, rule7, refusal}
use Rattle.model.specs.Rules.{broken11, broken12, broken13, least, broken14, broken15, broken17, broken18, ordered, racing}
use Rattle.model.proofs.Answers.{then_both, up_to_each, rule_none, rule_nowhere, rule₂_nowhere}
use Rattle.record.proofs.Unrefused.{Unrefused, unrefused}
use Rattle.laws.proofs.Consistent.{Consistent}
use Rattle.laws.proofs.Consistent.Fields.{Checked}
use Rattle.demands.specs.Demands.{E, Passes, Passes17, Passes18, RaceFree}

-- rule N on section 0
abbrev pub at : List ℕ → ℕ → (ℕ → Bool) → Answer
at r N p = rule N 0 (size (E r)) p

module _ (r : List ℕ) (need lent : ℕ) (h : (refusal r need lent).n ≡ 0) where
  kept : Unrefused r need lent
  kept = unrefused r need lent h

  small : size (E r) ≤ max_actions
  small = kept.sized 0 (omega arith)

  nowhere : (N : ℕ) (p : ℕ → Bool) → 0 < N → Passes (E r) N p → any (size (E r)) p ≡ false
  nowhere N p pos = rule_nowhere N 0 (size (E r)) p pos (let l = small in omega arith)

  -- 6 and 7 name no action of section 0
  first_section : (N : ℕ) (p : ℕ → List ℕ → ℕ → Bool) → 0 < N → (sections N r p).n ≡ 0 → any (size (E r)) (p 0 (E r)) ≡ false
  unfolding sections
  first_section N p pos h =
      nowhere N (p 0 (E r)) pos
      (up_to_each (λ s. rule N s (size (section r s)) (p s (section r s))) (K r + 1) h 0 (omega arith))

module _ (r : List ℕ) (free : RaceFree r) where
  here : (N : ℕ) (p : ℕ → Bool) → 0 < N → (at r N p).n ≡ 0 → any (size (E r)) p ≡ false
  here = let u = free.unrefused in nowhere r u.0 u.1 u.2

  abbrev from_13 : Answer
  from_13 = at r 13 (least (E r) (broken13 (E r))) then at r 14 (broken14 (E r))

  abbrev from_12 : Answer
  from_12 = at r 12 (broken12 (E r)) then from_13

  past_11 : ((at r 11 (broken11 (E r))).n ≡ 0) × (from_12.n ≡ 0)
  unfolding ordered
  past_11 = then_both (at r 11 (broken11 (E r))) from_12 free.rules.rules11_14

  past_12 : ((at r 12 (broken12 (E r))).n ≡ 0) × (from_13.n ≡ 0)
  past_12 = then_both (at r 12 (broken12 (E r))) from_13 past_11.1

  race_nowhere : any (size (E r)) (λ a. any (size (E r)) (λ b. ltb a b && race (hb (E r)) (E r) a b)) ≡ false
  unfolding racing
  race_nowhere =
      let u = free.unrefused in
      let l = small r u.0 u.1 u.2 in
      rule₂_nowhere 31 0 (size (E r)) (λ a b. ltb a b && race (hb (E r)) (E r) a b) (omega arith) (omega arith) free.no_race

  pub checked : Checked (header r) 0 (E r)
  unfolding rule6 rule7
  checked =
      let u = free.unrefused in
      let k = kept r u.0 u.1 u.2 in
      record {
        threads_few = k.few_threads;
        rule6 = first_section r u.0 u.1 u.2 6 (misfielded (header r)) (omega arith) k.passes_6;
        rule7 = first_section r u.0 u.1 u.2 7 (λ s. met) (omega arith) k.passes_7;
        rule11 = here 11 (broken11 (E r)) (omega arith) past_11.0;
        rule12 = here 12 (broken12 (E r)) (omega arith) past_12.0;
        rule14 =
            here 14 (broken14 (E r)) (omega arith) (then_both (at r 13 (least (E r) (broken13 (E r)))) (at r 14 (broken14 (E r))) past_12.1).1;
        rule15 = here 15 (broken15 (E r)) (omega arith) free.rules.rule15;
        race_free = race_nowhere;
      }

  -- 17 and 18 pass exactly when they find no action
  pub consistent : (Passes17 r × Passes18 r) ↔ Consistent (E r)
  consistent = (
    λ h. (here 17 (broken17 (E r)) (omega arith) h.0, here 18 (broken18 (hb (E r)) (E r)) (omega arith) h.1),
    λ h. (passes 17 (broken17 (E r)) h.0, passes 18 (broken18 (hb (E r)) (E r)) h.1),
  )
    where
      passes : (N : ℕ) (p : ℕ → Bool) → any (size (E r)) p ≡ false → (at r N p).n ≡ 0
      passes N p h = ap (λ (q : Answer). q.n) (rule_none N 0 (size (E r)) p h)
