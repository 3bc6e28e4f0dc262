-- Of what is asked of one section, of one i, or of a record, a 0 is a pass as a whole.
use Prim.Native.Nat.{ℕ, ◌+◌}
use lib.Dec.{eqb, ltb}
use lib.ListN.{length}
use native.Mathlib.Omega.{arith}
use mathlib.Core.List.{List}
use mathlib.Core.Bool.{Bool, not}
use Rattle.model.specs.Rules.{ordered, consistent, well_formed, racing}
use Rattle.model.specs.Justified.{committing}
use Rattle.model.specs.Search.{none}
use Rattle.model.specs.Layout.{K, version, header, start, section, size}
use Rattle.model.specs.Relations.{hb}
use Rattle.model.specs.Refused.{unmarked, out_of_range, cut_at, refusal, rule5, rule6, rule7, sections, misfielded, met}
use Rattle.model.specs.Questions.{verdict, verdict_refusal, judged, race, race_refusal, race_of, order, order_refusal, order_of}
use Rattle.model.proofs.Answers.{Clean, clean_answer, clean_then, clean_when, clean_up_to, clean_rule, clean_rule₂}

module _ (s : ℕ) (x : List ℕ) where
  pub clean_ordered : Clean (ordered s x)
  unfolding ordered
  clean_ordered =
      clean_then _ _ (clean_rule _ _ _ _ (omega arith))
      (clean_then _ _ (clean_rule _ _ _ _ (omega arith))
      (clean_then _ _ (clean_rule _ _ _ _ (omega arith)) (clean_rule _ _ _ _ (omega arith))))

  module _ (h : ℕ → ℕ → Bool) where
    clean_consistent : Clean (consistent h s x)
    unfolding consistent
    clean_consistent =
        clean_then _ _ (clean_rule _ _ _ _ (omega arith))
        (clean_then _ _ (clean_rule _ _ _ _ (omega arith))
        (clean_then _ _ (clean_rule _ _ _ _ (omega arith)) (clean_rule _ _ _ _ (omega arith))))

    pub clean_well_formed : Clean (well_formed h s x)
    unfolding well_formed
    clean_well_formed = clean_then _ _ clean_ordered clean_consistent

pub clean_racing : (h : ℕ → ℕ → Bool) (x : List ℕ) → Clean (racing h x)
unfolding racing
clean_racing h x = clean_rule₂ _ _ _ _ (omega arith)

pub clean_committing : (g h : ℕ → ℕ → Bool) (r : List ℕ) (i : ℕ) → Clean (committing g h r i)
unfolding committing
clean_committing g h r i =
    clean_then _ _ (clean_rule _ _ _ _ (omega arith))
    (clean_then _ _ (clean_rule₂ _ _ _ _ (omega arith))
    (clean_then _ _ (clean_rule₂ _ _ _ _ (omega arith))
    (clean_then _ _ (clean_rule _ _ _ _ (omega arith))
    (clean_then _ _ (clean_rule _ _ _ _ (omega arith))
    (clean_then _ _ (clean_rule _ _ _ _ (omega arith))
    (clean_then _ _ (clean_rule _ _ _ _ (omega arith))
    (clean_then _ _ (clean_rule₂ _ _ _ _ (omega arith)) (clean_rule₂ _ _ _ _ (omega arith)))))))))

-- the questions
pub clean_refusal : (r : List ℕ) (need lent : ℕ) → Clean (refusal r need lent)
unfolding refusal rule5 rule6 rule7 sections
clean_refusal r need lent =
    clean_then _ _ (clean_when (unmarked r) _ (clean_answer 1 0 none none (omega arith)))
    (clean_then _ _ (clean_when (not (eqb (version r) 1)) _ (clean_answer 2 0 none none (omega arith)))
    (clean_then _ _ (clean_when (out_of_range (header r)) _ (clean_answer 3 0 none none (omega arith)))
    (clean_then _ _ (clean_when (ltb lent need) _ (clean_answer 4 0 none none (omega arith)))
    (clean_then _ _ (clean_then _ _ (clean_up_to _ (λ s. clean_when (cut_at r (start r s)) _ (clean_answer 5 s none none (omega arith))) (K r + 1)) (clean_when (ltb (start r (K r + 1)) (length r)) _ (clean_answer 5 (K r) none none (omega arith))))
    (clean_then _ _ (clean_up_to _ (λ s. clean_rule 6 s (size (section r s)) (misfielded (header r) s (section r s)) (omega arith)) (K r + 1))
    (clean_up_to _ (λ s. clean_rule 7 s (size (section r s)) (met (section r s)) (omega arith)) (K r + 1)))))))

pub clean_verdict : (r : List ℕ) (lent : ℕ) → Clean (verdict r lent)
unfolding verdict verdict_refusal judged
clean_verdict r lent =
    clean_then _ _ (clean_refusal _ _ _)
    (clean_then _ _ (clean_up_to _ (λ s. clean_well_formed s (section r s) (hb (section r s))) (K r + 1))
    (clean_then _ _ (clean_up_to _ (λ j. clean_committing (hb (section r 0)) (hb (section r (j + 1))) r (j + 1)) (K r)) (clean_when (eqb (K r) 0) _ (clean_answer 10 0 none none (omega arith)))))

pub clean_race : (r : List ℕ) (lent : ℕ) → Clean (race r lent)
unfolding race race_refusal race_of
clean_race r lent = clean_then _ _ (clean_refusal _ _ _) (clean_then _ _ (clean_ordered _ _) (clean_racing _ _))

pub clean_order : (r : List ℕ) (lent room : ℕ) → Clean (order r lent room)
unfolding order order_refusal race_refusal order_of
clean_order r lent room =
    clean_then _ _ (clean_then _ _ (clean_refusal _ _ _) (clean_when (ltb room (size (section r 0))) _ (clean_answer 8 0 none none (omega arith))))
    (clean_then _ _ (clean_well_formed _ _ _) (clean_racing _ _))
