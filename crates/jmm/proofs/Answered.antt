-- A check that is given as a result keeps the answer: `answered` gives it back as it is, for every check of the layers below.
use Prim.Native.Nat.{ℕ}
use native.Mathlib.Omega.{arith}
use mathlib.Core.Path.{◌≡◌, refl}
use mathlib.Core.List.{List}
use mathlib.Core.Bool.{Bool, true, false, cond}
use lib.Dec.{leb}
use Rattle.model.specs.declared.Answer.{Answer}
use Rattle.model.specs.declared.Header.{Header}
use Rattle.model.specs.Limits.{max_actions}
use Rattle.model.specs.Layout.{section, size}
use Rattle.model.specs.Refused.{refusal, misfielded, met}
use Rattle.model.specs.Rules.{ordered, well_formed, racing}
use Rattle.model.specs.Justified.{committing}
use Rattle.model.specs.Answers.{pass, rule, checked, answered}
use Rattle.model.proofs.Answers.{Clean, clean_rule}
use Rattle.model.proofs.Checked.{answered_checked}
use Rattle.positions.specs.Limit.{limited}
use Rattle.jmm.proofs.Clean.{clean_refusal, clean_ordered, clean_well_formed, clean_racing, clean_committing}

clean_limited : (x : List ℕ) (q : Answer) → Clean q → Clean (limited x q)
unfolding limited
clean_limited x q clean = go (leb (size x) max_actions)
  where
    go : (b : Bool) → Clean (cond b q pass)
    go true = clean
    go false = λ h. refl

pub refusal_kept : (r : List ℕ) (need lent : ℕ) → answered (checked (refusal r need lent)) ≡ refusal r need lent
refusal_kept r need lent = answered_checked (refusal r need lent) (clean_refusal r need lent)

pub misfielded_kept : (h : Header) (s : ℕ) (x : List ℕ) → answered (checked (rule 6 s (size x) (misfielded h s x))) ≡ rule 6 s (size x) (misfielded h s x)
misfielded_kept h s x = answered_checked (rule 6 s (size x) (misfielded h s x)) (clean_rule 6 s (size x) (misfielded h s x) (omega arith))

pub repeated_kept : (s : ℕ) (x : List ℕ) → answered (checked (rule 7 s (size x) (met x))) ≡ rule 7 s (size x) (met x)
repeated_kept s x = answered_checked (rule 7 s (size x) (met x)) (clean_rule 7 s (size x) (met x) (omega arith))

pub ordered_kept : (s : ℕ) (x : List ℕ) → answered (checked (limited x (ordered s x))) ≡ limited x (ordered s x)
ordered_kept s x = answered_checked (limited x (ordered s x)) (clean_limited x (ordered s x) (clean_ordered s x))

module _ (h : ℕ → ℕ → Bool) (s : ℕ) (x : List ℕ) where
  pub well_formed_kept : answered (checked (limited x (well_formed h s x))) ≡ limited x (well_formed h s x)
  well_formed_kept = answered_checked (limited x (well_formed h s x)) (clean_limited x (well_formed h s x) (clean_well_formed s x h))

  pub racing_kept : answered (checked (limited x (racing h x))) ≡ limited x (racing h x)
  racing_kept = answered_checked (limited x (racing h x)) (clean_limited x (racing h x) (clean_racing h x))

pub committing_kept : (g h : ℕ → ℕ → Bool) (r : List ℕ) (i : ℕ) →
    (let q = limited (section r 0) (limited (section r i) (committing g h r i)) in answered (checked q) ≡ q)
committing_kept g h r i =
    answered_checked (limited (section r 0) (limited (section r i) (committing g h r i)))
    (clean_limited (section r 0) _ (clean_limited (section r i) _ (clean_committing g h r i)))
