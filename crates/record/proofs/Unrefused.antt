-- What is known of a record that is not refused: the walk through the numbers 1 to 7.
use Prim.Native.Nat.{ℕ, ◌+◌, ◌<◌, ◌≤◌}
use mathlib.Core.Path.{◌≡◌}
use mathlib.Core.List.{List}
use mathlib.Core.Bool.{false}
use lib.Dec.{lit<}
use borrow.Author.Tests.{ltb-false, eqb-true, not-false}
use Rattle.model.specs.Limits.{max_actions}
use Rattle.model.specs.Layout.{version, threads, K, header, start, section, size}
use Rattle.model.specs.Refused.{unmarked, out_of_range, rule5, rule6, rule7, refusal}
use Rattle.model.proofs.Answers.{then_both, up_to_each, when_not}
use Rattle.record.proofs.Parts.{size_section}
use Rattle.record.proofs.Cuts.{cuts, uncut}
use Rattle.record.proofs.Stages.{in_range}

pub record Unrefused (r : List ℕ) (need lent : ℕ) : Type 0 where
  pub marked : unmarked r ≡ false
  pub versioned : version r ≡ 1
  pub ranged : out_of_range (header r) ≡ false
  pub lent_enough : need ≤ lent
  pub few_sections : K r ≤ 8
  pub few_threads : threads r ≤ 16
  pub sized : (s : ℕ) → s < K r + 1 → size (section r s) ≤ max_actions
  pub passes_6 : (rule6 r).n ≡ 0
  pub passes_7 : (rule7 r).n ≡ 0

-- no section of a record that passes 5 is over the limit
whole : (r : List ℕ) → (rule5 r).n ≡ 0 → (s : ℕ) → s < K r + 1 → size (section r s) ≤ max_actions
unfolding rule5
whole r h s l =
    rw (size_section r s)
    (uncut r (start r s) (when_not _ 5 s (lit< tt) (up_to_each (cuts r) (K r + 1) (then_both _ _ h).0 s l))).0

pub unrefused : (r : List ℕ) (need lent : ℕ) → (refusal r need lent).n ≡ 0 → Unrefused r need lent
unfolding refusal
unrefused r need lent h =
    let one = then_both _ _ h in
    let two = then_both _ _ one.1 in
    let three = then_both _ _ two.1 in
    let four = then_both _ _ three.1 in
    let five = then_both _ _ four.1 in
    let six = then_both _ _ five.1 in
    let range = when_not _ 3 0 (lit< tt) three.0 in
    record {
      marked = when_not _ 1 0 (lit< tt) one.0;
      versioned = eqb-true (version r) 1 (not-false _ (when_not _ 2 0 (lit< tt) two.0));
      ranged = range;
      lent_enough = ltb-false lent need (when_not _ 4 0 (lit< tt) four.0);
      few_sections = (in_range (header r) range).0;
      few_threads = (in_range (header r) range).1;
      sized = whole r five.0;
      passes_6 = six.0;
      passes_7 = six.1;
    }
