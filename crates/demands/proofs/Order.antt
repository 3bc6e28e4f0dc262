-- What order answers, and what it hands out at 0.
use Prim.Native.Nat.{ℕ}
use mathlib.Core.Path.{◌≡◌, refl, sym, ap, ◌∙◌}
use mathlib.Core.List.{List}
use mathlib.Core.Bool.{Bool, true, false}
use lib.ListN.{length, take, drop}
use lib.Seq.{take_at}
use lib.Dec.{eqb}
use borrow.Author.Tests.{eq-eqb}
use Rattle.model.specs.declared.Answer.{Answer}
use Rattle.model.specs.Limits.{part_words}
use Rattle.model.specs.Search.{found, none}
use Rattle.model.specs.Answers.{rule, naming, ◌then◌}
use Rattle.model.specs.Layout.{header, size}
use Rattle.model.specs.Relations.{hb}
use Rattle.model.specs.Rules.{broken15, broken16, broken17, broken18, ordered, consistent, well_formed, racing}
use Rattle.model.specs.Serial.{serial}
use Rattle.model.specs.Questions.{order_refusal, order_of, order, order_list}
use Rattle.model.proofs.Answers.{then_both, then_next, then_ends}
use Rattle.model.proofs.Serial.{serial_order}
use Rattle.model.proofs.Serial.Steps.{length_serial}
use Rattle.model.proofs.Serial.Places.{Placed}
use Rattle.jmm.proofs.Accepted.{order_passed}
use Rattle.laws.proofs.Consistent.Fields.{checked_passed}
use Rattle.demands.specs.Demands.{E, Passes17, Passes18, RaceFree, Sequence, OrderHandsOut, OrderAnswers, OrderPromise, SomeSequence}
use Rattle.demands.proofs.Checked.{at, checked}
use Rattle.demands.proofs.Sequences.{sequence_of}
use Rattle.demands.proofs.Forms.{demand3_sequences}
use Rattle.demands.proofs.Greedy.{serial_greedy, greedy_serial}

module _ (r : List ℕ) where
  -- what 31 says, and what follows 15 and 16
  abbrev races : Answer
  races = racing (hb (E r)) (E r)

  abbrev from_17 : Answer
  from_17 = at r 17 (broken17 (E r)) then at r 18 (broken18 (hb (E r)) (E r))

  abbrev from_16 : Answer
  from_16 = at r 16 (broken16 (E r)) then from_17

  -- order's answer 0: nothing is broken
  module _ (lent room : ℕ) (h : (order r lent room).n ≡ 0) where
    passed : ((order_refusal r lent room).n ≡ 0) × ((order_of r).n ≡ 0)
    unfolding order
    passed = then_both (order_refusal r lent room) (order_of r) h

    judged : ((well_formed (hb (E r)) 0 (E r)).n ≡ 0) × (races.n ≡ 0)
    unfolding order_of
    judged = then_both (well_formed (hb (E r)) 0 (E r)) races passed.1

    rules : ((ordered 0 (E r)).n ≡ 0) × ((consistent (hb (E r)) 0 (E r)).n ≡ 0)
    unfolding well_formed
    rules = then_both (ordered 0 (E r)) (consistent (hb (E r)) 0 (E r)) judged.0

    past_15 : ((at r 15 (broken15 (E r))).n ≡ 0) × (from_16.n ≡ 0)
    unfolding consistent
    past_15 = then_both (at r 15 (broken15 (E r))) from_16 rules.1

    past_16 : ((at r 16 (broken16 (E r))).n ≡ 0) × (from_17.n ≡ 0)
    past_16 = then_both (at r 16 (broken16 (E r))) from_17 past_15.1

    free_at : RaceFree r
    free_at =
        record {
          unrefused = (part_words, lent, order_passed r lent room passed.0);
          rules = record { rules11_14 = rules.0; rule15 = past_15.0; rule16 = past_16.0 };
          no_race = judged.1;
        }

    consistent_too : Passes17 r × Passes18 r
    consistent_too = then_both (at r 17 (broken17 (E r))) (at r 18 (broken18 (hb (E r)) (E r))) past_16.1

  -- a race-free record: 17 and 18 are left
  module _ (lent room : ℕ) (u : (order_refusal r lent room).n ≡ 0) (free : RaceFree r) where
    formed : well_formed (hb (E r)) 0 (E r) ≡ from_17
    unfolding well_formed consistent
    formed =
        then_next (ordered 0 (E r)) (consistent (hb (E r)) 0 (E r)) free.rules.rules11_14
        ∙ then_next (at r 15 (broken15 (E r))) from_16 free.rules.rule15
        ∙ then_next (at r 16 (broken16 (E r))) from_17 free.rules.rule16

    answered : order r lent room ≡ (from_17 then races)
    unfolding order order_of
    answered = then_next (order_refusal r lent room) (order_of r) u ∙ ap (λ (q : Answer). q then races) formed

-- a rule that gives a number gives its own
rule_number : (N s n : ℕ) (p : ℕ → Bool) → ((rule N s n p).n ≡ 0 → ⊥) → (rule N s n p).n ≡ N
unfolding rule
rule_number N s n p = go (eqb (found n p) none) refl
  where
    go : (b : Bool) → eqb (found n p) none ≡ b → ((naming N s (found n p) none).n ≡ 0 → ⊥) → (naming N s (found n p) none).n ≡ N
    go true e h = absurd (h (simp (naming, e)))
    go false e h = simp (naming, e)

-- the first of two rules, and then a check that passes
decides : (p q s : Answer) (N M : ℕ) → ((p.n ≡ 0 → ⊥) → p.n ≡ N) → ((q.n ≡ 0 → ⊥) → q.n ≡ M) → s.n ≡ 0
    → (p.n ≡ 0 → q.n ≡ 0 → ((p then q) then s).n ≡ 0)
    × ((p.n ≡ 0 → ⊥) → ((p then q) then s).n ≡ N)
    × (p.n ≡ 0 → (q.n ≡ 0 → ⊥) → ((p then q) then s).n ≡ M)
decides p q s N M f g z = (
  λ a b. rw (then_next p q a, then_next q s b) z,
  λ a. rw (then_ends p q a, then_ends p s a) (f a),
  λ a b. rw (then_next p q a, then_ends q s b) (g b),
)

pub order_answers : OrderAnswers
order_answers r lent room u free =
    let own17 = rule_number 17 0 (size (E r)) (broken17 (E r)) in
    let own18 = rule_number 18 0 (size (E r)) (broken18 (hb (E r)) (E r)) in
    rw (answered r lent room u free)
    (decides (at r 17 (broken17 (E r))) (at r 18 (broken18 (hb (E r)) (E r))) (races r) 17 18 own17 own18 free.no_race)

-- the order of document 01
module _ (r : List ℕ) (free : RaceFree r) where
  placed : Placed (E r)
  placed = (checked_passed (header r) 0 (E r) (checked r free)).placed

  sequence : Sequence (E r) (serial (E r) (size (E r)))
  sequence = sequence_of (E r) (serial (E r) (size (E r))) (serial_order (E r) placed)

pub some_sequence : SomeSequence
some_sequence r free = (serial (E r) (size (E r)), sequence r free)

pub order_hands_out : OrderHandsOut
unfolding order_list
order_hands_out r lent l h =
    let free = free_at r lent (length l) h in
    rw handed (
      sequence r free,
      (demand3_sequences r free).0 (consistent_too r lent (length l) h),
      serial_greedy (E r) (placed r free),
      greedy_serial (E r) (placed r free),
    )
  where
    handed : take (size (E r)) (order_list r lent l) ≡ serial (E r) (size (E r))
    handed =
        rw (eq-eqb (order r lent (length l)).n 0 h)
        (take_at (serial (E r) (size (E r))) (drop (size (E r)) l) (size (E r)) (length_serial (E r) (size (E r))))

pub order_promise : OrderPromise
order_promise κs c p s post = (
  λ z. rw post.1.1 (order_hands_out c.0.now (length c.1.0.now) c.1.1.0.now (sym (ap (λ (q : Answer). q.n) post.0) ∙ z)),
  λ u free. rw post.0 (order_answers c.0.now (length c.1.0.now) (length c.1.1.0.now) u free),
)
