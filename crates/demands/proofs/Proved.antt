-- Every statement of specs/Demands.antt, with its proof.
use Rattle.demands.specs.Demands.{Demand3, Demand3Sequences, TwoForms, OrderHandsOut, OrderAnswers, OrderPromise, RaceIgnores, RacePromise, SomeSequence, Cases}
use Rattle.demands.proofs.Forms.{demand3, demand3_sequences, two_forms}
use Rattle.demands.proofs.Order.{order_hands_out, order_answers, order_promise, some_sequence}
use Rattle.demands.proofs.Race.{race_ignores, race_promise}
use Rattle.demands.proofs.Cases.{cases}

pub proved : Demand3 × Demand3Sequences × TwoForms × OrderHandsOut × OrderAnswers × OrderPromise × RaceIgnores × RacePromise × SomeSequence × Cases
proved = (
  demand3,
  demand3_sequences,
  two_forms,
  order_hands_out,
  order_answers,
  order_promise,
  race_ignores,
  race_promise,
  some_sequence,
  cases,
)
