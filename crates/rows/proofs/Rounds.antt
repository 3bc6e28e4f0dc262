-- The steps of a round in place, from one turn of a loop to the next.
use Prim.Native.Nat.{ℕ, ◌+◌, ◌*◌, ◌/◌, ◌%◌, ◌<◌, ◌≤◌}
use mathlib.Core.Path.{◌≡◌, refl, sym, ap, ap₂, ◌∙◌}
use mathlib.Core.List.{List}
use mathlib.Core.Bool.{Bool, true, false, cond, ◌&&◌, ◌||◌, and-true, and-false, or-false}
use native.Mathlib.Decide.{dec_lt, ℕ_discrete}
use native.Mathlib.Omega.{arith}
use lib.ListN.{length, get_or, set, take, drop, length-set, length-drop, replicate}
use lib.Seq.{length-take-le, get_or-take, get_or-drop}
use lib.Dec.{eqb, ltb}
use lib.Bits.{bit_or}
use borrow.Author.Tests.{lt-ltb, le-ltb, eq-eqb, ne_eqb}
use Rattle.model.specs.WorkArea.{bit}
use Rattle.model.proofs.Words.{on, on_zero, bit_in, bit_wide}
use Rattle.rows.specs.Rounds.{Joined, Row, Round}
use Rattle.rows.proofs.Cleared.{bit_cleared}
use Rattle.rows.proofs.Word.{bit_set_same, bit_set_other, on_or}

on_chosen : (has : Bool) (v j : ℕ) → on (cond has v 0) j ≡ has && on v j
on_chosen true v j = refl
on_chosen false v j = on_zero j

-- one more than m is as m to a number that is not m
pub more_below : (a m : ℕ) → (a ≡ m → ⊥) → ltb a m ≡ ltb a (m + 1)
more_below a m n =
    elim (dec_lt a m) [
      | yes h ↦ lt-ltb a m h ∙ sym (lt-ltb a (m + 1) (omega arith))
      | no g ↦ le-ltb a m (omega arith) ∙ sym (le-ltb a (m + 1) (omega arith))
    ]

-- row `from` into row `to`, a word at a time
module _ (W : ℕ) (ws : List ℕ) (to : ℕ) (us : List ℕ) (from : ℕ) (has : Bool) where
  pub joined_none : Joined W ws ws to us from has 0
  joined_none =
      record {
        long = refl;
        bits = λ a b. rw (le-ltb b 0 (omega arith), and-false) (sym (or-false (bit W ws a b)));
      }

  pub joined_more :
      (ws' : List ℕ) (m : ℕ) {v : ℕ} → Joined W ws ws' to us from has m → m < W → W * to + m < length ws' → v ≡ cond has (get_or us (W * from + m) 0) 0 →
      Joined W ws (set ws' (W * to + m) (bit_or (get_or ws' (W * to + m) 0) v)) to us from has (m + 1)
  joined_more ws' m {v} s inside l q =
      record {
        long = length-set ws' (W * to + m) w ∙ s.long;
        bits = bits;
      }
    where
      w : ℕ
      w = bit_or (get_or ws' (W * to + m) 0) v

      -- word m of row `to` is still as it was
      old : (b : ℕ) → b / 64 ≡ m → on (get_or ws' (W * to + m) 0) (b % 64) ≡ bit W ws to b
      old b e =
          rw (← e) (sym (bit_in W ws' to b (omega arith)))
          ∙ s.bits to b ∙ rw (le-ltb b (64 * m) (omega arith), and-false) (or-false (bit W ws to b))

      new : (b : ℕ) → b / 64 ≡ m → on v (b % 64) ≡ has && bit W us from b
      new b e =
          ap (λ (u : ℕ). on u (b % 64)) q ∙ on_chosen has (get_or us (W * from + m) 0) (b % 64)
          ∙ ap (λ (t : Bool). has && t) (rw (← e) (sym (bit_in W us from b (omega arith))))

      here : (b : ℕ) → b / 64 ≡ m → bit W (set ws' (W * to + m) w) to b ≡ bit W ws to b || eqb to to && ltb b (64 * (m + 1)) && (has && bit W us from b)
      here b e =
          bit_set_same W ws' to m w inside b e l ∙ on_or (get_or ws' (W * to + m) 0) v (b % 64)
          ∙ rw (eq-eqb to to refl, lt-ltb b (64 * (m + 1)) (omega arith)) (ap₂ ◌||◌ (old b e) (new b e))

      bits : (a b : ℕ) → bit W (set ws' (W * to + m) w) a b ≡ bit W ws a b || eqb a to && ltb b (64 * (m + 1)) && (has && bit W us from b)
      bits a b =
          elim (ℕ_discrete a to) [
            | no n ↦
                bit_set_other W ws' to m w inside a b (λ e f. n e)
                ∙ s.bits a b ∙ rw (ne_eqb a to n)
            | yes e ↦
                elim (ℕ_discrete (b / 64) m) [
                  | yes f ↦ rw e (here b f)
                  | no n ↦
                      bit_set_other W ws' to m w inside a b (λ e f. n f)
                      ∙ s.bits a b ∙ rw (further b n)
                ]
          ]
        where
          further : (b : ℕ) → (b / 64 ≡ m → ⊥) → ltb b (64 * m) ≡ ltb b (64 * (m + 1))
          further b n =
              elim (dec_lt b (64 * m)) [
                | yes h ↦ lt-ltb b (64 * m) h ∙ sym (lt-ltb b (64 * (m + 1)) (omega arith))
                | no g ↦ le-ltb b (64 * m) (omega arith) ∙ sym (le-ltb b (64 * (m + 1)) (omega arith))
              ]

  pub joined_whole : {ws' : List ℕ} → Joined W ws ws' to us from has W → (a b : ℕ) → bit W ws' a b ≡ bit W ws a b || eqb a to && (has && bit W us from b)
  joined_whole s a b =
      s.bits a b
      ∙ elim (dec_lt b (64 * W)) [
        | yes h ↦ rw (lt-ltb b (64 * W) h) (ap (λ (t : Bool). bit W ws a b || t && (has && bit W us from b)) (and-true (eqb a to)))
        | no g ↦ rw (bit_wide W us from b (omega arith), and-false has) (simp and-false)
      ]

-- or not at all
pub joined_not : (W : ℕ) (ws : List ℕ) (to : ℕ) (us : List ℕ) (from m : ℕ) → Joined W ws ws to us from false m
joined_not W ws to us from m = record { long = refl; bits = λ a b. simp (and-false, or-false) }

-- a row of its own
pub row_joined : (W n : ℕ) (ws : List ℕ) (k : ℕ) {r : List ℕ} → length r ≡ W → Joined W (replicate n 0) r 0 ws k true W → Row W ws k r
row_joined W n ws k len s =
    record {
      long = len;
      bits = λ b. joined_whole W (replicate n 0) 0 ws k true s 0 b ∙ rw (bit_cleared W n 0 b);
    }

pub row_taken : (W : ℕ) (ws : List ℕ) (k : ℕ) → W * k + W ≤ length ws → Row W ws k (take W (drop (W * k) ws))
row_taken W ws k h =
    record {
      long = length-take-le W (drop (W * k) ws) (rw length-drop (omega arith));
      bits = λ b.
          elim (dec_lt b (64 * W)) [
            | yes l ↦
                bit_in W (take W (drop (W * k) ws)) 0 b l
                ∙ ap (λ (v : ℕ). on v (b % 64)) (word (W * 0 + b / 64) (b / 64) (omega arith) (omega arith))
                ∙ sym (bit_in W ws k b l)
            | no g ↦ bit_wide W (take W (drop (W * k) ws)) 0 b (omega arith) ∙ sym (bit_wide W ws k b (omega arith))
          ];
    }
  where
    word : (i j : ℕ) → i ≡ j → j < W → get_or (take W (drop (W * k) ws)) i 0 ≡ get_or ws (W * k + j) 0
    word i j e l = rw e (get_or-take W (drop (W * k) ws) j 0 l ∙ get_or-drop (W * k) ws j 0)

-- round k, a row at a time
module _ (W : ℕ) (ws : List ℕ) (k : ℕ) where
  pub round_none : Round W ws ws k 0
  round_none =
      record {
        long = refl;
        bits = λ a b. rw (le-ltb a 0 (omega arith)) (sym (or-false (bit W ws a b)));
      }

  -- row m, of which `has` is bit k, takes in row k, which is r
  pub round_more :
      (ws' : List ℕ) (m : ℕ) (r : List ℕ) {has : Bool} {ws'' : List ℕ} → Round W ws ws' k m → Row W ws k r → has ≡ bit W ws' m k →
      Joined W ws' ws'' m r 0 has W → Round W ws ws'' k (m + 1)
  round_more ws' m r {has} {ws''} s row e j =
      record {
        long = j.long ∙ s.long;
        bits = λ a b. joined_whole W ws' m r 0 has j a b ∙ at a b;
      }
    where
      old : (b : ℕ) → bit W ws' m b ≡ bit W ws m b
      old b = s.bits m b ∙ rw (le-ltb m m (omega arith)) (or-false (bit W ws m b))

      at : (a b : ℕ) → bit W ws' a b || eqb a m && (has && bit W r 0 b) ≡ bit W ws a b || ltb a (m + 1) && (bit W ws a k && bit W ws k b)
      at a b =
          elim (ℕ_discrete a m) [
            | yes q ↦ rw (q, eq-eqb m m refl, lt-ltb m (m + 1) (omega arith), old b, e, old k, row.bits b)
            | no n ↦ rw (ne_eqb a m n, or-false, ← more_below a m n) (s.bits a b)
          ]
