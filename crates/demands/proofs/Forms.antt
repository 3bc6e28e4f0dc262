-- Demand 3 in both forms, and that the forms are equal.
use Prim.Native.Nat.{ℕ, ◌<◌}
use mathlib.Core.List.{List}
use mathlib.Core.Logic.{◌↔◌, inl, inr}
use Rattle.model.specs.Layout.{header, size}
use Rattle.model.proofs.Serial.{Order}
use Rattle.laws.proofs.Consistent.{Consistent, Shows, checked_orders}
use Rattle.laws.proofs.Consistent.Fields.{checked_passed}
use Rattle.laws.proofs.Consistent.Section.{Passed}
use Rattle.demands.specs.Demands.{E, TotalOrder, Sees, EachSees, Sequence, Precedes, Demand3, Demand3Sequences, TwoForms}
use Rattle.demands.proofs.Checked.{checked, consistent}
use Rattle.demands.proofs.Sequences.{order_of, total_order}
use Rattle.demands.proofs.Ranks.{one_sequence}
use Rattle.demands.proofs.Seeing.{shows_sees, runs_sees}

-- reads see the same by relations that agree
sees_same : (x : List ℕ) (R S : ℕ → ℕ → Type 0) → ((a b : ℕ) → a < size x → b < size x → R a b ↔ S a b)
    → EachSees x R → EachSees x S
sees_same x R S same f a h r = go (f a h r)
  where
    go : Sees x R a → Sees x S a
    go (inl (z, none)) = inl (z, λ b k v s. none b k v ((same b a k h).1 s))
    go (inr (w, z, t)) =
        inr (
          w,
          z,
          record {
            position = t.position;
            writes = t.writes;
            earlier = (same w a t.position h).0 t.earlier;
            latest = λ b k v s q. t.latest b k v ((same b a k h).1 s) ((same w b t.position k).1 q);
          },
        )

pub two_forms : TwoForms
two_forms x = (
  λ l s. let o = order_of x l s in (total_order x l o, runs_sees x l o),
  λ R t. one_sequence x R t,
)

-- what holds of every sequence holds of every total order
module _ (x : List ℕ) (f : (l : List ℕ) → Sequence x l → EachSees x (Precedes l)) where
  each_order : (R : ℕ → ℕ → Type 0) → TotalOrder x R → EachSees x R
  each_order R t =
      let (l, c, only) = one_sequence x R t in
      sees_same x (Precedes l) R (λ a b h k. ((c.1 a b h k).1, (c.1 a b h k).0)) (f l c.0)

pub demand3 : Demand3
demand3 r free = (
  λ p. each_order (E r) (λ l s. let o = order_of (E r) l s in (shows_sees (E r) l o passed).0 (orders.0 ((consistent r free).0 p) l o)),
  λ f. (consistent r free).1 (orders.1 (λ l o. (shows_sees (E r) l o passed).1 (f (Precedes l) (total_order (E r) l o)))),
)
  where
    passed : Passed (E r)
    passed = checked_passed (header r) 0 (E r) (checked r free)

    orders : Consistent (E r) ↔ ((l : List ℕ) → Order (E r) l → Shows (E r) l)
    orders = checked_orders (header r) 0 (E r) (checked r free)

pub demand3_sequences : Demand3Sequences
demand3_sequences r free = (
  λ p l s. let o = order_of (E r) l s in (runs_sees (E r) l o).1 ((demand3 r free).0 p (Precedes l) (total_order (E r) l o)),
  λ f. (demand3 r free).1 (each_order (E r) (λ l s. (runs_sees (E r) l (order_of (E r) l s)).0 (f l s))),
)
