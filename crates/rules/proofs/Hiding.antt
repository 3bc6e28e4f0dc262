-- 18: a write between the one that a read sees and the read.
use Prim.Native.Nat.{ℕ}
use mathlib.Core.Path.{◌≡◌, refl, ap}
use mathlib.Core.Bool.{Bool, true, false, not, ◌&&◌, ◌||◌}
use mathlib.Core.List.{List}
use lib.Dec.{eqb}
use Rattle.std.specs.Prelude.{Option}
use Rattle.model.specs.Kinds.{kind_row}
use Rattle.model.specs.Search.{any}
use Rattle.model.specs.Layout.{size, kind, target, seen, read, write}
use Rattle.model.specs.Rules.{rival, seen_at, seen_hb, broken18}
use Rattle.model.proofs.Search.{any_same}
use Rattle.rules.specs.Searches.{hiding}
use Rattle.rules.specs.Sources.{source, before, foreseen}
use Rattle.rules.proofs.Sources.{sees_initial, sees_action}

-- four tests, the first two apart
grouped : (p q r s : Bool) → p && (q && (r && s)) ≡ p && q && r && s
grouped true true r s = refl
grouped true false r s = refl
grouped false q r s = refl

module _ (h : ℕ → ℕ → Bool) (x : List ℕ) (a : ℕ) (w : Option ℕ) where
  -- what is looked for among the writes
  module _ {v : ℕ} (e : v ≡ target x a) where
    pub hides_at : (b : ℕ) → write x b && (eqb (target x b) v && (before h w b && h b a)) ≡ hiding h x a w b
    unfolding hiding rival
    hides_at b = rw e (grouped (write x b) (eqb (target x b) (target x a)) (before h w b) (h b a))

    pub hides_is : any (size x) (λ b. write x b && (eqb (target x b) v && (before h w b && h b a))) ≡ any (size x) (hiding h x a w)
    hides_is = any_same _ _ (size x) (λ b u. hides_at b)

  module _ (k : kind x a ≡ 1) (e : w ≡ source x a) where
    reads : read x a ≡ true
    unfolding kind_row
    reads = ap (λ (z : ℕ). (kind_row z).read) k

    pub hidden_breaks : foreseen h a w || any (size x) (hiding h x a w) ≡ broken18 h x a
    unfolding broken18 seen_hb hiding
    hidden_breaks = rw (e, k) (go (eqb (seen x a) 0) refl)
      where
        go :
            (t : Bool) → eqb (seen x a) 0 ≡ t →
            foreseen h a (source x a) || any (size x) (λ b. rival x a b && before h (source x a) b && h b a)
            ≡ not (eqb (seen x a) 0) && h a (seen_at x a) || any (size x) (λ b. rival x a b && (eqb (seen x a) 0 || h (seen_at x a) b) && h b a)
        go true q = rw (sees_initial x a reads q, q)
        go false q = rw (sees_action x a reads q, q)
