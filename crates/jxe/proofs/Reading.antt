-- What a read behind the first bytes of a list leaves in it.
use Rattle.std.proofs.Common.{◌≡◌, ℕ, ◌+◌, List, take, drop, Option, sym, subst}
use Rattle.std.proofs.Math.Seq.{take-add}
use Rattle.std.specs.Io.KnownBytes.{Consumes}
use Rattle.std.proofs.KnownBytes.{Consumes-trans}

-- two reads, one behind the other, are one
pub both : (a b c : Option (List ℕ)) (n more : ℕ) (xs ys : List ℕ) → take n ys ≡ take n xs → Consumes a b (take n xs)
    → Consumes b c (take more (drop n ys)) → Consumes a c (take (n + more) ys)
both a b c n more xs ys front before read =
    subst (Consumes a c) (sym (take-add n more ys)) (Consumes-trans a b c _ _ (subst (Consumes a b) (sym front) before) read)
