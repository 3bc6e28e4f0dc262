-- The map as one number is document 01's map: "variable v volatile when bit v mod 8 of byte 9 + v div 8 is set".
use Prim.Native.Nat.{ℕ, zero, suc, ◌+◌, ◌*◌, ◌/◌, ◌%◌, ◌^◌, ◌<◌}
use native.Mathlib.Nat.{zero-add, add-zero, add_assoc, mul-zero, mul-suc, div-add-mod}
use native.Mathlib.Omega.{arith}
use mathlib.Core.Path.{◌≡◌, sym, ap, ap₂, ◌∙◌}
use mathlib.Core.List.{List}
use mathlib.Core.Bool.{true}
use lib.Dec.{eqb}
use lib.Pow.{shr-shr}
use Rattle.model.specs.Layout.{byte, map, header, volatile}
use Rattle.model.proofs.Words.{on, on_rest}

-- n bytes as one number, little-endian
little : ℕ → (ℕ → ℕ) → ℕ
little zero f = 0
little (suc n) f = f 0 + 256 * little n (λ i. f (suc i))

-- what stands above bit k does not change the bits below
on_low : (k b m j : ℕ) → j < k → on (b + 2 ^ k * m) j ≡ on b j
on_low k b zero j l = rw (mul-zero, add-zero)
on_low k b (suc m) j l =
    rw (mul-suc, ← add_assoc) (on_rest k (b + 2 ^ k * m) j true l ∙ on_low k b m j l)

-- bit j of byte q
on_little : (n : ℕ) (f : ℕ → ℕ) → ((i : ℕ) → f i < 256) → (q j : ℕ) → q < n → j < 8 → on (little n f) (8 * q + j) ≡ on (f q) j
unfolding little
on_little zero f small q j h l = absurd (let z : ⊥ = omega arith in z)
on_little (suc n) f small zero j h l = rw zero-add (on_low 8 (f 0) (little n (λ i. f (suc i))) j l)
on_little (suc n) f small (suc q) j h l =
    let m = little n (λ i. f (suc i)) in
    let d : (f 0 + 256 * m) / 256 ≡ m = omega (arith, small 0) in
    let p : 8 * suc q + j ≡ 8 + (8 * q + j) = omega arith in
    rw p (ap (λ (z : ℕ). eqb (z % 2) 1) (sym (shr-shr (f 0 + 256 * m) 8 (8 * q + j)) ∙ ap (λ (z : ℕ). z / 2 ^ (8 * q + j)) d)
    ∙ on_little n (λ i. f (suc i)) (λ i. small (suc i)) q j (omega arith) l)

pub map_bit :
    (r : List ℕ) → ((i : ℕ) → byte r i < 256) → (v : ℕ) → v < 64 →
    volatile (header r) v ≡ eqb (byte r (9 + v / 8) / 2 ^ (v % 8) % 2) 1
unfolding little
map_bit r small v l =
    let f : ℕ → ℕ = λ i. byte r (9 + i) in
    let e : map r ≡ little 8 f = omega arith in
    ap₂ on e (sym (div-add-mod v 8)) ∙ on_little 8 f (λ i. small (9 + i)) (v / 8) (v % 8) (omega arith) (omega arith)
