-- No second result meets the promise of `Kind::try_from`: no two kinds have one byte, and none has a byte that is no kind's.
use Prim.Native.Nat.{ℕ, ◌<◌, ◌≤◌}
use native.Mathlib.Omega.{arith}
use mathlib.Core.Path.{◌≡◌, refl, sym, ap, ◌∙◌}
use mathlib.Core.Logic.{◌⊎◌, ⊎_elim}
use mathlib.Core.List.{List, [], ◌∷◌}
use lib.ListN.{get_or}
use Rattle.std.specs.Prelude.{Result, Ok, Err}
use Rattle.model.specs.declared.Kind.{Kind}
use Rattle.model.specs.declared.Kind.TheVariants.{Read, Write, VolatileRead, VolatileWrite, Lock, Unlock, Start, First, Last, Join, External}
use Rattle.model.specs.declared.NoKind.{NoKind}
use Rattle.model.specs.Bytes.{byte_of, Decodes}
use Rattle.model.proofs.Settles.{Settles}
use Rattle.model.proofs.KindTryFromU8.try_from.Reads as try_from

-- the kinds by their bytes
abbrev by_byte : List Kind
by_byte = Read ∷ Read ∷ Write ∷ VolatileRead ∷ VolatileWrite ∷ Lock ∷ Unlock ∷ Start ∷ First ∷ Last ∷ Join ∷ External ∷ []

at_byte : (k : Kind) → get_or by_byte (byte_of k) Read ≡ k
at_byte Read = refl
at_byte Write = refl
at_byte VolatileRead = refl
at_byte VolatileWrite = refl
at_byte Lock = refl
at_byte Unlock = refl
at_byte Start = refl
at_byte First = refl
at_byte Last = refl
at_byte Join = refl
at_byte External = refl

one_kind : (k l : Kind) → byte_of k ≡ byte_of l → k ≡ l
one_kind k l e = sym (at_byte k) ∙ ap (λ (b : ℕ). get_or by_byte b Read) e ∙ at_byte l

in_range : (k : Kind) → (0 < byte_of k) × (byte_of k ≤ 11)
in_range Read = (omega arith, omega arith)
in_range Write = (omega arith, omega arith)
in_range VolatileRead = (omega arith, omega arith)
in_range VolatileWrite = (omega arith, omega arith)
in_range Lock = (omega arith, omega arith)
in_range Unlock = (omega arith, omega arith)
in_range Start = (omega arith, omega arith)
in_range First = (omega arith, omega arith)
in_range Last = (omega arith, omega arith)
in_range Join = (omega arith, omega arith)
in_range External = (omega arith, omega arith)

no_kind : {b : ℕ} (k : Kind) → byte_of k ≡ b → (b ≡ 0) ⊎ (11 < b) → ⊥
no_kind k e =
    let (low, high) = in_range k in
    ⊎_elim (λ z. omega (arith, low, e, z)) (λ z. omega (arith, high, e, z))

decodes_one : (b : ℕ) (r q : Result Kind NoKind) → Decodes b r → Decodes b q → r ≡ q
decodes_one b (Ok k) (Ok l) e f = ap {B = Result Kind NoKind} (λ x. Ok x) (one_kind k l (e ∙ sym f))
decodes_one b (Ok k) (Err y) e f = absurd (no_kind k e f)
decodes_one b (Err x) (Ok l) e f = absurd (no_kind l f e)
decodes_one b (Err x) (Err y) e f = refl

pub try_from_unique : Settles try_from.Post (λ κs r s. r)
try_from_unique κs x r q s t e f = decodes_one _ r q e f
