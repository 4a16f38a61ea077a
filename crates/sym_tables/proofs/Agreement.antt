-- What the tests of entities mean.
use Rattle.std.proofs.Common.{◌≡◌, ℕ, Bool, true, false, ◌==◌, List, [], ◌∷◌, Option, Some, None, refl, arith}
use Rattle.std.specs.Bool.{beq}
use Rattle.std.specs.Cmp.Lexicographic.{pointwise}
use Rattle.std.specs.Option.{option_eq}
use Rattle.std.proofs.lemmas.Bool.Decides.{nat_tests}
use denote.Enum.Bare.{same_true, true_same}
use Rattle.hlo_num.specs.declared.word.Ty.{Ty}
use Rattle.hlo_num.specs.contracts.word.Ty.{the_type}
use Rattle.sym_tables.specs.declared.entity.Entity.{Entity}
use Rattle.sym_tables.specs.declared.entity.Entity.TheVariants.{Function, Scalar, Array}
use Rattle.sym_tables.specs.Entities.{compatible, same_type}

-- the test of types is equality
pub same_type_is : (t u : Ty) → same_type t u ≡ true → t ≡ u
same_type_is t u h = same_true the_type tt t u h

pub same_type_itself : (t : Ty) → same_type t t ≡ true
same_type_itself t = true_same the_type t t refl

same_types : (ts : List Ty) → pointwise same_type ts ts ≡ true
same_types [] = refl
same_types (t ∷ ts) = rw (same_type_itself t, same_types ts) refl

same_result : (r : Option Ty) → option_eq same_type r r ≡ true
same_result None = refl
same_result (Some t) = same_type_itself t

same_fixed : (f : Bool) → beq f f ≡ true
same_fixed true = refl
same_fixed false = refl

same_length : (n : ℕ) → (n == n) ≡ true
same_length n = grind (arith, nat_tests)

-- a declaration is compatible with itself
pub compatible_itself : (e : Entity) → compatible e e ≡ true
compatible_itself (Function r ps) = rw (same_result r, same_types ps) refl
compatible_itself (Scalar t f) = rw (same_type_itself t, same_fixed f) refl
compatible_itself (Array t f None) = rw (same_type_itself t, same_fixed f) refl
compatible_itself (Array t f (Some n)) = rw (same_type_itself t, same_fixed f, same_length n) refl
