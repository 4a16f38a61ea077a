-- The definitions on small programs whose answers are known.
use Rattle.std.proofs.Common.{◌≡◌, ℕ, ◌==◌, true, false, [], ◌∷◌, length, Some, None, refl, sym, arith}
use Rattle.std.proofs.lemmas.Bool.{true≢false}
use Rattle.std.proofs.lemmas.Bool.Decides.{nat_tests}
use Rattle.hlo_num.specs.declared.word.Ty.TheVariants.{Char, UChar, Short, UShort, Int, UInt, Long, ULong}
use Rattle.sym_tables.specs.declared.entity.Entity.{Entity}
use Rattle.sym_tables.specs.declared.entity.Entity.TheVariants.{Function, Scalar, Array}
use Rattle.sym_tables.specs.declared.symbol.Standing.TheVariants.{Declared, Tentative, Defined}
use Rattle.sym_tables.specs.Table.{Table, enter, mark}
use Rattle.linker.specs.declared.fault.LinkFault.TheVariants.{Undefined, NoMain, MainType}
use Rattle.linker.specs.Linking.{main_name, is_main_type, refusal}

-- int f(void); int main(void){return 0;}
abbrev unused : Table
unused = enter Defined main_name (Function (Some Int) []) [] (enter Declared (102 ∷ []) (Function (Some Int) []) [] [])

links : refusal unused ≡ None
links = refl

-- int f(void); int main(void){return f();}
used : refusal (mark unused 0) ≡ Some (Undefined 0)
used = refl

-- an undefined use is told before anything of main
no_main_either : refusal (mark (enter Declared (102 ∷ []) (Function (Some Int) []) [] []) 0) ≡ Some (Undefined 0)
no_main_either = refl

other_main_either : refusal (enter Defined main_name (Function None []) [] (mark (enter Declared (102 ∷ []) (Function (Some Int) []) [] []) 0)) ≡ Some
    (Undefined 0)
other_main_either = refl

nothing : refusal [] ≡ Some NoMain
nothing = refl

-- static int main(void){return 0;} has the name main.1
static_main : refusal (enter Defined (109 ∷ 97 ∷ 105 ∷ 110 ∷ 46 ∷ 49 ∷ []) (Function (Some Int) []) [] []) ≡ Some NoMain
static_main = refl

-- int main(void);
declared_main : refusal (enter Declared main_name (Function (Some Int) []) [] []) ≡ Some NoMain
declared_main = refl

-- int main(int n){return n;}
one_parameter : refusal (enter Defined main_name (Function (Some Int) (Int ∷ [])) [] []) ≡ Some MainType
one_parameter = refl

-- void main(void){}
no_value : refusal (enter Defined main_name (Function None []) [] []) ≡ Some MainType
no_value = refl

-- char main(void){return 0;}
other_value : refusal (enter Defined main_name (Function (Some Char) []) [] []) ≡ Some MainType
other_value = refl

-- int main; which is one word of zeros
object_main : refusal (enter Tentative main_name (Scalar Int false) [] []) ≡ Some MainType
object_main = refl

is_zero : (n : ℕ) → (n == 0) ≡ true → n ≡ 0
is_zero n h = grind (arith, nat_tests)

-- int main(void) is the only type of it
only_that : (e : Entity) → is_main_type e ≡ true → e ≡ Function (Some Int) []
only_that (Function (Some Int) []) h = refl
only_that (Function (Some Int) (t ∷ ts)) h = let e = is_zero (length (t ∷ ts)) h in absurd (omega arith)
only_that (Function (Some Char) ps) h = let c : false ≡ true = h in absurd (true≢false (sym c))
only_that (Function (Some UChar) ps) h = let c : false ≡ true = h in absurd (true≢false (sym c))
only_that (Function (Some Short) ps) h = let c : false ≡ true = h in absurd (true≢false (sym c))
only_that (Function (Some UShort) ps) h = let c : false ≡ true = h in absurd (true≢false (sym c))
only_that (Function (Some UInt) ps) h = let c : false ≡ true = h in absurd (true≢false (sym c))
only_that (Function (Some Long) ps) h = let c : false ≡ true = h in absurd (true≢false (sym c))
only_that (Function (Some ULong) ps) h = let c : false ≡ true = h in absurd (true≢false (sym c))
only_that (Function None ps) h = let c : false ≡ true = h in absurd (true≢false (sym c))
only_that (Scalar ty fixed) h = let c : false ≡ true = h in absurd (true≢false (sym c))
only_that (Array ty fixed len) h = let c : false ≡ true = h in absurd (true≢false (sym c))
