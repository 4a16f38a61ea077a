-- The definitions on small programs whose answers are known.
use Rattle.std.proofs.Common.{◌≡◌, true, false, [], ◌∷◌, Some, None, refl}
use Rattle.hlo_num.specs.declared.word.Ty.TheVariants.{Int, Char}
use Rattle.sym_tables.specs.declared.entity.Entity.{Entity}
use Rattle.sym_tables.specs.declared.entity.Entity.TheVariants.{Function, Scalar, Array}
use Rattle.sym_tables.specs.declared.fault.SymFault.TheVariants.{TypeClash, Duplicate, TooMany}
use Rattle.sym_tables.specs.declared.symbol.Standing.TheVariants.{Declared, Tentative, Defined}
use Rattle.sym_tables.specs.Entities.{compatible}
use Rattle.sym_tables.specs.Listing.{objects, trimmed}
use Rattle.sym_tables.specs.Table.{Table, enter, refusal, number_of, pid_of, mark, first_open, elements, routines}

-- int f(void)
abbrev int_function : Entity
int_function = Function (Some Int) []

-- a declaration of f, and its definition
abbrev declared : Table
declared = enter Declared (102 ∷ []) int_function [] []

abbrev defined : Table
defined = enter Defined (102 ∷ []) int_function [] declared

new_name : number_of [] (102 ∷ []) ≡ 0
new_name = refl

same_pid : number_of declared (102 ∷ []) ≡ 0
same_pid = refl

next_pid : number_of declared (103 ∷ []) ≡ 1
next_pid = refl

no_pid : pid_of declared (103 ∷ []) ≡ None
no_pid = refl

first_definition : refusal Defined (102 ∷ []) int_function [] declared ≡ None
first_definition = refl

second_definition : refusal Defined (102 ∷ []) int_function [] defined ≡ Some Duplicate
second_definition = refl

-- declared again is no definition
declared_again : refusal Declared (102 ∷ []) int_function [] defined ≡ None
declared_again = refl

-- an incompatible definition is told as such
other_kind : refusal Defined (102 ∷ []) (Scalar Int false) ((record { 0 = 5 }) ∷ []) defined ≡ Some TypeClash
other_kind = refl

one_routine : routines defined ≡ 1
one_routine = refl

-- const int isn't int
constness : compatible (Scalar Int true) (Scalar Int false) ≡ false
constness = refl

-- int x; alone is one word of zeros
abbrev tentative : Table
tentative = enter Tentative (120 ∷ []) (Scalar Int false) [] []

zeros : objects tentative ≡ (record { pid = 0; words = 1; init = [] }) ∷ []
zeros = refl

-- int x = 5; int x; has the word 5
stays : objects (enter Tentative (120 ∷ []) (Scalar Int false) [] (enter Defined (120 ∷ []) (Scalar Int false) ((record { 0 = 5 }) ∷ []) [])) ≡
    (record { pid = 0; words = 1; init = (record { 0 = 5 }) ∷ [] }) ∷ []
stays = refl

-- char a[]; and then extern char a[3];
abbrev unknown : Table
unknown = enter Tentative (97 ∷ []) (Array Char false None) [] []

abbrev known : Table
known = enter Declared (97 ∷ []) (Array Char false (Some 3)) [] unknown

nothing_counted : elements unknown ≡ 0
nothing_counted = refl

counted_later : elements known ≡ 3
counted_later = refl

other_length : refusal Declared (97 ∷ []) (Array Char false (Some 4)) [] known ≡ Some TypeClash
other_length = refl

-- extern alone counts nothing, and one element more than 1,048,576 is too many
not_counted : refusal Declared (97 ∷ []) (Array Char false (Some 1048577)) [] [] ≡ None
not_counted = refl

too_many : refusal Tentative (97 ∷ []) (Array Char false (Some 1048577)) [] [] ≡ Some TooMany
too_many = refl

just_enough : refusal Tentative (97 ∷ []) (Array Char false (Some 1048576)) [] [] ≡ None
just_enough = refl

-- a use of what is declared only
used : first_open (mark declared 0) ≡ Some 0
used = refl

then_defined : first_open (enter Defined (102 ∷ []) int_function [] (mark declared 0)) ≡ None
then_defined = refl

trims : trimmed ((record { 0 = 1 }) ∷ (record { 0 = 0 }) ∷ (record { 0 = 2 }) ∷ (record { 0 = 0 }) ∷ []) ≡ (record { 0 = 1 }) ∷ (record { 0 = 0 }) ∷
    (record { 0 = 2 }) ∷ []
trims = refl
