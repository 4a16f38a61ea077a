-- Rules of types and linkage. A rule looks at the names that are in scope where it stands, may declare more, and gives
-- what it finds; or it is broken, and then nothing behind it counts.
use Rattle.std.specs.Prelude.{ℕ, Bool, true, false, List, [], ◌∷◌}
use Rattle.sym_tables.specs.Table.{Table}
use Rattle.c_types.specs.declared.binding.Binding.{Binding}
use Rattle.c_types.specs.declared.fault.TypeKind.{TypeKind}
use Rattle.c_types.specs.declared.checker.Awaited.{Awaited}
use Rattle.c_types.specs.declared.checker.Tag.{Tag}
use Rattle.c_typed.specs.declared.function.Local.{Local}
use Rattle.c_types.specs.Scopes.{Scopes}

-- what is known at a place of the module: the names and the enumeration tags in scope; the program's names; the locals of
-- the function so far; the labels of the innermost switch so far; the arrays that were declared tentatively so far
pub record Here : Type 0 where
  pub names : Scopes Binding
  pub tags : Scopes Tag
  pub syms : Table
  pub locals : List Local
  pub cases : List ℕ
  pub default : Bool
  pub awaited : List Awaited

pub data Reply (A : Type 0) : Type 0 where
  Gives : A → Here → Reply A
  Breaks : ℕ → TypeKind → Reply A

abbrev pub Rule : Type 0 → Type 0
Rule A = Here → Reply A

abbrev pub followed : {A B : Type 0} → Reply A → (A → Rule B) → Reply B
followed (Gives a h) next = next a h
followed (Breaks line kind) next = Breaks line kind

infixl 10 ◌>>=◌
abbrev pub ◌>>=◌ : {A B : Type 0} → Rule A → (A → Rule B) → Rule B
rule >>= next = λ h. followed (rule h) next

infixl 10 ◌>>◌
abbrev pub ◌>>◌ : {A B : Type 0} → Rule A → Rule B → Rule B
rule >> next = rule >>= λ a. next

-- a rule that gives a value and changes nothing
abbrev pub give : {A : Type 0} → A → Rule A
give a h = Gives a h

-- the rule of this kind is broken at this line
abbrev pub broken : {A : Type 0} → ℕ → TypeKind → Rule A
broken line kind h = Breaks line kind

-- a part of what is known
abbrev pub known : {A : Type 0} → (Here → A) → Rule A
known f h = Gives (f h) h

-- a change of what is known
abbrev pub change : (Here → Here) → Rule (Unit {0})
change f h = Gives tt (f h)

-- the rule of this kind is broken at this line unless a test holds
abbrev pub unless : Bool → ℕ → TypeKind → Rule (Unit {0})
unless true line kind = give tt
unless false line kind = broken line kind

-- rules in order, each behind the one before
abbrev pub in_order : {A : Type 0} → List (Rule A) → Rule (List A)
in_order [] = give []
in_order (r ∷ rs) = do
  x ← r
  xs ← in_order rs
  give (x ∷ xs)
