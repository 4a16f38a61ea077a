-- Scopes (C90, 6.1.2.1): file, the parameters of a function with its outer block, block.
use Rattle.std.specs.Prelude.{ℕ, ◌+◌, ◌-◌, ◌==◌, List, [], ◌∷◌, ◌++◌, Option, Some, None, if◌then◌else◌}
use Rattle.std.specs.Option.{option_map}
use Rattle.sym_tables.specs.Table.{same_name}

-- a name that is in scope, what it stands for, and the nesting depth of the scope that declares it, 0 at file scope
pub record Declared (B : Type 0) : Type 0 where
  pub name : List ℕ
  pub depth : ℕ
  pub stands_for : B

-- the names in scope, the latest first, and the depth of the innermost scope
pub record Scopes (B : Type 0) : Type 0 where
  pub declared : List (Declared B)
  pub depth : ℕ

-- the latest declaration of a name, which is that of the innermost scope that has one
abbrev pub latest : {B : Type 0} → List ℕ → List (Declared B) → Option (Declared B)
latest name [] = None
latest name (d ∷ ds) = if same_name name d.name then Some d else latest name ds

-- what a name stands for
abbrev pub visible : {B : Type 0} → List ℕ → Scopes B → Option B
visible name s = option_map (λ d. d.stands_for) (latest name s.declared)

abbrev pub at_depth : {B : Type 0} → ℕ → Option (Declared B) → Option B
at_depth depth None = None
at_depth depth (Some d) = if d.depth == depth then Some d.stands_for else None

-- what the innermost scope declares it as
abbrev pub innermost : {B : Type 0} → List ℕ → Scopes B → Option B
innermost name s = at_depth s.depth (latest name s.declared)

-- the innermost scope gets a name
abbrev pub declared : {B : Type 0} → List ℕ → B → Scopes B → Scopes B
declared name b s = record { declared = record { name = name; depth = s.depth; stands_for = b } ∷ s.declared; depth = s.depth }

-- a new scope
abbrev pub entered : {B : Type 0} → Scopes B → Scopes B
entered s = record { declared = s.declared; depth = s.depth + 1 }

-- the names of the innermost scope, which are the latest, and the others
abbrev pub inner : {B : Type 0} → ℕ → List (Declared B) → List (Declared B)
inner depth [] = []
inner depth (d ∷ ds) = if d.depth == depth then d ∷ inner depth ds else []

abbrev pub outer : {B : Type 0} → ℕ → List (Declared B) → List (Declared B)
outer depth [] = []
outer depth (d ∷ ds) = if d.depth == depth then outer depth ds else d ∷ ds

-- the innermost scope ends
abbrev pub left : {B : Type 0} → Scopes B → Scopes B
left s = record { declared = outer s.depth s.declared; depth = s.depth - 1 }

-- a scope that was left is opened again, with its names
abbrev pub resumed : {B : Type 0} → List (Declared B) → Scopes B → Scopes B
resumed names s = record { declared = names ++ s.declared; depth = s.depth + 1 }
