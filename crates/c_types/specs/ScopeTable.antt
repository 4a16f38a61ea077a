-- How names in scope are kept: a table from each name to its latest declaration, and the declarations, each with the
-- one that it hides.
use Rattle.std.specs.Prelude.{◌≡◌, ℕ, List, [], ◌∷◌, Option, Some, None, if◌then◌else◌}
use Rattle.std.specs.Map.{lookup}
use Rattle.sym_tables.specs.Table.{same_name}
use Rattle.c_types.specs.declared.scopes.Latest.{Latest}
use Rattle.c_types.specs.declared.scopes.Entry.{Entry}
use Rattle.c_types.specs.Scopes.{Declared, Scopes, inner, outer}

-- a declaration as contracts see it
abbrev pub declaration : {B : Type 0} → Entry B → Declared B
declaration e = record { name = e.name; depth = e.latest.depth; stands_for = e.latest.stands_for }

-- the latest declaration of a name
abbrev pub latest_entry : {B : Type 0} → List ℕ → List (Entry B) → Option (Latest B)
latest_entry name [] = None
latest_entry name (e ∷ es) = if same_name name e.name then Some e.latest else latest_entry name es

-- what the table has for a name, if it has something
abbrev pub at_most_one : {B : Type 0} → Option (Option (Latest B)) → Option (Latest B)
at_most_one None = None
at_most_one (Some o) = o

abbrev pub noted : {B : Type 0} → List ℕ → List (List ℕ × Option (Latest B)) → Option (Latest B)
noted name table = at_most_one (lookup (same_name name) table)

-- a table that differs from another one in what it has for a name
abbrev pub Notes : {B : Type 0} → List ℕ → Option (Latest B) → List (List ℕ × Option (Latest B)) → List (List ℕ × Option (Latest B)) → Type 0
Notes name now old new = (q : List ℕ) → noted q new ≡ (if same_name name q then now else noted q old)

-- each declaration knows the one that it hides
abbrev pub KnowsHidden : {B : Type 0} → List (Entry B) → Type 0
KnowsHidden [] = Unit {0}
KnowsHidden (e ∷ es) = (e.hides ≡ latest_entry e.name es) × KnowsHidden es

-- the table has the latest declaration of each name
pub record IsKept {B : Type 0} (table : List (List ℕ × Option (Latest B))) (entries : List (Entry B)) : Type 0 where
  pub latest : (name : List ℕ) → noted name table ≡ latest_entry name entries
  pub hidden : KnowsHidden entries

-- a declaration becomes the latest one
abbrev pub added : {B : Type 0} → List ℕ → ℕ → B → Scopes B → Scopes B
added name depth b s = record { declared = record { name = name; depth = depth; stands_for = b } ∷ s.declared; depth = s.depth }

-- the latest declaration goes, which is one of the innermost scope
pub record IsPopped {B : Type 0} (old : Scopes B) (d : Declared B) (new : Scopes B) : Type 0 where
  pub innermost : d.depth ≡ old.depth
  pub was : old.declared ≡ d ∷ new.declared
  pub depth : new.depth ≡ old.depth

-- the innermost scope has no declaration
pub record IsLeft {B : Type 0} (old new : Scopes B) : Type 0 where
  pub unchanged : new ≡ old
  pub inner : inner old.depth old.declared ≡ []
  pub outer : outer old.depth old.declared ≡ old.declared
