-- The names of the program: a list of names and what is known of them, in the order of their first mention. A name's
-- place is its PID.
use Rattle.std.specs.Prelude.{◌≡◌, ℕ, zero, suc, Bool, true, false, ◌&&◌, ◌||◌, List, [], ◌∷◌, length, take, Option, Some, None, if◌then◌else◌, nat_lt}
use Rattle.std.specs.Prelude.{nat_eq, sum_by, position}
use Rattle.std.specs.Cmp.Lexicographic.{pointwise}
use Rattle.std.specs.List.{list_any, position_or_len, slice_get}
use Rattle.std.specs.Map.{keys_of, values_of, lookup}
use Rattle.hlo_num.specs.declared.word.Word.{Word}
use Rattle.il_core.specs.Limits.{max_elements, max_names, max_parameters, max_routines}
use Rattle.indexmap.specs.IndexMap.{insert_entry}
use Rattle.sym_tables.specs.declared.entity.Entity.{Entity}
use Rattle.sym_tables.specs.declared.symbol.Standing.{Standing}
use Rattle.sym_tables.specs.declared.symbol.Symbol.{Symbol}
use Rattle.sym_tables.specs.declared.fault.SymFault.{SymFault}
use Rattle.sym_tables.specs.declared.fault.SymFault.TheVariants.{TypeClash, Duplicate, TooMany, Memory}
use Rattle.sym_tables.specs.Entities.{compatible, parameters, words}
use Rattle.sym_tables.specs.Symbols.{met, is_defined, is_open, routine_part, element_part}

-- each name with what is known of it; the place is the PID
abbrev pub Table : Type 0
Table = List (List ℕ × Symbol)

-- names are the same where their bytes are
abbrev pub same_name : List ℕ → List ℕ → Bool
same_name a b = pointwise nat_eq a b

-- the PID of a name
abbrev pub pid_of : Table → List ℕ → Option ℕ
pid_of syms name = position (same_name name) (keys_of syms)

-- the PID of a name, which is the next number where it has none yet
abbrev pub number_of : Table → List ℕ → ℕ
number_of syms name = position_or_len (same_name name) (keys_of syms)

-- what is known of a name, and of a PID
abbrev pub symbol_of : Table → List ℕ → Option Symbol
symbol_of syms name = lookup (same_name name) syms

abbrev pub symbol_at : Table → ℕ → Option Symbol
symbol_at syms pid = slice_get (values_of syms) pid

-- the least PID that is used and not defined
abbrev pub first_open : Table → Option ℕ
first_open syms = position is_open (values_of syms)

-- the table after a name was declared or defined as an entity: what was known takes that in, and a new name goes last
abbrev pub enter : Standing → List ℕ → Entity → List Word → Table → Table
enter standing name said init syms = insert_entry same_name syms name (met standing said init (symbol_of syms name))

-- the table after a use of a PID
abbrev pub mark : Table → ℕ → Table
mark [] pid = []
mark (e ∷ es) zero = (e.0, record e.1 { used = true }) ∷ es
mark (e ∷ es) (suc pid) = e ∷ mark es pid

-- the table after the object of a PID got its initial words, as far as it has room for them
abbrev pub given : List Word → Symbol → Symbol
given init s = record s { init = take (words s.entity) init }

abbrev pub initialised : Table → ℕ → List Word → Table
initialised [] pid init = []
initialised (e ∷ es) zero init = (e.0, given init e.1) ∷ es
initialised (e ∷ es) (suc pid) init = e ∷ initialised es pid init

-- how many routines the program has, and how many array elements: each name counts once
abbrev pub routines : Table → ℕ
routines syms = sum_by (λ s. routine_part s.entity s.standing) (values_of syms)

abbrev pub elements : Table → ℕ
elements syms = sum_by (λ s. element_part s.entity s.standing) (values_of syms)

-- some function has too many parameters
abbrev pub is_wide : Symbol → Bool
is_wide s = nat_lt max_parameters (parameters s.entity)

-- too many names, routines, array elements, or parameters of a function
abbrev pub is_past_limits : Table → Bool
is_past_limits syms = nat_lt max_names (length syms) || nat_lt max_routines (routines syms) || nat_lt max_elements (elements syms) || list_any is_wide
    (values_of syms)

-- incompatible with what is known
abbrev pub clashes : Option Symbol → Entity → Bool
clashes None said = false
clashes (Some known) said = if compatible known.entity said then false else true

-- defined once more
abbrev pub repeats : Option Symbol → Standing → Bool
repeats None standing = false
repeats (Some known) standing = is_defined standing && is_defined known.standing

-- the first thing that is wrong with a declaration or definition, by what is known of the name and by the table that
-- it would make
abbrev pub refusal_of : Option Symbol → Standing → Entity → Table → Option SymFault
refusal_of known standing said after = if clashes known said then Some TypeClash
    else (if repeats known standing then Some Duplicate else (if is_past_limits after then Some TooMany else None))

abbrev pub refusal : Standing → List ℕ → Entity → List Word → Table → Option SymFault
refusal standing name said init syms = refusal_of (symbol_of syms name) standing said (enter standing name said init syms)

-- the fault that is told: that one, and want of memory only where nothing is wrong
abbrev pub IsTold : Option SymFault → SymFault → Type 0
IsTold (Some fault) told = told ≡ fault
IsTold None told = told ≡ Memory

-- a declaration or definition that was accepted: nothing is wrong, the number is the name's, the table has taken it in
pub record IsEntered (standing : Standing) (name : List ℕ) (said : Entity) (init : List Word) (old : Table) (pid : ℕ) (new : Table) : Type 0 where
  pub accepted : refusal standing name said init old ≡ None
  pub number : pid ≡ number_of old name
  pub table : new ≡ enter standing name said init old

-- a declaration or definition that was refused: nothing has changed, the first thing that is wrong is told, and want
-- of memory only for a new name
pub record IsRefused (standing : Standing) (name : List ℕ) (said : Entity) (init : List Word) (old : Table) (fault : SymFault) (new : Table) : Type 0 where
  pub unchanged : new ≡ old
  pub told : IsTold (refusal standing name said init old) fault
  pub memory : fault ≡ Memory → symbol_of old name ≡ None
