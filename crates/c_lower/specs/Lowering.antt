-- The routine of a function, with the profile's counts of its program name, and its draft.
use Rattle.std.specs.Prelude.{◌+◌, ℕ, true, List, [], ◌∷◌, length, Option, Some, None, slice_get}
use Rattle.il_core.specs.declared.instr.End.TheVariants as ends
use Rattle.il_core.specs.Routine.{RoutineParts}
use Rattle.profile.specs.Counts.{Counts}
use Rattle.sym_tables.specs.declared.symbol.Symbol.{Symbol}
use Rattle.sym_tables.specs.Table.{Table}
use Rattle.c_typed.specs.declared.function.Local.{Local}
use Rattle.c_typed.specs.Trees.{Stmt, Function}
use Rattle.lower_laws.specs.Code.{Numbers}
use Rattle.lower_laws.specs.Functions.{arrays_before, lowered, outline_of, with_length}
use Rattle.lower_laws.specs.Statements.{no_value_past, stmt_past}
use Rattle.c_lower.specs.Drafts.{Draft, Fixed, next_label, mark, reach}
use Rattle.c_lower.specs.Statements.{no_value, stated}

-- the program name of a PID
abbrev pub name_in : Option (List ℕ × Symbol) → List ℕ
name_in None = []
name_in (Some e) = e.0

abbrev pub name_at : Table → ℕ → List ℕ
name_at syms pid = name_in (slice_get syms pid)

-- how often a profile counts the entry of a PID's routine, and its call sites
abbrev pub entry_of : Table → Counts → ℕ → ℕ
entry_of syms counts pid = counts.entry (name_at syms pid)

abbrev pub sites_of : Table → Counts → ℕ → ℕ → ℕ
sites_of syms counts pid = counts.site (name_at syms pid)

-- the routine of a function
unfoldable pub routine_of : Table → Counts → Function → RoutineParts
routine_of syms counts f = lowered (entry_of syms counts f.pid) (sites_of syms counts f.pid) f

-- what is fixed for a function besides the registers of its locals
abbrev pub fixed : (ℕ → ℕ) → Function → Fixed
fixed count f = record { outline = outline_of f; array = arrays_before f.locals; count = count }

-- nothing is written yet
abbrev pub nothing : Draft
nothing = record { done = []; here = []; targets = []; locals = [] }

-- the numbers behind a body and the return behind it
abbrev pub body_past : Fixed → Stmt → Numbers → Numbers
body_past y s n = no_value_past y.outline.value (stmt_past y.outline s true n)

-- A body and the return behind it. The label before them is no block's: outside of loops and switches `break` and
-- `continue` lead there.
abbrev pub body_drafted : Fixed → Stmt → Numbers → Draft → Draft
body_drafted y s n before =
    let nowhere = next_label before in
    let body = stated y (ends.Jump nowhere) (ends.Jump nowhere) s true n (mark 0 before) in
    reach nowhere (body_past y s n).block (no_value y.outline.value (stmt_past y.outline s true n) body)

-- how many arrays are before each of some locals, where n are before them
abbrev pub array_places : List Local → ℕ → List ℕ
array_places [] n = []
array_places (x ∷ xs) n = n ∷ array_places xs (length (with_length x.length []) + n)
