-- The laws of typed trees: what the typing rules give is well typed with the table that they leave, and with each later one.
use Rattle.std.specs.Prelude.{◌≡◌, ℕ, [], ◌∷◌, List}
use Rattle.std.specs.List.{AllByRecursion}
use Rattle.sym_tables.specs.Table.{Table}
use Rattle.c_tree.specs.declared.declaration.Module.{Module}
use Rattle.c_typed.specs.declared.function.TypedModule.{TypedModule}
use Rattle.c_typed.specs.Trees.{Function}
use Rattle.c_typed.specs.Views.{functions_of}
use Rattle.c_types.specs.Rules.{Here, Gives}
use Rattle.c_types.specs.Typing.{module_rules, start}
use Rattle.program_laws.specs.Growing.{Grows}
use Rattle.program_laws.specs.Typed.{AreTypedAs}
use Rattle.typed_laws.specs.WellTyped.{IsWellTyped, AreWellTyped}

-- Where the rules give a module, whatever its number and whatever names the program has: each of its functions is well typed
-- with the table that it leaves, and the table has grown by declarations and uses alone.
abbrev pub TypedModulesAreWellTyped : Type 0
TypedModulesAreWellTyped =
    (number : ℕ) (m : Module) (old : Table) (t : TypedModule) (h : Here) → module_rules number m (start old) ≡ Gives t h
    → AllByRecursion (IsWellTyped h.syms) (functions_of (t ∷ [])) × Grows old h.syms

-- a well-typed function stays so as the table grows
abbrev pub WellTypedStays : Type 0
WellTypedStays = (old new : Table) → Grows old new → (f : Function) → IsWellTyped old f → IsWellTyped new f

-- Modules that follow the rules one after another, from a table without names, are well typed with the table that the last one
-- leaves.
abbrev pub TypedProgramsAreWellTyped : Type 0
TypedProgramsAreWellTyped =
    (modules : List Module) (ts : List TypedModule) (syms : Table) → AreTypedAs 1 [] modules ts syms → AreWellTyped (functions_of ts) syms
