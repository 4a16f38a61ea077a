-- The law of typed modules that lowering stands on.
use Rattle.std.specs.Prelude.{◌≡◌, ℕ, [], ◌∷◌}
use Rattle.std.specs.List.{AllByRecursion}
use Rattle.sym_tables.specs.Table.{Table}
use Rattle.c_tree.specs.declared.declaration.Module.{Module}
use Rattle.c_typed.specs.declared.function.TypedModule.{TypedModule}
use Rattle.c_typed.specs.Views.{functions_of}
use Rattle.c_types.specs.Rules.{Here, Gives}
use Rattle.c_types.specs.Typing.{module_rules, start}
use Rattle.lower_laws.specs.Bound.{IsBound}

-- Where the typing rules give a module, whatever its number and whatever names the program has, each of its functions is
-- bound: what it names is declared before and of its kind, and a value stands where one is wanted.
abbrev pub TypedModulesAreBound : Type 0
TypedModulesAreBound =
    (number : ℕ) (m : Module) (syms : Table) (t : TypedModule) (h : Here) → module_rules number m (start syms) ≡ Gives t h →
    AllByRecursion IsBound (functions_of (t ∷ []))
