-- The functions of a module that was typed are ready to be lowered, and the names behind it are those of modules.
use Rattle.std.proofs.Common.{◌≡◌, ℕ, ◌<◌, List, [], ◌∷◌, ◌++◌, length, Option, Some, None, Result, Ok, Err, refl, sym, subst, arith}
use Rattle.std.specs.List.{AllByRecursion}
use Rattle.std.specs.Prelude.{OnOk}
use Rattle.std.proofs.lemmas.List.{append-nil}
use Rattle.std.specs.Map.{values_of}
use Rattle.std.proofs.lemmas.Map.Entries.{length-values_of}
use Rattle.std.proofs.lemmas.Option.{slice_get_within}
use Rattle.outside.specs.Told.{Told}
use Rattle.sym_tables.specs.declared.entity.Entity.{Entity}
use Rattle.sym_tables.specs.declared.symbol.Symbol.{Symbol}
use Rattle.sym_tables.specs.Table.{Table, symbol_at}
use Rattle.c_typed.specs.declared.function.TypedModule.{TypedModule}
use Rattle.c_typed.specs.Trees.{Function}
use Rattle.lower_laws.specs.Bound.{IsBound}
use Rattle.program_laws.specs.Growing.{entity_in}
use Rattle.program_laws.specs.Laws.{TypedModulesFit}
use Rattle.program_laws.specs.Settled.{AreWhole, Stands}
use Rattle.c_module.specs.Appending.{IsReady}
use Rattle.c_module.specs.Files.{AreNames, HoldsTyped}
use Rattle.c_module.specs.Limits.{functions_in}
use Rattle.c_module.proofs.Elements.{all_behind}

-- a PID that stands for something is in the table
in_table : (syms : Table) (pid : ℕ) (entity : Entity) (o : Option Symbol) → symbol_at syms pid ≡ o → entity_in o ≡ Some entity → pid < length syms
in_table syms pid entity None there is = absurd (let c : None ≡ Some entity = is in cc)
in_table syms pid entity (Some s) there is = omega (arith, slice_get_within (values_of syms) pid s there, length-values_of syms)

pub all_ready : (syms : Table) (fs : List Function) → AllByRecursion (Stands syms) fs → AllByRecursion IsBound fs → AllByRecursion (IsReady syms) fs
all_ready syms [] stands bound = tt
all_ready syms (f ∷ fs) stands bound = (
  record { live = in_table syms f.pid stands.0.entity (symbol_at syms f.pid) refl stands.0.is; bound = bound.0 },
  all_ready syms fs stands.1 bound.1,
)

module _ (fit : TypedModulesFit) (number : ℕ) (old : Table) (told : Told) (t : TypedModule) (new : Table) (held : HoldsTyped number old told t new) where
  -- the functions so far go with the table behind the module
  pub whole_behind : (fs : List Function) → AreWhole fs old → AreWhole (fs ++ functions_in t) new
  whole_behind fs whole =
      let behind = (fit number held.found fs old t held.here whole held.typed).0 in
      subst (λ s. AreWhole (fs ++ functions_in t) s) (sym held.names)
      (subst (λ gs. AreWhole (fs ++ gs) held.here.syms) (append-nil (functions_in t)) behind)

  pub are_ready : AreNames old → AllByRecursion (IsReady new) (functions_in t)
  are_ready names =
      let whole = whole_behind names.functions names.whole in
      all_ready new (functions_in t) (all_behind (Stands new) names.functions (functions_in t) whole.settled.functions)
      (all_behind IsBound names.functions (functions_in t) whole.bound)

  pub are_names : AreNames old → AreNames new
  are_names names = record { functions = names.functions ++ functions_in t; whole = whole_behind names.functions names.whole }

-- what holds anyway holds where a call succeeded
pub where_ok : {T E : Type 0} {P : Type 0} (r : Result T E) → P → OnOk r P
where_ok (Ok x) h = h
where_ok (Err e) h = tt
