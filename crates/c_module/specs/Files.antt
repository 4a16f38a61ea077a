-- One file, as far as the shelf tells it: its tokens, its module, its routines, or why it has none.
use Rattle.std.specs.Prelude.{◌≡◌, ℕ, List, map, ⊤}
use Rattle.std.specs.List.{AllByRecursion}
use Rattle.il_core.specs.Routine.{RoutineParts}
use Rattle.outside.specs.Faults.{Rose}
use Rattle.outside.specs.Told.{Told, Untold, Absent, Holds}
use Rattle.profile.specs.Counts.{Counts}
use Rattle.sym_tables.specs.Table.{Table}
use Rattle.c_tree.specs.declared.declaration.Module.{Module}
use Rattle.c_tree.specs.declared.token.Token.{Token}
use Rattle.c_typed.specs.declared.function.TypedModule.{TypedModule}
use Rattle.c_typed.specs.Trees.{Function}
use Rattle.c_types.specs.Rules.{Here, Gives}
use Rattle.c_types.specs.Typing.{module_rules, start}
use Rattle.c_lower.specs.Lowering.{routine_of}
use Rattle.program_laws.specs.Settled.{AreWhole}
use Rattle.c_module.specs.Limits.{KeepsLimits, functions_in}
use Rattle.c_module.specs.ModuleFaults.{IsModuleFault}
use Rattle.c_module.specs.Texts.{HasOnlyTokens, IsOnlyModuleText}
use Rattle.c_module.specs.declared.fault.FileFault.{FileFault}
use Rattle.c_module.specs.declared.fault.FileFault.TheVariants.{NoModule, CannotRead, Memory}
use Rattle.c_module.specs.declared.fault.ModuleFault.{ModuleFault}

-- the file is the text of this module, and of no other, as far as it is told
abbrev pub HoldsModule : Told → Module → Type 0
HoldsModule Untold m = ⊤
HoldsModule Absent m = ⊥
HoldsModule (Holds bytes) m = IsOnlyModuleText bytes m

-- the file is a text of the lexical grammar with these tokens, and with no others, as far as it is told
abbrev pub HoldsTokens : Told → List Token → Type 0
HoldsTokens Untold tokens = ⊤
HoldsTokens Absent tokens = ⊥
HoldsTokens (Holds bytes) tokens = HasOnlyTokens bytes tokens

-- this is wrong with the file with this number, as far as it is told, where the modules before it have the old names; the
-- new ones are those behind it where it follows the rules
abbrev pub HoldsFault : ℕ → Table → Told → ModuleFault → Table → Type 0
HoldsFault number old Untold fault new = ⊤
HoldsFault number old Absent fault new = ⊥
HoldsFault number old (Holds bytes) fault new = IsModuleFault number old bytes fault new

-- the file with this number is the text of a module, as far as it is told, which is typed so by the rules, and takes the
-- names of the program from the first table to the second
pub record HoldsTyped (number : ℕ) (old : Table) (told : Told) (t : TypedModule) (new : Table) : Type 0 where
  pub found : Module
  pub held : HoldsModule told found
  pub here : Here
  pub typed : module_rules number found (start old) ≡ Gives t here
  pub names : new ≡ here.syms

-- the same, and these are the routines of its functions in the order of the module, with a profile's counts, each within the
-- limits of the language
pub record HoldsLowered (number : ℕ) (old : Table) (counts : Counts) (told : Told) (rs : List RoutineParts) (new : Table) : Type 0 where
  pub typed_as : TypedModule
  pub typed : HoldsTyped number old told typed_as new
  pub limits : AllByRecursion KeepsLimits (functions_in typed_as)
  pub routines : rs ≡ map (routine_of new counts) (functions_in typed_as)

-- why the file with this number gave no typed module, or no routines: something is wrong with its bytes; reading it failed;
-- or memory ran out, for which nothing need be so
abbrev pub IsCause : ℕ → Table → FileFault → Told → ℕ → ℕ → Table → Type 0
IsCause number old (NoModule fault) told before after new = HoldsFault number old told fault new
IsCause number old CannotRead told before after new = Rose before after
IsCause number old Memory told before after new = ⊤

-- The names of modules that follow the rules one after another, with the functions of these. No names are such, and
-- so are those behind each further module.
pub record AreNames (syms : Table) : Type 0 where
  pub functions : List Function
  pub whole : AreWhole functions syms
