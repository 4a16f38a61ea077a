-- The laws of typed programs: what lowering asks of the functions and of the table of linked modules holds of modules that
-- follow the rules of types and linkage one after another, and link.
use Rattle.std.specs.Prelude.{◌≡◌, ℕ, List, [], ◌∷◌, ◌++◌, Some, None}
use Rattle.il_core.specs.Meaning.{Run, il_run}
use Rattle.il_core.specs.Valid.{IsProgram}
use Rattle.sym_tables.specs.Table.{Table}
use Rattle.linker.specs.Linking as linking
use Rattle.c_tree.specs.declared.declaration.Module.{Module}
use Rattle.c_typed.specs.declared.function.TypedModule.{TypedModule}
use Rattle.c_typed.specs.Linked.{c90_run}
use Rattle.c_typed.specs.Trees.{Function}
use Rattle.c_typed.specs.Views.{functions_of}
use Rattle.c_types.specs.Rules.{Here, Gives}
use Rattle.c_types.specs.Typing.{module_rules, start}
use Rattle.lower_laws.specs.ProgramLaws.{AreLinked, AreFitting}
use Rattle.lower_laws.specs.Programs.{lowered_program}
use Rattle.program_laws.specs.Growing.{Grows}
use Rattle.program_laws.specs.Settled.{AreWhole, Stands}
use Rattle.program_laws.specs.Typed.{AreTyped, AreTypedAs}

-- Where the rules give a module, whatever its number, behind modules whose functions and table go together: so do its
-- functions with those, and the table that it leaves, which has grown.
abbrev pub TypedModulesFit : Type 0
TypedModulesFit =
    (number : ℕ) (m : Module) (fs : List Function) (old : Table) (t : TypedModule) (h : Here) → AreWhole fs old
    → module_rules number m (start old) ≡ Gives t h → AreWhole (fs ++ functions_of (t ∷ [])) h.syms × Grows old h.syms

-- a function that stands in a table stands in each table that has grown from it
abbrev pub FunctionsStandOn : Type 0
FunctionsStandOn = (old new : Table) → Grows old new → (f : Function) → Stands old f → Stands new f

-- the functions of modules that follow the rules one after another go with the table that they leave
abbrev pub TypedProgramsAreWhole : Type 0
TypedProgramsAreWhole = (modules : List Module) (ts : List TypedModule) (syms : Table) → AreTypedAs 1 [] modules ts syms → AreWhole (functions_of ts) syms

-- the rules give typed modules wherever they hold
abbrev pub TypedModulesAreGiven : Type 0
TypedModulesAreGiven =
    (number : ℕ) (modules : List Module) (old new : Table) → AreTyped number old modules new → (ts : List TypedModule) × AreTypedAs number old modules ts new

-- the modules follow the rules one after another, from a table without names, and they link
pub record AreLinking (modules : List Module) (ts : List TypedModule) (syms : Table) : Type 0 where
  pub typed : AreTypedAs 1 [] modules ts syms
  pub links : linking.refusal syms ≡ None

-- such modules are linked, and fit one another
abbrev pub LinkingModulesAreLinked : Type 0
LinkingModulesAreLinked =
    (modules : List Module) (ts : List TypedModule) (syms : Table) → AreLinking modules ts syms
    → AreLinked (functions_of ts) syms × AreFitting (functions_of ts) syms

-- The lowered program of such modules is valid, and has the run of the modules, for every profile, every input and every
-- number of turns.
abbrev pub LoweredProgramsAreRight : Type 0
LoweredProgramsAreRight =
    (modules : List Module) (ts : List TypedModule) (syms : Table) → AreLinking modules ts syms → (entry : ℕ → ℕ) (count : ℕ → ℕ → ℕ)
    → IsProgram (lowered_program entry count (functions_of ts) syms)
    × ((input : List ℕ) (turns : ℕ) → il_run (lowered_program entry count (functions_of ts) syms) input turns ≡ c90_run ts syms input turns)

-- The meaning of C is never stuck on such modules: for every input and every number of turns there is a run.
abbrev pub LinkingModulesRun : Type 0
LinkingModulesRun =
    (modules : List Module) (ts : List TypedModule) (syms : Table) → AreLinking modules ts syms → (input : List ℕ) (turns : ℕ)
    → (run : Run) × (c90_run ts syms input turns ≡ Some run)
