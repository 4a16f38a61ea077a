-- Routines that a taker takes one after another, and where it refuses one. A taker is seen by its four words: what it has
-- taken, when it can take one more, what it keeps between two moments, and what a refusal says.
use Rattle.std.specs.Prelude.{◌≡◌, ℕ, suc, ◌+◌, ◌≤◌, ◌++◌, List, ◌∷◌, None, length, map, ⊤}
use Rattle.std.specs.List.{AllByRecursion}
use Rattle.il_core.specs.Limits.{max_routines}
use Rattle.il_core.specs.Program.{routine_at}
use Rattle.il_core.specs.Routine.{RoutineParts}
use Rattle.outside.specs.Told.{Told}
use Rattle.profile.specs.Counts.{Counts}
use Rattle.program_laws.specs.Settled.{AreWhole, HaveOwnPids}
use Rattle.sym_tables.specs.Table.{Table}
use Rattle.c_tree.specs.declared.declaration.Module.{Module}
use Rattle.c_typed.specs.declared.function.TypedModule.{TypedModule}
use Rattle.c_typed.specs.Trees.{Function}
use Rattle.c_typed.specs.Views.{functions_of}
use Rattle.c_lower.specs.Lowering.{routine_of}
use Rattle.c_module.specs.Appending.{EndsLowering}
use Rattle.c_module.specs.Files.{HoldsTyped, IsCause}
use Rattle.c_module.specs.Limits.{KeepsLimits, functions_in}
use Rattle.c_module.specs.Verdict.{HoldWellFormed, IsProgramCause, IsUnread, IsWant}
use Rattle.c_module.specs.declared.fault.Stop.{Stop}
use Rattle.c_module.specs.declared.fault.Stop.TheVariants as stop
use Rattle.c_module.specs.declared.fault.TakeFault.{TakeFault}
use Rattle.c_module.specs.declared.fault.TakeFault.TheVariants as take

-- The names are those of modules with some functions, and what was taken are the routines of the last of these.
pub record AreTaken (counts : Counts) (rs : List RoutineParts) (syms : Table) : Type 0 where
  pub before : List Function
  pub lowered : List Function
  pub whole : AreWhole (before ++ lowered) syms
  pub are : rs ≡ map (routine_of syms counts) lowered

-- Behind some routines there is room for those of these functions: each has a PID that no routine and no other function
-- has, and all are no more than a program may have.
pub record HasRoom (rs : List RoutineParts) (fs : List Function) : Type 0 where
  pub apart : AllByRecursion (λ f. routine_at rs f.pid ≡ None) fs
  pub own : HaveOwnPids fs
  pub few : length rs + length fs ≤ max_routines

module _ {T : Type 0} (taken : T → List RoutineParts) (ready : T → Type 0) (keeps : T → T → Type 0) (refuses : T → T → RoutineParts → Type 0) where
  -- Of these functions the routine of one was refused. Those before it keep the limits of the language, and their routines
  -- were taken; it keeps them too, and the taker was ready for it.
  pub record RefusesOne (syms : Table) (counts : Counts) (fs : List Function) (old new : T) : Type 0 where
    pub earlier : List Function
    pub function : Function
    pub later : List Function
    pub whole : fs ≡ earlier ++ function ∷ later
    pub kept : AllByRecursion KeepsLimits earlier
    pub within : KeepsLimits function
    pub at : T
    pub up_to : taken at ≡ taken old ++ map (routine_of syms counts) earlier
    pub same : keeps old at
    pub is_ready : ready at
    pub refused : refuses at new (routine_of syms counts function)

  -- the same of the functions of the file with this number, which is the text of a module that is typed so behind the old
  -- names
  pub record RefusesInFile (number : ℕ) (old_names : Table) (counts : Counts) (told : Told) (old new : T) (syms : Table) : Type 0 where
    pub typed_as : TypedModule
    pub typed : HoldsTyped number old_names told typed_as syms
    pub one : RefusesOne syms counts (functions_in typed_as) old new

  -- The same of files in order: those before this one are the texts of well formed modules, and the routines of their
  -- functions are all that was taken before its first.
  pub record RefusesAmong (counts : Counts) (tells : List ℕ → Told) (files : List (List ℕ)) (old new : T) (syms : Table) : Type 0 where
    pub earlier : List (List ℕ)
    pub file : List ℕ
    pub later : List (List ℕ)
    pub modules : List Module
    pub ts : List TypedModule
    pub names : Table
    pub whole : files ≡ earlier ++ file ∷ later
    pub hold : HoldWellFormed tells earlier modules ts names
    pub behind : T
    pub up_to : taken behind ≡ map (routine_of syms counts) (functions_of ts)
    pub same : keeps old behind
    pub refused : RefusesInFile (suc (length earlier)) names counts (tells file) behind new syms

  -- why the routines of some functions weren't all taken: one passes a limit, one was refused, or memory ran out
  abbrev pub EndsTaking : Table → Counts → List Function → T → T → Stop → Type 0
  EndsTaking syms counts fs old new (stop.File fault) = EndsLowering fs fault
  EndsTaking syms counts fs old new stop.Refused = RefusesOne syms counts fs old new

  -- the same for the file with this number
  abbrev pub IsStop : ℕ → Table → Counts → Stop → Told → ℕ → ℕ → T → T → Table → Type 0
  IsStop number old_names counts (stop.File fault) told before after old new syms = IsCause number old_names fault told before after syms
  IsStop number old_names counts stop.Refused told before after old new syms = RefusesInFile number old_names counts told old new syms

  -- The same for files in order, up to linking.
  abbrev pub IsTakeCause : TakeFault → Counts → List (List ℕ) → (List ℕ → Told) → (List ℕ → ℕ) → (List ℕ → ℕ) → T → T → Table → Type 0
  IsTakeCause (take.Program fault) counts files tells before after old new syms = IsProgramCause fault files tells before after syms
  IsTakeCause take.Refused counts files tells before after old new syms = RefusesAmong counts tells files old new syms

-- the fault is want of memory, or a refusal of the taker
abbrev pub IsWantOrRefusal : TakeFault → Type 0
IsWantOrRefusal (take.Program fault) = IsWant fault
IsWantOrRefusal take.Refused = ⊤

-- the fault is a file that can't be read
abbrev pub IsUnreadFile : TakeFault → Type 0
IsUnreadFile (take.Program fault) = IsUnread fault
IsUnreadFile take.Refused = ⊥
