-- Routines that a taker takes one after another: step by step, and what each end says of the files.
use Rattle.std.proofs.Common.{◌≡◌, ℕ, suc, ◌+◌, ◌<◌, List, [], ◌++◌, length, take, drop, get_or, None, Result, Ok, Err, sym, ◌∙◌, ap, subst, arith}
use Rattle.std.specs.Prelude.{IfErr}
use Rattle.std.proofs.lemmas.List.{append-nil, length-take-le}
use Rattle.il_core.specs.Routine.{RoutineParts}
use Rattle.linker.specs.Linking.{refusal}
use Rattle.outside.specs.Told.{Told}
use Rattle.profile.specs.Counts.{Counts}
use Rattle.program_laws.specs.Laws.{TypedModulesFit, TypedProgramsAreWhole}
use Rattle.program_laws.specs.Settled.{AreWhole}
use Rattle.sym_tables.specs.Table.{Table}
use Rattle.c_typed.specs.declared.function.TypedModule.{TypedModule}
use Rattle.c_typed.specs.Views.{functions_of}
use Rattle.c_module.specs.Files.{AreNames, HoldsTyped}
use Rattle.c_module.specs.Limits.{functions_in}
use Rattle.c_module.specs.Taking.{AreTaken, HasRoom, IsTakeCause, IsUnreadFile, IsWantOrRefusal, RefusesAmong, RefusesInFile}
use Rattle.c_module.specs.Told.{AreQuiet, AreWellFormedTexts}
use Rattle.c_module.specs.declared.fault.TakeFault.{TakeFault}
use Rattle.c_module.specs.declared.fault.TakeFault.TheVariants as take_fault
use Rattle.c_module.proofs.Elements.{around}
use Rattle.c_module.proofs.Going.{none_unread, only_want}
use Rattle.c_module.proofs.Lowered.{Lowered, routines_before}
use Rattle.c_module.proofs.Ready.{whole_behind}
use Rattle.c_module.proofs.Rooms.{has_room}

-- no routines were taken yet
pub none_taken : (counts : Counts) (rs : List RoutineParts) (syms : Table) → AreNames syms → rs ≡ [] → AreTaken counts rs syms
none_taken counts rs syms names none = record {
  before = names.functions;
  lowered = [];
  whole = subst (λ l. AreWhole l syms) (sym (append-nil names.functions)) names.whole;
  are = none;
}

-- those of all modules so far were taken
pub all_taken : TypedProgramsAreWhole → (counts : Counts) (tells : List ℕ → Told) (files : List (List ℕ)) (rs : List RoutineParts) (syms : Table)
    → Lowered counts tells files rs syms → AreTaken counts rs syms
all_taken law counts tells files rs syms lowered = record {
  before = [];
  lowered = functions_of lowered.ts;
  whole = law lowered.modules lowered.ts syms lowered.hold.formed.typed;
  are = lowered.are;
}

pub names_taken : (counts : Counts) (rs : List RoutineParts) (syms : Table) → AreTaken counts rs syms → AreNames syms
names_taken counts rs syms taken = record { functions = taken.before ++ taken.lowered; whole = taken.whole }

-- there is room for the routines of one more module
pub room_for : TypedModulesFit → (counts : Counts) (rs : List RoutineParts) (number : ℕ) (old : Table) (told : Told)
    (t : TypedModule) (new : Table) → HoldsTyped number old told t new
    → AreTaken counts rs old → HasRoom rs (functions_in t)
room_for fit counts rs number old told t new held taken =
    has_room counts rs old new (functions_in t) taken (whole_behind fit number old told t new held (taken.before ++ taken.lowered) taken.whole)

module _ {T : Type 0} (taken : T → List RoutineParts) (ready : T → Type 0) (keeps : T → T → Type 0) (refuses : T → T → RoutineParts → Type 0) where
  -- a file of the list, of whose functions the routine of one was refused
  pub refused_here : TypedModulesFit → TypedProgramsAreWhole → (counts : Counts) (tells : List ℕ → Told) (files : List (List ℕ)) (k : ℕ) (name : List ℕ)
      → k < length files → name ≡ get_or files k name
      → (syms new : Table) (number : ℕ) (told : Told) (first before after : T) → Lowered counts tells (take k files) (taken before) syms
      → number ≡ suc k → told ≡ tells name → keeps first before
      → RefusesInFile taken ready keeps refuses number syms counts told before after new
      → RefusesAmong taken ready keeps refuses counts tells files first after new
  refused_here fit law counts tells files k name less is syms new number told first before after lowered is_number same kept refused =
      let next : number ≡ suc (length (take k files)) = is_number ∙ ap suc (sym (length-take-le k files (omega (arith, less)))) in
      record {
        earlier = take k files;
        file = name;
        later = drop (k + 1) files;
        modules = lowered.modules;
        ts = lowered.ts;
        names = syms;
        whole = around files k name less is;
        hold = lowered.hold;
        behind = before;
        up_to = routines_before fit law counts tells (take k files) (taken before) syms lowered number told refused.typed_as new refused.typed;
        same = kept;
        refused = subst (λ i. RefusesInFile taken ready keeps refuses i syms counts (tells name) before after new) next
            (subst (λ d. RefusesInFile taken ready keeps refuses number syms counts d before after new) same refused);
      }

  module _ (counts : Counts) (tells : List ℕ → Told) (before after : List ℕ → ℕ) (files : List (List ℕ)) (x y : T) (known : Table) where
    pub wants_or_refuses : {A : Type 0} (answer : Result A TakeFault)
        → IfErr answer (λ fault. IsTakeCause taken ready keeps refuses fault counts files tells before after x y known) → (names : Table)
        → AreWellFormedTexts tells files names → refusal names ≡ None → AreQuiet before after files → IfErr answer IsWantOrRefusal
    wants_or_refuses (Ok a) cause names told links quiet = tt
    wants_or_refuses (Err (take_fault.Program fault)) cause names told links quiet = only_want tells before after files fault known cause names told links quiet
    wants_or_refuses (Err take_fault.Refused) cause names told links quiet = tt

    pub reads_all : {A : Type 0} (answer : Result A TakeFault)
        → IfErr answer (λ fault. IsTakeCause taken ready keeps refuses fault counts files tells before after x y known) → AreQuiet before after files
        → IfErr answer (λ fault. IsUnreadFile fault → ⊥)
    reads_all (Ok a) cause quiet = tt
    reads_all (Err (take_fault.Program fault)) cause quiet = none_unread tells before after files fault known cause quiet
    reads_all (Err take_fault.Refused) cause quiet = λ no_file. no_file
