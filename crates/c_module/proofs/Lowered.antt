-- The routines of files so far, and the program of the routines of all.
use Rattle.std.proofs.Common.{◌≡◌, ℕ, suc, ◌+◌, ◌<◌, List, [], ◌∷◌, ◌++◌, map, length, take, get_or, refl, sym, ◌∙◌, ap, subst}
use Rattle.std.specs.List.{AllByRecursion}
use Rattle.std.proofs.lemmas.List.{map-append}
use Rattle.il_core.specs.declared.program.IlProgram.{IlProgram}
use Rattle.il_core.specs.declared.shape.ShapeRow.{ShapeRow}
use Rattle.il_core.specs.Meaning.{il_run}
use Rattle.il_core.specs.Object.{ObjectParts}
use Rattle.il_core.specs.Routine.{RoutineParts}
use Rattle.il_core.specs.Shapes.{IsRising}
use Rattle.il_core.specs.Valid.{IsProgram}
use Rattle.outside.specs.Told.{Told}
use Rattle.profile.specs.Counts.{Counts}
use Rattle.program_laws.specs.Laws.{AreLinking, LoweredProgramsAreRight, TypedModulesFit, TypedProgramsAreWhole}
use Rattle.sym_tables.specs.Listing.{objects}
use Rattle.sym_tables.specs.Table.{Table}
use Rattle.c_tree.specs.declared.declaration.Module.{Module}
use Rattle.c_typed.specs.declared.function.TypedModule.{TypedModule}
use Rattle.c_typed.specs.Linked.{c90_run}
use Rattle.c_typed.specs.Trees.{Function}
use Rattle.c_typed.specs.Views.{functions_of}
use Rattle.c_lower.specs.Lowering.{entry_of, routine_of, sites_of}
use Rattle.c_module.specs.Appending.{AddsLowered, IsReady}
use Rattle.c_module.specs.Assembling.{AreRoutinesOf}
use Rattle.c_module.specs.Files.{HoldsTyped}
use Rattle.c_module.specs.Frames.{IsFrameOf, assembled, frame_rows}
use Rattle.c_module.specs.Limits.{functions_in}
use Rattle.c_module.specs.Programs.{IsProgramOf}
use Rattle.c_module.specs.Verdict.{HoldWellFormed}
use Rattle.c_module.proofs.Assembled.{finds_all, same_pid}
use Rattle.c_module.proofs.Framed.{assembled_is}
use Rattle.c_module.proofs.Going.{Passed, functions_more, hold_more}
use Rattle.c_module.proofs.Names.{routines_stay}
use Rattle.c_module.proofs.Ready.{all_ready}

-- the files so far are the texts of well formed modules, and these are the routines of their functions
pub record Lowered (counts : Counts) (tells : List ℕ → Told) (files : List (List ℕ)) (rs : List RoutineParts) (syms : Table) : Type 0 where
  pub modules : List Module
  pub ts : List TypedModule
  pub hold : HoldWellFormed tells files modules ts syms
  pub are : rs ≡ map (routine_of syms counts) (functions_of ts)

pub none_lowered : (counts : Counts) (tells : List ℕ → Told) (rs : List RoutineParts) (syms : Table) → syms ≡ [] → rs ≡ []
    → Lowered counts tells [] rs syms
none_lowered counts tells rs syms is none = record {
  modules = [];
  ts = [];
  hold = record { held = tt; formed = record { typed = is; limits = tt } };
  are = none;
}

pub passed_so_far : (counts : Counts) (tells : List ℕ → Told) (files : List (List ℕ)) (rs : List RoutineParts) (syms : Table)
    → Lowered counts tells files rs syms → Passed tells files syms
passed_so_far counts tells files rs syms lowered = record { modules = lowered.modules; ts = lowered.ts; hold = lowered.hold }

-- the routines so far, by the names behind one more module
pub routines_before : TypedModulesFit → TypedProgramsAreWhole → (counts : Counts) (tells : List ℕ → Told) (files : List (List ℕ)) (rs : List RoutineParts)
    (syms : Table) (lowered : Lowered counts tells files rs syms) (number : ℕ) (told : Told) (t : TypedModule) (new : Table)
    → HoldsTyped number syms told t new → rs ≡ map (routine_of new counts) (functions_of lowered.ts)
routines_before fit law counts tells files rs syms lowered number told t new typed =
    let fs = functions_of lowered.ts in
    let whole = law lowered.modules lowered.ts syms lowered.hold.formed.typed in
    let grows = (fit number typed.found fs syms t typed.here whole typed.typed).1 in
    lowered.are ∙ routines_stay syms typed.here.syms counts fs whole grows ∙ ap (λ s. map (routine_of s counts) fs) (sym typed.names)

-- the routines of one more file
pub lowered_more : TypedModulesFit → TypedProgramsAreWhole → (counts : Counts) (tells : List ℕ → Told) (files : List (List ℕ)) (k : ℕ) (name : List ℕ)
    → k < length files → name ≡ get_or files k name
    → (syms new : Table) (number : ℕ) (told : Told) (before after : List RoutineParts) → Lowered counts tells (take k files) before syms
    → number ≡ suc k → told ≡ tells name
    → AddsLowered number syms counts told before after new → Lowered counts tells (take (k + 1) files) after new
lowered_more fit law counts tells files k name less is syms new number told before after lowered is_number same adds =
    let held = adds.lowered in
    let t = held.typed_as in
    let fs = functions_of lowered.ts in
    record {
      modules = lowered.modules ++ held.typed.found ∷ [];
      ts = lowered.ts ++ t ∷ [];
      hold = hold_more tells files k name less is lowered.modules lowered.ts syms new number told t lowered.hold is_number same held.typed held.limits;
      are = adds.added
          ∙ ap (λ l. l ++ adds.routines) (routines_before fit law counts tells (take k files) before syms lowered number told t new held.typed)
          ∙ ap (λ l. map (routine_of new counts) fs ++ l) held.routines
          ∙ sym (map-append (routine_of new counts) fs (functions_in t))
          ∙ ap (map (routine_of new counts)) (sym (functions_more lowered.ts t));
    }

-- ## The program

all_live : (syms : Table) (counts : Counts) (fs : List Function) → AllByRecursion (IsReady syms) fs
    → AllByRecursion (λ (r : RoutineParts). r.pid < length syms) (map (routine_of syms counts) fs)
all_live syms counts [] ready = tt
all_live syms counts (f ∷ fs) ready = (subst (λ n. n < length syms) (sym (same_pid syms counts f)) ready.0.live, all_live syms counts fs ready.1)

pub live_pids : (n : ℕ) (rs : List RoutineParts) → AllByRecursion (λ (r : RoutineParts). r.pid < n) rs
    → AllByRecursion (λ pid. pid < n) (map (λ (r : RoutineParts). r.pid) rs)
live_pids n [] live = tt
live_pids n (r ∷ rs) live = (live.0, live_pids n rs live.1)

module _ (counts : Counts) (tells : List ℕ → Told) (files : List (List ℕ)) (rs : List RoutineParts) (syms : Table)
    (routines : AreRoutinesOf counts tells files rs syms) where
  pub are_live : TypedProgramsAreWhole → AllByRecursion (λ (r : RoutineParts). r.pid < length syms) rs
  are_live law =
      let fs = functions_of routines.ts in
      let whole = law routines.modules routines.ts syms routines.accepted.hold.formed.typed in
      subst (AllByRecursion (λ (r : RoutineParts). r.pid < length syms)) (sym routines.are)
      (all_live syms counts fs (all_ready syms fs whole.settled.functions whole.bound))

  -- the same of their PIDs
  pub pids_live : TypedProgramsAreWhole → (pids : List ℕ) → pids ≡ map (λ (r : RoutineParts). r.pid) rs → AllByRecursion (λ pid. pid < length syms) pids
  pids_live law pids is = subst (AllByRecursion (λ pid. pid < length syms)) (sym is) (live_pids (length syms) rs (are_live law))

  module _ (law : LoweredProgramsAreRight) where
    right : IsProgram (assembled rs syms) × ((input : List ℕ) (turns : ℕ) → il_run (assembled rs syms) input turns ≡ c90_run routines.ts syms input turns)
    right =
        let linking : AreLinking routines.modules routines.ts syms = record
        { typed = routines.accepted.hold.formed.typed; links = routines.accepted.links } in
        subst (λ q. IsProgram q × ((input : List ℕ) (turns : ℕ) → il_run q input turns ≡ c90_run routines.ts syms input turns))
        (sym (ap (λ l. assembled l syms) routines.are ∙ assembled_is syms counts (functions_of routines.ts)))
        (law routines.modules routines.ts syms linking (entry_of syms counts) (sites_of syms counts))

    pub are_rising : IsRising (λ (row : ShapeRow). row.pid) (frame_rows (map (λ (r : RoutineParts). r.pid) rs) syms)
    are_rising = right.0.rows

    pub is_program_of : (program : IlProgram) → program ≡ assembled rs syms → IsProgramOf counts tells files program syms
    is_program_of program is = record {
      modules = routines.modules;
      ts = routines.ts;
      accepted = routines.accepted;
      is = is ∙ ap (λ l. assembled l syms) routines.are ∙ assembled_is syms counts (functions_of routines.ts);
      valid = subst IsProgram (sym is) right.0;
      runs = λ input turns. ap (λ q. il_run q input turns) is ∙ right.1 input turns;
    }

    -- with the PIDs of the routines
    pub rows_rise : (pids : List ℕ) → pids ≡ map (λ (r : RoutineParts). r.pid) rs → IsRising (λ (row : ShapeRow). row.pid) (frame_rows pids syms)
    rows_rise pids is = subst (λ l. IsRising (λ (row : ShapeRow). row.pid) (frame_rows l syms)) (sym is) are_rising

    pub is_frame_of : TypedProgramsAreWhole → (pids : List ℕ) (rows : List ShapeRow) (os : List ObjectParts) → pids ≡ map (λ (r : RoutineParts). r.pid) rs
        → rows ≡ frame_rows pids syms → os ≡ objects syms → IsFrameOf counts tells files rs rows os syms
    is_frame_of whole pids rows os are is_rows is_objects = record {
      program = assembled rs syms;
      is = is_program_of (assembled rs syms) refl;
      shapes = sym (is_rows ∙ ap (λ l. frame_rows l syms) are);
      objects = sym is_objects;
      routines = finds_all rs (length syms) (are_live whole);
    }
