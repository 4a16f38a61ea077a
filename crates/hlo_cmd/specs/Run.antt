-- What `run` promises.
use Rattle.std.specs.Prelude.{◌≡◌, ℕ, ◌⊎◌, List, Option, Some, None}
use Rattle.std.specs.Io.KnownBytes.{Appends, Keeps}
use Rattle.c_module.specs.Programs.{IsProgramOf}
use Rattle.c_module.specs.Told.{AreQuiet, AreWellFormedTexts}
use Rattle.c_module.specs.Verdict.{IsAccepted}
use Rattle.c_tree.specs.declared.declaration.Module.{Module}
use Rattle.c_typed.specs.declared.function.TypedModule.{TypedModule}
use Rattle.c_typed.specs.Linked.{c90_run}
use Rattle.hlo_words.specs.Settings.{IsRunSettings}
use Rattle.il_core.specs.declared.program.IlProgram.{IlProgram}
use Rattle.il_core.specs.Meaning.{Run}
use Rattle.il_run.specs.declared.ending.Ending.{Ending}
use Rattle.il_run.specs.Machine.{ending_of}
use Rattle.il_run.specs.Run.{AsksFor, IfTold}
use Rattle.il_run.specs.Streams.{GainsFront}
use Rattle.linker.specs.Linking.{refusal}
use Rattle.outside.specs.Faults.{Rose}
use Rattle.outside.specs.Told.{Told}
use Rattle.profile.specs.Counts.{flat_counts}
use Rattle.sym_tables.specs.Table.{Table}
use Rattle.hlo_cmd.specs.Messages.{ending_line, ending_status, no_input_line, unwritten_line}
use Rattle.hlo_cmd.specs.Modules.{ModulesPromise}
use Rattle.hlo_cmd.specs.Opt.{IsQuiet}

-- the words of `run` ask for these files, with so many turns
abbrev pub AsksRun : List (List ℕ) → ℕ → List (List ℕ) → Type 0
AsksRun words turns files = IsRunSettings words (record { turns = turns; files = files })

-- with some number of turns
abbrev pub AsksRunOf : List (List ℕ) → List (List ℕ) → Type 0
AsksRunOf words files = (turns : ℕ) × AsksRun words turns files

-- the words ask for files with so many turns, of which it is so
pub record OfAskedRun (words : List (List ℕ)) (Holds : List (List ℕ) → ℕ → Type 0) : Type 0 where
  pub turns : ℕ
  pub files : List (List ℕ)
  pub asked : AsksRun words turns files
  pub holds : Holds files turns

-- linked modules, run by their meaning with so many turns on these bytes, end so, and the sink gained their output
pub record MeansEnding (ts : List TypedModule) (syms : Table) (turns : ℕ) (e : Ending) (before after : Option (List ℕ)) (bytes : List ℕ) : Type 0 where
  pub output : List ℕ
  pub run : c90_run ts syms bytes turns ≡ Some (record { output = output; ending = ending_of e })
  pub gained : Appends before after output

-- so run they have an output, of which the sink gained a front
pub record MeansWithin (ts : List TypedModule) (syms : Table) (turns : ℕ) (before after : Option (List ℕ)) (bytes : List ℕ) : Type 0 where
  pub run : Run
  pub is_run : c90_run ts syms bytes turns ≡ Some run
  pub gained : GainsFront before after run.output

-- the verdict accepts the files, whose modules end so on the input, as far as it is told
pub record RunsToEnd (tells : List ℕ → Told) (left before after : Option (List ℕ)) (e : Ending) (files : List (List ℕ)) (turns : ℕ) : Type 0 where
  pub modules : List Module
  pub ts : List TypedModule
  pub syms : Table
  pub accepted : IsAccepted tells files modules ts syms
  pub ends : IfTold left (MeansEnding ts syms turns e before after)

-- it accepts them, and the sink gained a front of the output
pub record RunsWithin (tells : List ℕ → Told) (left before after : Option (List ℕ)) (files : List (List ℕ)) (turns : ℕ) : Type 0 where
  pub modules : List Module
  pub ts : List TypedModule
  pub syms : Table
  pub accepted : IsAccepted tells files modules ts syms
  pub front : IfTold left (MeansWithin ts syms turns before after)

-- the run of their lowered program wants one more byte than was taken of the input
pub record WantsMore (tells : List ℕ → Told) (left left_now : Option (List ℕ)) (files : List (List ℕ)) (turns : ℕ) : Type 0 where
  pub program : IlProgram
  pub syms : Table
  pub from : IsProgramOf flat_counts tells files program syms
  pub wanted : IfTold left (AsksFor program turns left_now)

-- the modules ended, and the status and the line are those of their ending
pub record Ends (words : List (List ℕ)) (tells : List ℕ → Told) (left before after : Option (List ℕ)) (Said : List ℕ → Type 0) (status : ℕ) : Type 0 where
  pub ending : Ending
  pub came : OfAskedRun words (RunsToEnd tells left before after ending)
  pub status_is : status ≡ ending_status ending
  pub said : Said (ending_line ending)

-- the statuses of an ending, and all of `run`
abbrev pub IsEndingStatus : ℕ → Type 0
IsEndingStatus status = (status ≡ 0) ⊎ ((status ≡ 12) ⊎ (status ≡ 13))

abbrev pub IsRunStatus : ℕ → Type 0
IsRunStatus status = IsEndingStatus status ⊎ ((status ≡ 2) ⊎ ((status ≡ 3) ⊎ ((status ≡ 5) ⊎ ((status ≡ 6) ⊎ ((status ≡ 10) ⊎ (status ≡ 11))))))

-- What `run` promises: at 0, 12 and 13 the linked modules end so by their meaning, and the sink gained exactly their output;
-- at 6 and 11 the count of the sink or of the source rose, at 11 where the run wants one more byte; whatever the status but
-- these three a front of the output was put out, and nothing at 2, 3 and 5; and told files of well formed modules that link
-- are answered by the ending of their meaning where no count of them, of the source and of the sink rose and memory suffices.
pub record RunPromise (words : List (List ℕ)) (tells : List ℕ → Told) (shelf shelf_now : List ℕ
    → ℕ) (left left_now : Option (List ℕ)) (input input_now : ℕ) (before after : Option (List ℕ)) (out out_now : ℕ) (Said : List ℕ
    → Type 0) (status : ℕ) : Type 0 where
  pub known : IsRunStatus status
  pub ended : IsEndingStatus status → Ends words tells left before after Said status
  pub unwritten : status ≡ 6 → Rose out out_now × OfAskedRun words (RunsWithin tells left before after) × Said unwritten_line
  pub no_input : status ≡ 11 → Rose input input_now × OfAskedRun words (WantsMore tells left left_now) × Said no_input_line
  pub front : Keeps before after ⊎ OfAskedRun words (RunsWithin tells left before after)
  pub quiet : IsQuiet status → Keeps before after
  pub modules : ModulesPromise (AsksRunOf words) tells shelf shelf_now Said status
  pub complete : (turns : ℕ) (files : List (List ℕ)) (names : Table) (given output : List ℕ) (e : Ending) → AsksRun words turns files
      → (formed : AreWellFormedTexts tells files names) → refusal names ≡ None → left ≡ Some given
      → c90_run formed.ts names given turns ≡ Some (record { output = output; ending = ending_of e })
      → AreQuiet shelf shelf_now files → (Rose input input_now → ⊥) → (Rose out out_now → ⊥) → (status ≡ ending_status e) ⊎ (status ≡ 10)
