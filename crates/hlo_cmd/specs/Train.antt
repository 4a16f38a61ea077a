-- What `train` promises.
use Rattle.std.specs.Prelude.{◌≡◌, ℕ, ◌⊎◌, List, Option, Some, None, take}
use Rattle.std.specs.Io.KnownBytes.{Appends, Keeps}
use Rattle.c_module.specs.Programs.{IsProgramOf}
use Rattle.c_module.specs.Told.{AreQuiet, AreWellFormedTexts}
use Rattle.c_typed.specs.Linked.{c90_run}
use Rattle.hlo_words.specs.Settings.{IsTrainSettings}
use Rattle.il_core.specs.declared.program.IlProgram.{IlProgram}
use Rattle.il_core.specs.Meaning.{calls_made, il_run}
use Rattle.il_run.specs.declared.ending.Ending.{Ending}
use Rattle.il_run.specs.Machine.{ending_of}
use Rattle.il_run.specs.Run.{IfTold}
use Rattle.linker.specs.Linking.{refusal}
use Rattle.outside.specs.Faults.{Rose}
use Rattle.outside.specs.Told.{Told}
use Rattle.profile.specs.Counts.{flat_counts}
use Rattle.profile.specs.Writing.{IsWritten}
use Rattle.sym_tables.specs.Table.{Table}
use Rattle.hlo_cmd.specs.Messages.{ending_line, ending_status, no_input_line, unwritten_line}
use Rattle.hlo_cmd.specs.Modules.{ModulesPromise}
use Rattle.hlo_cmd.specs.Opt.{IsQuiet}
use Rattle.hlo_cmd.specs.Run.{IsEndingStatus, IsRunStatus, WantsMore}
use Rattle.hlo_cmd.specs.Training.{trained}

-- the words of `train` ask for these files, with so many turns
abbrev pub AsksTrain : List (List ℕ) → ℕ → List (List ℕ) → Type 0
AsksTrain words turns files = IsTrainSettings words (record { turns = turns; files = files })

-- with some number of turns
abbrev pub AsksTrainOf : List (List ℕ) → List (List ℕ) → Type 0
AsksTrainOf words files = (turns : ℕ) × AsksTrain words turns files

-- the words ask for files with so many turns, of which it is so
pub record OfAskedTrain (words : List (List ℕ)) (Holds : List (List ℕ) → ℕ → Type 0) : Type 0 where
  pub turns : ℕ
  pub files : List (List ℕ)
  pub asked : AsksTrain words turns files
  pub holds : Holds files turns

-- run with so many turns on these bytes, a program ends so, and the text is that of the profile of the calls that it made
pub record TrainsOn (p : IlProgram) (turns : ℕ) (e : Ending) (text bytes : List ℕ) : Type 0 where
  pub output : List ℕ
  pub run : il_run p bytes turns ≡ Some (record { output = output; ending = ending_of e })
  pub written : IsWritten text (Some (trained p (calls_made p bytes turns)))

-- the lowered program of the files, which has the run of their modules, ends so on the input, as far as that is told, and
-- the text is that of its profile
pub record Trains (tells : List ℕ → Told) (left : Option (List ℕ)) (e : Ending) (text : List ℕ) (files : List (List ℕ)) (turns : ℕ) : Type 0 where
  pub program : IlProgram
  pub syms : Table
  pub from : IsProgramOf flat_counts tells files program syms
  pub ends : IfTold left (TrainsOn program turns e text)

-- a front of such a text was put out
pub record TrainsFront (words : List (List ℕ)) (tells : List ℕ → Told) (left before after : Option (List ℕ)) : Type 0 where
  pub ending : Ending
  pub text : List ℕ
  pub front : ℕ
  pub came : OfAskedTrain words (Trains tells left ending text)
  pub gained : Appends before after (take front text)

-- the whole of it was put out, and the status and the line are those of the ending
pub record TrainsWhole (words : List (List ℕ)) (tells : List ℕ → Told) (left before after : Option (List ℕ)) (Said : List ℕ → Type 0) (status : ℕ) : Type 0
  where
    pub ending : Ending
    pub text : List ℕ
    pub came : OfAskedTrain words (Trains tells left ending text)
    pub gained : Appends before after text
    pub status_is : status ≡ ending_status ending
    pub said : Said (ending_line ending)

-- What `train` promises: at 0, 12 and 13 the lowered program of the files, which has the run of the linked modules, ends so,
-- and the sink gained the text of the profile of its calls, and nothing else; at 6 the count of the sink rose, and at 11 that of
-- the source, where the run wants one more byte; whatever the status, a front of such a text was put out, and nothing at 2, 3,
-- 5 and 11; and told files of well formed modules that link are answered by the ending of their meaning where no count of
-- them, of the source and of the sink rose and memory suffices.
pub record TrainPromise (words : List (List ℕ)) (tells : List ℕ → Told) (shelf shelf_now : List ℕ
    → ℕ) (left left_now : Option (List ℕ)) (input input_now : ℕ) (before after : Option (List ℕ)) (out out_now : ℕ) (Said : List ℕ
    → Type 0) (status : ℕ) : Type 0 where
  pub known : IsRunStatus status
  pub ended : IsEndingStatus status → TrainsWhole words tells left before after Said status
  pub unwritten : status ≡ 6 → Rose out out_now × TrainsFront words tells left before after × Said unwritten_line
  pub no_input : status ≡ 11 → Rose input input_now × OfAskedTrain words (WantsMore tells left left_now) × Said no_input_line
  pub front : Keeps before after ⊎ TrainsFront words tells left before after
  pub quiet : IsQuiet status ⊎ (status ≡ 11) → Keeps before after
  pub modules : ModulesPromise (AsksTrainOf words) tells shelf shelf_now Said status
  pub complete : (turns : ℕ) (files : List (List ℕ)) (names : Table) (given output : List ℕ) (e : Ending) → AsksTrain words turns files
      → (formed : AreWellFormedTexts tells files names) → refusal names ≡ None → left ≡ Some given
      → c90_run formed.ts names given turns ≡ Some (record { output = output; ending = ending_of e })
      → AreQuiet shelf shelf_now files → (Rose input input_now → ⊥) → (Rose out out_now → ⊥) → (status ≡ ending_status e) ⊎ (status ≡ 10)
