-- What `runil` promises.
use Rattle.std.specs.Prelude.{◌≡◌, ◌<◌, ◌≤◌, ◌⊎◌, ℕ, List, [], Option, Some, Result, MatchResult, Ok, Err, length}
use Rattle.std.specs.Io.KnownBytes.{Keeps}
use Rattle.hlo_words.specs.Settings.{IsRunIlSettings}
use Rattle.hlo_words.specs.declared.settings.RunIlSettings.{RunIlSettings}
use Rattle.hlo_words.specs.declared.settings.WordsFault.{WordsFault}
use Rattle.hlo_words.specs.declared.settings.WordsFault.TheVariants as words_fault
use Rattle.il_core.specs.declared.program.IlProgram.{IlProgram}
use Rattle.il_core.specs.Meaning.{il_run}
use Rattle.il_core.specs.Valid.{IsProgram}
use Rattle.il_run.specs.declared.ending.Ending.{Ending}
use Rattle.il_run.specs.Machine.{ending_of}
use Rattle.il_run.specs.Run.{AsksFor, EndsAs, IfTold, StopsWithin}
use Rattle.il_text.specs.declared.fault.IlFault.TheVariants as il_fault
use Rattle.il_text.specs.ReadFaults.{IsFaultOf}
use Rattle.il_text.specs.Whole.{IsTextOf}
use Rattle.outside.specs.Faults.{Rose}
use Rattle.outside.specs.Told.{Told, Untold, Absent, Holds}
use Rattle.hlo_cmd.specs.Messages.{ending_line, ending_status, refusal_line, refusal_status, words_refusal}
use Rattle.hlo_cmd.specs.Sizes.{most_bytes}
use Rattle.hlo_cmd.specs.declared.refusal.Refusal.{Refusal}
use Rattle.hlo_cmd.specs.declared.refusal.Refusal.TheVariants.{Usage, Module, Link, Profile, Text, CannotRead, CannotWrite, Repository, Damaged}
use Rattle.hlo_cmd.specs.declared.refusal.Refusal.TheVariants.{Unreadable, Unfit, TooSmall, CannotReadInput, Memory}
use Rattle.hlo_cmd.specs.declared.refusal.TextFault.{TextFault}
use Rattle.hlo_cmd.specs.declared.refusal.TextFault.TheVariants.{TooLong, At}

-- the bytes aren't too many, and are the text of this valid program
pub record IsProgramText (bytes : List ℕ) (p : IlProgram) : Type 0 where
  pub short : length bytes ≤ most_bytes
  pub text : IsTextOf bytes p

-- they are that of no other
pub record IsOnlyProgramText (bytes : List ℕ) (p : IlProgram) : Type 0 where
  pub text : IsProgramText bytes p
  pub only : (other : IlProgram) → IsProgramText bytes other → p ≡ other

-- the file is the text of this program, and of no other, as far as it is told
abbrev pub HoldsProgram : Told → IlProgram → Type 0
HoldsProgram Untold p = IsProgram p
HoldsProgram Absent p = ⊥
HoldsProgram (Holds bytes) p = IsOnlyProgramText bytes p

-- what is wrong with bytes that are the text of no program: there are too many, or the first thing in the order of reading
abbrev pub IsProgramFault : List ℕ → TextFault → Type 0
IsProgramFault bytes TooLong = most_bytes < length bytes
IsProgramFault bytes (At line kind) = (length bytes ≤ most_bytes) × IsFaultOf bytes (il_fault.At line kind)

pub record HasProgramFault (bytes : List ℕ) (fault : TextFault) : Type 0 where
  pub wrong : IsProgramFault bytes fault
  pub none : (p : IlProgram) → IsProgramText bytes p → ⊥

-- this is wrong with the file, as far as it is told
abbrev pub HoldsProgramFault : Told → TextFault → Type 0
HoldsProgramFault Untold fault = Unit {0}
HoldsProgramFault Absent fault = ⊥
HoldsProgramFault (Holds bytes) fault = HasProgramFault bytes fault

-- the program of the file, with so many turns on this input, ends so, and the sink gained its output
pub record RunsToEnd (told : Told) (turns : ℕ) (left before after : Option (List ℕ)) (e : Ending) : Type 0 where
  pub program : IlProgram
  pub held : HoldsProgram told program
  pub ends : IfTold left (EndsAs program turns e before after)

-- the sink gained a front of the output of that run
pub record GainsFrontOfRun (told : Told) (turns : ℕ) (left before after : Option (List ℕ)) : Type 0 where
  pub program : IlProgram
  pub held : HoldsProgram told program
  pub front : IfTold left (StopsWithin program turns before after)

-- the same, where the program wants one more byte than was taken of the input
pub record WantsMoreInput (told : Told) (turns : ℕ) (left left_now before after : Option (List ℕ)) : Type 0 where
  pub program : IlProgram
  pub held : HoldsProgram told program
  pub front : IfTold left (StopsWithin program turns before after)
  pub wanted : IfTold left (AsksFor program turns left_now)

-- why a file of this name gave no program
abbrev pub IsReadCause : Refusal → List ℕ → Told → ℕ → ℕ → Type 0
IsReadCause Usage name told shelf shelf_now = ⊥
IsReadCause (Module file fault) name told shelf shelf_now = ⊥
IsReadCause (Link fault) name told shelf shelf_now = ⊥
IsReadCause (Profile line) name told shelf shelf_now = ⊥
IsReadCause (Text fault) name told shelf shelf_now = HoldsProgramFault told fault
IsReadCause (CannotRead file) name told shelf shelf_now = (file.now ≡ name) × Rose shelf shelf_now
IsReadCause CannotWrite name told shelf shelf_now = ⊥
IsReadCause Repository name told shelf shelf_now = ⊥
IsReadCause (Damaged place kept found) name told shelf shelf_now = ⊥
IsReadCause (Unreadable place) name told shelf shelf_now = ⊥
IsReadCause (Unfit pid) name told shelf shelf_now = ⊥
IsReadCause (TooSmall pid need limit) name told shelf shelf_now = ⊥
IsReadCause CannotReadInput name told shelf shelf_now = ⊥
IsReadCause Memory name told shelf shelf_now = Unit {0}

-- why the program of a file of this name didn't run to its end, and what the sink gained before: nothing, or a front of the
-- program's output
abbrev pub IsRunIlCause : Refusal → List ℕ → Told → ℕ → ℕ → ℕ → Option (List ℕ) → Option (List ℕ) → ℕ → ℕ → Option (List ℕ) → Option (List ℕ) → ℕ → ℕ → Type 0
IsRunIlCause Usage name told turns shelf shelf_now left left_now input input_now before after out out_now = ⊥
IsRunIlCause (Module file fault) name told turns shelf shelf_now left left_now input input_now before after out out_now = ⊥
IsRunIlCause (Link fault) name told turns shelf shelf_now left left_now input input_now before after out out_now = ⊥
IsRunIlCause (Profile line) name told turns shelf shelf_now left left_now input input_now before after out out_now = ⊥
IsRunIlCause (Text fault) name told turns shelf shelf_now left left_now input input_now before after out out_now = HoldsProgramFault told fault
    × Keeps before after
IsRunIlCause (CannotRead file) name told turns shelf shelf_now left left_now input input_now before after out out_now = (file.now ≡ name)
    × Rose shelf shelf_now × Keeps before after
IsRunIlCause CannotWrite name told turns shelf shelf_now left left_now input input_now before after out out_now = Rose out out_now
    × GainsFrontOfRun told turns left before after
IsRunIlCause Repository name told turns shelf shelf_now left left_now input input_now before after out out_now = ⊥
IsRunIlCause (Damaged place kept found) name told turns shelf shelf_now left left_now input input_now before after out out_now = ⊥
IsRunIlCause (Unreadable place) name told turns shelf shelf_now left left_now input input_now before after out out_now = ⊥
IsRunIlCause (Unfit pid) name told turns shelf shelf_now left left_now input input_now before after out out_now = ⊥
IsRunIlCause (TooSmall pid need limit) name told turns shelf shelf_now left left_now input input_now before after out out_now = ⊥
IsRunIlCause CannotReadInput name told turns shelf shelf_now left left_now input input_now before after out out_now = Rose input input_now
    × WantsMoreInput told turns left left_now before after
IsRunIlCause Memory name told turns shelf shelf_now left left_now input input_now before after out out_now = Keeps before after
    ⊎ GainsFrontOfRun told turns left before after

-- no settings were had of the words, of which there are none, or memory ran out; nothing was put out
pub record HasNoSettings (words : List (List ℕ)) (before after : Option (List ℕ)) (Said : List ℕ → Type 0) (status : ℕ) : Type 0 where
  pub fault : WordsFault
  pub status_is : status ≡ refusal_status (words_refusal fault)
  pub said : Said (refusal_line [] (words_refusal fault))
  pub none : fault ≡ words_fault.Usage → (s : RunIlSettings) → IsRunIlSettings words s → ⊥
  pub kept : Keeps before after

-- the status and the line of a run's outcome
abbrev pub outcome_status : Result Ending Refusal → ℕ
outcome_status (Ok e) = ending_status e
outcome_status (Err r) = refusal_status r

abbrev pub outcome_line : Result Ending Refusal → List ℕ
outcome_line (Ok e) = ending_line e
outcome_line (Err r) = refusal_line [] r

-- The words ask to run the program of a file, and that came to an outcome: the program's ending, with all of its output put
-- out, or why it didn't run to its end. The status and the line are those of the outcome.
pub record ComesTo (words : List (List ℕ)) (tells : List ℕ → Told) (shelf shelf_now : List ℕ
    → ℕ) (left left_now : Option (List ℕ)) (input input_now : ℕ) (before after : Option (List ℕ)) (out out_now : ℕ) (Said : List ℕ
    → Type 0) (status : ℕ) : Type 0 where
  pub settings : RunIlSettings
  pub asked : IsRunIlSettings words settings
  pub outcome : Result Ending Refusal
  pub came : MatchResult outcome (RunsToEnd (tells settings.file) settings.turns left before after)
      (λ r. IsRunIlCause r settings.file (tells settings.file) settings.turns (shelf settings.file)
      (shelf_now settings.file) left left_now input input_now before after out out_now)
  pub status_is : status ≡ outcome_status outcome
  pub said : Said (outcome_line outcome)

-- What `runil` promises: what the status and the line say; and that, where no count rose and memory suffices, the program of
-- a file that is told ends as it means on an input that is told, a file that is the text of no program is refused, and so are
-- words without settings.
pub record RunIlPromise (words : List (List ℕ)) (tells : List ℕ → Told) (shelf shelf_now : List ℕ
    → ℕ) (left left_now : Option (List ℕ)) (input input_now : ℕ) (before after : Option (List ℕ)) (out out_now : ℕ) (Said : List ℕ
    → Type 0) (status : ℕ) : Type 0 where
  pub answered : HasNoSettings words before after Said status
      ⊎ ComesTo words tells shelf shelf_now left left_now input input_now before after out out_now Said status
  pub complete : (s : RunIlSettings) (bytes given output : List ℕ) (p : IlProgram) (e : Ending) → IsRunIlSettings words s → tells s.file ≡ Holds bytes
      → IsProgramText bytes p
      → left ≡ Some given → il_run p given s.turns ≡ Some (record { output = output; ending = ending_of e })
      → (Rose (shelf s.file) (shelf_now s.file) → ⊥) → (Rose input input_now → ⊥) → (Rose out out_now → ⊥) → (status ≡ ending_status e) ⊎ (status ≡ 10)
  pub refuses : (s : RunIlSettings) (bytes : List ℕ) → IsRunIlSettings words s → tells s.file ≡ Holds bytes → ((p : IlProgram) → IsProgramText bytes p → ⊥)
      → (Rose (shelf s.file) (shelf_now s.file) → ⊥) → (status ≡ 14) ⊎ (status ≡ 10)
  pub unusable : ((s : RunIlSettings) → IsRunIlSettings words s → ⊥) → (status ≡ 2) ⊎ (status ≡ 10)
