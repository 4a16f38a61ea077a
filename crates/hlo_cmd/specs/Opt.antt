-- What `opt` promises.
use Rattle.std.specs.Prelude.{◌≡◌, ◌≢◌, ◌≤◌, ◌<◌, ◌+◌, ◌*◌, ℕ, suc, ◌⊎◌, ◌++◌, Bool, List, [], ◌∷◌, Option, Some, None, length, take}
use Rattle.std.specs.Prelude.{if◌then◌else◌, ⊤}
use Rattle.std.specs.Io.KnownBytes.{Appends, Keeps}
use Rattle.std.specs.List.{AllByRecursion}
use Rattle.c_lower.specs.Lowering.{routine_of}
use Rattle.c_module.specs.Files.{HoldsTyped}
use Rattle.c_module.specs.Limits.{KeepsLimits, functions_in}
use Rattle.c_module.specs.Programs.{IsProgramOf}
use Rattle.c_module.specs.Told.{AreQuiet, AreRefused, AreWellFormedTexts}
use Rattle.c_module.specs.Verdict.{HoldWellFormed}
use Rattle.c_tree.specs.declared.declaration.Module.{Module}
use Rattle.c_typed.specs.declared.function.TypedModule.{TypedModule}
use Rattle.c_typed.specs.Linked.{c90_run}
use Rattle.c_typed.specs.Trees.{Function}
use Rattle.c_typed.specs.Views.{functions_of}
use Rattle.compact_form.specs.Compact.{compact}
use Rattle.hlo_words.specs.Settings.{IsOptSettings}
use Rattle.hlo_words.specs.declared.settings.OptSettings.{OptSettings}
use Rattle.il_core.specs.declared.program.IlProgram.{IlProgram}
use Rattle.il_core.specs.Meaning.{il_run}
use Rattle.il_core.specs.Size.{cost}
use Rattle.il_core.specs.Text.{text}
use Rattle.il_core.specs.Valid.{IsProgram}
use Rattle.linker.specs.Linking.{refusal}
use Rattle.outside.specs.Faults.{Rose}
use Rattle.outside.specs.Told.{Told, Holds}
use Rattle.pass_laws.specs.Worth.{spendable}
use Rattle.plan_laws.specs.Plan.{final, plan}
use Rattle.plan_pools.specs.Planning.{IsNeed}
use Rattle.profile.specs.Counts.{Counts, Profiled}
use Rattle.sym_tables.specs.Table.{Table}
use Rattle.hlo_cmd.specs.Messages.{damaged_line, memory_line, profile_line, repository_line, small_line, stats_line, unfit_line, unread_line}
use Rattle.hlo_cmd.specs.Messages.{unreadable_line, unwritten_line, usage_line}
use Rattle.hlo_cmd.specs.Modules.{StopsRefused, StopsUnread}
use Rattle.hlo_cmd.specs.Profiles.{HasCounts, HoldsBadLine, IsProfileText}
use Rattle.hlo_cmd.specs.Words.{asked_command}
use Rattle.hlo_cmd.specs.declared.report.Report.{Report}
use Rattle.hlo_cmd.specs.declared.words.CommandName.TheVariants as command

-- the words are those of `opt`, and say this
pub record AsksOpt (words : List (List ℕ)) (s : OptSettings) : Type 0 where
  pub command : asked_command words ≡ command.Opt
  pub settings : IsOptSettings words s

-- there is a pass, and the passes and the budget are within their bounds
pub record IsInRange (s : OptSettings) : Type 0 where
  pub some : 0 < s.passes
  pub passes : s.passes ≤ 8
  pub budget : s.budget ≤ 1000

-- they say something, of which it is so with the counts of the profile that they name
pub record OfAskedOpt (words : List (List ℕ)) (tells : List ℕ → Told) (Holds : OptSettings → Counts → Type 0) : Type 0 where
  pub settings : OptSettings
  pub counts : Counts
  pub asked : AsksOpt words settings
  pub counted : HasCounts tells settings.profile counts
  pub holds : Holds settings counts

-- `good` says of a limit that the disk that was handed in is honest, and reaches all records of routines under that limit.

-- what is told of a report: its line, where the words ask for it
abbrev pub report_line : Bool → Report → List ℕ
report_line stats r = if stats then stats_line r else []

-- The lowered program of the files, and the last one of its plan within the budget: that is valid, prints, traps and ends as the
-- linked modules do, for every input and every number of turns, and costs at most so many percent more. It is the same for every
-- limit. No name of C has a `$`; where a name had one nothing would be spent, since it might be the name of a clone.
pub record IsPlanned (tells : List ℕ → Told) (s : OptSettings) (counts : Counts) (lowered planned : IlProgram) (syms : Table) : Type 0 where
  pub from : IsProgramOf counts tells s.files lowered syms
  pub is : planned ≡ final lowered (spendable lowered.shapes s.budget) s.passes
  pub valid : IsProgram planned
  pub runs : (input : List ℕ) (turns : ℕ) → il_run planned input turns ≡ c90_run from.ts syms input turns
  pub within_budget : 100 * cost planned.routines ≤ cost lowered.routines * (100 + s.budget)

-- Over a good disk the text of the planned program of the files was put out; the bytes that nobody held stayed within the limit;
-- the costs are those of the lowered program and, over a good disk, of the planned one, which is at most so many percent higher as
-- the budget says; and the report's line was told where the words ask for it.
pub record Prints (tells : List ℕ → Told) (good : ℕ → Type 0) (before after : Option (List ℕ)) (Said : List ℕ → Type 0) (report : Report) (s : OptSettings)
    (counts : Counts) : Type 0 where
  pub lowered : IlProgram
  pub program : IlProgram
  pub syms : Table
  pub planned : IsPlanned tells s counts lowered program syms
  pub printed : good s.limit → Appends before after (text program)
  pub peak : report.under_peak ≤ s.limit
  pub cost_before : report.cost_before ≡ cost lowered.routines
  pub cost_after : good s.limit → report.cost_after ≡ cost program.routines
  pub within_budget : good s.limit → 100 * report.cost_after ≤ report.cost_before * (100 + s.budget)
  pub said : Said (report_line s.stats report)

-- over a good disk a front of that text was put out
pub record PrintsFront (tells : List ℕ → Told) (good : ℕ → Type 0) (before after : Option (List ℕ)) (s : OptSettings) (counts : Counts) : Type 0 where
  pub lowered : IlProgram
  pub program : IlProgram
  pub syms : Table
  pub planned : IsPlanned tells s counts lowered program syms
  pub printed : good s.limit → (front : ℕ) × Appends before after (take front (text program))

-- nothing was put out, or, over a good disk, a front of that text
abbrev pub HasFront : (List ℕ → Told) → (ℕ → Type 0) → Option (List ℕ) → Option (List ℕ) → OptSettings → Counts → Type 0
HasFront tells good before after s counts = Keeps before after ⊎ PrintsFront tells good before after s counts

-- The routine of a function of the files is the first whose compact form is longer than the limit: files before its own are the
-- texts of well formed modules, its own is the text of a module that is typed so, functions before it keep the limits of the
-- language, as it does, and the compact forms of their routines are no longer than the limit.
pub record IsTooSmall (tells : List ℕ → Told) (s : OptSettings) (counts : Counts) (pid need limit : ℕ) : Type 0 where
  pub earlier : List (List ℕ)
  pub file : List ℕ
  pub later : List (List ℕ)
  pub modules : List Module
  pub ts : List TypedModule
  pub names : Table
  pub typed_as : TypedModule
  pub syms : Table
  pub fs : List Function
  pub function : Function
  pub others : List Function
  pub whole : s.files ≡ earlier ++ file ∷ later
  pub hold : HoldWellFormed tells earlier modules ts names
  pub typed : HoldsTyped (suc (length earlier)) names (tells file) typed_as syms
  pub functions : functions_in typed_as ≡ fs ++ function ∷ others
  pub kept : AllByRecursion KeepsLimits fs
  pub within : KeepsLimits function
  pub fit : AllByRecursion (λ f. length (compact (routine_of syms counts f)) ≤ s.limit) (functions_of ts ++ fs)
  pub long : s.limit < length (compact (routine_of syms counts function))
  pub pid_is : pid ≡ function.pid
  pub need_is : need ≡ length (compact (routine_of syms counts function))
  pub limit_is : limit ≡ s.limit

-- All routines of the files fit, but the compact form of one that the plan makes of them is longer than the limit: over a good
-- disk it is that of a routine of one of the plan's programs.
pub record IsTooSmallToPlan (tells : List ℕ → Told) (good : ℕ → Type 0) (s : OptSettings) (counts : Counts) (pid need limit : ℕ) : Type 0 where
  pub lowered : IlProgram
  pub syms : Table
  pub from : IsProgramOf counts tells s.files lowered syms
  pub fit : AllByRecursion (λ r. length (compact r) ≤ s.limit) lowered.routines
  pub routine : good s.limit → IsNeed (plan lowered (spendable lowered.shapes s.budget) s.passes) pid need
  pub long : s.limit < need
  pub limit_is : limit ≡ s.limit

-- one of the two is so, and its line was told
pub record StopsTooSmall (tells : List ℕ → Told) (good : ℕ → Type 0) (Said : List ℕ → Type 0) (s : OptSettings) (counts : Counts) : Type 0 where
  pub pid : ℕ
  pub need : ℕ
  pub limit : ℕ
  pub small : IsTooSmall tells s counts pid need limit ⊎ IsTooSmallToPlan tells good s counts pid need limit
  pub said : Said (small_line pid need limit)

-- A record on the scratch disk, which isn't good, has other bytes than those that were put there, by their SHA-256, or bytes
-- that are no such routine's, or those of a routine that isn't the one that was put there; and its line was told.
pub record StopsDamaged (good : ℕ → Type 0) (Said : List ℕ → Type 0) (s : OptSettings) (counts : Counts) : Type 0 where
  pub distrusted : good s.limit → ⊥
  pub record_told : ((place : ℕ) × ((kept : List ℕ) × ((found : List ℕ) × ((found ≢ kept) × Said (damaged_line place kept found)))))
      ⊎ (((place : ℕ) × Said (unreadable_line place)) ⊎ ((pid : ℕ) × Said (unfit_line pid)))

-- there is a report, and it is so
abbrev pub IfSomeReport : (Report → Type 0) → Option Report → Type 0
IfSomeReport P None = ⊥
IfSomeReport P (Some report) = P report

-- the profile that the words name doesn't fit, and the line of that was told
pub record StopsAtProfile (words : List (List ℕ)) (tells : List ℕ → Told) (Said : List ℕ → Type 0) : Type 0 where
  pub name : List ℕ
  pub settings : OptSettings
  pub number : ℕ
  pub asked : AsksOpt words settings
  pub named : settings.profile ≡ Some name
  pub bad : HoldsBadLine (tells name) number
  pub said : Said (profile_line number)

-- it couldn't be read
pub record StopsUnreadProfile (words : List (List ℕ)) (before after : List ℕ → ℕ) (Said : List ℕ → Type 0) : Type 0 where
  pub name : List ℕ
  pub settings : OptSettings
  pub asked : AsksOpt words settings
  pub named : settings.profile ≡ Some name
  pub rose : Rose (before name) (after name)
  pub said : Said (unread_line name)

-- no profile is named, or its file is told, and is a profile's text
abbrev pub HasGoodProfile : (List ℕ → Told) → Option (List ℕ) → Type 0
HasGoodProfile tells None = ⊤
HasGoodProfile tells (Some name) = (bytes : List ℕ) × (p : Profiled) × (tells name ≡ Holds bytes) × IsProfileText bytes p

-- its file is told, and is no profile's text
pub record HasBadProfile (tells : List ℕ → Told) (name : List ℕ) : Type 0 where
  pub bytes : List ℕ
  pub holds : tells name ≡ Holds bytes
  pub none : (p : Profiled) → IsProfileText bytes p → ⊥

-- its count didn't rise
abbrev pub IsQuietProfile : (List ℕ → ℕ) → (List ℕ → ℕ) → Option (List ℕ) → Type 0
IsQuietProfile before after None = ⊤
IsQuietProfile before after (Some name) = Rose (before name) (after name) → ⊥

-- the words ask for nothing
abbrev pub AsksNothing : List (List ℕ) → Type 0
AsksNothing words = (s : OptSettings) → AsksOpt words s → ⊥

-- the statuses at which a command over modules puts out nothing: the words, a file, reading it, or linking was refused
abbrev pub IsQuiet : ℕ → Type 0
IsQuiet status = (status ≡ 2) ⊎ ((status ≡ 3) ⊎ (status ≡ 5))

-- the statuses of `opt`
abbrev pub IsOptStatus : ℕ → Type 0
IsOptStatus status = (status ≡ 0) ⊎ ((2 ≤ status) × (status ≤ 10))

-- What `opt` promises: at 0 the text of the planned program of the files, with the counts of the profile that is named, was put
-- out, over a good disk, and the report told where the words ask for it; 2 says that the words ask for nothing, 3 that the verdict
-- on the files is a refusal, 4 that the profile's file is none, 5 that it or one of the files couldn't be read, 6 that the count of
-- the sink rose, 7 that the disk's did, 8 that the disk isn't good and a record was changed, 9 that the limit is too small for a
-- routine of the files or of their plan, each with its line; whatever the status a front of that text was put out, over a good disk, and nothing
-- at 2, 3, 4, 5 and 9; and where files are told, and no count rose, those that are to be refused are, a profile that is none is, and
-- well formed modules that link, over a good disk, are answered with 0, if memory and the limit suffice.
pub record OptPromise (words : List (List ℕ)) (tells : List ℕ → Told) (shelf shelf_now : List ℕ → ℕ) (before after : Option (List ℕ)) (out out_now : ℕ)
    (good : ℕ → Type 0) (disk disk_now : ℕ) (Said : List ℕ → Type 0) (status : ℕ) (report : Option Report) : Type 0 where
  pub known : IsOptStatus status
  pub usage : status ≡ 2 → AsksNothing words × Said usage_line
  pub unusable : AsksNothing words → (status ≡ 2) ⊎ (status ≡ 10)
  pub refused : status ≡ 3 → OfAskedOpt words tells (λ s counts. StopsRefused tells shelf shelf_now Said s.files)
  pub bad_profile : status ≡ 4 → StopsAtProfile words tells Said
  pub unread : status ≡ 5 → StopsUnreadProfile words shelf shelf_now Said ⊎ OfAskedOpt words tells (λ s counts. StopsUnread tells shelf shelf_now Said s.files)
  pub memory : status ≡ 10 → Said memory_line
  pub printed : status ≡ 0 → IfSomeReport (λ r. OfAskedOpt words tells (Prints tells good before after Said r)) report
  pub unwritten : status ≡ 6 → Rose out out_now × OfAskedOpt words tells (PrintsFront tells good before after) × Said unwritten_line
  pub failed : status ≡ 7 → Rose disk disk_now × OfAskedOpt words tells (HasFront tells good before after) × Said repository_line
  pub damaged : status ≡ 8 → OfAskedOpt words tells (StopsDamaged good Said)
  pub small : status ≡ 9 → OfAskedOpt words tells (StopsTooSmall tells good Said)
  pub front : Keeps before after ⊎ OfAskedOpt words tells (PrintsFront tells good before after)
  pub quiet : IsQuiet status ⊎ ((status ≡ 4) ⊎ (status ≡ 9)) → Keeps before after
  pub refuses : (s : OptSettings) → AsksOpt words s → HasGoodProfile tells s.profile → AreRefused tells s.files
      → IsQuietProfile shelf shelf_now s.profile → AreQuiet shelf shelf_now s.files → (Rose disk disk_now → ⊥)
      → (status ≡ 3) ⊎ ((status ≡ 9) ⊎ (status ≡ 10))
  pub refuses_profile : (s : OptSettings) (name : List ℕ) → AsksOpt words s → s.profile ≡ Some name → HasBadProfile tells name
      → (Rose (shelf name) (shelf_now name) → ⊥)
      → (status ≡ 4) ⊎ (status ≡ 10)
  pub complete : (s : OptSettings) (names : Table) → AsksOpt words s → good s.limit → HasGoodProfile tells s.profile
      → AreWellFormedTexts tells s.files names → refusal names ≡ None
      → IsQuietProfile shelf shelf_now s.profile → AreQuiet shelf shelf_now s.files → (Rose out out_now → ⊥) → (Rose disk disk_now → ⊥)
      → (status ≡ 0) ⊎ ((status ≡ 9) ⊎ (status ≡ 10))
