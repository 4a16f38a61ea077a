-- The profile of a run.
use Rattle.std.specs.Prelude.{◌≡◌, ℕ, ◌+◌, List, [], ◌∷◌, ◌++◌, Some, Option, Ok, Err, Result, take, length, map, flat_map, ⊤, min, codes, if◌then◌else◌}
use Rattle.std.specs.Str.{bytes_eq}
use Rattle.std.specs.List.{range_with_len}
use Rattle.std.specs.Io.KnownBytes.{Appends, Keeps}
use Rattle.il_core.specs.declared.program.IlProgram.{IlProgram}
use Rattle.il_core.specs.declared.shape.ShapeRow.{ShapeRow}
use Rattle.il_core.specs.Meaning.{MadeCall, calls_made, il_run}
use Rattle.il_core.specs.Program.{name_at}
use Rattle.il_core.specs.Routine.{RoutineParts}
use Rattle.il_run.specs.declared.counts.Counts.{Counts}
use Rattle.il_run.specs.declared.ending.Ending.{Ending}
use Rattle.il_run.specs.declared.ending.RunFault.{RunFault}
use Rattle.il_run.specs.declared.ending.RunFault.TheVariants as fault
use Rattle.il_run.specs.Counts.{counts_of, entry_count, site_count, sites_of_blocks}
use Rattle.il_run.specs.Machine.{ending_of}
use Rattle.outside.specs.Faults.{Rose}
use Rattle.profile.specs.Names.{Names}
use Rattle.profile.specs.Texts.{Line, Entry, Site, set_by_all}
use Rattle.profile.specs.Writing.{IsWritten}
use Rattle.hlo_cmd.specs.declared.print.PrintFault.{PrintFault}
use Rattle.hlo_cmd.specs.declared.print.PrintFault.TheVariants as print_fault

-- how often a routine of this name was entered that was called so often: the start of the program enters `main` once more
abbrev pub entered : List ℕ → ℕ → ℕ
entered name calls = if bytes_eq name (codes "main") then min (calls + 1) 4294967295 else calls

-- the lines that calls make of a routine: its entry, and each of its call sites, with how often they were
abbrev pub trained_lines : List ShapeRow → List MadeCall → RoutineParts → List Line
trained_lines shapes calls r =
    Entry (name_at shapes r.pid) (entered (name_at shapes r.pid) (entry_count calls r))
    ∷ map (λ k. Site (name_at shapes r.pid) k (site_count calls r k)) (range_with_len 0 (sites_of_blocks r.blocks))

-- the names and counts that the lines of all routines of a program set, in their order
abbrev pub trained : IlProgram → List MadeCall → Names
trained p calls = set_by_all (flat_map (trained_lines p.shapes calls) p.routines) []

-- ---- the same by counts that were kept

abbrev pub site_lines_from : List ℕ → ℕ → List ℕ → List Line
site_lines_from n k [] = []
site_lines_from n k (c ∷ cs) = Site n k c ∷ site_lines_from n (k + 1) cs

abbrev pub routine_lines : List ℕ → ℕ → List ℕ → List Line
routine_lines n calls sites = Entry n (entered n calls) ∷ site_lines_from n 0 sites

abbrev pub counted_lines : List ShapeRow → List RoutineParts → List ℕ → List (List ℕ) → List Line
counted_lines shapes [] entries sites = []
counted_lines shapes (r ∷ rs) [] sites = []
counted_lines shapes (r ∷ rs) (e ∷ es) [] = []
counted_lines shapes (r ∷ rs) (e ∷ es) (s ∷ ss) = routine_lines (name_at shapes r.pid) e s ++ counted_lines shapes rs es ss

-- so many call sites as the routines have
pub record AreCountsOf (routines : List RoutineParts) (entries : List ℕ) (sites : List (List ℕ)) : Type 0 where
  pub entries_fit : length entries ≡ length routines
  pub sites_fit : map length sites ≡ map (λ r. sites_of_blocks r.blocks) routines

-- on these bytes and with these turns the program ends so, and these are the counts of its calls
pub record EndsCounted (p : IlProgram) (turns : ℕ) (e : Ending) (c : Counts) (bytes : List ℕ) : Type 0 where
  pub output : List ℕ
  pub run : il_run p bytes turns ≡ Some (record { output = output; ending = ending_of e })
  pub counts : c ≡ counts_of p (calls_made p bytes turns)

-- a byte that was wanted couldn't be had only where the source's count rose; nothing else can be refused but memory
abbrev pub IsInputCause : RunFault → ℕ → ℕ → Type 0
IsInputCause fault.Input before now = Rose before now
IsInputCause fault.Output before now = ⊥
IsInputCause fault.Memory before now = ⊤

-- the text of a profile with these names and counts was put out; or the sink failed behind a front of it; or memory ran out,
-- and nothing was
pub record PutsFront (names : Names) (front : ℕ) (before after : Option (List ℕ)) : Type 0 where
  pub text : List ℕ
  pub written : IsWritten text (Some names)
  pub gained : Appends before after (take front text)

pub record PutsWhole (names : Names) (before after : Option (List ℕ)) : Type 0 where
  pub text : List ℕ
  pub written : IsWritten text (Some names)
  pub gained : Appends before after text

abbrev pub PutsProfile : Names → Option (List ℕ) → Option (List ℕ) → Result (Unit {0}) PrintFault → Type 0
PutsProfile names before after (Ok u) = PutsWhole names before after
PutsProfile names before after (Err print_fault.Output) = (front : ℕ) × PutsFront names front before after
PutsProfile names before after (Err print_fault.Memory) = Keeps before after
