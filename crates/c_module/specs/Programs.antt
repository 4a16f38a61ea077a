-- The lowered program of files.
use Rattle.std.specs.Prelude.{◌≡◌, ℕ, List}
use Rattle.il_core.specs.declared.program.IlProgram.{IlProgram}
use Rattle.il_core.specs.Meaning.{il_run}
use Rattle.il_core.specs.Valid.{IsProgram}
use Rattle.outside.specs.Told.{Told}
use Rattle.profile.specs.Counts.{Counts}
use Rattle.sym_tables.specs.Table.{Table}
use Rattle.c_tree.specs.declared.declaration.Module.{Module}
use Rattle.c_typed.specs.declared.function.TypedModule.{TypedModule}
use Rattle.c_typed.specs.Linked.{c90_run}
use Rattle.c_typed.specs.Views.{functions_of}
use Rattle.c_lower.specs.Lowering.{entry_of, sites_of}
use Rattle.lower_laws.specs.Programs.{lowered_program}
use Rattle.c_module.specs.Verdict.{IsAccepted}

-- The program is that of files that are accepted, with a profile's counts: every function and every object that their modules
-- define, by PID. It is valid, and has the run of the modules for every input and every number of turns.
pub record IsProgramOf (counts : Counts) (tells : List ℕ → Told) (files : List (List ℕ)) (program : IlProgram) (syms : Table) : Type 0 where
  pub modules : List Module
  pub ts : List TypedModule
  pub accepted : IsAccepted tells files modules ts syms
  pub is : program ≡ lowered_program (entry_of syms counts) (sites_of syms counts) (functions_of ts) syms
  pub valid : IsProgram program
  pub runs : (input : List ℕ) (turns : ℕ) → il_run program input turns ≡ c90_run ts syms input turns
