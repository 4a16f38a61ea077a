-- The laws of lowering.
use Rattle.std.specs.Prelude.{ℕ, ◌≡◌, List, [], Option, Some, None}
use Rattle.il_core.specs.declared.program.IlProgram.{IlProgram}
use Rattle.il_core.specs.Meaning.{act, il_run, run_of}
use Rattle.il_core.specs.Program.{routine_at, words_of, initial_word, main_pid}
use Rattle.il_core.specs.Routine.{RoutineParts}
use Rattle.il_core.specs.Size.{size}
use Rattle.il_core.specs.World.{World}
use Rattle.c_typed.specs.Meaning.{Program, function_at, call_function}
use Rattle.c_typed.specs.Trees.{Function}
use Rattle.lower_laws.specs.Bound.{IsBound}
use Rattle.lower_laws.specs.Functions.{lowered, last_numbers}

-- the routine of a function, with the profile's counts of its program name
abbrev pub routine_of : (ℕ → ℕ) → (ℕ → ℕ → ℕ) → Option Function → Option RoutineParts
routine_of entry count None = None
routine_of entry count (Some f) = Some (lowered (entry f.pid) (count f.pid) f)

-- a program whose routines are those of functions, and whose objects have as many words
pub record IsLowered (p : Program) (q : IlProgram) (entry : ℕ → ℕ) (count : ℕ → ℕ → ℕ) : Type 0 where
  pub routines : (pid : ℕ) → routine_at q.routines pid ≡ routine_of entry count (function_at p.functions pid)
  pub words : (g : ℕ) → words_of q.objects g ≡ p.words g

-- the names of each function are bound
abbrev pub AreBound : Program → Type 0
AreBound p = (pid : ℕ) (f : Function) → function_at p.functions pid ≡ Some f → IsBound f

-- A call of a routine does what the call of its function does, in every world, so for every input and every number of
-- turns, and for any list of arguments.
abbrev pub CallsMeanTheSame : Type 0
CallsMeanTheSame =
    (p : Program) (q : IlProgram) (entry : ℕ → ℕ) (count : ℕ → ℕ → ℕ) → IsLowered p q entry count → AreBound p →
    (pid : ℕ) (args : List ℕ) (w : World (Unit {0})) → act q pid args w ≡ call_function p pid args w

-- the world as a program starts whose objects begin so
abbrev pub world_at_start : (ℕ → ℕ → ℕ) → List ℕ → ℕ → World (Unit {0})
world_at_start start input turns = record { objects = start; input = input; output = []; turns = turns; log = tt }

-- A program whose objects begin with the same words runs as its functions do from `main`, for every input and every
-- number of turns.
abbrev pub RunsMeanTheSame : Type 0
RunsMeanTheSame =
    (p : Program) (q : IlProgram) (entry : ℕ → ℕ) (count : ℕ → ℕ → ℕ) → IsLowered p q entry count → AreBound p →
    (start : ℕ → ℕ → ℕ) → ((g i : ℕ) → initial_word q.objects g i ≡ start g i) →
    (input : List ℕ) (turns : ℕ) → il_run q input turns ≡ run_of (call_function p (main_pid q.shapes) [] (world_at_start start input turns))

-- The size of a routine is counted by its numbers.
abbrev pub SizesAreNumbers : Type 0
SizesAreNumbers = (entry : ℕ) (count : ℕ → ℕ) (f : Function) → size (lowered entry count f) ≡ (last_numbers f).size
