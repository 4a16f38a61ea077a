-- The meaning of linked modules. An external name has one PID in all modules, and stands for its one definition; a
-- static name has a PID of its own in each module, by its program name. So a program is the functions of all its modules
-- and the table of its names, and each name in a tree stands for what its PID has.
use Rattle.std.specs.Prelude.{ℕ, List, [], Option, Some, None, map, slice_index, codes, if◌then◌else◌}
use Rattle.hlo_num.specs.declared.word.Word.{Word}
use Rattle.il_core.specs.World.{World}
use Rattle.il_core.specs.Meaning.{Run, run_of}
use Rattle.sym_tables.specs.declared.symbol.Symbol.{Symbol}
use Rattle.sym_tables.specs.Entities.{words}
use Rattle.sym_tables.specs.Symbols.{is_declared}
use Rattle.sym_tables.specs.Table.{Table, pid_of, symbol_at}
use Rattle.c_typed.specs.declared.function.TypedModule.{TypedModule}
use Rattle.c_typed.specs.Meaning.{Program, call_function}
use Rattle.c_typed.specs.Trees.{Function}
use Rattle.c_typed.specs.Views.{functions_of}

-- how many words the object of a PID has: one that is defined, or tentatively, in some module; none where the PID
-- stands for no such object
abbrev pub words_of : Option Symbol → ℕ
words_of None = 0
words_of (Some s) = if is_declared s.standing then 0 else words s.entity

abbrev pub words_at : Table → ℕ → ℕ
words_at syms pid = words_of (symbol_at syms pid)

-- an object begins with the constants of its definition, and then zeros
abbrev pub word_at_start : Option Symbol → ℕ → ℕ
word_at_start None i = 0
word_at_start (Some s) i = if is_declared s.standing then 0 else slice_index (map (λ (w : Word). w.0) s.init) i

abbrev pub words_at_start : Table → ℕ → ℕ → ℕ
words_at_start syms pid i = word_at_start (symbol_at syms pid) i

abbrev pub program_of : List Function → Table → Program
program_of functions syms = record { functions = functions; words = words_at syms }

-- the world as the program starts
abbrev pub at_start : {S : Type 0} → S → Table → List ℕ → ℕ → World S
at_start log syms input turns = record { objects = words_at_start syms; input = input; output = []; turns = turns; log = log }

-- what functions with these names do: `main` is called, which is no turn, and returning from it is an exit
abbrev pub run_main : List Function → Table → List ℕ → ℕ → Option ℕ → Option Run
run_main functions syms input turns None = None
run_main functions syms input turns (Some main) = run_of (call_function (program_of functions syms) main [] (at_start {S = Unit {0}} tt syms input turns))

abbrev pub run_functions : List Function → Table → List ℕ → ℕ → Option Run
run_functions functions syms input turns = run_main functions syms input turns (pid_of syms (codes "main"))

-- what linked modules do on an input with a number of turns: the output and the ending
abbrev pub c90_run : List TypedModule → Table → List ℕ → ℕ → Option Run
c90_run modules syms input turns = run_functions (functions_of modules) syms input turns
