-- Which routines are reached from one by calls, and programs with those alone.
use Rattle.std.specs.Prelude.{ℕ, zero, suc, ◌&&◌, ◌||◌, Bool, true, false, List, [], ◌∷◌, length, map, filter, nat_eq}
use Rattle.il_core.specs.declared.program.IlProgram.{IlProgram}
use Rattle.il_core.specs.declared.shape.ShapeRow.{ShapeRow}
use Rattle.il_core.specs.declared.shape.Shape.{Shape}
use Rattle.il_core.specs.declared.shape.Shape.TheVariants as shape
use Rattle.il_core.specs.Program.{main_pid}
use Rattle.il_core.specs.Routine.{RoutineParts}
use Rattle.il_laws.specs.Sites.{callees}

-- a node of the call graph: a routine and what it calls
pub record Caller : Type 0 where
  pub pid : ℕ
  pub callees : List ℕ

abbrev pub caller_of : RoutineParts → Caller
caller_of r = record { pid = r.pid; callees = callees r.blocks }

abbrev pub is_in : List ℕ → ℕ → Bool
is_in [] x = false
is_in (y ∷ ys) x = nat_eq y x || is_in ys x

-- whether a marked node calls it
abbrev pub is_called : List Bool → List Caller → ℕ → Bool
is_called [] cs pid = false
is_called (m ∷ ms) [] pid = false
is_called (m ∷ ms) (c ∷ cs) pid = (m && is_in c.callees pid) || is_called ms cs pid

-- the marks, and one more for each node of which the test holds
abbrev pub marked_too : (ℕ → Bool) → List Caller → List Bool → List Bool
marked_too test [] ms = ms
marked_too test (c ∷ cs) [] = []
marked_too test (c ∷ cs) (m ∷ ms) = (m || test c.pid) ∷ marked_too test cs ms

-- rounds of marking: each marks what a marked node calls
abbrev pub call_rounds : List Caller → ℕ → List Bool → List Bool
call_rounds cs zero ms = ms
call_rounds cs (suc n) ms = call_rounds cs n (marked_too (is_called ms cs) cs ms)

-- What is reached from a node: as many rounds as nodes, and one more, leave nothing to mark.
abbrev pub reached : List Caller → ℕ → List Bool
reached cs from = call_rounds cs (suc (length cs)) (map (λ c. nat_eq c.pid from) cs)

-- whether a routine is `from` itself, or one that a reached routine calls
abbrev pub is_reached : List Caller → ℕ → ℕ → Bool
is_reached cs from pid = nat_eq pid from || is_called (reached cs from) cs pid

-- The routines that `main` reaches.
abbrev pub is_live : IlProgram → ℕ → Bool
is_live p pid = is_reached (map caller_of p.routines) (main_pid p.shapes) pid

-- shapes of objects stay, those of routines with their routines
abbrev pub is_object : Shape → Bool
is_object (shape.Object words) = true
is_object (shape.Routine params value) = false

abbrev pub stays : (ℕ → Bool) → ShapeRow → Bool
stays keep row = is_object row.shape || keep row.pid

-- the program with the routines that are kept alone
abbrev pub with_kept : (ℕ → Bool) → IlProgram → IlProgram
with_kept keep p = record p { shapes = filter (stays keep) p.shapes; routines = filter (λ r. keep r.pid) p.routines }

-- The program without the routines that `main` doesn't reach.
abbrev pub pruned : IlProgram → IlProgram
pruned p = with_kept (is_live p) p
