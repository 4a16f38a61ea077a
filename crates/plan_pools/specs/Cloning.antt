-- What a state of the plan is asked before clones are made of it.
use Rattle.std.specs.Prelude.{◌≡◌, ◌<◌, ℕ, Bool, true, false, List, [], ◌∷◌, length, IsSome, ⊤, if◌then◌else◌}
use Rattle.std.specs.List.{AllByRecursion}
use Rattle.il_core.specs.Limits.{IsWithinLimits, max_pids, max_routines}
use Rattle.il_core.specs.Program.{main_pid, routine_at}
use Rattle.il_core.specs.Valid.{IsProgram}
use Rattle.il_core.specs.declared.shape.ShapeRow.{ShapeRow}
use Rattle.il_laws.specs.Keeping.{with_each}
use Rattle.plan_laws.specs.Groups.{Taken, groups}
use Rattle.plan_laws.specs.Plan.{State, add_clone, add_clones, each_routine, retargeted}
use Rattle.plan_laws.specs.Summary.{summaries}
use Rattle.plan_pools.specs.MoveLaws.{AreMovesOf}
use Rattle.plan_pools.specs.Retargeting.{moved}
use Rattle.plan_pools.specs.declared.moves.CallerMoves.{CallerMoves}

-- A new group can get its clone: the program is valid and so it is with the clone, whose PID is the next one; the callee stands, and
-- each routine with the clone among them is within the limits.
pub record CanAdd (names : List ShapeRow) (t : Taken) (st : State) : Type 0 where
  pub valid : IsProgram st.program
  pub valid_then : IsProgram (add_clone names t st).program
  pub within : AllByRecursion IsWithinLimits (add_clone names t st).program.routines
  pub next : t.clone ≡ st.next
  pub in_range : st.next < max_pids
  pub room : length st.program.routines < max_routines
  pub callee : IsSome (routine_at st.program.routines t.group.callee)

-- a group asks for that where it is new
abbrev pub CanAddIf : Bool → List ShapeRow → Taken → State → Type 0
CanAddIf true names t st = CanAdd names t st
CanAddIf false names t st = ⊤

-- so can each group in turn
abbrev pub CanAddAll : List ShapeRow → List Taken → State → Type 0
CanAddAll names [] st = ⊤
CanAddAll names (t ∷ ts) st = CanAddIf t.is_new names t st × CanAddAll names ts (if t.is_new then add_clone names t st else st)

-- the groups of a state that are accepted under a limit of the cost
abbrev pub groups_in : ℕ → ℕ → State → List Taken
groups_in main limit st = groups (summaries st.program) st.table main st.next limit

-- the state with their clones added
abbrev pub with_clones : List ShapeRow → ℕ → ℕ → State → State
with_clones names main limit st = add_clones names (groups_in main limit st) st

-- and with the calls of the routines that stood before sent to the clones of the table
abbrev pub sent : List ShapeRow → ℕ → ℕ → State → State
sent names main limit st =
    let a = with_clones names main limit st in
    each_routine (retargeted (summaries a.program) a.table (main_pid a.program.shapes) st.next) a

-- the two states of this step
abbrev pub cloning_states : List ShapeRow → ℕ → ℕ → State → List State
cloning_states names main limit st = with_clones names main limit st ∷ sent names main limit st ∷ []

-- Clones may be made of the state under this limit: the clones of its table have PIDs, each accepted group can get its own, the programs
-- are valid with the same main, and moves that say what the accepted groups say give the retargeted program.
pub record MayClone (names : List ShapeRow) (main limit : ℕ) (st : State) : Type 0 where
  pub rows : AllByRecursion (λ row. row.clone < max_pids) st.table
  pub add : CanAddAll names (groups_in main limit st) st
  pub added : IsProgram (with_clones names main limit st).program
  pub added_main : main_pid (with_clones names main limit st).program.shapes ≡ main
  pub sent_valid : IsProgram (sent names main limit st).program
  pub moves : (ms : List CallerMoves) → AreMovesOf (groups_in main limit st) ms
      → with_each (with_clones names main limit st).program (moved ms) ≡ (sent names main limit st).program
