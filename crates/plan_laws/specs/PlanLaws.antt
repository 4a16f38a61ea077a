-- The laws of the plan.
use Rattle.std.specs.Prelude.{◌≡◌, ℕ, suc, ◌+◌, ◌*◌, ◌≤◌, List, [], ◌∷◌, Some, length, slice_get, sum, ⊤}
use Rattle.std.specs.List.{AllByRecursion}
use Rattle.il_core.specs.declared.program.IlProgram.{IlProgram}
use Rattle.il_core.specs.declared.shape.ShapeRow.{ShapeRow}
use Rattle.il_core.specs.Limits.{IsWithinLimits}
use Rattle.il_core.specs.Program.{routine_at}
use Rattle.il_core.specs.Routine.{RoutineParts}
use Rattle.il_core.specs.Size.{size, cost}
use Rattle.il_core.specs.Valid.{IsProgram}
use Rattle.il_core.specs.Meaning.{il_run}
use Rattle.il_laws.specs.Keeping.{MayFollow}
use Rattle.il_laws.specs.Table.{IsRight, HasCalleesShape}
use Rattle.plan_laws.specs.Inlining.{inlined_routine, inlined_routines}
use Rattle.plan_laws.specs.Numbers.{Choice, Numbers, inlined_numbers, cost_after}
use Rattle.plan_laws.specs.Plan.{State, Pass, limit_of, passes, plan_states, plan, final}
use Rattle.plan_laws.specs.Summary.{summary, summaries}

-- no name has a `$`
abbrev pub HasNoDollar : ShapeRow → Type 0
HasNoDollar row = AllByRecursion (λ c. c ≡ 36 → ⊥) row.name

-- a first program: valid, and no name has a `$`
pub record IsFirst (p : IlProgram) : Type 0 where
  pub valid : IsProgram p
  pub names : AllByRecursion HasNoDollar p.shapes

abbrev pub SameRun : IlProgram → IlProgram → Type 0
SameRun p q = (input : List ℕ) (turns : ℕ) → il_run q input turns ≡ il_run p input turns

-- one program may follow another, and runs alike
pub record Succeeds (p q : IlProgram) : Type 0 where
  pub follows : MayFollow p q
  pub run : SameRun p q

-- each program succeeds the one before it
abbrev pub AllSucceed : IlProgram → List IlProgram → Type 0
AllSucceed p [] = ⊤
AllSucceed p (q ∷ qs) = Succeeds p q × AllSucceed q qs

abbrev pub InTurn : List IlProgram → Type 0
InTurn [] = ⊤
InTurn (p ∷ ps) = AllSucceed p ps

-- Each program of the plan is valid, keeps what each routine does that stood before it, and runs as the one before.
abbrev pub PlanFollows : Type 0
PlanFollows = (p : IlProgram) → IsFirst p → (budget passes : ℕ) → InTurn (plan p budget passes)

-- The last one runs as the first one.
abbrev pub FinalRuns : Type 0
FinalRuns = (p : IlProgram) → IsFirst p → (budget passes : ℕ) → SameRun p (final p budget passes)

-- a table whose rows are right, and whose clones take their callees' places in calls
pub record HasRightTable (st : State) : Type 0 where
  pub right : AllByRecursion (IsRight st.program) st.table
  pub shapes : AllByRecursion (HasCalleesShape st.program) st.table

-- Each row of the clone table is right, in every state of the plan.
abbrev pub RowsRight : Type 0
RowsRight = (p : IlProgram) → IsFirst p → (budget passes : ℕ) → AllByRecursion HasRightTable (plan_states p budget passes)

-- each program of a pass costs at most so much
pub record IsWithin (limit : ℕ) (x : Pass) : Type 0 where
  pub added : cost x.added.program.routines ≤ limit
  pub retargeted : cost x.retargeted.program.routines ≤ limit
  pub simplified : cost x.simplified.program.routines ≤ limit
  pub inlined : cost x.inlined.program.routines ≤ limit
  pub simplified_again : cost x.simplified_again.program.routines ≤ limit
  pub pruned : cost x.pruned.program.routines ≤ limit

-- Each program of pass k + 1 costs at most that pass's limit.
abbrev pub PassesWithin : Type 0
PassesWithin = (p : IlProgram) → IsFirst p → (budget n k : ℕ) (x : Pass) → slice_get (passes p budget n) k ≡ Some x
    → IsWithin (limit_of (cost p.routines) budget n (suc k)) x

-- The budget is kept: the cost rises by at most so many percent.
abbrev pub BudgetKept : Type 0
BudgetKept = (p : IlProgram) → IsFirst p → (budget n : ℕ)
    → 100 * cost (final p budget n).routines ≤ cost p.routines * (100 + budget)

-- a routine has these numbers
pub record HasNumbers (r : RoutineParts) (n : Numbers) : Type 0 where
  pub size : size r ≡ n.size
  pub regs : r.regs ≡ n.regs
  pub arrays : length r.arrays ≡ n.arrays
  pub elements : sum r.arrays ≡ n.elements

-- The inlined routine has exactly the numbers that the choice computes, whatever sites were accepted.
abbrev pub NumbersKnown : Type 0
NumbersKnown = (p : IlProgram) → IsProgram p → (cs : List Choice) (x : ℕ) (r : RoutineParts) → routine_at p.routines x ≡ Some r
    → HasNumbers (inlined_routine p.routines cs r) (inlined_numbers (summaries p) cs (summary r))

-- so the cost is the one that it computes
abbrev pub CostKnown : Type 0
CostKnown = (p : IlProgram) → IsProgram p → (cs : List Choice) → cost (inlined_routines p.routines cs) ≡ cost_after (summaries p) cs

-- Where each routine of the first program is within the limits of the language, so is each of every program.
abbrev pub LimitsKept : Type 0
LimitsKept = (p : IlProgram) → IsFirst p → AllByRecursion IsWithinLimits p.routines → (budget n : ℕ)
    → AllByRecursion (λ q. AllByRecursion IsWithinLimits q.routines) (plan p budget n)
