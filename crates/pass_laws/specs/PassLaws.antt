-- What each pass of the plan may do.
use Rattle.std.specs.Prelude.{◌≡◌, ℕ, suc, List}
use Rattle.std.specs.List.{AllByRecursion}
use Rattle.il_core.specs.Limits.{IsWithinLimits}
use Rattle.il_core.specs.Program.{main_pid}
use Rattle.il_core.specs.Size.{cost}
use Rattle.il_core.specs.Valid.{IsProgram}
use Rattle.il_core.specs.declared.program.IlProgram.{IlProgram}
use Rattle.il_core.specs.declared.shape.ShapeRow.{ShapeRow}
use Rattle.il_laws.specs.Simplify.{simplify}
use Rattle.plan_laws.specs.Choosing.{choice}
use Rattle.plan_laws.specs.GroupLaws.{EachPass}
use Rattle.plan_laws.specs.Inlining.{inlined_routine}
use Rattle.plan_laws.specs.Plan.{State, Pass, at_first, each_routine, limit_of, passes, prune}
use Rattle.plan_laws.specs.PlanLaws.{IsFirst}
use Rattle.plan_laws.specs.Summary.{summaries}
use Rattle.plan_pools.specs.Cloning.{MayClone, sent, with_clones}

-- A state of the plan: its program is valid, has this main, and each of its routines is within the limits.
pub record IsPlanned (main : ℕ) (st : State) : Type 0 where
  pub valid : IsProgram st.program
  pub main_is : main_pid st.program.shapes ≡ main
  pub within : AllByRecursion IsWithinLimits st.program.routines

-- each routine with the callees of the choice under a limit of the cost
abbrev pub with_choice : ℕ → ℕ → State → State
with_choice main limit st = each_routine (inlined_routine st.program.routines (choice (summaries st.program) main limit)) st

-- the states that a pass has, each made of the one before
pub record HasStates (names : List ShapeRow) (main limit : ℕ) (st : State) (x : Pass) : Type 0 where
  pub added : x.added ≡ with_clones names main limit st
  pub retargeted : x.retargeted ≡ sent names main limit st
  pub simplified : x.simplified ≡ each_routine simplify x.retargeted
  pub inlined : x.inlined ≡ with_choice main limit x.simplified
  pub simplified_again : x.simplified_again ≡ each_routine simplify x.inlined
  pub pruned : x.pruned ≡ prune x.simplified_again

-- each of them is one of the plan, with the same main
pub record ArePlanned (main : ℕ) (x : Pass) : Type 0 where
  pub added : IsPlanned main x.added
  pub retargeted : IsPlanned main x.retargeted
  pub simplified : IsPlanned main x.simplified
  pub inlined : IsPlanned main x.inlined
  pub simplified_again : IsPlanned main x.simplified_again
  pub pruned : IsPlanned main x.pruned

-- A pass from a state of the plan on: clones may be made of it, the pass has the states that follow, and each is one of the plan.
pub record FitsPass (names : List ShapeRow) (main limit : ℕ) (st : State) (x : Pass) : Type 0 where
  pub start : IsPlanned main st
  pub may : MayClone names main limit st
  pub states : HasStates names main limit st x
  pub planned : ArePlanned main x

-- Where each routine of the first program is within the limits, each pass with a budget of one percent at least fits.
abbrev pub PassesClone : Type 0
PassesClone = (p : IlProgram) → IsFirst p → AllByRecursion IsWithinLimits p.routines → (budget n : ℕ)
    → EachPass (λ k st x. FitsPass p.shapes (main_pid p.shapes) (limit_of (cost p.routines) (suc budget) n k) st x) 1 (at_first p) (passes p (suc budget) n)
