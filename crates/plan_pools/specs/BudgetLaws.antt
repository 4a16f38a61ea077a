-- What a pass is where nothing may be spent.
use Rattle.std.specs.Prelude.{◌≡◌, ◌≤◌, ◌++◌, ℕ, suc, List, [], ◌∷◌}
use Rattle.il_core.specs.Program.{main_pid}
use Rattle.il_core.specs.Size.{cost}
use Rattle.il_core.specs.Valid.{IsProgram}
use Rattle.il_core.specs.declared.program.IlProgram.{IlProgram}
use Rattle.il_core.specs.declared.shape.ShapeRow.{ShapeRow}
use Rattle.il_laws.specs.Simplify.{simplify}
use Rattle.plan_laws.specs.Plan.{Pass, State, each_routine, final, one_pass, plan, prune}
use Rattle.plan_laws.specs.PlanLaws.{SameRun}
use Rattle.plan_pools.specs.Budgetless.{pass_programs, passed}

-- two rounds of `simplify` on all routines, and then the dead ones go
abbrev pub simplifying_pass : State → Pass
simplifying_pass st =
    let once = each_routine simplify st in
    record {
      added = st;
      retargeted = st;
      simplified = once;
      inlined = once;
      simplified_again = each_routine simplify once;
      pruned = prune (each_routine simplify once);
    }

-- With budget 0, where no clone was made, a pass is that and no more.
abbrev pub PassAtZero : Type 0
PassAtZero = (names : List ShapeRow) (limit : ℕ) (st : State) → st.table ≡ [] → one_pass names 0 limit st ≡ simplifying_pass st

-- and none is made in it
abbrev pub TableAtZero : Type 0
TableAtZero = (st : State) → st.table ≡ [] → (simplifying_pass st).pruned.table ≡ []

-- The plan of budget 0 begins with the program, and each pass adds its six programs of the last one.
pub record PlansAtZero (p : IlProgram) : Type 0 where
  pub none : plan p 0 0 ≡ p ∷ []
  pub more : (n : ℕ) → plan p 0 (suc n) ≡ plan p 0 n ++ pass_programs (final p 0 n)
  pub first : final p 0 0 ≡ p
  pub last : (n : ℕ) → final p 0 (suc n) ≡ passed (final p 0 n)

abbrev pub PlanAtZero : Type 0
PlanAtZero = (p : IlProgram) → PlansAtZero p

-- a valid program with the same main, that has the same runs and costs no more
pub record IsAsGood (p q : IlProgram) : Type 0 where
  pub valid : IsProgram q
  pub main : main_pid q.shapes ≡ main_pid p.shapes
  pub run : SameRun p q
  pub cost_is : cost q.routines ≤ cost p.routines

-- the last program is as good as the first one, whatever the names
abbrev pub FinalIsAsGood : Type 0
FinalIsAsGood = (p : IlProgram) → IsProgram p → (n : ℕ) → IsAsGood p (final p 0 n)
