-- What the plan's last program is worth.
use Rattle.std.specs.Prelude.{◌≡◌, ◌≤◌, ◌+◌, ◌*◌, ℕ, Bool, List, nat_eq, if◌then◌else◌}
use Rattle.std.specs.List.{list_any}
use Rattle.il_core.specs.Program.{main_pid}
use Rattle.il_core.specs.Size.{cost}
use Rattle.il_core.specs.Valid.{IsProgram}
use Rattle.il_core.specs.declared.program.IlProgram.{IlProgram}
use Rattle.il_core.specs.declared.shape.ShapeRow.{ShapeRow}
use Rattle.plan_laws.specs.Plan.{final}
use Rattle.plan_laws.specs.PlanLaws.{SameRun}

-- a name with a `$`, as those of clones are; no name of C has one
abbrev pub has_dollar : ShapeRow → Bool
has_dollar row = list_any (nat_eq 36) row.name

-- the budget that is spent: none where some name has a `$`, since a clone's name might be taken
abbrev pub spendable : List ShapeRow → ℕ → ℕ
spendable rows budget = if list_any has_dollar rows then 0 else budget

-- a valid program with the same main, that has the same runs and costs at most so many percent more
pub record IsWorth (budget : ℕ) (p q : IlProgram) : Type 0 where
  pub valid : IsProgram q
  pub main : main_pid q.shapes ≡ main_pid p.shapes
  pub run : SameRun p q
  pub cost_is : 100 * cost q.routines ≤ cost p.routines * (100 + budget)

-- the plan's last program is worth its first one
abbrev pub PlanIsWorth : Type 0
PlanIsWorth = (p : IlProgram) → IsProgram p → (budget passes : ℕ) → IsWorth budget p (final p (spendable p.shapes budget) passes)
