-- A plan that begins.
use Rattle.std.specs.Prelude.{◌≡◌, ◌≤◌, ◌^◌, ℕ, Bool, List, [], ◌∷◌, ⊤}
use Rattle.std.specs.List.{AllByRecursion}
use Rattle.il_core.specs.Limits.{IsPid, IsWithinLimits}
use Rattle.il_core.specs.Size.{cost}
use Rattle.il_core.specs.declared.program.IlProgram.{IlProgram}
use Rattle.il_core.specs.declared.shape.ShapeRow.{ShapeRow}
use Rattle.compact_form.specs.declared.body.RoutineBody.{RoutineBody}
use Rattle.clone_pools.specs.States.{GrowsOn, HoldsState, IsReady}
use Rattle.clone_pools.specs.declared.progress.Progress.{Progress}
use Rattle.naim_core.specs.declared.event.Failure.{Failure}
use Rattle.naim_core.specs.declared.event.Failure.TheVariants as failure
use Rattle.naim_loader.specs.Paged.{Paged}
use Rattle.plan_laws.specs.Plan.{at_first}
use Rattle.plan_pools.specs.Noting.{AllNote}
use Rattle.plan_pools.specs.Planning.{Holds}
use Rattle.plan_driver.specs.Optimising.{first_free}

-- the plan on its way has these shapes and no clone yet; the names are those of the shapes
pub record Begins (rows : List ShapeRow) (n : ℕ) (names : List ShapeRow) (n_now : ℕ) (x : Progress) : Type 0 where
  pub names_are : names ≡ rows
  pub cost_is : n_now ≡ n
  pub shapes : x.shapes ≡ rows
  pub next : x.next ≡ first_free rows
  pub made : x.made ≡ record { first = first_free rows; made = [] }
  pub table_is : x.table ≡ []

-- why none begins: some PID is above the limit of the language, or memory was wanting
abbrev pub BeginCause : List ShapeRow → Failure → Type 0
BeginCause rows failure.Repository = ⊥
BeginCause rows (failure.Damaged place kept found) = ⊥
BeginCause rows (failure.Unreadable place) = ⊥
BeginCause rows (failure.Unfit q) = AllByRecursion (λ row. IsPid row.pid) rows → ⊥
BeginCause rows (failure.TooSmall q need limit) = ⊥
BeginCause rows failure.Memory = ⊤

module _ {D : Type 0} (reach : D → ℕ) (honest : D → Bool) (faults : D → ℕ) where
  -- a program that was held is held still, as the first state of its plan; its routines are within the limits, and it was measured
  pub record StartsWith (noted : List (List (ℕ × RoutineBody))) (new : Paged RoutineBody (Unit {0}) D) (main n : ℕ) (x : Progress) (p : IlProgram) :
      Type 0 where
    pub holds : HoldsState reach honest faults main new x (at_first p)
    pub notes : AllNote noted (p ∷ [])
    pub cost_is : n ≡ cost p.routines
    pub within : AllByRecursion IsWithinLimits p.routines

  -- The pools are ready for a plan with these names; the trail has gained a note of the program that they held.
  pub record Starts (rows : List ShapeRow) (main : ℕ) (old new : Paged RoutineBody (Unit {0}) D) (names : List ShapeRow) (n : ℕ) (x : Progress) :
      Type 0 where
    pub ready : IsReady new x
    pub names_are : names ≡ rows
    pub most : n ≤ 2 ^ 44
    pub noted : List (List (ℕ × RoutineBody))
    pub grows : GrowsOn faults noted old (first_free rows) new x.next
    pub program : (p : IlProgram) → Holds reach honest faults old rows main p → StartsWith noted new main n x p
