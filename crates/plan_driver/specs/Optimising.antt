-- The plan of a program in pools, within a budget.
use Rattle.std.specs.Prelude.{◌≡◌, ℕ, suc, Bool, true, List, Some}
use Rattle.il_core.specs.declared.program.IlProgram.{IlProgram}
use Rattle.il_core.specs.declared.shape.ShapeRow.{ShapeRow}
use Rattle.compact_form.specs.declared.body.RoutineBody.{RoutineBody}
use Rattle.clone_pools.specs.States.{GrowsOn}
use Rattle.naim_core.specs.declared.event.Failure.{Failure}
use Rattle.naim_loader.specs.Paged.{Paged}
use Rattle.one_owner.specs.Alone.{IsResting}
use Rattle.plan_laws.specs.Orders.{greatest}
use Rattle.plan_pools.specs.Contents.{HavePools}
use Rattle.plan_pools.specs.Planning.{Holds, IsReached, PlanCause}

-- the PID that the first clone takes
abbrev pub first_free : List ShapeRow → ℕ
first_free rows = greatest (λ row. suc row.pid) rows

module _ {D : Type 0} (reach : D → ℕ) (honest : D → Bool) (faults : D → ℕ) where
  -- The pools rest and have the routines of the rows that are left; the trail's insertions are followed by those of the clones.
  -- Where they held a valid program over a trusted disk, the trail has gained notes of these programs, made of it, and the pools
  -- hold this one.
  pub record Optimises (programs : IlProgram → List IlProgram) (last : IlProgram → IlProgram) (rows : List ShapeRow) (main : ℕ)
      (old new : Paged RoutineBody (Unit {0}) D) (left : List ShapeRow) : Type 0 where
    pub rests : IsResting new
    pub pools : HavePools new left
    pub noted : List (List (ℕ × RoutineBody))
    pub next_now : ℕ
    pub grows : GrowsOn faults noted old (first_free rows) new next_now
    pub program : (p : IlProgram) → Holds reach honest faults old rows main p → IsReached reach honest faults noted new left main (programs p) (last p)

  -- the failure is kept from now on, for that cause, and the disk is at home
  pub record StopsOptimising (programs : IlProgram → List IlProgram) (rows : List ShapeRow) (main : ℕ) (old new : Paged RoutineBody (Unit {0}) D)
      (e : Failure) : Type 0 where
    pub kept : new.core.failure ≡ Some e
    pub home : new.home ≡ true
    pub noted : List (List (ℕ × RoutineBody))
    pub next_now : ℕ
    pub grows : GrowsOn faults noted old (first_free rows) new next_now
    pub cause : PlanCause reach honest faults programs rows main old (faults old.disk) (faults new.disk) e
