-- One routine that gets a changed form.
use Rattle.std.specs.Prelude.{◌≡◌, ◌<◌, ℕ, List, length, ⊤}
use Rattle.outside.specs.Faults.{Rose}
use Rattle.il_core.specs.Routine.{RoutineParts}
use Rattle.il_core.specs.Valid.{IsValid}
use Rattle.il_core.specs.declared.shape.ShapeRow.{ShapeRow}
use Rattle.compact_form.specs.Compact.{compact}
use Rattle.compact_form.specs.declared.body.RoutineBody.{RoutineBody}
use Rattle.naim_core.specs.declared.event.Failure.{Failure}
use Rattle.naim_core.specs.declared.event.Failure.TheVariants as failure
use Rattle.naim_loader.specs.Paged.{Paged}
use Rattle.one_owner.specs.Answers.{Rewrites}
use Rattle.plan_pools.specs.declared.simplifying.Unmade.{Unmade}
use Rattle.plan_pools.specs.declared.simplifying.Unmade.TheVariants as unmade

-- why a routine has no changed form
abbrev pub failure_of : ℕ → Unmade → Failure
failure_of p unmade.Unfit = failure.Unfit p
failure_of p unmade.Memory = failure.Memory

-- p has the routine r from now on, and no other pool has changed
pub record Rewritten {D : Type 0} (faults : D → ℕ) (old new : Paged RoutineBody (Unit {0}) D) (p : ℕ) (r : RoutineParts) : Type 0 where
  pub body : RoutineBody
  pub routine : body.routine ≡ r
  pub rewrites : Rewrites faults old new p body tt

-- why r, of the pool p, wasn't changed by f: the disk's count rose, r isn't valid with the shapes, its changed form is too long
-- for the limit, or memory was wanting
abbrev pub RewriteCause : (RoutineParts → RoutineParts) → List ShapeRow → ℕ → RoutineParts → ℕ → ℕ → ℕ → Failure → Type 0
RewriteCause f rows p r limit before now failure.Repository = Rose before now
RewriteCause f rows p r limit before now (failure.Damaged place kept found) = ⊥
RewriteCause f rows p r limit before now (failure.Unreadable place) = ⊥
RewriteCause f rows p r limit before now (failure.Unfit q) = (q ≡ p) × (IsValid rows r → ⊥)
RewriteCause f rows p r limit before now (failure.TooSmall q need l) = (q ≡ p) × (need ≡ length (compact (f r))) × (l ≡ limit) × (limit < need)
RewriteCause f rows p r limit before now failure.Memory = ⊤
