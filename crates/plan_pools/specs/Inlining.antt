-- A program whose accepted calls are inlined in its pools.
use Rattle.std.specs.Prelude.{◌≡◌, ℕ, Bool, List, length, Some}
use Rattle.std.specs.List.{AllByRecursion}
use Rattle.il_core.specs.Limits.{IsWithinLimits}
use Rattle.il_core.specs.Program.{routine_at}
use Rattle.il_core.specs.Routine.{RoutineParts}
use Rattle.il_core.specs.Valid.{IsProgram}
use Rattle.il_core.specs.declared.program.IlProgram.{IlProgram}
use Rattle.il_core.specs.declared.shape.ShapeRow.{ShapeRow}
use Rattle.compact_form.specs.Compact.{compact}
use Rattle.compact_form.specs.declared.body.RoutineBody.{RoutineBody}
use Rattle.naim_loader.specs.Paged.{Paged, IsTrusted}
use Rattle.plan_pools.specs.Contents.{IsContents}
use Rattle.plan_laws.specs.ChoiceLaws.{AreCalls}
use Rattle.plan_laws.specs.Inlining.{inlined_routines}
use Rattle.plan_laws.specs.Numbers.{Choice}

-- Over a trusted disk the pools have the routines of this valid program with these shapes. The accepted calls are its own, and each
-- routine with all accepted callees is within the limits of the language.
pub record MayInline {B D : Type 0} (reach : D → ℕ) (honest : D → Bool) (l : Paged RoutineBody B D) (rows : List ShapeRow) (cs : List Choice)
    (p : IlProgram) : Type 0 where
  pub trusted : IsTrusted reach honest l
  pub valid : IsProgram p
  pub shapes : p.shapes ≡ rows
  pub contents : IsContents l p
  pub calls : AreCalls p.routines cs
  pub limits : AllByRecursion IsWithinLimits (inlined_routines p.routines cs)

-- the compact form of the routine q with all accepted callees has so many bytes
pub record IsInlinedNeed (p : IlProgram) (cs : List Choice) (q need : ℕ) : Type 0 where
  pub routine : RoutineParts
  pub is : routine_at (inlined_routines p.routines cs) q ≡ Some routine
  pub size : need ≡ length (compact routine)
