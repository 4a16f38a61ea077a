-- A plan that is made in pools.
use Rattle.std.specs.Prelude.{◌≡◌, ◌≢◌, ◌<◌, ◌*◌, ◌^◌, ℕ, Bool, true, List, length, Contains, Some, ⊤}
use Rattle.outside.specs.Faults.{Rose}
use Rattle.il_core.specs.Program.{main_pid, routine_at}
use Rattle.il_core.specs.Routine.{RoutineParts}
use Rattle.il_core.specs.Size.{cost}
use Rattle.il_core.specs.Valid.{IsProgram}
use Rattle.il_core.specs.declared.program.IlProgram.{IlProgram}
use Rattle.il_core.specs.declared.shape.ShapeRow.{ShapeRow}
use Rattle.compact_form.specs.Compact.{compact}
use Rattle.compact_form.specs.declared.body.RoutineBody.{RoutineBody}
use Rattle.naim_core.specs.declared.event.Failure.{Failure}
use Rattle.naim_core.specs.declared.event.Failure.TheVariants as failure
use Rattle.naim_loader.specs.Paged.{Paged, IsTrusted}
use Rattle.one_owner.specs.Alone.{IsResting}
use Rattle.plan_pools.specs.Contents.{HavePools, IsContents}
use Rattle.plan_pools.specs.Noting.{AllNote, GoesOn}

-- some program of these has a routine q whose compact form has so many bytes
pub record IsNeed (ps : List IlProgram) (q need : ℕ) : Type 0 where
  pub program : IlProgram
  pub is_one : Contains ps program
  pub routine : RoutineParts
  pub is : routine_at program.routines q ≡ Some routine
  pub size : need ≡ length (compact routine)

-- a cost that a word of 64 bits can tell is told
abbrev pub IsCost : ℕ → IlProgram → Type 0
IsCost n p = cost p.routines < 2 ^ 64 → n ≡ cost p.routines

module _ {D : Type 0} (reach : D → ℕ) (honest : D → Bool) (faults : D → ℕ) where
  -- The pools, over a trusted disk, have the routines of this valid program with these shapes and this main.
  pub record Holds (l : Paged RoutineBody (Unit {0}) D) (rows : List ShapeRow) (main : ℕ) (p : IlProgram) : Type 0 where
    pub trusted : IsTrusted reach honest l
    pub valid : IsProgram p
    pub shapes : p.shapes ≡ rows
    pub main_is : main_pid p.shapes ≡ main
    pub contents : IsContents l p

  -- from that program on these were noted, and the pools hold the last of them
  pub record IsReached (noted : List (List (ℕ × RoutineBody))) (new : Paged RoutineBody (Unit {0}) D) (rows : List ShapeRow) (main : ℕ)
      (programs : List IlProgram) (last : IlProgram) : Type 0 where
    pub holds : Holds new rows main last
    pub notes : AllNote noted programs

  -- The pools rest and have the routines of the rows that are left. Where they held a valid program over a trusted disk, the
  -- trail has gained notes of these programs, made of it, and the pools hold this one.
  pub record IsMade (programs : IlProgram → List IlProgram) (last : IlProgram → IlProgram) (rows : List ShapeRow) (main : ℕ)
      (old new : Paged RoutineBody (Unit {0}) D) (left : List ShapeRow) : Type 0 where
    pub rests : IsResting new
    pub pools : HavePools new left
    pub noted : List (List (ℕ × RoutineBody))
    pub goes : GoesOn faults noted old new
    pub program : (p : IlProgram) → Holds old rows main p → IsReached noted new left main (programs p) (last p)

  -- Why it stopped: the disk's count rose; a record of a disk that isn't trusted has another SHA-256 than the one that was kept,
  -- or spells no such routine; the pools didn't hold a valid program over a trusted disk; a routine's compact form is longer than
  -- the limit, and where they did, it is one of these programs'; or memory was wanting.
  abbrev pub PlanCause : (IlProgram → List IlProgram) → List ShapeRow → ℕ → Paged RoutineBody (Unit {0}) D → ℕ → ℕ → Failure → Type 0
  PlanCause programs rows main l before now failure.Repository = Rose before now
  PlanCause programs rows main l before now (failure.Damaged place kept found) =
      (found ≢ kept) × ((p : ℕ) × (place ≡ p * l.core.limit)) × (IsTrusted reach honest l → ⊥)
  PlanCause programs rows main l before now (failure.Unreadable place) = ((p : ℕ) × (place ≡ p * l.core.limit)) × (IsTrusted reach honest l → ⊥)
  PlanCause programs rows main l before now (failure.Unfit q) = (p : IlProgram) → Holds l rows main p → ⊥
  PlanCause programs rows main l before now (failure.TooSmall q need limit) =
      (limit ≡ l.core.limit) × (limit < need) × ((p : IlProgram) → Holds l rows main p → IsNeed (programs p) q need)
  PlanCause programs rows main l before now failure.Memory = ⊤

  -- the failure is kept from now on, for that cause, and the disk is at home
  pub record StopsMaking (programs : IlProgram → List IlProgram) (rows : List ShapeRow) (main : ℕ) (old new : Paged RoutineBody (Unit {0}) D)
      (e : Failure) : Type 0 where
    pub kept : new.core.failure ≡ Some e
    pub home : new.home ≡ true
    pub noted : List (List (ℕ × RoutineBody))
    pub goes : GoesOn faults noted old new
    pub cause : PlanCause programs rows main old (faults old.disk) (faults new.disk) e
