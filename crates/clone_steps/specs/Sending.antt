-- The calls of accepted groups, sent to their clones in pools.
use Rattle.std.specs.Prelude.{◌≡◌, ◌≤◌, ◌<◌, ◌&&◌, ◌∷◌, ℕ, Bool, true, List, [], map, Some, IsSome, is_some, nat_lt}
use Rattle.std.specs.List.{AllByRecursion, list_all}
use Rattle.il_core.specs.Limits.{max_pids}
use Rattle.il_core.specs.Program.{routine_at}
use Rattle.il_core.specs.Valid.{IsProgram}
use Rattle.il_core.specs.declared.program.IlProgram.{IlProgram}
use Rattle.il_core.specs.declared.shape.ShapeRow.{ShapeRow}
use Rattle.il_laws.specs.Keeping.{with_each}
use Rattle.compact_form.specs.declared.body.RoutineBody.{RoutineBody}
use Rattle.clone_groups.specs.Grouping.{accepted}
use Rattle.clone_groups.specs.declared.groups.Group.{Group}
use Rattle.plan_laws.specs.Groups.{Taken}
use Rattle.plan_laws.specs.Plan.{State}
use Rattle.naim_core.specs.declared.event.Failure.{Failure}
use Rattle.naim_loader.specs.Paged.{Paged, kept_at}
use Rattle.one_owner.specs.Alone.{IsResting}
use Rattle.plan_pools.specs.Cloning.{groups_in}
use Rattle.plan_pools.specs.Contents.{HavePools}
use Rattle.plan_pools.specs.MoveLaws.{AreMovesOf}
use Rattle.plan_pools.specs.Noting.{GoesOn}
use Rattle.plan_pools.specs.Planning.{Holds, IsNeed, IsReached}
use Rattle.plan_pools.specs.Retargeting.{callers_of, moved}
use Rattle.plan_pools.specs.Stopping.{InlineCause}
use Rattle.plan_pools.specs.declared.moves.CallerMoves.{CallerMoves}
use Rattle.clone_pools.specs.States.{HoldsState}
use Rattle.clone_pools.specs.declared.progress.Progress.{Progress}

-- whether a group's members have callers below n, and its clone is a PID
abbrev pub is_below : ℕ → Group → Bool
is_below n g = list_all (λ m. nat_lt m.0 n) g.members && nat_lt g.clone max_pids

-- whether each caller has a pool
abbrev pub have_pools : {B D : Type 0} → Paged RoutineBody B D → List CallerMoves → Bool
have_pools l ms = list_all (λ m. is_some (kept_at l m.caller)) ms

-- The moves make q of p: their callers are routines of p, and q is valid.
pub record MayMove (ms : List CallerMoves) (p q : IlProgram) : Type 0 where
  pub callers : AllByRecursion (λ c. IsSome (routine_at p.routines c)) (callers_of ms)
  pub valid : IsProgram q
  pub same : with_each p (moved ms) ≡ q

-- The moves of accepted groups make q of p: the clones have PIDs, the members' callers are routines of p, and q is valid.
pub record MaySend (gs : List Group) (p q : IlProgram) : Type 0 where
  pub groups : List Taken
  pub are : gs ≡ map accepted groups
  pub clones : AllByRecursion (λ t. t.clone < max_pids) groups
  pub callers : AllByRecursion (λ t. AllByRecursion (λ m. IsSome (routine_at p.routines m.caller)) t.group.members) groups
  pub valid : IsProgram q
  pub moves : (ms : List CallerMoves) → AreMovesOf groups ms → with_each p (moved ms) ≡ q

module _ {D : Type 0} (reach : D → ℕ) (honest : D → Bool) (faults : D → ℕ) (main : ℕ) where
  -- of each state that is held, these are the accepted groups
  abbrev pub AreGroupsOf : ℕ → List Group → Paged RoutineBody (Unit {0}) D → Progress → Type 0
  AreGroupsOf limit gs l x = (st : State) → HoldsState reach honest faults main l x st → gs ≡ map accepted (groups_in main limit st)

  module _ (May : IlProgram → IlProgram → Type 0) (rows : List ShapeRow) where
    -- The pools rest and have the routines of the rows. Where they held a program of which another may be made, they hold that one,
    -- which was noted.
    pub record Turns (old new : Paged RoutineBody (Unit {0}) D) : Type 0 where
      pub rests : IsResting new
      pub pools : HavePools new rows
      pub noted : List (List (ℕ × RoutineBody))
      pub goes : GoesOn faults noted old new
      pub program : (p q : IlProgram) → May p q → Holds reach honest faults old rows main p
          → IsReached reach honest faults noted new rows main (q ∷ []) q

    -- no program is held of which another may be made
    abbrev pub NoTurn : Paged RoutineBody (Unit {0}) D → ℕ → Type 0
    NoTurn l n = (p q : IlProgram) → May p q → Holds reach honest faults l rows main p → ⊥

    -- a routine of the other has so many bytes in its compact form
    abbrev pub TurnNeeds : Paged RoutineBody (Unit {0}) D → ℕ → ℕ → Type 0
    TurnNeeds l n need = (p q : IlProgram) → May p q → Holds reach honest faults l rows main p → IsNeed (q ∷ []) n need

    -- the failure is kept from now on, for that cause, and the disk is at home
    pub record StopsTurning (old new : Paged RoutineBody (Unit {0}) D) (e : Failure) : Type 0 where
      pub kept : new.core.failure ≡ Some e
      pub home : new.home ≡ true
      pub noted : List (List (ℕ × RoutineBody))
      pub goes : GoesOn faults noted old new
      pub cause : InlineCause reach honest faults (NoTurn old) (TurnNeeds old) old (faults old.disk) (faults new.disk) e
