-- A state in pools that gets the new clones of accepted groups.
use Rattle.std.specs.Prelude.{◌≡◌, ◌&&◌, ◌∷◌, ℕ, Bool, true, List, [], length, map, Some, is_some, nat_eq, nat_lt, not, if◌then◌else◌}
use Rattle.il_core.specs.Limits.{max_pids, max_routines}
use Rattle.il_core.specs.declared.shape.ShapeRow.{ShapeRow}
use Rattle.il_laws.specs.Growing.{NewClone}
use Rattle.plan_laws.specs.Groups.{Taken}
use Rattle.plan_laws.specs.Plan.{State, add_clone, add_clones, clone_name, root_of}
use Rattle.compact_form.specs.declared.body.RoutineBody.{RoutineBody}
use Rattle.clone_groups.specs.Fixing.{fixed_of}
use Rattle.clone_groups.specs.Grouping.{accepted}
use Rattle.clone_groups.specs.declared.groups.Group.{Group}
use Rattle.clone_names.specs.Made.{Clones, next_pid}
use Rattle.clone_pools.specs.States.{GrowsOn, HoldsState}
use Rattle.clone_pools.specs.declared.progress.Progress.{Progress}
use Rattle.naim_core.specs.declared.event.Failure.{Failure}
use Rattle.naim_loader.specs.Paged.{Paged, kept_at}
use Rattle.plan_pools.specs.Cloning.{CanAddAll, CanAddIf}
use Rattle.plan_pools.specs.Planning.{IsNeed}
use Rattle.plan_pools.specs.Stopping.{InlineCause}

-- the clone that a new group wants, after these
abbrev pub wanted_of : List ShapeRow → Clones → Group → NewClone
wanted_of names c g =
    record { callee = g.callee; fixed = fixed_of g.fixed; pid = g.clone; name = clone_name names c.made (root_of c.made g.callee) }

-- a clone of this routine more
abbrev pub with_made : ℕ → Clones → Clones
with_made callee c = record c { made = record { clone = next_pid c; root = root_of c.made callee } ∷ c.made }

-- a new group can get its clone: that has the next PID, which has no pool, the callee has one, and there is room for one more
abbrev pub is_fit : {B D : Type 0} → Paged RoutineBody B D → ℕ → Group → Bool
is_fit l next g =
    nat_eq g.clone next && nat_lt g.callee next && nat_lt next max_pids && nat_lt (length l.core.pools) max_routines
    && is_some (kept_at l g.callee) && not (is_some (kept_at l next))

-- the state with a group's clone, if that is new
abbrev pub with_taken : List ShapeRow → Taken → State → State
with_taken names t st = if t.is_new then add_clone names t st else st

module _ {D : Type 0} (reach : D → ℕ) (honest : D → Bool) (faults : D → ℕ) where
  -- A step that stopped: the failure is kept from now on, the disk is at home, and there is a cause.
  pub record StopsGrowing (unfit : ℕ → Type 0) (needs : ℕ → ℕ → Type 0) (old : Paged RoutineBody (Unit {0}) D) (x : Progress)
      (new : Paged RoutineBody (Unit {0}) D) (e : Failure) : Type 0 where
    pub kept : new.core.failure ≡ Some e
    pub home : new.home ≡ true
    pub next_now : ℕ
    pub grows : GrowsOn faults [] old x.next new next_now
    pub cause : InlineCause reach honest faults unfit needs old (faults old.disk) (faults new.disk) e

  module _ (main : ℕ) (names : List ShapeRow) where
    -- no state is held to which this group's clone can be added
    abbrev pub NoClone : Group → Paged RoutineBody (Unit {0}) D → Progress → ℕ → Type 0
    NoClone g l x q = (t : Taken) (st : State) → accepted t ≡ g → CanAddIf t.is_new names t st → HoldsState reach honest faults main l x st → ⊥

    -- a routine of the state with the group's clone has so many bytes in its compact form
    abbrev pub CloneNeeds : Group → Paged RoutineBody (Unit {0}) D → Progress → ℕ → ℕ → Type 0
    CloneNeeds g l x q need =
        (t : Taken) (st : State) → accepted t ≡ g → CanAddIf t.is_new names t st → HoldsState reach honest faults main l x st
        → IsNeed ((with_taken names t st).program ∷ []) q need

    -- why a group's clone wasn't added
    abbrev pub StopsClone : Group → Paged RoutineBody (Unit {0}) D → Progress → Paged RoutineBody (Unit {0}) D → Failure → Type 0
    StopsClone g old x = StopsGrowing (NoClone g old x) (CloneNeeds g old x) old x

    -- no state is held to which these groups' clones can be added
    abbrev pub NoClones : List Group → Paged RoutineBody (Unit {0}) D → Progress → ℕ → Type 0
    NoClones gs l x q = (ts : List Taken) (st : State) → map accepted ts ≡ gs → CanAddAll names ts st → HoldsState reach honest faults main l x st → ⊥

    -- a routine of the state with their clones has so many bytes
    abbrev pub ClonesNeed : List Group → Paged RoutineBody (Unit {0}) D → Progress → ℕ → ℕ → Type 0
    ClonesNeed gs l x q need =
        (ts : List Taken) (st : State) → map accepted ts ≡ gs → CanAddAll names ts st → HoldsState reach honest faults main l x st
        → IsNeed ((add_clones names ts st).program ∷ []) q need

    -- why clones of accepted groups weren't all added
    abbrev pub StopsClones : List Group → Paged RoutineBody (Unit {0}) D → Progress → Paged RoutineBody (Unit {0}) D → Failure → Type 0
    StopsClones gs old x = StopsGrowing (NoClones gs old x) (ClonesNeed gs old x) old x
