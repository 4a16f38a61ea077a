-- States of the plan that are kept in pools, and steps from one to another.
use Rattle.std.specs.Prelude.{◌≡◌, ◌≤◌, ◌<◌, ◌+◌, ◌++◌, ◌∷◌, ℕ, zero, suc, Bool, true, List, [], length, map, Some}
use Rattle.std.specs.List.{AllByRecursion}
use Rattle.il_core.specs.declared.program.IlProgram.{IlProgram}
use Rattle.plan_laws.specs.Plan.{State}
use Rattle.compact_form.specs.declared.body.RoutineBody.{RoutineBody}
use Rattle.clone_names.specs.Made.{next_pid}
use Rattle.clone_pools.specs.declared.progress.Progress.{Progress}
use Rattle.naim_core.specs.declared.event.Failure.{Failure}
use Rattle.naim_loader.specs.Paged.{Paged}
use Rattle.one_owner.specs.Alone.{IsResting}
use Rattle.plan_pools.specs.Contents.{HavePools}
use Rattle.plan_pools.specs.Noting.{AllNote}
use Rattle.plan_pools.specs.Planning.{Holds, IsNeed}
use Rattle.plan_pools.specs.Stopping.{InlineCause}

-- The pools rest and have the routines of the shapes, whose PIDs are all below the next one, which follows the clones made.
pub record IsReady {B D : Type 0} (l : Paged RoutineBody B D) (x : Progress) : Type 0 where
  pub rests : IsResting l
  pub pools : HavePools l x.shapes
  pub above : AllByRecursion (λ row. row.pid < x.next) x.shapes
  pub next : next_pid x.made ≡ x.next

-- so many PIDs, from p on
abbrev pub pids_from : ℕ → ℕ → List ℕ
pids_from p zero = []
pids_from p (suc n) = p ∷ pids_from (suc p) n

-- the programs of states
abbrev pub programs_of : List State → List IlProgram
programs_of sts = map (λ st. st.program) sts

-- The limit, the number of workers and the disk that the loader was made with are the same, the disk's count of faults hasn't
-- fallen, the trail has these notes behind its own, and its insertions are followed by those of the clones made, whose PIDs go on
-- from the next one.
pub record GrowsOn {T B D : Type 0} (faults : D → ℕ) (noted : List (List (ℕ × T))) (old : Paged T B D) (next : ℕ) (new : Paged T B D) (next_now : ℕ) :
    Type 0 where
  pub limit : new.core.limit ≡ old.core.limit
  pub workers : length new.core.hands ≡ length old.core.hands
  pub first : new.first ≡ old.first
  pub later : faults old.disk ≤ faults new.disk
  pub programs : new.trail.programs ≡ old.trail.programs ++ noted
  pub clones : ℕ
  pub next_is : next_now ≡ next + clones
  pub insertions : new.trail.insertions ≡ old.trail.insertions ++ pids_from next clones

module _ {D : Type 0} (reach : D → ℕ) (honest : D → Bool) (faults : D → ℕ) (main : ℕ) where
  -- The pools, over a trusted disk, have the routines of the state's program, which is valid; these are its shapes, its next PID, its
  -- clones and its table.
  pub record HoldsState (l : Paged RoutineBody (Unit {0}) D) (x : Progress) (st : State) : Type 0 where
    pub holds : Holds reach honest faults l x.shapes main st.program
    pub next : st.next ≡ x.next
    pub made : st.made ≡ x.made.made
    pub table_is : st.table ≡ x.table

  -- the state is held, and these were noted on the way
  pub record IsReachedState (noted : List (List (ℕ × RoutineBody))) (new : Paged RoutineBody (Unit {0}) D) (y : Progress) (states : List State)
      (last : State) : Type 0 where
    pub holds : HoldsState new y last
    pub notes : AllNote noted (programs_of states)

  -- A step. The pools are ready again. Where they held a state that it fits, the trail has gained notes of the programs of these
  -- states, made of it, and the pools hold this one.
  pub record StateMade (Fits : State → Type 0) (states : State → List State) (last : State → State) (old : Paged RoutineBody (Unit {0}) D) (x : Progress)
      (new : Paged RoutineBody (Unit {0}) D) (y : Progress) : Type 0 where
    pub ready : IsReady new y
    pub noted : List (List (ℕ × RoutineBody))
    pub grows : GrowsOn faults noted old x.next new y.next
    pub state : (st : State) → Fits st → HoldsState old x st → IsReachedState noted new y (states st) (last st)

  -- a routine of a program of these states has so many bytes in its compact form
  abbrev pub StateNeeds : (State → Type 0) → (State → List State) → Paged RoutineBody (Unit {0}) D → Progress → ℕ → ℕ → Type 0
  StateNeeds Fits states l x q need = (st : State) → Fits st → HoldsState l x st → IsNeed (programs_of (states st)) q need

  -- no state is held that the step fits
  abbrev pub NoState : (State → Type 0) → Paged RoutineBody (Unit {0}) D → Progress → ℕ → Type 0
  NoState Fits l x q = (st : State) → Fits st → HoldsState l x st → ⊥

  -- A step that stopped. The failure is kept from now on, and the disk is at home. `Unfit` comes only where no state is held that it
  -- fits, and `TooSmall` names a routine of these states.
  pub record StateStops (Fits : State → Type 0) (states : State → List State) (old : Paged RoutineBody (Unit {0}) D) (x : Progress)
      (new : Paged RoutineBody (Unit {0}) D) (e : Failure) : Type 0 where
    pub kept : new.core.failure ≡ Some e
    pub home : new.home ≡ true
    pub noted : List (List (ℕ × RoutineBody))
    pub next_now : ℕ
    pub grows : GrowsOn faults noted old x.next new next_now
    pub cause : InlineCause reach honest faults (NoState Fits old x) (StateNeeds Fits states old x) old (faults old.disk) (faults new.disk) e
