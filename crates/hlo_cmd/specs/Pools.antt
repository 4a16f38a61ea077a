-- The routines of a program that went to the pools of a loader, one after another.
use Rattle.std.specs.Prelude.{◌≡◌, ◌≤◌, ◌*◌, ◌^◌, ℕ, List, [], ◌∷◌, length, map, flat_map, IsSome, Option, Some, None, true, ⊤}
use Rattle.std.specs.List.{AllByRecursion}
use Rattle.c_module.specs.Assembling.{AreRoutinesOf}
use Rattle.compact_form.specs.Compact.{compact}
use Rattle.compact_form.specs.declared.body.RoutineBody.{RoutineBody}
use Rattle.il_core.specs.Program.{routine_at}
use Rattle.il_core.specs.Routine.{RoutineParts}
use Rattle.il_core.specs.Size.{cost}
use Rattle.naim_core.specs.declared.event.Failure.{Failure}
use Rattle.naim_loader.specs.Paged.{Paged, kept_at}
use Rattle.one_owner.specs.Alone.{IsResting}
use Rattle.one_owner.specs.Causes.{PlaceCause}
use Rattle.one_owner.specs.Going.{Stays, Stops}
use Rattle.outside.specs.Told.{Told}
use Rattle.plan_pools.specs.Contents.{routine_in}
use Rattle.profile.specs.Counts.{Counts}
use Rattle.sym_tables.specs.Table.{Table}

-- the routine as a list, or none
abbrev pub listed : Option RoutineParts → List RoutineParts
listed None = []
listed (Some r) = r ∷ []

-- the routines in the pools, in the order in which they were put in
abbrev pub inserted : {B D : Type 0} → Paged RoutineBody B D → List RoutineParts
inserted l = flat_map (λ q. listed (routine_in l q)) l.trail.insertions

-- no two of the routines have one PID
abbrev pub HaveOwnPids : List RoutineParts → Type 0
HaveOwnPids [] = ⊤
HaveOwnPids (r ∷ rs) = (routine_at rs r.pid ≡ None) × HaveOwnPids rs

-- These are all pools: no two have one PID, by each PID the same routine is found in the pools and in that order, they are as
-- many, and each pool that was put in is there.
pub record IsFilled {B D : Type 0} (l : Paged RoutineBody B D) : Type 0 where
  pub own : HaveOwnPids (inserted l)
  pub same : (q : ℕ) → routine_in l q ≡ routine_at (inserted l) q
  pub many : length l.core.pools ≡ length (inserted l)
  pub there : AllByRecursion (λ q. IsSome (kept_at l q)) l.trail.insertions

-- The loader is ready for the next routine: it rests, its pools are those that were put in, of which none has a compact form
-- that is longer than the limit; and these are their PIDs and their cost.
pub record IsReady {B D : Type 0} (l : Paged RoutineBody B D) (pids : List ℕ) (total : ℕ) : Type 0 where
  pub rests : IsResting l
  pub filled : IsFilled l
  pub short : AllByRecursion (λ r. length (compact r) ≤ l.core.limit) (inserted l)
  pub pids_are : pids ≡ map (λ (r : RoutineParts). r.pid) (inserted l)
  pub total_is : total ≡ cost (inserted l)
  pub bound : total ≤ length (inserted l) * 2 ^ 32

-- these are the routines of some files that are accepted, with some counts
pub record AreOfFiles (rs : List RoutineParts) (syms : Table) : Type 0 where
  pub counts : Counts
  pub tells : List ℕ → Told
  pub files : List (List ℕ)
  pub routines : AreRoutinesOf counts tells files rs syms

-- What stays, whether routines are taken or refused: what stays over the calls of one worker, and the disk that is at home.
pub record GoesOn {B D : Type 0} (faults : D → ℕ) (old new : Paged RoutineBody B D) : Type 0 where
  pub stays : Stays faults old new
  pub home : old.home ≡ true → new.home ≡ true

-- What stays over all that is done with a loader: its limit, the disk that it was made with, and the disk that is at home, whose
-- count of faults doesn't fall.
pub record Remains {B D : Type 0} (faults : D → ℕ) (old new : Paged RoutineBody B D) : Type 0 where
  pub limit : new.core.limit ≡ old.core.limit
  pub first : new.first ≡ old.first
  pub later : faults old.disk ≤ faults new.disk
  pub home : old.home ≡ true → new.home ≡ true

-- The routine was refused: the loader keeps the failure, for its cause.
pub record RefusesRoutine {B D : Type 0} (faults : D → ℕ) (old new : Paged RoutineBody B D) (r : RoutineParts) : Type 0 where
  pub failure : Failure
  pub stops : Stops faults (PlaceCause (faults old.disk) (faults new.disk) r.pid (length (compact r)) old.core.limit) old new failure
