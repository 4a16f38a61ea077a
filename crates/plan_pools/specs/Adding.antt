-- A clone that is added to the routines in pools.
use Rattle.std.specs.Prelude.{◌≡◌, ◌≢◌, ◌<◌, ◌+◌, ◌*◌, ◌++◌, ◌||◌, ◌⊎◌, ℕ, Bool, true, List, [], ◌∷◌, length, nat_eq, Some, is_some, option_map}
use Rattle.std.specs.Prelude.{if◌then◌else◌, ⊤}
use Rattle.outside.specs.Faults.{Rose}
use Rattle.il_core.specs.Limits.{IsWithinLimits}
use Rattle.il_core.specs.Routine.{RoutineParts}
use Rattle.il_core.specs.Valid.{IsValid}
use Rattle.il_core.specs.declared.program.IlProgram.{IlProgram}
use Rattle.il_core.specs.declared.shape.Shape.TheVariants as shape
use Rattle.il_core.specs.declared.shape.ShapeRow.{ShapeRow}
use Rattle.il_laws.specs.Clone.{make_clone}
use Rattle.il_laws.specs.Growing.{NewClone, with_clone}
use Rattle.clone_groups.specs.Fixing.{fixed_of}
use Rattle.plan_pools.specs.declared.clones.NewClone.{NewClone as CodeClone}
use Rattle.compact_form.specs.Compact.{compact}
use Rattle.compact_form.specs.declared.body.RoutineBody.{RoutineBody}
use Rattle.inliner.specs.declared.fault.SpliceFault.{SpliceFault}
use Rattle.inliner.specs.declared.fault.SpliceFault.TheVariants as fault
use Rattle.naim_core.specs.declared.event.Failure.{Failure}
use Rattle.naim_core.specs.declared.event.Failure.TheVariants as failure
use Rattle.naim_loader.specs.Paged.{Paged, kept_at, IsTrusted}
use Rattle.one_owner.specs.Alone.{IsResting}
use Rattle.one_owner.specs.Going.{Stays}
use Rattle.plan_pools.specs.Contents.{IsContents, routine_in}
use Rattle.plan_pools.specs.Printing.{Reads}

-- the clone as the laws write it
abbrev pub clone_of : CodeClone → NewClone
clone_of w = record { callee = w.callee; fixed = fixed_of w.fixed; pid = w.pid; name = w.name }

-- one row more, of a routine with that PID and that name
pub record AddsRow (p : ℕ) (name : List ℕ) (old new : List ShapeRow) : Type 0 where
  pub params : ℕ
  pub value : Bool
  pub is : new ≡ old ++ record { pid = p; name = name; shape = shape.Routine params value } ∷ []

-- the program with a clone more lies in the pools, and these are its shapes
pub record HasClone {B D : Type 0} (p : IlProgram) (c : NewClone) (l : Paged RoutineBody B D) (rows : List ShapeRow) : Type 0 where
  pub contents : IsContents l (with_clone p c)
  pub shapes : rows ≡ (with_clone p c).shapes

-- the clone of r
abbrev pub clone_from : NewClone → RoutineParts → RoutineParts
clone_from c r = make_clone r c.pid c.fixed

-- the row of a routine with that name
abbrev pub row_of : List ℕ → RoutineParts → ShapeRow
row_of name r = record { pid = r.pid; name = name; shape = shape.Routine r.params r.value }

-- what it is to the pools that the clone p isn't made
abbrev pub refusal_of : SpliceFault → ℕ → Failure
refusal_of fault.TooLarge p = failure.Unfit p
refusal_of fault.Memory p = failure.Memory

-- why no clone was made of r, which is held: the disk's count rose as it went back, r isn't valid with the shapes, its clone passes
-- a limit of the language, or memory was wanting
abbrev pub MakeCause : List ShapeRow → NewClone → RoutineParts → ℕ → ℕ → Failure → Type 0
MakeCause rows c r before now failure.Repository = Rose before now
MakeCause rows c r before now (failure.Damaged place kept found) = ⊥
MakeCause rows c r before now (failure.Unreadable place) = ⊥
MakeCause rows c r before now (failure.Unfit q) = ((q ≡ c.callee) × (IsValid rows r → ⊥)) ⊎ ((q ≡ c.pid) × (IsWithinLimits (clone_from c r) → ⊥))
MakeCause rows c r before now (failure.TooSmall q need limit) = ⊥
MakeCause rows c r before now failure.Memory = ⊤

module _ {B D : Type 0} (reach : D → ℕ) (honest : D → Bool) (faults : D → ℕ) where
  -- The pools rest, with a new one of the clone's PID; over a trusted disk it has the clone of the callee's routine, and the others
  -- have what they had.
  pub record Adds (c : NewClone) (old new : Paged RoutineBody B D) : Type 0 where
    pub rests : IsResting new
    pub stays : Stays faults old new
    pub has : (q : ℕ) → is_some (kept_at new q) ≡ (nat_eq c.pid q || is_some (kept_at old q))
    pub used : length new.core.pools ≡ length old.core.pools + 1
    pub insertions : new.trail.insertions ≡ old.trail.insertions ++ c.pid ∷ []
    pub routines : IsTrusted reach honest old → (q : ℕ)
        → routine_in new q ≡ (if nat_eq c.pid q then option_map (clone_from c) (routine_in old c.callee) else routine_in old q)

  -- Why the clone wasn't added: the disk's count rose; a record of a disk that isn't trusted has another SHA-256 than the one that
  -- was kept, or spells no such routine; over a trusted disk the callee's routine isn't valid with the shapes, or the clone passes a
  -- limit of the language, or its compact form is longer than the limit; or memory was wanting.
  abbrev pub AddCause : List ShapeRow → NewClone → Paged RoutineBody B D → ℕ → ℕ → Failure → Type 0
  AddCause rows c l before now failure.Repository = Rose before now
  AddCause rows c l before now (failure.Damaged place kept found) =
      (found ≢ kept) × ((p : ℕ) × (place ≡ p * l.core.limit)) × (IsTrusted reach honest l → ⊥)
  AddCause rows c l before now (failure.Unreadable place) = ((p : ℕ) × (place ≡ p * l.core.limit)) × (IsTrusted reach honest l → ⊥)
  AddCause rows c l before now (failure.Unfit q) =
      ((q ≡ c.callee) × (IsTrusted reach honest l → (r : RoutineParts) → routine_in l c.callee ≡ Some r → IsValid rows r → ⊥))
      ⊎ ((q ≡ c.pid) × (IsTrusted reach honest l → (r : RoutineParts) → routine_in l c.callee ≡ Some r → IsWithinLimits (clone_from c r) → ⊥))
  AddCause rows c l before now (failure.TooSmall q need limit) =
      (q ≡ c.pid) × (limit ≡ l.core.limit) × (limit < need)
      × (IsTrusted reach honest l → (r : RoutineParts) → routine_in l c.callee ≡ Some r → need ≡ length (compact (clone_from c r)))
  AddCause rows c l before now failure.Memory = ⊤

  -- the failure is kept from now on, for that cause; the disk is at home, and no pool came or went
  pub record StopsAdding (rows : List ShapeRow) (c : NewClone) (old new : Paged RoutineBody B D) (e : Failure) : Type 0 where
    pub kept : new.core.failure ≡ Some e
    pub home : new.home ≡ true
    pub reads : Reads reach honest faults old new
    pub cause : AddCause rows c old (faults old.disk) (faults new.disk) e
