-- A clone that is made of a callee's routine, which is read.
use Rattle.std.proofs.Common.{◌≡◌, ℕ, Bool, List, Some, refl, sym, subst, inl, inr}
use Rattle.std.specs.Arc.{arc_value}
use Rattle.il_core.specs.Limits.{IsWithinLimits}
use Rattle.il_core.specs.Routine.{RoutineParts}
use Rattle.il_core.specs.Valid.{IsValid}
use Rattle.il_core.specs.declared.shape.ShapeRow.{ShapeRow}
use Rattle.il_laws.specs.Growing.{NewClone}
use Rattle.compact_form.specs.declared.body.RoutineBody.{RoutineBody}
use Rattle.inliner.specs.declared.fault.SpliceFault.{SpliceFault}
use Rattle.inliner.specs.declared.fault.SpliceFault.TheVariants as fault
use Rattle.naim_core.specs.declared.event.Failure.{Failure}
use Rattle.naim_core.specs.declared.event.Failure.TheVariants as failure
use Rattle.naim_loader.specs.declared.forms.ReadPin.{ReadPin}
use Rattle.naim_loader.specs.Calls.{Fails}
use Rattle.naim_loader.specs.Paged.{Paged, IsTrusted}
use Rattle.one_owner.specs.Alone.{IsReading, reading}
use Rattle.one_owner.specs.Answers.{Takes}
use Rattle.one_owner.specs.Causes.{RoomCause, TakeCause}
use Rattle.one_owner.specs.Going.{Stops}
use Rattle.one_owner.proofs.Frames.{rest_stops, rose_since}
use Rattle.plan_pools.specs.Contents.{routine_in}
use Rattle.plan_pools.specs.Printing.{ReadCause}
use Rattle.plan_pools.proofs.Frames.{reads_kept, reads_on, reads_take, stops_take}
use Rattle.plan_pools.proofs.Seen.{seen_routine}
use Rattle.plan_pools.specs.Adding.{AddCause, MakeCause, StopsAdding, clone_from, refusal_of}

-- no clone was made
pub made_cause : (rows : List ShapeRow) (c : NewClone) (r : RoutineParts) (before now : ℕ) (f : SpliceFault)
    → (f ≡ fault.TooLarge → IsWithinLimits (clone_from c r) → ⊥) → MakeCause rows c r before now (refusal_of f c.pid)
made_cause rows c r before now fault.TooLarge h = inr (refl, h refl)
made_cause rows c r before now fault.Memory h = tt

back_cause : (rows : List ShapeRow) (c : NewClone) (r : RoutineParts) (before now : ℕ) (e : Failure) → RoomCause before now e → MakeCause rows c r before now e
back_cause rows c r before now failure.Repository h = h
back_cause rows c r before now (failure.Damaged place kept found) h = h
back_cause rows c r before now (failure.Unreadable place) h = h
back_cause rows c r before now (failure.Unfit q) h = absurd h
back_cause rows c r before now (failure.TooSmall q need limit) h = h
back_cause rows c r before now failure.Memory h = h

module _ {D : Type 0} (faults : D → ℕ) (rows : List ShapeRow) (c : NewClone) (old new : Paged RoutineBody (Unit {0}) D) where
  -- giving it back failed
  pub back_stops : (r : RoutineParts) (e : Failure) → Stops faults (RoomCause (faults old.disk) (faults new.disk)) old new e
      → Stops faults (MakeCause rows c r (faults old.disk) (faults new.disk)) old new e
  back_stops r e s = record { kept = s.kept; home = s.home; keeps = s.keeps; cause = back_cause rows c r (faults old.disk) (faults new.disk) e s.cause }

  -- and so did making it
  pub unmade_stops : (p : ℕ) (r : RoutineParts) (e found : Failure) → IsReading old p → MakeCause rows c r (faults old.disk) (faults new.disk) found → e ≡ found
      → Fails old 0 found new → Stops faults (MakeCause rows c r (faults old.disk) (faults new.disk)) old new e
  unmade_stops p r e found w cause same t =
      let C = MakeCause rows c r (faults old.disk) (faults new.disk) in
      subst (Stops faults C old new) (sym same) (rest_stops faults C old new (reading p) found w cause t)

module _ {D : Type 0} (reach : D → ℕ) (honest : D → Bool) (faults : D → ℕ) (rows : List ShapeRow) (c : NewClone) where
  read_cause : (l : Paged RoutineBody (Unit {0}) D) (before now : ℕ) (e : Failure) → ReadCause reach honest faults l before now e
      → AddCause reach honest faults rows c l before now e
  read_cause l before now failure.Repository h = h
  read_cause l before now (failure.Damaged place kept found) h = h
  read_cause l before now (failure.Unreadable place) h = h
  read_cause l before now (failure.Unfit q) h = absurd h
  read_cause l before now (failure.TooSmall q need limit) h = absurd h
  read_cause l before now failure.Memory h = h

  -- taking the callee failed
  pub take_stops : (charge : RoutineBody → ℕ) (spell : RoutineBody → List ℕ) (is_value : RoutineBody → Type 0)
      (old new : Paged RoutineBody (Unit {0}) D) (p : ℕ) (e : Failure)
      → Stops faults (TakeCause charge spell is_value reach honest old p (faults old.disk) (faults new.disk)) old new e
      → StopsAdding reach honest faults rows c old new e
  take_stops charge spell is_value old new p e s =
      let t = stops_take reach honest faults charge spell is_value old new p e s in
      record { kept = t.kept; home = t.home; reads = t.reads; cause = read_cause old (faults old.disk) (faults new.disk) e t.cause }

  -- making the clone failed
  pub made_stops : (old mid new : Paged RoutineBody (Unit {0}) D) (x : ReadPin RoutineBody) (e : Failure) → Takes reach honest faults old mid c.callee x
      → Stops faults (MakeCause rows c (arc_value x.body).routine (faults mid.disk) (faults new.disk)) mid new e
      → StopsAdding reach honest faults rows c old new e
  made_stops old mid new x e t s = record {
    kept = s.kept;
    home = s.home;
    reads = reads_on reach honest faults old mid new (reads_take reach honest faults old mid c.callee x t) (reads_kept reach honest faults mid new s.keeps);
    cause = cause e s.cause;
  }
    where
      had : (r : RoutineParts) → IsTrusted reach honest old → routine_in old c.callee ≡ Some r → (arc_value x.body).routine ≡ r
      had r g at = seen_routine reach honest faults old mid c.callee x r t g at

      cause : (e : Failure) → MakeCause rows c (arc_value x.body).routine (faults mid.disk) (faults new.disk) e
          → AddCause reach honest faults rows c old (faults old.disk) (faults new.disk) e
      cause failure.Repository h = rose_since (faults old.disk) (faults mid.disk) (faults new.disk) t.stays.later h
      cause (failure.Damaged place kept found) h = absurd h
      cause (failure.Unreadable place) h = absurd h
      cause (failure.Unfit q) (inl h) = inl (h.0, λ g r at valid. h.1 (subst (IsValid rows) (sym (had r g at)) valid))
      cause (failure.Unfit q) (inr h) = inr (h.0, λ g r at within. h.1 (subst (λ z. IsWithinLimits (clone_from c z)) (sym (had r g at)) within))
      cause (failure.TooSmall q need limit) h = absurd h
      cause failure.Memory h = h
