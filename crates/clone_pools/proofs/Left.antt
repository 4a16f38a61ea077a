-- The new clones of groups, one after another.
use Rattle.std.proofs.Common.{◌≡◌, ◌<◌, ◌+◌, ◌*◌, ℕ, zero, suc, Bool, true, false, List, [], ◌∷◌, Option, None, Some, drop, get_or, length, map, refl}
use Rattle.std.proofs.Common.{sym, ap, subst, arith, ◌∙◌}
use Rattle.std.specs.Prelude.{Contains, if◌then◌else◌}
use Rattle.std.proofs.lemmas.List.{drop_more}
use Rattle.il_core.specs.Program.{routine_at}
use Rattle.il_core.specs.Routine.{RoutineParts}
use Rattle.il_core.specs.declared.program.IlProgram.{IlProgram}
use Rattle.il_core.specs.declared.shape.ShapeRow.{ShapeRow}
use Rattle.il_laws.specs.Growing.{NewClone, with_copy}
use Rattle.il_laws.proofs.Grown.{found_left}
use Rattle.plan_laws.specs.Groups.{Taken}
use Rattle.plan_laws.specs.Plan.{State, add_clone, add_clones, new_clone}
use Rattle.compact_form.specs.declared.body.RoutineBody.{RoutineBody}
use Rattle.clone_groups.specs.Grouping.{accepted}
use Rattle.clone_groups.specs.declared.groups.Group.{Group}
use Rattle.naim_core.specs.declared.event.Failure.{Failure}
use Rattle.naim_core.specs.declared.event.Failure.TheVariants as failure
use Rattle.naim_loader.specs.Paged.{Paged}
use Rattle.one_owner.proofs.Frames.{rose_since}
use Rattle.plan_pools.specs.Cloning.{CanAddAll, CanAddIf}
use Rattle.plan_pools.specs.Planning.{IsNeed}
use Rattle.plan_pools.specs.Stopping.{InlineCause}
use Rattle.clone_pools.specs.Growing.{CloneNeeds, ClonesNeed, NoClone, NoClones, StopsClone, StopsClones, with_taken}
use Rattle.clone_pools.specs.States.{GrowsOn, HoldsState}
use Rattle.clone_pools.specs.declared.progress.Progress.{Progress}
use Rattle.clone_pools.proofs.Trails.{grows_on, trusted_still}

abbrev Pools : Type 0 → Type 0
Pools D = Paged RoutineBody (Unit {0}) D

pub at_place : (gs : List Group) (i : ℕ) (g : Group) → i < length gs → g ≡ get_or gs i g → drop i gs ≡ g ∷ drop (i + 1) gs
at_place gs i g less read = drop_more gs i g less ∙ ap (λ (z : Group). z ∷ drop (i + 1) gs) (sym read)

-- routines that are there stay where clones are added
copy_keeps : (p : IlProgram) (c : NewClone) (o : Option RoutineParts) (q : ℕ) (r : RoutineParts) → routine_at p.routines q ≡ Some r
    → routine_at (with_copy p c o).routines q ≡ Some r
copy_keeps p c None q r e = e
copy_keeps p c (Some z) q r e = found_left (λ (y : RoutineParts). y.pid) q p.routines _ r e

taken_keeps : (names : List ShapeRow) (t : Taken) (st : State) (b : Bool) (q : ℕ) (r : RoutineParts) → routine_at st.program.routines q ≡ Some r
    → routine_at (if b then add_clone names t st else st).program.routines q ≡ Some r
taken_keeps names t st true q r e =
    copy_keeps st.program (new_clone names st.made t) (routine_at st.program.routines t.group.callee) q r e
taken_keeps names t st false q r e = e

all_keep : (names : List ShapeRow) (ts : List Taken) (st : State) (q : ℕ) (r : RoutineParts) → routine_at st.program.routines q ≡ Some r
    → routine_at (add_clones names ts st).program.routines q ≡ Some r
all_keep names [] st q r e = e
all_keep names (t ∷ ts) st q r e = all_keep names ts (with_taken names t st) q r (taken_keeps names t st t.is_new q r e)

contains_one : (x y : IlProgram) → Contains (y ∷ []) x → x ≡ y
contains_one x y one = by one.0 one.1 one.2
  where
    by : (i : ℕ) → i < 1 → get_or (y ∷ []) i x ≡ x → x ≡ y
    by zero less at = sym at
    by (suc i) less at = absurd (omega (arith, less))

need_kept : (names : List ShapeRow) (ts : List Taken) (st : State) (q need : ℕ) → IsNeed (st.program ∷ []) q need
    → IsNeed ((add_clones names ts st).program ∷ []) q need
need_kept names ts st q need h = record {
  program = (add_clones names ts st).program;
  is_one = (0, omega arith, refl);
  routine = h.routine;
  is = all_keep names ts st q h.routine (ap (λ (p : IlProgram). routine_at p.routines q) (sym (only h.is_one)) ∙ h.is);
  size = h.size;
}
  where
    only : Contains (st.program ∷ []) h.program → h.program ≡ st.program
    only one = contains_one h.program st.program one

-- the state that the pools hold, and the groups that are left to it
pub record IsLeft {D : Type 0} (reach : D → ℕ) (honest : D → Bool) (faults : D → ℕ) (main : ℕ) (names : List ShapeRow) (l : Pools D) (x : Progress)
    (left : List Group) (end : State) : Type 0 where
  pub st : State
  pub ts : List Taken
  pub same : map accepted ts ≡ left
  pub can : CanAddAll names ts st
  pub holds : HoldsState reach honest faults main l x st
  pub ends : add_clones names ts st ≡ end

module _ {D : Type 0} (reach : D → ℕ) (honest : D → Bool) (faults : D → ℕ) (main : ℕ) (names : List ShapeRow) where
  -- the next group
  pub left_next : (b new : Pools D) (x y : Progress) (g : Group) (gs : List Group) (end : State)
      → IsLeft reach honest faults main names b x (g ∷ gs) end
      → ((t : Taken) (st : State) → accepted t ≡ g → CanAddIf t.is_new names t st → HoldsState reach honest faults main b x st
      → HoldsState reach honest faults main new y (with_taken names t st))
      → IsLeft reach honest faults main names new y gs end
  left_next b new x y g gs end h step = by h.ts h.same h.can h.ends
    where
      by : (ts : List Taken) → map accepted ts ≡ g ∷ gs → CanAddAll names ts h.st → add_clones names ts h.st ≡ end
          → IsLeft reach honest faults main names new y gs end
      by [] same can ends = absurd cc
      by (t ∷ ts) same can ends = record {
        st = with_taken names t h.st;
        ts = ts;
        same = cc;
        can = can.1;
        holds = step t h.st (let is : accepted t ≡ g = cc in is) can.0 h.holds;
        ends = ends;
      }

  pub left_none : (b : Pools D) (x : Progress) (end : State) → IsLeft reach honest faults main names b x [] end → HoldsState reach honest faults main b x end
  left_none b x end h = by h.ts h.same h.ends
    where
      by : (ts : List Taken) → map accepted ts ≡ [] → add_clones names ts h.st ≡ end → HoldsState reach honest faults main b x end
      by [] same ends = subst (HoldsState reach honest faults main b x) ends h.holds
      by (t ∷ ts) same ends = absurd cc

  -- why the next group's clone wasn't added is why the groups' weren't
  module _ (a b : Pools D) (x z : Progress) (g : Group) (rest gs : List Group)
      (left : (ts : List Taken) (st : State) → map accepted ts ≡ gs → CanAddAll names ts st → HoldsState reach honest faults main a x st
      → IsLeft reach honest faults main names b z (g ∷ rest) (add_clones names ts st)) where
    no_state : (q : ℕ) → NoClone reach honest faults main names g b z q → NoClones reach honest faults main names gs a x q
    no_state q none = λ ts st same can h. let m = left ts st same can h in by m m.ts m.same m.can
      where
        by : {end : State} (m : IsLeft reach honest faults main names b z (g ∷ rest) end) (ts : List Taken) → map accepted ts ≡ g ∷ rest
            → CanAddAll names ts m.st → ⊥
        by m [] same can = absurd cc
        by m (t ∷ ts) same can = none t m.st (let is : accepted t ≡ g = cc in is) can.0 m.holds

    needed : (q need : ℕ) → CloneNeeds reach honest faults main names g b z q need → ClonesNeed reach honest faults main names gs a x q need
    needed q need needs = λ ts st same can h. let m = left ts st same can h in by m m.ts m.same m.can m.ends
      where
        by : {end : State} (m : IsLeft reach honest faults main names b z (g ∷ rest) end) (ts : List Taken) → map accepted ts ≡ g ∷ rest
            → CanAddAll names ts m.st → add_clones names ts m.st ≡ end → IsNeed (end.program ∷ []) q need
        by m [] same can ends = absurd cc
        by m (t ∷ ts) same can ends =
            subst (λ (end : State). IsNeed (end.program ∷ []) q need) ends
            (need_kept names ts (with_taken names t m.st) q need (needs t m.st (let is : accepted t ≡ g = cc in is) can.0 m.holds))

    cause_on : (now : ℕ) (f : Failure) → GrowsOn faults [] a x.next b z.next
        → InlineCause reach honest faults (NoClone reach honest faults main names g b z) (CloneNeeds reach honest faults main names g b z) b
        (faults b.disk) now f
        → InlineCause reach honest faults (NoClones reach honest faults main names gs a x) (ClonesNeed reach honest faults main names gs a x) a (faults a.disk)
        now f
    cause_on now failure.Repository s c = rose_since (faults a.disk) (faults b.disk) now s.later c
    cause_on now (failure.Damaged place kept found) s c =
        (c.0, (c.1.0, c.1.1 ∙ ap (λ n. c.1.0 * n) s.limit), λ h. c.2 (trusted_still faults reach honest [] a b x.next z.next s h))
    cause_on now (failure.Unreadable place) s c =
        ((c.0.0, c.0.1 ∙ ap (λ n. c.0.0 * n) s.limit), λ h. c.1 (trusted_still faults reach honest [] a b x.next z.next s h))
    cause_on now (failure.Unfit q) s c = no_state q c
    cause_on now (failure.TooSmall q need limit) s c = (c.0 ∙ s.limit, c.1, needed q need c.2)
    cause_on now failure.Memory s c = c

    pub groups_stop : (new : Pools D) (f : Failure) → GrowsOn faults [] a x.next b z.next → StopsClone reach honest faults main names g b z new f
        → StopsClones reach honest faults main names gs a x new f
    groups_stop new f s stops = record {
      kept = stops.kept;
      home = stops.home;
      next_now = stops.next_now;
      grows = grows_on faults [] [] a b new x.next z.next stops.next_now s stops.grows;
      cause = cause_on (faults new.disk) f s stops.cause;
    }
