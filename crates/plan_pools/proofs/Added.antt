-- A clone that is added to the routines in pools.
use Rattle.std.proofs.Common.{◌≡◌, ◌<◌, ◌+◌, ℕ, Bool, true, false, cond, nat_eq, List, [], ◌∷◌, ◌++◌, length, Option, Some, None, IsSome, Result, Ok}
use Rattle.std.proofs.Common.{Err, refl, sym, ap, subst, ◌∙◌}
use Rattle.std.specs.Prelude.{◌||◌, if◌then◌else◌, IfOk, is_some, option_map}
use Rattle.std.specs.List.{AllByRecursion}
use Rattle.list_laws.proofs.Entries.{number_itself, same_number}
use Rattle.il_core.specs.Program.{routine_at}
use Rattle.il_core.specs.Routine.{RoutineParts}
use Rattle.il_core.specs.declared.program.IlProgram.{IlProgram}
use Rattle.il_core.specs.declared.shape.Shape.TheVariants as shape
use Rattle.il_core.specs.declared.shape.ShapeRow.{ShapeRow}
use Rattle.il_laws.specs.Growing.{NewClone, with_copy}
use Rattle.il_laws.proofs.Grown.{all_push, all_to}
use Rattle.compact_form.specs.Compact.{compact}
use Rattle.compact_form.specs.declared.body.RoutineBody.{RoutineBody}
use Rattle.naim_core.specs.declared.event.Failure.{Failure}
use Rattle.naim_core.specs.declared.event.Failure.TheVariants as failure
use Rattle.naim_loader.specs.Paged.{Paged, kept_at, IsTrusted}
use Rattle.naim_loader.specs.Rows.{Kept}
use Rattle.one_owner.specs.Answers.{Places}
use Rattle.one_owner.specs.Causes.{PlaceCause}
use Rattle.one_owner.specs.Going.{Stops}
use Rattle.one_owner.proofs.Frames.{rose_since, stays_on}
use Rattle.plan_pools.specs.Contents.{HavePools, IsContents, is_routine, routine_in, routine_pids}
use Rattle.plan_pools.specs.Printing.{Reads}
use Rattle.plan_pools.proofs.Frames.{is_some_of, reads_kept, reads_on, some_is}
use Rattle.plan_pools.specs.Adding.{AddCause, Adds, AddsRow, HasClone, StopsAdding, clone_from, row_of}

none_is : {X : Type 0} (o : Option X) → is_some o ≡ false → o ≡ None
none_is None e = refl
none_is (Some x) e = cc

-- what holds of an answer by two things that hold of it
pub both : {X E : Type 0} (P Q R : X → Type 0) (r : Result X E) → ((x : X) → P x → Q x → R x) → IfOk r P → IfOk r Q → IfOk r R
both P Q R (Ok x) f g h = f x g h
both P Q R (Err e) f g h = tt

-- the row that is new
pub added_row : (p : ℕ) (name : List ℕ) (old new : List ShapeRow) (r : RoutineParts) → r.pid ≡ p → new ≡ old ++ row_of name r ∷ [] → AddsRow p name old new
added_row p name old new r named these = record {
  params = r.params;
  value = r.value;
  is = these ∙ ap (λ n. old ++ record { pid = n; name = name; shape = shape.Routine r.params r.value } ∷ []) named;
}

-- a routine that is found behind all others
found_new : (rs : List RoutineParts) (r : RoutineParts) (q : ℕ) → nat_eq r.pid q ≡ true → routine_at rs q ≡ None → routine_at (rs ++ r ∷ []) q ≡ Some r
found_new [] r q e h = ap (λ b. if b then Some r else None) e
found_new (x ∷ rs) r q e h = by (nat_eq x.pid q) h (found_new rs r q e)
  where
    by : (b : Bool) → (if b then Some x else routine_at rs q) ≡ None → (routine_at rs q ≡ None → routine_at (rs ++ r ∷ []) q ≡ Some r)
        → (if b then Some x else routine_at (rs ++ r ∷ []) q) ≡ Some r
    by true h more = cc
    by false h more = more h

found_same : (rs : List RoutineParts) (r : RoutineParts) (q : ℕ) → nat_eq r.pid q ≡ false → routine_at (rs ++ r ∷ []) q ≡ routine_at rs q
found_same [] r q e = ap (λ b. if b then Some r else None) e
found_same (x ∷ rs) r q e = ap (λ o. if nat_eq x.pid q then Some x else o) (found_same rs r q e)

-- the routines of rows with one more behind them
pids_push : (rows : List ShapeRow) (row : ShapeRow) → is_routine row.shape ≡ true → routine_pids (rows ++ row ∷ []) ≡ routine_pids rows ++ row.pid ∷ []
pids_push [] row e = ap (λ b. if b then row.pid ∷ [] else []) e
pids_push (x ∷ rows) row e =
    ap (λ ps. if is_routine x.shape then x.pid ∷ ps else ps) (pids_push rows row e) ∙ by (is_routine x.shape)
  where
    by : (b : Bool) → (if b then x.pid ∷ (routine_pids rows ++ row.pid ∷ []) else routine_pids rows ++ row.pid ∷ [])
        ≡ (if b then x.pid ∷ routine_pids rows else routine_pids rows) ++ row.pid ∷ []
    by true = refl
    by false = refl

module _ {D : Type 0} (reach : D → ℕ) (honest : D → Bool) (faults : D → ℕ) (c : NewClone) where
  -- nothing lies in the clone's pool after the callee was read
  pub absent_still : (old mid : Paged RoutineBody (Unit {0}) D) → Reads reach honest faults old mid → kept_at old c.pid ≡ None → kept_at mid c.pid ≡ None
  absent_still old mid r none = none_is (kept_at mid c.pid) (r.has c.pid ∙ ap is_some none)

  module _ (old mid new : Paged RoutineBody (Unit {0}) D) (clone : RoutineParts) (reads : Reads reach honest faults old mid) where
    abbrev now : Kept RoutineBody (Unit {0})
    now = record { value = record { routine = clone }; brief = tt }

    -- a routine lies in the callee's pool
    callee_there : IsSome (kept_at old c.callee) → (r : RoutineParts) × (routine_in old c.callee ≡ Some r)
    callee_there = by (kept_at old c.callee) refl
      where
        by : (o : Option (Kept RoutineBody (Unit {0}))) → kept_at old c.callee ≡ o → IsSome o → (r : RoutineParts) × (routine_in old c.callee ≡ Some r)
        by None e h = let q : false ≡ true = h in absurd cc
        by (Some k) e h = (k.value.routine, ap (λ o. option_map (λ b. b.routine) (option_map (λ z. z.value) o)) e)

    -- the clone's pool is new
    pub added : (IsTrusted reach honest old → (r : RoutineParts) → routine_in old c.callee ≡ Some r → clone ≡ clone_from c r) → IsSome (kept_at old c.callee)
        → Places faults mid new c.pid (record { routine = clone }) tt → Adds reach honest faults c old new
    added is some w = record {
      rests = w.rests;
      stays = stays_on faults old mid new reads.stays w.stays;
      has = λ q. ap is_some (w.kept q) ∙ has q (nat_eq c.pid q);
      used = w.used ∙ ap (λ n. n + 1) reads.used;
      insertions = w.insertions ∙ ap (λ ps. ps ++ c.pid ∷ []) reads.insertions;
      routines = λ g q. ap (λ o. option_map (λ b. b.routine) (option_map (λ z. z.value) o)) (w.kept q) ∙ at g q (nat_eq c.pid q);
    }
      where
        has : (q : ℕ) (b : Bool) → is_some (cond b (Some now) (kept_at mid q)) ≡ (b || is_some (kept_at old q))
        has q true = refl
        has q false = reads.has q

        at : IsTrusted reach honest old → (q : ℕ) (b : Bool)
            → option_map (λ b. b.routine) (option_map (λ z. z.value) (cond b (Some now) (kept_at mid q)))
            ≡ (if b then option_map (clone_from c) (routine_in old c.callee) else routine_in old q)
        at g q true = let r = callee_there some in ap (λ z. Some z) (is g r.0 r.1) ∙ sym (ap (option_map (clone_from c)) r.1)
        at g q false = ap (λ o. option_map (λ b. b.routine) (option_map (λ z. z.value) o)) (reads.same g q)

    -- the shapes are those of the program with the clone
    pub added_program : (p : IlProgram) (rows : List ShapeRow) → IsTrusted reach honest old
        → (IsTrusted reach honest old → (r : RoutineParts) → routine_in old c.callee ≡ Some r → clone ≡ clone_from c r) → IsSome (kept_at old c.callee)
        → kept_at old c.pid ≡ None → IsContents old p → Adds reach honest faults c old new → rows ≡ p.shapes ++ row_of c.name clone ∷ []
        → HasClone p c new rows
    added_program p rows g is some none held adds these = record {
      contents = record {
        by = λ q. adds.routines g q ∙ at q (nat_eq c.pid q) refl ∙ sym
            (ap (λ (o : Option RoutineParts). routine_at (with_copy p c o).routines q) there);
      };
      shapes = these ∙ ap (λ z. p.shapes ++ row_of c.name z ∷ []) (is g r.0 r.1) ∙ sym (ap (λ (o : Option RoutineParts). (with_copy p c o).shapes) there);
    }
      where
        r : (r : RoutineParts) × (routine_in old c.callee ≡ Some r)
        r = callee_there some

        there : routine_at p.routines c.callee ≡ Some r.0
        there = sym (held.by c.callee) ∙ r.1

        fresh : (q : ℕ) → nat_eq c.pid q ≡ true → routine_at p.routines q ≡ None
        fresh q e =
            sym (held.by q)
            ∙ ap (λ o. option_map (λ b. b.routine) (option_map (λ z. z.value) o)) (ap (kept_at old) (sym (same_number c.pid q e)) ∙ none)

        at : (q : ℕ) (b : Bool) → nat_eq c.pid q ≡ b → (if b then option_map (clone_from c) (routine_in old c.callee) else routine_in old q)
            ≡ routine_at (p.routines ++ clone_from c r.0 ∷ []) q
        at q true e = ap (option_map (clone_from c)) r.1 ∙ sym (found_new p.routines (clone_from c r.0) q e (fresh q e))
        at q false e = held.by q ∙ sym (found_same p.routines (clone_from c r.0) q e)

    -- each routine of the rows has a pool
    pub added_pools : (shapes rows : List ShapeRow) → HavePools old shapes → Adds reach honest faults c old new → clone.pid ≡ c.pid
        → rows ≡ shapes ++ row_of c.name clone ∷ [] → HavePools new rows
    added_pools shapes rows pools adds named these =
        subst (AllByRecursion (λ q. IsSome (kept_at new q))) (sym (ap routine_pids these ∙ pids_push shapes (row_of c.name clone) refl ∙ ap
        (λ n. routine_pids shapes ++ n ∷ []) named))
        (all_push (λ q. IsSome (kept_at new q)) (routine_pids shapes) c.pid
        (all_to (λ q. IsSome (kept_at old q)) (λ q. IsSome (kept_at new q)) (routine_pids shapes) still pools) here)
      where
        either : (b : Bool) → (b || true) ≡ true
        either true = refl
        either false = refl

        still : (q : ℕ) → IsSome (kept_at old q) → IsSome (kept_at new q)
        still q h = some_is (kept_at new q) (adds.has q ∙ ap (λ b. nat_eq c.pid q || b) (is_some_of (kept_at old q) h) ∙ either (nat_eq c.pid q))

        here : IsSome (kept_at new c.pid)
        here = some_is (kept_at new c.pid) (adds.has c.pid ∙ ap (λ b. b || is_some (kept_at old c.pid)) (number_itself c.pid))

    -- putting it in failed
    pub added_stops : (rows : List ShapeRow) (e : Failure)
        → (IsTrusted reach honest old → (r : RoutineParts) → routine_in old c.callee ≡ Some r → clone ≡ clone_from c r)
        → Stops faults (PlaceCause (faults mid.disk) (faults new.disk) c.pid (length (compact clone)) mid.core.limit) mid new e
        → StopsAdding reach honest faults rows c old new e
    added_stops rows e is s = record {
      kept = s.kept;
      home = s.home;
      reads = reads_on reach honest faults old mid new reads (reads_kept reach honest faults mid new s.keeps);
      cause = cause e s.cause;
    }
      where
        cause : (e : Failure) → PlaceCause (faults mid.disk) (faults new.disk) c.pid (length (compact clone)) mid.core.limit e
            → AddCause reach honest faults rows c old (faults old.disk) (faults new.disk) e
        cause failure.Repository h = rose_since (faults old.disk) (faults mid.disk) (faults new.disk) reads.stays.later h
        cause (failure.Damaged place kept found) h = absurd h
        cause (failure.Unreadable place) h = absurd h
        cause (failure.Unfit q) h = absurd h
        cause (failure.TooSmall q need limit) h = (
          h.0,
          h.2 ∙ reads.stays.limit,
          subst (λ n. n < need) (sym h.2) (subst (λ n. mid.core.limit < n) (sym h.1) h.3),
          λ g r at. h.1 ∙ ap (λ z. length (compact z)) (is g r at),
        )
        cause failure.Memory h = h
