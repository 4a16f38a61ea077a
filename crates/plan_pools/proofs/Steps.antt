-- The steps of a pass, as steps of the plan.
use Rattle.std.proofs.Common.{◌≡◌, ◌++◌, ℕ, Bool, true, false, nat_eq, List, [], ◌∷◌, map, length, Option, Some, None, IsSome, refl, sym, ap}
use Rattle.std.proofs.Common.{subst, arith, le_refl, ◌∙◌}
use Rattle.std.specs.Prelude.{is_some, option_map, ◌||◌, if◌then◌else◌}
use Rattle.std.specs.List.{AllByRecursion, IsDistinct}
use Rattle.std.specs.Map.{keys_of}
use Rattle.std.proofs.lemmas.List.{append-nil}
use Rattle.il_core.specs.Program.{routine_at}
use Rattle.il_core.specs.Routine.{RoutineParts}
use Rattle.il_core.specs.Valid.{IsValid}
use Rattle.il_core.specs.declared.program.IlProgram.{IlProgram}
use Rattle.il_core.specs.declared.shape.ShapeRow.{ShapeRow}
use Rattle.il_core.proofs.Found.{found_all}
use Rattle.il_laws.specs.Reach.{is_in}
use Rattle.il_laws.specs.Simplify.{simplify}
use Rattle.compact_form.specs.Compact.{compact}
use Rattle.compact_form.specs.declared.body.RoutineBody.{RoutineBody}
use Rattle.naim_core.specs.declared.event.Failure.{Failure}
use Rattle.naim_core.specs.declared.event.Failure.TheVariants as failure
use Rattle.naim_loader.specs.Paged.{Paged, contents, kept_at}
use Rattle.naim_loader.proofs.Contents.{contents_at}
use Rattle.one_owner.specs.Alone.{IsResting}
use Rattle.one_owner.specs.Going.{Stays}
use Rattle.plan_pools.specs.Budgetless.{simplified}
use Rattle.plan_pools.specs.Contents.{HavePools, IsContents, routine_in, routine_pids}
use Rattle.plan_pools.specs.Noting.{GoesOn}
use Rattle.plan_pools.specs.Passes.{ChangeCause, ChangesAll, StopsChanging}
use Rattle.plan_pools.specs.Planning.{Holds, IsMade, IsNeed, PlanCause, StopsMaking}
use Rattle.plan_pools.specs.Printing.{Rests}
use Rattle.plan_pools.specs.Seeing.{SeeCause, StopsSeeing}
use Rattle.plan_pools.proofs.Held.{found_changed, held_simplified, simplified_pids}
use Rattle.plan_pools.proofs.Plans.{trusted_before, trusted_still}
use Rattle.plan_pools.proofs.Programs.{program_pids}
use Rattle.plan_pools.proofs.Zero.{simplified_valid}

abbrev Pools : Type 0 → Type 0
Pools D = Paged RoutineBody (Unit {0}) D

-- pools that stay go on without a note
pub goes_stays : {T B D : Type 0} (faults : D → ℕ) (a b : Paged T B D) → Stays faults a b → b.trail.insertions ≡ a.trail.insertions
    → GoesOn faults [] a b
goes_stays faults a b s same = record {
  limit = s.limit;
  workers = s.workers;
  first = s.first;
  later = s.later;
  insertions = same;
  programs = s.programs ∙ sym (append-nil a.trail.programs);
}

-- each PID that has a pool has one still
pub have_still : {T B D : Type 0} (a b : Paged T B D) (ps : List ℕ) → ((q : ℕ) → is_some (kept_at b q) ≡ is_some (kept_at a q))
    → AllByRecursion (λ p. IsSome (kept_at a p)) ps → AllByRecursion (λ p. IsSome (kept_at b p)) ps
have_still a b [] has h = tt
have_still a b (p ∷ ps) has h = (some_still (kept_at a p) (kept_at b p) (has p) h.0, have_still a b ps has h.1)
  where
    some_still : {X : Type 0} (x y : Option X) → is_some y ≡ is_some x → IsSome x → IsSome y
    some_still None y e h = cc
    some_still (Some x) None e h = cc
    some_still (Some x) (Some y) e h = h

-- a routine of a PID that is one of them
record At (rs : List RoutineParts) (q : ℕ) : Type 0 where
  routine : RoutineParts
  is : routine_at rs q ≡ Some routine

in_at : (rs : List RoutineParts) (q : ℕ) → is_in (map (λ r. r.pid) rs) q ≡ true → At rs q
in_at [] q h = cc
in_at (r ∷ rs) q h = by (nat_eq r.pid q) refl h (in_at rs q)
  where
    by : (b : Bool) → nat_eq r.pid q ≡ b → (b || is_in (map (λ r. r.pid) rs) q) ≡ true → (is_in (map (λ r. r.pid) rs) q ≡ true → At rs q) → At (r ∷ rs) q
    by true e h more = record { routine = r; is = ap (λ b. if b then Some r else routine_at rs q) e }
    by false e h more = let x = more h in record { routine = x.routine; is = ap (λ b. if b then Some r else routine_at rs q) e ∙ x.is }

module _ {D : Type 0} (reach : D → ℕ) (honest : D → Bool) (faults : D → ℕ) where
  -- what the pools have is noted
  marked : Pools D → Pools D
  marked l = record l { trail = record l.trail { programs = l.trail.programs ++ contents l ∷ [] } }

  marked_made : (rows : List ShapeRow) (main : ℕ) (l : Pools D) → IsResting l → HavePools l rows → IsDistinct nat_eq (keys_of (contents l))
      → IsMade reach honest faults (λ p. p ∷ []) (λ p. p) rows main l (marked l) rows
  unfolding marked
  marked_made rows main l w have differ = record {
    rests = record { alone = w.alone; running = w.running; home = w.home };
    pools = have;
    noted = contents l ∷ [];
    goes = record { limit = refl; workers = refl; first = refl; later = le_refl (faults l.disk); insertions = refl; programs = refl };
    program = λ p h. record {
      holds = record { trusted = h.trusted; valid = h.valid; shapes = h.shapes; main_is = h.main_is; contents = record { by = h.contents.by } };
      notes = (record { by = λ q. ap (option_map (λ b. b.routine)) (contents_at l q) ∙ h.contents.by q; differ = differ }, tt);
    };
  }

  pub note_made : (rows : List ShapeRow) (main : ℕ) (old new : Pools D) → IsResting old → HavePools old rows → IsDistinct nat_eq (keys_of (contents old))
      → new ≡ record old { trail = record old.trail { programs = old.trail.programs ++ contents old ∷ [] } }
      → IsMade reach honest faults (λ p. p ∷ []) (λ p. p) rows main old new rows
  unfolding marked
  note_made rows main old new w have differ same =
      subst (λ l. IsMade reach honest faults (λ p. p ∷ []) (λ p. p) rows main old l rows) (sym same) (marked_made rows main old w have differ)

  pub note_rests : (old new : Pools D) → IsResting old
      → new ≡ record old { trail = record old.trail { programs = old.trail.programs ++ contents old ∷ [] } } → IsResting new
  unfolding marked
  note_rests old new w same = subst (λ (l : Pools D). IsResting l) (sym same) (rests old w)
    where
      rests : (l : Pools D) → IsResting l → IsResting (marked l)
      rests l w = record { alone = w.alone; running = w.running; home = w.home }

  pub note_pools : (rows : List ShapeRow) (old new : Pools D) → HavePools old rows
      → new ≡ record old { trail = record old.trail { programs = old.trail.programs ++ contents old ∷ [] } } → HavePools new rows
  note_pools rows old new have same = subst (λ (l : Pools D). HavePools l rows) (sym same) have

  module _ (rows : List ShapeRow) (main : ℕ) (old new : Pools D) where
    -- a routine of the program, by a row
    of_row : (p : IlProgram) → Holds reach honest faults old rows main p → (q : ℕ) → is_in (routine_pids rows) q ≡ true → At p.routines q
    of_row p h q chosen = in_at p.routines q (ap (λ l. is_in l q) (program_pids p h.valid ∙ ap routine_pids h.shapes) ∙ chosen)

    lies : (p : IlProgram) (h : Holds reach honest faults old rows main p) (q : ℕ) (x : At p.routines q) → routine_in old q ≡ Some x.routine
    lies p h q x = h.contents.by q ∙ x.is

    fits : (p : IlProgram) (h : Holds reach honest faults old rows main p) (q : ℕ) (x : At p.routines q) → IsValid rows x.routine
    fits p h q x = subst (λ l. IsValid l x.routine) h.shapes (found_all (λ r. r.pid) (IsValid p.shapes) q p.routines x.routine h.valid.each x.is).0

    -- all are simplified
    pub simplified_made : HavePools old rows → ChangesAll reach honest faults simplify (routine_pids rows) old new
        → IsMade reach honest faults (λ p. []) simplified rows main old new rows
    simplified_made have c = record {
      rests = c.rests;
      pools = have_still old new (routine_pids rows) c.pools.has have;
      noted = [];
      goes = goes;
      program = λ p h. record {
        holds = record {
          trusted = trusted_still faults reach honest [] old new goes h.trusted;
          valid = simplified_valid p h.valid;
          shapes = h.shapes;
          main_is = h.main_is;
          contents = held_simplified reach honest faults old new p (routine_pids rows) h.valid h.contents
              (sym (program_pids p h.valid ∙ ap routine_pids h.shapes)) c h.trusted;
        };
        notes = tt;
      };
    }
      where
        goes : GoesOn faults [] old new
        goes = goes_stays faults old new c.pools.stays c.pools.insertions

    simplified_need : (p : IlProgram) (h : Holds reach honest faults old rows main p) (q need : ℕ) (x : At p.routines q)
        → need ≡ length (compact (simplify x.routine)) → IsNeed (simplified p ∷ []) q need
    simplified_need p h q need x e = record {
      program = simplified p;
      is_one = (0, omega arith, refl);
      routine = simplify x.routine;
      is = found_changed simplify p.routines q (simplified_pids p p.routines h.valid.each) ∙ ap (option_map simplify) x.is;
      size = e;
    }

    changes_cause : (now : ℕ) (e : Failure) → ChangeCause reach honest faults simplify rows (is_in (routine_pids rows)) old (faults old.disk) now e
        → PlanCause reach honest faults (λ p. simplified p ∷ []) rows main old (faults old.disk) now e
    changes_cause now failure.Repository c = c
    changes_cause now (failure.Damaged place kept found) c = c
    changes_cause now (failure.Unreadable place) c = c
    changes_cause now (failure.Unfit q) c = λ p h. (let x = of_row p h q c.0 in c.1 h.trusted x.routine (lies p h q x) (fits p h q x))
    changes_cause now (failure.TooSmall q need limit) c =
        (c.1, c.2, λ p h. (let x = of_row p h q c.0 in simplified_need p h q need x (c.3 h.trusted x.routine (lies p h q x))))
    changes_cause now failure.Memory c = tt

    pub simplified_stops : (e : Failure) → StopsChanging reach honest faults simplify rows (is_in (routine_pids rows)) old new e
        → StopsMaking reach honest faults (λ p. simplified p ∷ []) rows main old new e
    simplified_stops e s = record {
      kept = s.kept;
      home = s.home;
      noted = [];
      goes = goes_stays faults old new s.pools.stays s.pools.insertions;
      cause = changes_cause (faults new.disk) e s.cause;
    }

    -- all are looked at
    still_contents : (p : IlProgram) → ((q : ℕ) → kept_at new q ≡ kept_at old q) → IsContents old p → IsContents new p
    still_contents p same held = record { by = λ q. ap (λ o. option_map (λ b. b.routine) (option_map (λ k. k.value) o)) (same q) ∙ held.by q }

    pub seen_made : HavePools old rows → Rests reach honest faults old new → IsMade reach honest faults (λ p. []) (λ p. p) rows main old new rows
    seen_made have r = record {
      rests = r.rests;
      pools = have_still old new (routine_pids rows) r.reads.has have;
      noted = [];
      goes = goes;
      program = λ p h. record {
        holds = record {
          trusted = trusted_still faults reach honest [] old new goes h.trusted;
          valid = h.valid;
          shapes = h.shapes;
          main_is = h.main_is;
          contents = still_contents p (r.reads.same h.trusted) h.contents;
        };
        notes = tt;
      };
    }
      where
        goes : GoesOn faults [] old new
        goes = goes_stays faults old new r.reads.stays r.reads.insertions

    -- what is held behind was held before
    pub before_seen : Rests reach honest faults old new → (p : IlProgram) → Holds reach honest faults new rows main p
        → Holds reach honest faults old rows main p
    before_seen r p h =
        let trusted = trusted_before faults reach honest [] old new (goes_stays faults old new r.reads.stays r.reads.insertions) h.trusted in
        record {
          trusted = trusted;
          valid = h.valid;
          shapes = h.shapes;
          main_is = h.main_is;
          contents = record { by = λ q. ap (λ o. option_map (λ b. b.routine) (option_map (λ k. k.value) o)) (sym (r.reads.same trusted q)) ∙ h.contents.by q };
        }

    seen_cause : (now : ℕ) (e : Failure) → SeeCause reach honest faults rows (is_in (routine_pids rows)) old (faults old.disk) now e
        → PlanCause reach honest faults (λ p. []) rows main old (faults old.disk) now e
    seen_cause now failure.Repository c = c
    seen_cause now (failure.Damaged place kept found) c = c
    seen_cause now (failure.Unreadable place) c = c
    seen_cause now (failure.Unfit q) c = λ p h. (let x = of_row p h q c.0 in c.1 h.trusted x.routine (lies p h q x) (fits p h q x))
    seen_cause now (failure.TooSmall q need limit) c = absurd c
    seen_cause now failure.Memory c = tt

    pub seen_stops : (e : Failure) → StopsSeeing reach honest faults rows (is_in (routine_pids rows)) old new e
        → StopsMaking reach honest faults (λ p. []) rows main old new e
    seen_stops e s = record {
      kept = s.kept;
      home = s.home;
      noted = [];
      goes = goes_stays faults old new s.reads.stays s.reads.insertions;
      cause = seen_cause (faults new.disk) e s.cause;
    }
