-- Pools in which calls were sent to clones.
use Rattle.std.proofs.Common.{◌≡◌, ◌<◌, ℕ, Bool, true, false, nat_eq, List, [], ◌∷◌, IsSome, map, length, refl, ap, sym, subst, arith, eqb-true, ◌∙◌}
use Rattle.std.specs.Prelude.{◌||◌, is_some, option_map, Option, Some, None}
use Rattle.std.specs.List.{AllByRecursion, list_all}
use Rattle.il_core.specs.Program.{main_pid, routine_at, shape_at}
use Rattle.il_core.specs.Routine.{RoutineParts}
use Rattle.il_core.specs.Valid.{IsProgram, IsValid}
use Rattle.il_core.specs.declared.program.IlProgram.{IlProgram}
use Rattle.il_core.specs.declared.shape.Shape.TheVariants as shape
use Rattle.il_core.specs.declared.shape.ShapeRow.{ShapeRow}
use Rattle.il_core.proofs.Programs.{routine_valid, shape_is}
use Rattle.il_laws.specs.Keeping.{with_each}
use Rattle.il_laws.specs.Reach.{is_in}
use Rattle.il_laws.proofs.Grown.{all_of, all_to}
use Rattle.il_laws.proofs.Shaped.{in_row}
use Rattle.compact_form.specs.Compact.{compact}
use Rattle.compact_form.specs.declared.body.RoutineBody.{RoutineBody}
use Rattle.clone_groups.specs.Grouping.{accepted}
use Rattle.clone_groups.specs.declared.groups.Group.{Group}
use Rattle.naim_core.specs.State.{empty_hand}
use Rattle.naim_core.specs.declared.event.Failure.{Failure}
use Rattle.naim_core.specs.declared.event.Failure.TheVariants as failure
use Rattle.naim_loader.specs.Calls.{Fails}
use Rattle.naim_loader.specs.Paged.{Paged, kept_at, content_at, IsTrusted}
use Rattle.one_owner.specs.Alone.{IsResting}
use Rattle.one_owner.proofs.Frames.{rest_stops}
use Rattle.plan_laws.specs.Groups.{Taken}
use Rattle.plan_pools.specs.Contents.{HavePools, IsContents, routine_in, routine_pids}
use Rattle.plan_pools.specs.Noting.{GoesOn}
use Rattle.plan_pools.specs.Passes.{ChangeCause, ChangesAll, StopsChanging}
use Rattle.plan_pools.specs.Planning.{Holds, IsMade, IsNeed, IsReached}
use Rattle.plan_pools.specs.Retargeting.{callers_of, moved}
use Rattle.plan_pools.specs.Stopping.{InlineCause}
use Rattle.plan_pools.specs.declared.moves.CallerMoves.{CallerMoves}
use Rattle.plan_pools.proofs.Held.{found_changed}
use Rattle.plan_pools.proofs.Plans.{goes_on, trusted_still}
use Rattle.plan_pools.proofs.Steps.{goes_stays}
use Rattle.clone_steps.specs.Sending.{have_pools, is_below, MayMove, MaySend, NoTurn, StopsTurning, TurnNeeds, Turns}
use Rattle.clone_steps.proofs.Composing.{cause_so}
use Rattle.clone_steps.proofs.Tested.{groups_below, not_both, present_all}

abbrev Pools : Type 0 → Type 0
Pools D = Paged RoutineBody (Unit {0}) D

-- each PID that has a pool has one still
have_still : {D : Type 0} (a b : Pools D) (ps : List ℕ) → ((q : ℕ) → is_some (kept_at b q) ≡ is_some (kept_at a q))
    → AllByRecursion (λ p. IsSome (kept_at a p)) ps → AllByRecursion (λ p. IsSome (kept_at b p)) ps
have_still a b [] has h = tt
have_still a b (p ∷ ps) has h = (some_still (kept_at a p) (kept_at b p) (has p) h.0, have_still a b ps has h.1)
  where
    some_still : {X : Type 0} (x y : Option X) → is_some y ≡ is_some x → IsSome x → IsSome y
    some_still None y e h = cc
    some_still (Some x) None e h = cc
    some_still (Some x) (Some y) e h = h

-- what holds of all in a list holds of one
one_in : (P : ℕ → Type 0) (xs : List ℕ) (q : ℕ) → AllByRecursion P xs → is_in xs q ≡ true → P q
one_in P [] q h e = absurd cc
one_in P (x ∷ xs) q h e = by (one_in P xs q h.1) (nat_eq x q) refl e
  where
    by : (is_in xs q ≡ true → P q) → (b : Bool) → nat_eq x q ≡ b → (b || is_in xs q) ≡ true → P q
    by more true t k = subst P (eqb-true x q t) h.0
    by more false t k = more k

-- moves leave PIDs
moved_pids : (ms : List CallerMoves) (rs : List RoutineParts) → AllByRecursion (λ r. (moved ms r).pid ≡ r.pid) rs
moved_pids ms [] = tt
moved_pids ms (r ∷ rs) = (refl, moved_pids ms rs)

-- a routine's PID is one of a row
routine_below : (p : IlProgram) → IsProgram p → (n : ℕ) → AllByRecursion (λ row. row.pid < n) p.shapes → (q : ℕ) → IsSome (routine_at p.routines q) → q < n
routine_below p valid n low q h = by (routine_at p.routines q) refl h
  where
    by : (o : Option RoutineParts) → routine_at p.routines q ≡ o → IsSome o → q < n
    by None at k = cc
    by (Some r) at k =
        let f = in_row p.shapes q (shape.Routine r.params r.value) (shape_is p valid q r at) in
        all_of (λ (row : ShapeRow). row.pid) (λ k. k < n) q p.shapes f.row low f.is

record At (rs : List RoutineParts) (q : ℕ) : Type 0 where
  routine : RoutineParts
  is : routine_at rs q ≡ Some routine

at_some : (rs : List RoutineParts) (q : ℕ) → IsSome (routine_at rs q) → At rs q
at_some rs q h = by (routine_at rs q) refl h
  where
    by : (o : Option RoutineParts) → routine_at rs q ≡ o → IsSome o → At rs q
    by None at k = absurd (let bad : false ≡ true = k in cc)
    by (Some r) at k = record { routine = r; is = at }

module _ {D : Type 0} (reach : D → ℕ) (honest : D → Bool) (faults : D → ℕ) (main : ℕ) where
  -- ---- any change

  pub turns_so : (May May' : IlProgram → IlProgram → Type 0) (rows : List ShapeRow) (a b : Pools D) → ((p q : IlProgram) → May' p q → May p q)
      → Turns reach honest faults main May rows a b → Turns reach honest faults main May' rows a b
  turns_so May May' rows a b so t =
      record { rests = t.rests; pools = t.pools; noted = t.noted; goes = t.goes; program = λ p q may h. t.program p q (so p q may) h }

  pub turn_stops_so : (May May' : IlProgram → IlProgram → Type 0) (rows : List ShapeRow) (a b : Pools D) (e : Failure)
      → ((p q : IlProgram) → May' p q → May p q) → StopsTurning reach honest faults main May rows a b e
      → StopsTurning reach honest faults main May' rows a b e
  turn_stops_so May May' rows a b e so s = record {
    kept = s.kept;
    home = s.home;
    noted = s.noted;
    goes = s.goes;
    cause = cause_so reach honest faults (NoTurn reach honest faults main May rows a) (NoTurn reach honest faults main May' rows a)
        (TurnNeeds reach honest faults main May rows a) (TurnNeeds reach honest faults main May' rows a)
        (λ n none p q may h. none p q (so p q may) h) (λ n need is p q may h. is p q (so p q may) h)
        a (faults a.disk) (faults b.disk) e s.cause;
  }

  -- a failure that was told while the pools rested
  pub failed_turns : (May : IlProgram → IlProgram → Type 0) (rows : List ShapeRow) (l new : Pools D) (told e : Failure) → IsResting l → told ≡ e
      → Fails l 0 e new
      → InlineCause reach honest faults (NoTurn reach honest faults main May rows l) (TurnNeeds reach honest faults main May rows l) l (faults l.disk)
      (faults new.disk) e
      → StopsTurning reach honest faults main May rows l new told
  failed_turns May rows l new told e rests same t cause =
      let s = rest_stops faults (λ f. Unit {0}) l new empty_hand e rests tt t in
      subst (StopsTurning reach honest faults main May rows l new) (sym same)
      (record { kept = s.kept; home = s.home; noted = []; goes = goes_stays faults l new s.keeps.stays s.keeps.insertions; cause = cause })

  -- ---- moves

  module _ (ms : List CallerMoves) (rows : List ShapeRow) (old mid : Pools D) where
    pub moved_turns : (new : Pools D) → HavePools old rows → ChangesAll reach honest faults (moved ms) (callers_of ms) old mid
        → ((p : IlProgram) → IsTrusted reach honest old → IsContents old p → IsContents mid (with_each p (moved ms)))
        → (HavePools mid rows → IsMade reach honest faults (λ p. p ∷ []) (λ p. p) rows main mid new rows)
        → Turns reach honest faults main (MayMove ms) rows old new
    moved_turns new have c held made =
        let n = made (have_still old mid (routine_pids rows) c.pools.has have) in
        let goes = goes_stays faults old mid c.pools.stays c.pools.insertions in
        record {
          rests = n.rests;
          pools = n.pools;
          noted = n.noted;
          goes = goes_on faults [] n.noted old mid new goes n.goes;
          program = λ p q may h.
              n.program q
              (record {
                trusted = trusted_still faults reach honest [] old mid goes h.trusted;
                valid = may.valid;
                shapes = ap (λ (x : IlProgram). x.shapes) (sym may.same) ∙ h.shapes;
                main_is = ap (λ (x : IlProgram). main_pid x.shapes) (sym may.same) ∙ h.main_is;
                contents = subst (IsContents mid) may.same (held p h.trusted h.contents);
              });
        }

    lies : (p : IlProgram) → Holds reach honest faults old rows main p → (q : ℕ) (x : At p.routines q) → routine_in old q ≡ Some x.routine
    lies p h q x = h.contents.by q ∙ x.is

    fits : (p : IlProgram) → Holds reach honest faults old rows main p → (q : ℕ) (x : At p.routines q) → IsValid rows x.routine
    fits p h q x = subst (λ l. IsValid l x.routine) h.shapes (routine_valid p h.valid q x.routine x.is)

    caller : (p p' : IlProgram) → MayMove ms p p' → (q : ℕ) → is_in (callers_of ms) q ≡ true → At p.routines q
    caller p p' may q chosen = at_some p.routines q (one_in (λ c. IsSome (routine_at p.routines c)) (callers_of ms) q may.callers chosen)

    need : (p p' : IlProgram) → MayMove ms p p' → (q n : ℕ) (x : At p.routines q) → n ≡ length (compact (moved ms x.routine)) → IsNeed (p' ∷ []) q n
    need p p' may q n x e = record {
      program = p';
      is_one = (0, omega arith, refl);
      routine = moved ms x.routine;
      is = ap (λ (z : IlProgram). routine_at z.routines q) (sym may.same)
          ∙ found_changed (moved ms) p.routines q (moved_pids ms p.routines) ∙ ap (option_map (moved ms)) x.is;
      size = e;
    }

    moved_cause : (now : ℕ) (e : Failure) → ChangeCause reach honest faults (moved ms) rows (is_in (callers_of ms)) old (faults old.disk) now e
        → InlineCause reach honest faults (NoTurn reach honest faults main (MayMove ms) rows old) (TurnNeeds reach honest faults main (MayMove ms) rows old)
        old (faults old.disk) now e
    moved_cause now failure.Repository c = c
    moved_cause now (failure.Damaged place kept found) c = c
    moved_cause now (failure.Unreadable place) c = c
    moved_cause now (failure.Unfit q) c = λ p p' may h.
        (let x = caller p p' may q c.0 in c.1 h.trusted x.routine (lies p h q x) (fits p h q x))
    moved_cause now (failure.TooSmall q n limit) c = (
      c.1,
      c.2,
      λ p p' may h. (let x = caller p p' may q c.0 in need p p' may q n x (c.3 h.trusted x.routine (lies p h q x))),
    )
    moved_cause now failure.Memory c = tt

    pub moved_stops : (e : Failure) → StopsChanging reach honest faults (moved ms) rows (is_in (callers_of ms)) old mid e
        → StopsTurning reach honest faults main (MayMove ms) rows old mid e
    moved_stops e s = record {
      kept = s.kept;
      home = s.home;
      noted = [];
      goes = goes_stays faults old mid s.pools.stays s.pools.insertions;
      cause = moved_cause (faults mid.disk) e s.cause;
    }

    -- the callers of a program that is held have pools
    here : (q : ℕ) → IsSome (routine_in old q) → IsSome (kept_at old q)
    here q h = by (kept_at old q) refl h
      where
        by : (o : Option _) → kept_at old q ≡ o → IsSome (option_map (λ b. b.routine) (option_map (λ k. k.value) o)) → IsSome o
        by None at k = k
        by (Some x) at k = refl

    pub none_absent : have_pools old ms ≡ false → (p q : IlProgram) → MayMove ms p q → Holds reach honest faults old rows main p → ⊥
    none_absent absent p q may h =
        not_both (have_pools old ms) (present_all old ms
        (all_to (λ c. IsSome (routine_at p.routines c)) (λ c. IsSome (kept_at old c)) (callers_of ms)
        (λ c some. here c (subst (λ o. IsSome o) (sym (h.contents.by c)) some)) may.callers)) absent

  -- the members' callers are below the next PID
  pub none_past : (gs : List Group) (rows : List ShapeRow) (n : ℕ) (l : Pools D) → AllByRecursion (λ row. row.pid < n) rows
      → list_all (is_below n) gs ≡ false → (p q : IlProgram) → MaySend gs p q → Holds reach honest faults l rows main p → ⊥
  none_past gs rows n l low past p q may h =
      not_both (list_all (is_below n) gs) (ap (list_all (is_below n)) may.are ∙ groups_below n may.groups
      (all_to (λ (t : Taken). AllByRecursion (λ m. IsSome (routine_at p.routines m.caller)) t.group.members)
      (λ t. AllByRecursion (λ m. m.caller < n) t.group.members) may.groups
      (λ t. all_to (λ m. IsSome (routine_at p.routines m.caller)) (λ m. m.caller < n) t.group.members
      (λ m some. routine_below p h.valid n (subst (AllByRecursion (λ row. row.pid < n)) (sym h.shapes) low) m.caller some)) may.callers) may.clones) past
