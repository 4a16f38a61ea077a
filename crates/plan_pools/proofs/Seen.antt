-- Routines that are looked at one after another.
use Rattle.std.proofs.Common.{◌≡◌, ◌<◌, ◌+◌, ◌*◌, ℕ, zero, suc, Bool, false, nat_eq, List, [], ◌∷◌, length, map, take, get_or, Some, IsSome, refl, sym}
use Rattle.std.proofs.Common.{ap, subst, arith, ◌∙◌}
use Rattle.std.specs.Prelude.{nat_lt, option_map, if◌then◌else◌}
use Rattle.std.specs.Arc.{arc_value}
use Rattle.std.specs.List.{AllByRecursion}
use Rattle.std.proofs.lemmas.Bool.Decides.{nat_tests}
use Rattle.std.proofs.lemmas.Option.{same_Some}
use Rattle.list_laws.proofs.Entries.{number_itself, other_number, same_number}
use Rattle.il_core.specs.declared.program.IlProgram.{IlProgram}
use Rattle.il_core.specs.declared.shape.ShapeRow.{ShapeRow}
use Rattle.il_core.specs.Program.{routine_at}
use Rattle.il_core.specs.Routine.{RoutineParts}
use Rattle.il_core.specs.Shapes.{IsRising, IsRisingFrom}
use Rattle.il_core.specs.Valid.{IsProgram, IsValid}
use Rattle.il_core.proofs.Found.{all_at, found_at}
use Rattle.il_laws.specs.Reach.{is_in}
use Rattle.call_graph.specs.Summaries.{Seen, put}
use Rattle.compact_form.specs.declared.body.RoutineBody.{RoutineBody}
use Rattle.naim_core.specs.declared.event.Failure.{Failure}
use Rattle.naim_core.specs.declared.event.Failure.TheVariants as failure
use Rattle.naim_loader.specs.declared.forms.ReadPin.{ReadPin}
use Rattle.naim_loader.specs.Calls.{Fails}
use Rattle.naim_loader.specs.Paged.{Paged, kept_at, IsTrusted}
use Rattle.one_owner.specs.Alone.{IsReading, reading}
use Rattle.one_owner.specs.Answers.{GivesBack, Takes}
use Rattle.one_owner.specs.Causes.{RoomCause, TakeCause}
use Rattle.one_owner.specs.Going.{Stops}
use Rattle.one_owner.proofs.Frames.{rest_stops, rose_since}
use Rattle.naim_core.specs.State.{empty_hand}
use Rattle.plan_pools.specs.Contents.{IsContents, routine_in}
use Rattle.plan_pools.specs.Printing.{ReadCause, Reads, Rests}
use Rattle.plan_pools.specs.Rewriting.{failure_of}
use Rattle.plan_pools.specs.Seeing.{SeeCause, SeenCause, StopsSeeing}
use Rattle.plan_pools.specs.declared.simplifying.Unmade.{Unmade}
use Rattle.plan_pools.specs.declared.simplifying.Unmade.TheVariants as unmade
use Rattle.plan_pools.proofs.Frames.{is_some_of, reads_kept, reads_on, reads_take, some_is, stops_take, trusted_on}
use Rattle.plan_pools.proofs.Walking.{in_all}
use Rattle.plan_laws.specs.Summary.{summary}

-- each number behind one
above_at : (n : ℕ) (rs : List RoutineParts) (i : ℕ) (d : RoutineParts) → IsRisingFrom (λ r. r.pid) n rs → i < length rs → n < (get_or rs i d).pid
above_at n [] i d h less = absurd (omega arith)
above_at n (r ∷ rs) zero d h less = h.0
above_at n (r ∷ rs) (suc i) d h less = let a : n < r.pid = h.0 in let b = above_at r.pid rs i d h.1 (omega arith) in omega arith

-- the summary of the next routine comes last
put_from : (n : ℕ) (rs : List RoutineParts) (i : ℕ) (d : RoutineParts) → IsRisingFrom (λ r. r.pid) n rs → i < length rs
    → put (summary (get_or rs i d)) (map summary (take i rs)) ≡ map summary (take (suc i) rs)
put_from n [] i d h less = absurd (omega arith)
put_from n (r ∷ rs) zero d h less = refl
put_from n (r ∷ rs) (suc i) d h less =
    let above = above_at r.pid rs i d h.1 (omega arith) in
    let s = summary (get_or rs i d) in let behind = map summary (take i rs) in
    let not_less : nat_lt s.pid r.pid ≡ false = grind (arith, nat_tests) in
    let other : nat_eq s.pid r.pid ≡ false = other_number s.pid r.pid (λ e. absurd (omega arith)) in
    ap (λ b. if b then s ∷ summary r ∷ behind else (if nat_eq s.pid r.pid then s ∷ behind else summary r ∷ put s behind)) not_less
    ∙ ap (λ b. if b then s ∷ behind else summary r ∷ put s behind) other ∙ ap (λ l. summary r ∷ l) (put_from r.pid rs i d h.1 (omega arith))

put_at : (rs : List RoutineParts) (i : ℕ) (d : RoutineParts) → IsRising (λ r. r.pid) rs → i < length rs
    → put (summary (get_or rs i d)) (map summary (take i rs)) ≡ map summary (take (suc i) rs)
put_at [] i d h less = absurd (omega arith)
put_at (r ∷ rs) zero d h less = refl
put_at (r ∷ rs) (suc i) d h less =
    let above = above_at r.pid rs i d h (omega arith) in
    let s = summary (get_or rs i d) in let behind = map summary (take i rs) in
    let not_less : nat_lt s.pid r.pid ≡ false = grind (arith, nat_tests) in
    let other : nat_eq s.pid r.pid ≡ false = other_number s.pid r.pid (λ e. absurd (omega arith)) in
    ap (λ b. if b then s ∷ summary r ∷ behind else (if nat_eq s.pid r.pid then s ∷ behind else summary r ∷ put s behind)) not_less
    ∙ ap (λ b. if b then s ∷ behind else summary r ∷ put s behind) other ∙ ap (λ l. summary r ∷ l) (put_from r.pid rs i d h (omega arith))

-- the PID at a place is that of the routine there
pid_at : (rs : List RoutineParts) (i : ℕ) (d : RoutineParts) → i < length rs → get_or (map (λ r. r.pid) rs) i 0 ≡ (get_or rs i d).pid
pid_at [] i d less = absurd (omega arith)
pid_at (r ∷ rs) zero d less = refl
pid_at (r ∷ rs) (suc i) d less = pid_at rs i d (omega arith)

pub map_length : (rs : List RoutineParts) → length (map (λ r. r.pid) rs) ≡ length rs
map_length [] = refl
map_length (r ∷ rs) = ap suc (map_length rs)

-- the routine of the next PID, and the graph with its summary
record Next (p : IlProgram) (k pid : ℕ) : Type 0 where
  routine : RoutineParts
  found : routine_at p.routines pid ≡ Some routine
  added : put (summary routine) (map summary (take k p.routines)) ≡ map summary (take (k + 1) p.routines)

next_routine : (p : IlProgram) (k pid : ℕ) → IsProgram p → k < length p.routines → pid ≡ get_or (map (λ r. r.pid) p.routines) k 0 → Next p k pid
next_routine p k pid valid less is = by p.routines refl
  where
    by : (rs : List RoutineParts) → rs ≡ p.routines → Next p k pid
    by [] e = (let l : 0 ≡ length p.routines = ap length e in absurd (omega arith))
    by (d ∷ rs) e =
        let same : suc k ≡ k + 1 = omega arith in record {
          routine = get_or p.routines k d;
          found = ap (routine_at p.routines) (is ∙ pid_at p.routines k d less) ∙ found_at (λ r. r.pid) p.routines k d valid.routines less;
          added = put_at p.routines k d valid.routines less ∙ ap (λ n. map summary (take n p.routines)) same;
        }

module _ {D : Type 0} (reach : D → ℕ) (honest : D → Bool) (faults : D → ℕ) where
  -- a routine that was taken and given back
  pub seen_rests : (old mid new : Paged RoutineBody (Unit {0}) D) (p : ℕ) (x : ReadPin RoutineBody) → Takes reach honest faults old mid p x
      → GivesBack faults mid new → Rests reach honest faults old new
  seen_rests old mid new p x t g = record {
    rests = g.rests;
    reads = reads_on reach honest faults old mid new (reads_take reach honest faults old mid p x t) (reads_kept reach honest faults mid new g.keeps);
  }

  -- over a trusted disk it is the pool's
  pub seen_routine : (old mid : Paged RoutineBody (Unit {0}) D) (p : ℕ) (x : ReadPin RoutineBody) (r : RoutineParts) → Takes reach honest faults old mid p x
      → IsTrusted reach honest old → routine_in old p ≡ Some r → (arc_value x.body).routine ≡ r
  seen_routine old mid p x r t g at =
      ap (λ b. b.routine) (t.same (λ u. g))
      ∙ same_Some t.was.value.routine r (sym (ap (λ o. option_map (λ b. b.routine) (option_map (λ k. k.value) o)) t.there) ∙ at)

  read_cause : (rows : List ShapeRow) (chosen : ℕ → Bool) (l : Paged RoutineBody (Unit {0}) D) (before now : ℕ) (e : Failure)
      → ReadCause reach honest faults l before now e → SeeCause reach honest faults rows chosen l before now e
  read_cause rows chosen l before now failure.Repository c = c
  read_cause rows chosen l before now (failure.Damaged place kept found) c = c
  read_cause rows chosen l before now (failure.Unreadable place) c = c
  read_cause rows chosen l before now (failure.Unfit q) c = absurd c
  read_cause rows chosen l before now (failure.TooSmall q need limit) c = c
  read_cause rows chosen l before now failure.Memory c = c

  pub take_stops : (charge : RoutineBody → ℕ) (spell : RoutineBody → List ℕ) (is_value : RoutineBody → Type 0) (rows : List ShapeRow)
      (old new : Paged RoutineBody (Unit {0}) D) (p : ℕ) (e : Failure)
      → Stops faults (TakeCause charge spell is_value reach honest old p (faults old.disk) (faults new.disk)) old new e
      → StopsSeeing reach honest faults rows (nat_eq p) old new e
  take_stops charge spell is_value rows old new p e s =
      let t = stops_take reach honest faults charge spell is_value old new p e s in
      record { kept = t.kept; home = t.home; reads = t.reads; cause = read_cause rows (nat_eq p) old (faults old.disk) (faults new.disk) e t.cause }

  -- looking at it failed
  pub see_stops : (rows : List ShapeRow) (old mid new : Paged RoutineBody (Unit {0}) D) (p : ℕ) (x : ReadPin RoutineBody) (e : Failure)
      → Takes reach honest faults old mid p x → Stops faults (SeenCause rows x.pid (arc_value x.body).routine (faults mid.disk) (faults new.disk)) mid new e
      → StopsSeeing reach honest faults rows (nat_eq p) old new e
  see_stops rows old mid new p x e t s = record {
    kept = s.kept;
    home = s.home;
    reads = reads_on reach honest faults old mid new (reads_take reach honest faults old mid p x t) (reads_kept reach honest faults mid new s.keeps);
    cause = cause e s.cause;
  }
    where
      cause : (e : Failure) → SeenCause rows x.pid (arc_value x.body).routine (faults mid.disk) (faults new.disk) e
          → SeeCause reach honest faults rows (nat_eq p) old (faults old.disk) (faults new.disk) e
      cause failure.Repository c = rose_since (faults old.disk) (faults mid.disk) (faults new.disk) t.stays.later c
      cause (failure.Damaged place kept found) c = absurd c
      cause (failure.Unreadable place) c = absurd c
      cause (failure.Unfit q) c = (
        ap (nat_eq p) (c.0 ∙ t.pid) ∙ number_itself p,
        λ g r at valid. c.1 (subst (IsValid rows) (sym (seen_routine old mid p x r t g (ap (routine_in old) (sym (c.0 ∙ t.pid)) ∙ at))) valid),
      )
      cause (failure.TooSmall q need limit) c = absurd c
      cause failure.Memory c = c

  -- giving it back failed
  back_cause : (rows : List ShapeRow) (p : ℕ) (r : RoutineParts) (before now : ℕ) (e : Failure) → RoomCause before now e → SeenCause rows p r before now e
  back_cause rows p r before now failure.Repository c = c
  back_cause rows p r before now (failure.Damaged place kept found) c = c
  back_cause rows p r before now (failure.Unreadable place) c = c
  back_cause rows p r before now (failure.Unfit q) c = absurd c
  back_cause rows p r before now (failure.TooSmall q need limit) c = c
  back_cause rows p r before now failure.Memory c = c

  pub back_stops : (rows : List ShapeRow) (old new : Paged RoutineBody (Unit {0}) D) (p : ℕ) (r : RoutineParts) (e : Failure)
      → Stops faults (RoomCause (faults old.disk) (faults new.disk)) old new e
      → Stops faults (SeenCause rows p r (faults old.disk) (faults new.disk)) old new e
  back_stops rows old new p r e s = record {
    kept = s.kept;
    home = s.home;
    keeps = s.keeps;
    cause = back_cause rows p r (faults old.disk) (faults new.disk) e
        s.cause;
  }

  unseen_cause : (rows : List ShapeRow) (p : ℕ) (r : RoutineParts) (before now : ℕ) (u : Unmade) → (u ≡ unmade.Unfit → IsValid rows r → ⊥)
      → SeenCause rows p r before now (failure_of p u)
  unseen_cause rows p r before now unmade.Unfit h = (refl, h refl)
  unseen_cause rows p r before now unmade.Memory h = tt

  pub unseen_stops : (rows : List ShapeRow) (old new : Paged RoutineBody (Unit {0}) D) (p : ℕ) (r : RoutineParts) (u : Unmade) (e : Failure) → IsReading old p
      → (u ≡ unmade.Unfit → IsValid rows r → ⊥) → e ≡ failure_of p u → Fails old 0 (failure_of p u) new
      → Stops faults (SeenCause rows p r (faults old.disk) (faults new.disk)) old new e
  unseen_stops rows old new p r u e w h same t =
      let C = SeenCause rows p r (faults old.disk) (faults new.disk) in
      subst (Stops faults C old new) (sym same)
      (rest_stops faults C old new (reading p) (failure_of p u) w (unseen_cause rows p r (faults old.disk) (faults new.disk) u h) t)

  -- memory was wanting between two
  pub memory_stops : (rows : List ShapeRow) (chosen : ℕ → Bool) (old mid new : Paged RoutineBody (Unit {0}) D) (e : Failure) → Rests reach honest faults old mid
      → e ≡ failure.Memory → Fails mid 0 failure.Memory new → StopsSeeing reach honest faults rows chosen old new e
  memory_stops rows chosen old mid new e w same t =
      let s = rest_stops faults (λ e. Unit {0}) mid new empty_hand failure.Memory w.rests tt t in
      subst (StopsSeeing reach honest faults rows chosen old new) (sym same) (record {
        kept = s.kept;
        home = s.home;
        reads = reads_on reach honest faults old mid new w.reads (reads_kept reach honest faults mid new s.keeps);
        cause = tt;
      })

  -- the next of several
  module _ (old mid : Paged RoutineBody (Unit {0}) D) (ps : List ℕ) (k p : ℕ) (less : k < length ps) (is : p ≡ get_or ps k 0)
      (reads : Reads reach honest faults old mid) where
    same_routine : IsTrusted reach honest old → (q : ℕ) → routine_in mid q ≡ routine_in old q
    same_routine g q = ap (λ o. option_map (λ b. b.routine) (option_map (λ k. k.value) o)) (reads.same g q)

    cause_next : (rows : List ShapeRow) (now : ℕ) (e : Failure) → SeeCause reach honest faults rows (nat_eq p) mid (faults mid.disk) now e
        → SeeCause reach honest faults rows (is_in ps) old (faults old.disk) now e
    cause_next rows now failure.Repository c = rose_since (faults old.disk) (faults mid.disk) now reads.stays.later c
    cause_next rows now (failure.Damaged place kept found) c =
        (c.0, (c.1.0, c.1.1 ∙ ap (λ n. c.1.0 * n) reads.stays.limit), λ g. c.2 (trusted_on reach honest faults old mid reads g))
    cause_next rows now (failure.Unreadable place) c = (
      (c.0.0, c.0.1 ∙ ap (λ n. c.0.0 * n) reads.stays.limit),
      λ g. c.1
          (trusted_on reach honest faults old mid reads g),
    )
    cause_next rows now (failure.Unfit q) c = (
      ap (is_in ps) (sym (same_number p q c.0) ∙ is) ∙ in_all ps k 0 less,
      λ g r at valid. c.1 (trusted_on reach honest faults old mid reads g) r (same_routine g q ∙ at) valid,
    )
    cause_next rows now (failure.TooSmall q need limit) c = c
    cause_next rows now failure.Memory c = c

    pub stops_next : (new : Paged RoutineBody (Unit {0}) D) (rows : List ShapeRow) (e : Failure) → StopsSeeing reach honest faults rows (nat_eq p) mid new e
        → StopsSeeing reach honest faults rows (is_in ps) old new e
    stops_next new rows e s = record {
      kept = s.kept;
      home = s.home;
      reads = reads_on reach honest faults old mid new reads s.reads;
      cause = cause_next rows (faults new.disk) e s.cause;
    }

    pub present_next : AllByRecursion (λ q. IsSome (kept_at old q)) ps → IsSome (kept_at mid p)
    present_next h =
        let there : IsSome (kept_at old p) = subst (λ q. IsSome (kept_at old q)) (sym is) (all_at (λ q. IsSome (kept_at old q)) ps k 0 h less) in
        some_is (kept_at mid p) (reads.has p ∙ is_some_of (kept_at old p) there)

    -- the graph with one more
    pub graph_next : (prog : IlProgram) (before after : List Seen) → IsTrusted reach honest old → IsProgram prog → IsContents old prog
        → ps ≡ map (λ r. r.pid) prog.routines → before ≡ map summary (take k prog.routines)
        → ((r : RoutineParts) → routine_in mid p ≡ Some r → after ≡ put (summary r) before) → after ≡ map summary (take (k + 1) prog.routines)
    graph_next prog before after g valid held same at more =
        let fewer : k < length prog.routines = subst (λ n. k < n) (ap length same ∙ map_length prog.routines) less in
        let n = next_routine prog k p valid fewer (is ∙ ap (λ l. get_or l k 0) same) in
        more n.routine (same_routine g p ∙ held.by p ∙ n.found) ∙ ap (put (summary n.routine)) at ∙ n.added
