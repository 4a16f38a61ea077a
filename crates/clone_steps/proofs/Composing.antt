-- Steps from one state to another, put together.
use Rattle.std.proofs.Common.{◌≡◌, ◌+◌, ◌*◌, ◌++◌, ℕ, zero, suc, Bool, true, Some, List, [], ◌∷◌, map, refl, sym, ap, subst, arith, le_refl, le_trans, ◌∙◌}
use Rattle.std.proofs.lemmas.List.{append-nil, append_assoc}
use Rattle.il_core.specs.declared.program.IlProgram.{IlProgram}
use Rattle.il_core.specs.declared.shape.ShapeRow.{ShapeRow}
use Rattle.plan_laws.specs.Plan.{State}
use Rattle.compact_form.specs.declared.body.RoutineBody.{RoutineBody}
use Rattle.naim_core.specs.declared.event.Failure.{Failure}
use Rattle.naim_core.specs.declared.event.Failure.TheVariants as failure
use Rattle.naim_loader.specs.Paged.{Paged, IsGood, IsTrusted}
use Rattle.one_owner.proofs.Frames.{rose_since}
use Rattle.plan_pools.specs.Noting.{AllNote, GoesOn}
use Rattle.plan_pools.specs.Planning.{Holds, IsMade, IsNeed, PlanCause, StopsMaking}
use Rattle.plan_pools.specs.Stopping.{InlineCause}
use Rattle.plan_pools.proofs.Plans.{need_left, need_right, notes_on}
use Rattle.clone_pools.specs.States.{GrowsOn, HoldsState, IsReachedState, IsReady, NoState, StateMade, StateNeeds, StateStops, pids_from, programs_of}
use Rattle.clone_pools.specs.declared.progress.Progress.{Progress}

abbrev Pools : Type 0 → Type 0
Pools D = Paged RoutineBody (Unit {0}) D

-- ---- lists

pub programs_on : (xs ys : List State) → programs_of (xs ++ ys) ≡ programs_of xs ++ programs_of ys
programs_on [] ys = refl
programs_on (x ∷ xs) ys = ap (λ l. x.program ∷ l) (programs_on xs ys)

pids_on : (m n p k : ℕ) → k ≡ p + m → (t : ℕ) → t ≡ m + n → pids_from p m ++ pids_from k n ≡ pids_from p t
pids_on zero n p k e t s =
    let same : k ≡ p = omega arith in let all : t ≡ n = omega arith in
    ap (λ q. pids_from q n) same ∙ ap (pids_from p) (sym all)
pids_on (suc m) n p k e zero s = absurd (omega arith)
pids_on (suc m) n p k e (suc t) s = ap (λ l. p ∷ l) (pids_on m n (suc p) k (omega arith) t (omega arith))

-- ---- what stays and what grows

module _ {T B D : Type 0} (faults : D → ℕ) where
  -- a step without clones
  pub grows_by : (xs : List (List (ℕ × T))) (a b : Paged T B D) (n : ℕ) → GoesOn faults xs a b → GrowsOn faults xs a n b n
  grows_by xs a b n g = record {
    limit = g.limit;
    workers = g.workers;
    first = g.first;
    later = g.later;
    programs = g.programs;
    clones = 0;
    next_is = omega arith;
    insertions = g.insertions ∙ sym (append-nil a.trail.insertions);
  }

  pub grows_itself : (l : Paged T B D) (n : ℕ) → GrowsOn faults [] l n l n
  grows_itself l n = record {
    limit = refl;
    workers = refl;
    first = refl;
    later = le_refl (faults l.disk);
    programs = sym (append-nil l.trail.programs);
    clones = 0;
    next_is = omega arith;
    insertions = sym (append-nil l.trail.insertions);
  }

  -- one step after another
  pub grows_on : (xs ys : List (List (ℕ × T))) (a b c : Paged T B D) (n m k : ℕ) → GrowsOn faults xs a n b m → GrowsOn faults ys b m c k
      → GrowsOn faults (xs ++ ys) a n c k
  grows_on xs ys a b c n m k x y =
      let first = x.next_is in
      let second = y.next_is in
      record {
        limit = y.limit ∙ x.limit;
        workers = y.workers ∙ x.workers;
        first = y.first ∙ x.first;
        later = le_trans x.later y.later;
        programs = y.programs ∙ ap (λ l. l ++ ys) x.programs ∙ append_assoc a.trail.programs xs ys;
        clones = x.clones + y.clones;
        next_is = omega arith;
        insertions = y.insertions ∙ ap (λ l. l ++ pids_from m y.clones) x.insertions
            ∙ append_assoc a.trail.insertions (pids_from n x.clones) (pids_from m y.clones)
            ∙ ap (λ l. a.trail.insertions ++ l) (pids_on x.clones y.clones n m first (x.clones + y.clones) refl);
      }

  pub trusted_since : (reach : D → ℕ) (honest : D → Bool) (xs : List (List (ℕ × T))) (a b : Paged T B D) (n m : ℕ) → GrowsOn faults xs a n b m
      → IsTrusted reach honest a → IsTrusted reach honest b
  trusted_since reach honest xs a b n m s g =
      subst (λ k. IsGood reach honest k b.first) (sym s.limit) (subst (IsGood reach honest a.core.limit) (sym s.first) g)

-- ---- causes

module _ {D : Type 0} (reach : D → ℕ) (honest : D → Bool) (faults : D → ℕ) where
  -- a cause, by what is known of an unfit routine and of one that needs more
  pub cause_so : (unfit unfit' : ℕ → Type 0) (needs needs' : ℕ → ℕ → Type 0) → ((q : ℕ) → unfit q → unfit' q)
      → ((q n : ℕ) → needs q n → needs' q n) → (l : Pools D) (before now : ℕ) (e : Failure)
      → InlineCause reach honest faults unfit needs l before now e → InlineCause reach honest faults unfit' needs' l before now e
  cause_so unfit unfit' needs needs' f g l before now failure.Repository c = c
  cause_so unfit unfit' needs needs' f g l before now (failure.Damaged place kept found) c = c
  cause_so unfit unfit' needs needs' f g l before now (failure.Unreadable place) c = c
  cause_so unfit unfit' needs needs' f g l before now (failure.Unfit q) c = f q c
  cause_so unfit unfit' needs needs' f g l before now (failure.TooSmall q need limit) c = (c.0, c.1, g q need c.2)
  cause_so unfit unfit' needs needs' f g l before now failure.Memory c = tt

  -- a cause, seen from before an earlier step
  pub cause_since : (unfit : ℕ → Type 0) (needs : ℕ → ℕ → Type 0) (xs : List (List (ℕ × RoutineBody))) (a b : Pools D) (n m : ℕ)
      → GrowsOn faults xs a n b m → (now : ℕ) (e : Failure) → InlineCause reach honest faults unfit needs b (faults b.disk) now e
      → InlineCause reach honest faults unfit needs a (faults a.disk) now e
  cause_since unfit needs xs a b n m s now failure.Repository c = rose_since (faults a.disk) (faults b.disk) now s.later c
  cause_since unfit needs xs a b n m s now (failure.Damaged place kept found) c =
      (c.0, (c.1.0, c.1.1 ∙ ap (λ k. c.1.0 * k) s.limit), λ g. c.2 (trusted_since faults reach honest xs a b n m s g))
  cause_since unfit needs xs a b n m s now (failure.Unreadable place) c =
      ((c.0.0, c.0.1 ∙ ap (λ k. c.0.0 * k) s.limit), λ g. c.1 (trusted_since faults reach honest xs a b n m s g))
  cause_since unfit needs xs a b n m s now (failure.Unfit q) c = c
  cause_since unfit needs xs a b n m s now (failure.TooSmall q need limit) c = (c.0 ∙ s.limit, c.1, c.2)
  cause_since unfit needs xs a b n m s now failure.Memory c = tt

  -- a cause of a step of the program alone
  pub plan_cause : (programs : IlProgram → List IlProgram) (rows : List ShapeRow) (main : ℕ) (l : Pools D) (before now : ℕ) (e : Failure)
      → PlanCause reach honest faults programs rows main l before now e
      → InlineCause reach honest faults (λ q. (p : IlProgram) → Holds reach honest faults l rows main p → ⊥)
      (λ q n. (p : IlProgram) → Holds reach honest faults l rows main p → IsNeed (programs p) q n) l before now e
  plan_cause programs rows main l before now failure.Repository c = c
  plan_cause programs rows main l before now (failure.Damaged place kept found) c = c
  plan_cause programs rows main l before now (failure.Unreadable place) c = c
  plan_cause programs rows main l before now (failure.Unfit q) c = c
  plan_cause programs rows main l before now (failure.TooSmall q need limit) c = c
  plan_cause programs rows main l before now failure.Memory c = tt

-- ---- steps

module _ {D : Type 0} (reach : D → ℕ) (honest : D → Bool) (faults : D → ℕ) (main : ℕ) where
  -- a step that is made, and another from what it leaves, which may ask more of the first state
  module _ (Fits : State → Type 0) (states : State → List State) (last : State → State) (a : Pools D) (x : Progress) (b : Pools D) (y : Progress)
      (one : StateMade reach honest faults main Fits states last a x b y) where
    pub made_from : (more : State → List State) (end : State → State) (c : Pools D) (z : Progress) (noted : List (List (ℕ × RoutineBody)))
        → IsReady c z → GrowsOn faults noted b y.next c z.next
        → ((st : State) → Fits st → HoldsState reach honest faults main a x st → HoldsState reach honest faults main b y (last st)
        → IsReachedState reach honest faults main noted c z (more st) (end st))
        → StateMade reach honest faults main Fits (λ st. states st ++ more st) end a x c z
    made_from more end c z noted ready grows two = record {
      ready = ready;
      noted = one.noted ++ noted;
      grows = grows_on faults one.noted noted a b c x.next y.next z.next one.grows grows;
      state = λ st fits held.
          let r = one.state st fits held in let s = two st fits held r.holds in
          record {
            holds = s.holds;
            notes = subst (AllNote (one.noted ++ noted)) (sym (programs_on (states st) (more st)))
                (notes_on one.noted noted (programs_of (states st)) (programs_of (more st)) r.notes s.notes);
          };
    }

    pub stops_from : (more : State → List State) (c : Pools D) (e : Failure) (noted : List (List (ℕ × RoutineBody))) (next_now : ℕ)
        → c.core.failure ≡ Some e → c.home ≡ true → GrowsOn faults noted b y.next c next_now
        → InlineCause reach honest faults (λ q. (st : State) → Fits st → HoldsState reach honest faults main a x st → HoldsState reach honest faults main b y (last st) → ⊥)
        (λ q n. (st : State) → Fits st → HoldsState reach honest faults main a x st → HoldsState reach honest faults main b y (last st) → IsNeed (programs_of (more st)) q n)
        b (faults b.disk) (faults c.disk) e
        → StateStops reach honest faults main Fits (λ st. states st ++ more st) a x c e
    stops_from more c e noted next_now kept home grows cause = record {
      kept = kept;
      home = home;
      noted = one.noted ++ noted;
      next_now = next_now;
      grows = grows_on faults one.noted noted a b c x.next y.next next_now one.grows grows;
      cause = cause_so reach honest faults
          (λ q. (st : State) → Fits st → HoldsState reach honest faults main a x st → HoldsState reach honest faults main b y (last st) → ⊥)
          (NoState reach honest faults main Fits a x)
          (λ q n. (st : State) → Fits st → HoldsState reach honest faults main a x st → HoldsState reach honest faults main b y (last st) → IsNeed (programs_of (more st)) q n)
          (StateNeeds reach honest faults main Fits (λ st. states st ++ more st) a x)
          (λ q none st fits held. none st fits held (one.state st fits held).holds)
          (λ q n need st fits held.
          subst (λ ps. IsNeed ps q n) (sym (programs_on (states st) (more st)))
          (need_right (programs_of (states st)) (programs_of (more st)) q n (need st fits held (one.state st fits held).holds)))
          a (faults a.disk) (faults c.disk) e
          (cause_since reach honest faults
          (λ q. (st : State) → Fits st → HoldsState reach honest faults main a x st → HoldsState reach honest faults main b y (last st) → ⊥)
          (λ q n. (st : State) → Fits st → HoldsState reach honest faults main a x st → HoldsState reach honest faults main b y (last st) → IsNeed (programs_of (more st)) q n)
          one.noted a b x.next y.next one.grows (faults c.disk) e cause);
    }

    -- a second step that fits what the first one leaves
    module _ (Fits' : State → Type 0) (still : (st : State) → Fits st → Fits' (last st)) where
      pub then_made : (more : State → List State) (end : State → State) (c : Pools D) (z : Progress)
          → StateMade reach honest faults main Fits' more end b y c z
          → StateMade reach honest faults main Fits (λ st. states st ++ more (last st)) (λ st. end (last st)) a x c z
      then_made more end c z two =
          made_from (λ st. more (last st)) (λ st. end (last st)) c z two.noted two.ready two.grows
          (λ st fits first held. two.state (last st) (still st fits) held)

      pub then_stops : (more : State → List State) (c : Pools D) (e : Failure) → StateStops reach honest faults main Fits' more b y c e
          → StateStops reach honest faults main Fits (λ st. states st ++ more (last st)) a x c e
      then_stops more c e s =
          stops_from (λ st. more (last st)) c e s.noted s.next_now s.kept s.home s.grows
          (cause_so reach honest faults (NoState reach honest faults main Fits' b y)
          (λ q. (st : State) → Fits st → HoldsState reach honest faults main a x st → HoldsState reach honest faults main b y (last st) → ⊥)
          (StateNeeds reach honest faults main Fits' more b y)
          (λ q n. (st : State) → Fits st → HoldsState reach honest faults main a x st → HoldsState reach honest faults main b y (last st) → IsNeed (programs_of (more (last st))) q n)
          (λ q none st fits first held. none (last st) (still st fits) held)
          (λ q n need st fits first held. need (last st) (still st fits) held)
          b (faults b.disk) (faults c.disk) e s.cause)

  -- a stronger premise, and the same states in other words
  pub fits_so : (Fits Fits' : State → Type 0) (states states' : State → List State) (last last' : State → State)
      → ((st : State) → Fits' st → Fits st) → ((st : State) → Fits' st → states st ≡ states' st) → ((st : State) → Fits' st → last st ≡ last' st)
      → (a : Pools D) (x : Progress) (b : Pools D) (y : Progress) → StateMade reach honest faults main Fits states last a x b y
      → StateMade reach honest faults main Fits' states' last' a x b y
  fits_so Fits Fits' states states' last last' so same end a x b y s = record {
    ready = s.ready;
    noted = s.noted;
    grows = s.grows;
    state = λ st fits held.
        let r = s.state st (so st fits) held in
        record {
          holds = subst (HoldsState reach honest faults main b y) (end st fits) r.holds;
          notes = subst (λ sts. AllNote s.noted (programs_of sts)) (same st fits) r.notes;
        };
  }

  -- the same of a failure, among more states
  pub stops_so : (Fits Fits' : State → Type 0) (states states' : State → List State) → ((st : State) → Fits' st → Fits st)
      → ((st : State) → Fits' st → (q n : ℕ) → IsNeed (programs_of (states st)) q n → IsNeed (programs_of (states' st)) q n)
      → (a : Pools D) (x : Progress) (b : Pools D) (e : Failure) → StateStops reach honest faults main Fits states a x b e
      → StateStops reach honest faults main Fits' states' a x b e
  stops_so Fits Fits' states states' so more a x b e s = record {
    kept = s.kept;
    home = s.home;
    noted = s.noted;
    next_now = s.next_now;
    grows = s.grows;
    cause = cause_so reach honest faults (NoState reach honest faults main Fits a x) (NoState reach honest faults main Fits' a x)
        (StateNeeds reach honest faults main Fits states a x) (StateNeeds reach honest faults main Fits' states' a x)
        (λ q none st fits held. none st (so st fits) held)
        (λ q n need st fits held. more st fits q n (need st (so st fits) held))
        a (faults a.disk) (faults b.disk) e s.cause;
  }

  -- the first step stopped, and another was to follow
  pub stops_first : (Fits : State → Type 0) (states more : State → List State) (a : Pools D) (x : Progress) (b : Pools D) (e : Failure)
      → StateStops reach honest faults main Fits states a x b e
      → StateStops reach honest faults main Fits (λ st. states st ++ more st) a x b e
  stops_first Fits states more a x b e s =
      stops_so Fits Fits states (λ st. states st ++ more st) (λ st fits. fits)
      (λ st fits q n need. subst (λ ps. IsNeed ps q n) (sym (programs_on (states st) (more st)))
      (need_left (programs_of (states st)) (programs_of (more st)) q n need)) a x b e s

  -- ---- a step of the program alone

  -- any state
  abbrev pub AnyState : State → Type 0
  AnyState st = Unit {0}

  module _ (programs : IlProgram → List IlProgram) (last : IlProgram → IlProgram) (a : Pools D) (x : Progress) (b : Pools D) where
    pub lifted : (states : State → List State) (end : State → State) → ((st : State) → programs_of (states st) ≡ programs st.program)
        → ((st : State) → end st ≡ record st { program = last st.program }) → IsReady a x
        → IsMade reach honest faults programs last x.shapes main a b x.shapes
        → StateMade reach honest faults main AnyState states end a x b x
    lifted states end same is ready m = record {
      ready = record { rests = m.rests; pools = m.pools; above = ready.above; next = ready.next };
      noted = m.noted;
      grows = grows_by faults m.noted a b x.next m.goes;
      state = λ st fits held.
          let r = m.program st.program held.holds in
          record {
            holds = subst (HoldsState reach honest faults main b x) (sym (is st))
                (record { holds = r.holds; next = held.next; made = held.made; table_is = held.table_is });
            notes = subst (AllNote m.noted) (sym (same st)) r.notes;
          };
    }

    pub lifted_stops : (states : State → List State) → ((st : State) → programs_of (states st) ≡ programs st.program) → (e : Failure)
        → StopsMaking reach honest faults programs x.shapes main a b e → StateStops reach honest faults main AnyState states a x b e
    lifted_stops states same e s = record {
      kept = s.kept;
      home = s.home;
      noted = s.noted;
      next_now = x.next;
      grows = grows_by faults s.noted a b x.next s.goes;
      cause = cause_so reach honest faults (λ q. (p : IlProgram) → Holds reach honest faults a x.shapes main p → ⊥)
          (NoState reach honest faults main AnyState a x)
          (λ q n. (p : IlProgram) → Holds reach honest faults a x.shapes main p → IsNeed (programs p) q n)
          (StateNeeds reach honest faults main AnyState states a x)
          (λ q none st fits held. none st.program held.holds)
          (λ q n need st fits held. subst (λ ps. IsNeed ps q n) (sym (same st)) (need st.program held.holds))
          a (faults a.disk) (faults b.disk) e (plan_cause reach honest faults programs x.shapes main a (faults a.disk) (faults b.disk) e s.cause);
    }
