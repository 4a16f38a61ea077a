-- Passes one after another: what was done of them, and what is to come.
use Rattle.std.proofs.Common.{◌≡◌, ◌<◌, ◌≤◌, ◌+◌, ℕ, zero, suc, Bool, List, [], ◌∷◌, ◌++◌, refl, sym, ap, subst, arith, ◌∙◌}
use Rattle.std.specs.Prelude.{flat_map}
use Rattle.std.proofs.lemmas.List.{append-nil, append_assoc}
use Rattle.il_core.specs.Program.{main_pid}
use Rattle.il_core.specs.declared.shape.ShapeRow.{ShapeRow}
use Rattle.compact_form.specs.declared.body.RoutineBody.{RoutineBody}
use Rattle.clone_pools.specs.States.{GrowsOn, HoldsState, IsReady, NoState, StateMade, StateNeeds, StateStops, programs_of}
use Rattle.clone_pools.specs.declared.progress.Progress.{Progress}
use Rattle.clone_steps.proofs.Composing.{grows_itself, grows_on, programs_on}
use Rattle.inline_steps.specs.Steps.{inlined}
use Rattle.naim_core.specs.declared.event.Failure.{Failure}
use Rattle.naim_loader.specs.Paged.{Paged}
use Rattle.plan_laws.specs.Plan.{Pass, State, limit_of, one_pass, passes_from, prune, states_of}
use Rattle.plan_pools.specs.Budgetless.{simplified}
use Rattle.plan_pools.specs.Cloning.{MayClone, sent, with_clones}
use Rattle.plan_pools.specs.Noting.{AllNote}
use Rattle.plan_pools.specs.Planning.{IsCost, IsNeed}
use Rattle.plan_pools.proofs.Plans.{need_left, need_right, notes_on}
use Rattle.plan_driver.specs.Passing.{pass_states, passed, rewritten, with_program}
use Rattle.plan_driver.specs.Running.{FitsPasses, MayPass, left_after, left_by, passes_states}
use Rattle.plan_driver.proofs.Causes.{cause_before}

abbrev Pools : Type 0 → Type 0
Pools D = Paged RoutineBody (Unit {0}) D

-- ---- one pass of the plan is that of a program with this main

-- its states, where calls are inlined for this main
states_for : List ShapeRow → ℕ → ℕ → State → ℕ → List State
states_for names main limit st m =
    let b = sent names main limit st in
    let d = with_program (λ p. inlined m limit (simplified p)) b in
    let e = with_program (rewritten m limit) b in
    with_clones names main limit st ∷ b ∷ with_program simplified b ∷ d ∷ e ∷ prune e ∷ []

last_for : List ShapeRow → ℕ → ℕ → State → ℕ → State
last_for names main limit st m = prune (with_program (rewritten m limit) (sent names main limit st))

-- the pass, where there is a budget
same_pass : (names : List ShapeRow) (budget limit : ℕ) (st : State) (main : ℕ) → main_pid st.program.shapes ≡ main → MayClone names main limit st
    → (states_of (one_pass names (suc budget) limit st) ≡ pass_states names main limit st)
    × ((one_pass names (suc budget) limit st).pruned ≡ passed names main limit st)
unfolding states_for last_for
same_pass names budget limit st main is may =
    subst (λ m. MayClone names m limit st → (states_of (one_pass names (suc budget) limit st) ≡ pass_states names m limit st)
    × ((one_pass names (suc budget) limit st).pruned ≡ passed names m limit st)) is
    (λ here. (
      ap (states_for names (main_pid st.program.shapes) limit st) here.added_main,
      ap (last_for names (main_pid st.program.shapes) limit st) here.added_main,
    )) may

states_same : (names : List ShapeRow) (budget : ℕ) → 0 < budget → (limit : ℕ) (st : State) (main : ℕ) → main_pid st.program.shapes ≡ main
    → MayClone names main limit st → states_of (one_pass names budget limit st) ≡ pass_states names main limit st
states_same names zero some limit st main is may = absurd (omega (arith, some))
states_same names (suc budget) some limit st main is may = (same_pass names budget limit st main is may).0

last_same : (names : List ShapeRow) (budget : ℕ) → 0 < budget → (limit : ℕ) (st : State) (main : ℕ) → main_pid st.program.shapes ≡ main
    → MayClone names main limit st → (one_pass names budget limit st).pruned ≡ passed names main limit st
last_same names zero some limit st main is may = absurd (omega (arith, some))
last_same names (suc budget) some limit st main is may = (same_pass names budget limit st main is may).1

-- ---- so many passes

need_within : (done xs tail all : List State) (q n : ℕ) → done ++ (xs ++ tail) ≡ all → IsNeed (programs_of xs) q n → IsNeed (programs_of all) q n
need_within done xs tail all q n e w =
    subst (λ l. IsNeed (programs_of l) q n) e
    (subst (λ l. IsNeed l q n) (sym (programs_on done (xs ++ tail)))
    (need_right (programs_of done) (programs_of (xs ++ tail)) q n
    (subst (λ l. IsNeed l q n) (sym (programs_on xs tail))
    (need_left (programs_of xs) (programs_of tail) q n w))))

module _ {D : Type 0} (reach : D → ℕ) (honest : D → Bool) (faults : D → ℕ) (names : List ShapeRow) (main first budget n : ℕ) where
  abbrev limit : ℕ → ℕ
  limit k = limit_of first budget n k

  abbrev to_come : ℕ → ℕ → State → List Pass
  to_come k left st = passes_from names budget limit (suc k) left st

  -- From a first state on k passes were made: this state is held, and what is to come gives what all passes give.
  pub record Reached (k : ℕ) (noted : List (List (ℕ × RoutineBody))) (new : Pools D) (y : Progress) (costs : ℕ) (st : State) : Type 0 where
    pub now : State
    pub left : ℕ
    pub count : k + left ≡ n
    pub done : List State
    pub holds : HoldsState reach honest faults main new y now
    pub notes : AllNote noted (programs_of done)
    pub rest : done ++ flat_map states_of (to_come k left now) ≡ passes_states names first budget n st
    pub fits : MayPass names main limit (suc k) now (to_come k left now)
    pub end : left_by (to_come k left now) now ≡ left_after names first budget n st
    pub cost_is : 0 < k → IsCost costs now.program

  -- k passes were made
  pub record Runs (old : Pools D) (x : Progress) (k : ℕ) (new : Pools D) (y : Progress) (costs : ℕ) : Type 0 where
    pub ready : IsReady new y
    pub noted : List (List (ℕ × RoutineBody))
    pub grows : GrowsOn faults noted old x.next new y.next
    pub state : (st : State) → FitsPasses names main first budget n st → HoldsState reach honest faults main old x st
        → Reached k noted new y costs st

  pub runs_none : (old : Pools D) (x : Progress) (costs : ℕ) → IsReady old x → Runs old x 0 old x costs
  runs_none old x costs ready = record {
    ready = ready;
    noted = [];
    grows = grows_itself faults old x.next;
    state = λ st f h. record {
      now = st;
      left = n;
      count = omega arith;
      done = [];
      holds = h;
      notes = tt;
      rest = refl;
      fits = f;
      end = refl;
      cost_is = λ less. absurd (omega (arith, less));
    };
  }

  -- one pass more
  module _ (old : Pools D) (x : Progress) (k : ℕ) (b : Pools D) (y : Progress) (costs : ℕ) (r : Runs old x k b y costs) (less : k < n)
      (some : 0 < budget) where
    abbrev Fits : State → Type 0
    Fits = MayClone names main (limit (suc k))

    abbrev states : State → List State
    states = pass_states names main (limit (suc k))

    abbrev last : State → State
    last = passed names main (limit (suc k))

    -- what comes next of what was reached
    record Next (now : State) (done : List State) (st : State) : Type 0 where
      left : ℕ
      count : suc k + left ≡ n
      may : Fits now
      rest : done ++ (states now ++ flat_map states_of (to_come (suc k) left (last now))) ≡ passes_states names first budget n st
      fits : MayPass names main limit (suc (suc k)) (last now) (to_come (suc k) left (last now))
      end : left_by (to_come (suc k) left (last now)) (last now) ≡ left_after names first budget n st

    next : (noted : List (List (ℕ × RoutineBody))) (st : State) (t : Reached k noted b y costs st) → Next t.now t.done st
    next noted st t = by t.left t.count t.rest t.fits t.end
      where
        by : (left : ℕ) → k + left ≡ n → t.done ++ flat_map states_of (to_come k left t.now) ≡ passes_states names first budget n st
            → MayPass names main limit (suc k) t.now (to_come k left t.now)
            → left_by (to_come k left t.now) t.now ≡ left_after names first budget n st → Next t.now t.done st
        by zero count rest fits end = absurd (omega (arith, count, less))
        by (suc left) count rest fits end =
            let main_is = t.holds.holds.main_is in
            let one = one_pass names budget (limit (suc k)) t.now in
            let same : states_of one ≡ states t.now = states_same names budget some (limit (suc k)) t.now main main_is fits.0 in
            let gone : one.pruned ≡ last t.now = last_same names budget some (limit (suc k)) t.now main main_is fits.0 in
            record {
              left = left;
              count = omega (arith, count);
              may = fits.0;
              rest = ap (λ l. t.done ++ (l ++ flat_map states_of (to_come (suc k) left (last t.now)))) (sym same)
                  ∙ ap (λ s. t.done ++ (states_of one ++ flat_map states_of (to_come (suc k) left s))) (sym gone) ∙ rest;
              fits = subst (λ s. MayPass names main limit (suc (suc k)) s (to_come (suc k) left s)) gone fits.1;
              end = ap (λ s. left_by (to_come (suc k) left s) s) (sym gone) ∙ end;
            }

    module _ (c : Pools D) (z : Progress) (costs' : ℕ) (m : StateMade reach honest faults main Fits states last b y c z)
        (told : (st : State) → Fits st → HoldsState reach honest faults main b y st → IsCost costs' (last st).program) where
      reached_more : (st : State) (t : Reached k r.noted b y costs st) → Next t.now t.done st → Reached (suc k) (r.noted ++ m.noted) c z costs' st
      reached_more st t w =
          let q = m.state t.now w.may t.holds in
          record {
            now = last t.now;
            left = w.left;
            count = w.count;
            done = t.done ++ states t.now;
            holds = q.holds;
            notes = subst (AllNote (r.noted ++ m.noted)) (sym (programs_on t.done (states t.now)))
                (notes_on r.noted m.noted (programs_of t.done) (programs_of (states t.now)) t.notes q.notes);
            rest = append_assoc t.done (states t.now) (flat_map states_of (to_come (suc k) w.left (last t.now))) ∙ w.rest;
            fits = w.fits;
            end = w.end;
            cost_is = λ any. told t.now w.may t.holds;
          }

      pub runs_more : Runs old x (suc k) c z costs'
      runs_more = record {
        ready = m.ready;
        noted = r.noted ++ m.noted;
        grows = grows_on faults r.noted m.noted old b c x.next y.next z.next r.grows m.grows;
        state = λ st f h. (let t = r.state st f h in reached_more st t (next r.noted st t));
      }

    pub runs_stop : (c : Pools D) (e : Failure) → StateStops reach honest faults main Fits states b y c e
        → StateStops reach honest faults main (FitsPasses names main first budget n) (passes_states names first budget n) old x c e
    runs_stop c e s = record {
      kept = s.kept;
      home = s.home;
      noted = r.noted ++ s.noted;
      next_now = s.next_now;
      grows = grows_on faults r.noted s.noted old b c x.next y.next s.next_now r.grows s.grows;
      cause = cause_before reach honest faults (NoState reach honest faults main Fits b y)
          (NoState reach honest faults main (FitsPasses names main first budget n) old x)
          (StateNeeds reach honest faults main Fits states b y)
          (StateNeeds reach honest faults main (FitsPasses names main first budget n) (passes_states names first budget n) old x)
          (λ q w st f h. (let t = r.state st f h in w t.now (next r.noted st t).may t.holds))
          (λ q need w st f h. (let t = r.state st f h in let g = next r.noted st t in
          need_within t.done (states t.now) (flat_map states_of (to_come (suc k) g.left (last t.now))) (passes_states names first budget n st) q need
          g.rest (w t.now g.may t.holds)))
          r.noted old b x.next y.next r.grows (faults c.disk) e s.cause;
    }

    -- the same under a limit that is told
    module _ (j : ℕ) (next_is : j ≡ suc k) (l : ℕ) (limit_is : l ≡ limit_of first budget n j) where
      same_limit : l ≡ limit (suc k)
      same_limit = limit_is ∙ ap (limit_of first budget n) next_is

      pub runs_next : (c : Pools D) (z : Progress) (costs' : ℕ)
          → StateMade reach honest faults main (MayClone names main l) (pass_states names main l) (passed names main l) b y c z
          → ((st : State) → MayClone names main l st → HoldsState reach honest faults main b y st → IsCost costs' (passed names main l st).program)
          → Runs old x j c z costs'
      runs_next c z costs' m told =
          subst (λ i. Runs old x i c z costs') (sym next_is)
          (runs_more c z costs'
          (subst (λ i. StateMade reach honest faults main (MayClone names main i) (pass_states names main i) (passed names main i) b y c z) same_limit m)
          (subst (λ i. (st : State) → MayClone names main i st → HoldsState reach honest faults main b y st → IsCost costs' (passed names main i st).program)
          same_limit told))

      pub runs_end : (c : Pools D) (e : Failure) → StateStops reach honest faults main (MayClone names main l) (pass_states names main l) b y c e
          → StateStops reach honest faults main (FitsPasses names main first budget n) (passes_states names first budget n) old x c e
      runs_end c e s =
          runs_stop c e (subst (λ i. StateStops reach honest faults main (MayClone names main i) (pass_states names main i) b y c e) same_limit s)

  -- all passes were made
  module _ (old : Pools D) (x : Progress) (k : ℕ) (b : Pools D) (y : Progress) (costs : ℕ) (r : Runs old x k b y costs) (all : n ≤ k) where
    record Whole (now : State) (done : List State) (st : State) : Type 0 where
      done_is : done ≡ passes_states names first budget n st
      now_is : now ≡ left_after names first budget n st

    whole : (st : State) (t : Reached k r.noted b y costs st) → Whole t.now t.done st
    whole st t = by t.left t.count t.rest t.end
      where
        by : (left : ℕ) → k + left ≡ n → t.done ++ flat_map states_of (to_come k left t.now) ≡ passes_states names first budget n st
            → left_by (to_come k left t.now) t.now ≡ left_after names first budget n st → Whole t.now t.done st
        by zero count rest end = record { done_is = sym (append-nil t.done) ∙ rest; now_is = end }
        by (suc left) count rest end = absurd (omega (arith, count, all))

    pub runs_all : StateMade reach honest faults main (FitsPasses names main first budget n) (passes_states names first budget n)
        (left_after names first budget n) old x b y
    runs_all = record {
      ready = r.ready;
      noted = r.noted;
      grows = r.grows;
      state = λ st f h.
          let t = r.state st f h in let w = whole st t in
          record {
            holds = subst (HoldsState reach honest faults main b y) w.now_is t.holds;
            notes = subst (λ l. AllNote r.noted (programs_of l)) w.done_is t.notes;
          };
    }

    pub runs_cost : 0 < n → (st : State) → FitsPasses names main first budget n st → HoldsState reach honest faults main old x st
        → IsCost costs (left_after names first budget n st).program
    runs_cost some st f h =
        let t = r.state st f h in let w = whole st t in
        let any : 0 < k = omega (arith, some, all) in subst (λ s. IsCost costs s.program) w.now_is (t.cost_is any)
