-- What all passes make is the plan.
use Rattle.std.proofs.Common.{◌≡◌, ◌<◌, ℕ, zero, suc, Bool, List, [], ◌∷◌, ◌++◌, refl, sym, ap, subst, arith, ◌∙◌}
use Rattle.std.specs.Prelude.{flat_map}
use Rattle.std.specs.List.{AllByRecursion}
use Rattle.il_core.specs.Limits.{IsWithinLimits}
use Rattle.il_core.specs.Program.{main_pid}
use Rattle.il_core.specs.Size.{cost}
use Rattle.il_core.specs.declared.program.IlProgram.{IlProgram}
use Rattle.il_core.specs.declared.shape.ShapeRow.{ShapeRow}
use Rattle.compact_form.specs.declared.body.RoutineBody.{RoutineBody}
use Rattle.clone_pools.specs.States.{HoldsState, NoState, StateMade, StateNeeds, StateStops, programs_of}
use Rattle.clone_pools.specs.declared.progress.Progress.{Progress}
use Rattle.clone_steps.proofs.Composing.{grows_by, grows_on}
use Rattle.naim_core.specs.declared.event.Failure.{Failure}
use Rattle.naim_core.specs.declared.event.Failure.TheVariants as failure
use Rattle.naim_loader.specs.Paged.{Paged}
use Rattle.pass_laws.specs.PassLaws.{FitsPass, PassesClone}
use Rattle.plan_laws.specs.GroupLaws.{EachPass}
use Rattle.plan_laws.specs.Plan.{Pass, State, at_first, final, last_program, limit_of, passes, plan, states_of}
use Rattle.plan_laws.specs.PlanLaws.{HasNoDollar, IsFirst}
use Rattle.plan_pools.specs.Cloning.{MayClone}
use Rattle.plan_pools.specs.Noting.{AllNote}
use Rattle.plan_pools.specs.Planning.{Holds, IsCost, IsMade, IsNeed, PlanCause, StopsMaking}
use Rattle.plan_pools.specs.Stopping.{InlineCause}
use Rattle.plan_pools.proofs.Plans.{need_left, need_right, notes_on, stops_so}
use Rattle.plan_driver.specs.Optimising.{Optimises, StopsOptimising, first_free}
use Rattle.plan_driver.specs.Running.{FitsPasses, left_after, left_by, passes_states}
use Rattle.plan_driver.specs.Starting.{Starts}
use Rattle.plan_driver.proofs.Causes.{cause_before}

abbrev Pools : Type 0 → Type 0
Pools D = Paged RoutineBody (Unit {0}) D

-- ---- the plan by its passes

-- what holds of each pass holds so of it
each_so : (P Q : ℕ → State → Pass → Type 0) → ((k : ℕ) (st : State) (x : Pass) → P k st x → Q k st x) → (k : ℕ) (st : State) (xs : List Pass)
    → EachPass P k st xs → EachPass Q k st xs
each_so P Q so k st [] h = tt
each_so P Q so k st (x ∷ xs) h = (so k st x h.0, each_so P Q so (suc k) x.pruned xs h.1)

-- clones may be made in each pass of a first program
may_pass : PassesClone → (p : IlProgram) → IsFirst p → AllByRecursion IsWithinLimits p.routines → (budget n : ℕ) → 0 < budget
    → FitsPasses p.shapes (main_pid p.shapes) (cost p.routines) budget n (at_first p)
may_pass law p is within zero n some = absurd (omega (arith, some))
may_pass law p is within (suc budget) n some =
    each_so (λ k st x. FitsPass p.shapes (main_pid p.shapes) (limit_of (cost p.routines) (suc budget) n k) st x)
    (λ k st x. MayClone p.shapes (main_pid p.shapes) (limit_of (cost p.routines) (suc budget) n k) st) (λ k st x h. h.may) 1 (at_first p)
    (passes p (suc budget) n) (law p is within budget n)

last_left : (xs : List Pass) (st : State) → last_program st.program (programs_of (flat_map states_of xs)) ≡ (left_by xs st).program
last_left [] st = refl
last_left (x ∷ xs) st = last_left xs x.pruned

-- what all passes leave of a program has the plan's last one
left_final : (p : IlProgram) (budget n : ℕ) → (left_after p.shapes (cost p.routines) budget n (at_first p)).program ≡ final p budget n
left_final p budget n = sym (last_left (passes p budget n) (at_first p))

module _ {D : Type 0} (reach : D → ℕ) (honest : D → Bool) (faults : D → ℕ) (rows : List ShapeRow) (main : ℕ) (old : Pools D) where
  -- ---- where nothing is spent

  pub made_optimises : (programs : IlProgram → List IlProgram) (last : IlProgram → IlProgram) (new : Pools D) (left : List ShapeRow)
      → IsMade reach honest faults programs last rows main old new left → Optimises reach honest faults programs last rows main old new left
  made_optimises programs last new left m = record {
    rests = m.rests;
    pools = m.pools;
    noted = m.noted;
    next_now = first_free rows;
    grows = grows_by faults m.noted old new (first_free rows) m.goes;
    program = m.program;
  }

  pub stops_optimising : (programs : IlProgram → List IlProgram) (new : Pools D) (e : Failure)
      → StopsMaking reach honest faults programs rows main old new e → StopsOptimising reach honest faults programs rows main old new e
  stops_optimising programs new e s = record {
    kept = s.kept;
    home = s.home;
    noted = s.noted;
    next_now = first_free rows;
    grows = grows_by faults s.noted old new (first_free rows) s.goes;
    cause = s.cause;
  }

  -- ---- within a budget

  module _ (budget n : ℕ) where
    -- the plan stopped as it began
    pub start_stops : (new : Pools D) (e : Failure) → StopsMaking reach honest faults (λ p. p ∷ []) rows main old new e
        → StopsOptimising reach honest faults (λ p. plan p budget n) rows main old new e
    start_stops new e s =
        stops_optimising (λ p. plan p budget n) new e
        (stops_so reach honest faults rows main (λ p. p ∷ []) (λ p. plan p budget n)
        (λ p q need w. need_left (p ∷ []) (programs_of (passes_states p.shapes (cost p.routines) budget n (at_first p))) q need w) old new e s)

    module _ (law : PassesClone) (no_dollar : AllByRecursion HasNoDollar rows) (some : 0 < budget) (mid : Pools D) (names : List ShapeRow) (first : ℕ)
        (x : Progress) (s : Starts reach honest faults rows main old mid names first x) where
      abbrev Fits : State → Type 0
      Fits = FitsPasses names main first budget n

      -- where a program was held, the names, the main and the cost are its own
      record Own (p : IlProgram) : Type 0 where
        fits : Fits (at_first p)
        states : passes_states names first budget n (at_first p) ≡ passes_states p.shapes (cost p.routines) budget n (at_first p)
        end : (left_after names first budget n (at_first p)).program ≡ final p budget n

      own : (p : IlProgram) → Holds reach honest faults old rows main p → Own p
      own p h =
          let w = s.program p h in
          let named : p.shapes ≡ names = h.shapes ∙ sym s.names_are in
          let is = may_pass law p (record { valid = h.valid; names = subst (AllByRecursion HasNoDollar) (sym h.shapes) no_dollar }) w.within budget n some in
          record {
            fits = subst (λ c. FitsPasses names main c budget n (at_first p)) (sym w.cost_is)
                (subst (λ m. FitsPasses names m (cost p.routines) budget n (at_first p)) h.main_is
                (subst (λ rs. FitsPasses rs (main_pid p.shapes) (cost p.routines) budget n (at_first p)) named is));
            states = ap (λ c. passes_states names c budget n (at_first p)) w.cost_is
                ∙ ap (λ rs. passes_states rs (cost p.routines) budget n (at_first p)) (sym named);
            end = ap (λ c. (left_after names c budget n (at_first p)).program) w.cost_is
                ∙ ap (λ rs. (left_after rs (cost p.routines) budget n (at_first p)).program) (sym named) ∙ left_final p budget n;
          }

      pub passes_made : (new : Pools D) (y : Progress)
          → StateMade reach honest faults main Fits (passes_states names first budget n) (left_after names first budget n) mid x new y
          → Optimises reach honest faults (λ p. plan p budget n) (λ p. final p budget n) rows main old new y.shapes
      passes_made new y m = record {
        rests = m.ready.rests;
        pools = m.ready.pools;
        noted = s.noted ++ m.noted;
        next_now = y.next;
        grows = grows_on faults s.noted m.noted old mid new (first_free rows) x.next y.next s.grows m.grows;
        program = λ p h.
            let w = s.program p h in let o = own p h in let r = m.state (at_first p) o.fits w.holds in
            record {
              holds = subst (Holds reach honest faults new y.shapes main) o.end r.holds.holds;
              notes = notes_on s.noted m.noted (p ∷ []) (programs_of (passes_states p.shapes (cost p.routines) budget n (at_first p))) w.notes
                  (subst (λ l. AllNote m.noted (programs_of l)) o.states r.notes);
            };
      }

      plan_cause : (before now : ℕ) (e : Failure)
          → InlineCause reach honest faults (λ q. (p : IlProgram) → Holds reach honest faults old rows main p → ⊥)
          (λ q need. (p : IlProgram) → Holds reach honest faults old rows main p → IsNeed (plan p budget n) q need) old before now e
          → PlanCause reach honest faults (λ p. plan p budget n) rows main old before now e
      plan_cause before now failure.Repository c = c
      plan_cause before now (failure.Damaged place kept found) c = c
      plan_cause before now (failure.Unreadable place) c = c
      plan_cause before now (failure.Unfit q) c = c
      plan_cause before now (failure.TooSmall q need limit) c = c
      plan_cause before now failure.Memory c = c

      pub passes_stop : (new : Pools D) (e : Failure) → StateStops reach honest faults main Fits (passes_states names first budget n) mid x new e
          → StopsOptimising reach honest faults (λ p. plan p budget n) rows main old new e
      passes_stop new e t = record {
        kept = t.kept;
        home = t.home;
        noted = s.noted ++ t.noted;
        next_now = t.next_now;
        grows = grows_on faults s.noted t.noted old mid new (first_free rows) x.next t.next_now s.grows t.grows;
        cause = plan_cause (faults old.disk) (faults new.disk) e
            (cause_before reach honest faults (NoState reach honest faults main Fits mid x)
            (λ q. (p : IlProgram) → Holds reach honest faults old rows main p → ⊥)
            (StateNeeds reach honest faults main Fits (passes_states names first budget n) mid x)
            (λ q need. (p : IlProgram) → Holds reach honest faults old rows main p → IsNeed (plan p budget n) q need)
            (λ q w p h. w (at_first p) (own p h).fits (s.program p h).holds)
            (λ q need w p h. need_right (p ∷ []) (programs_of (passes_states p.shapes (cost p.routines) budget n (at_first p))) q need
            (subst (λ l. IsNeed (programs_of l) q need) (own p h).states (w (at_first p) (own p h).fits (s.program p h).holds)))
            s.noted old mid (first_free rows) x.next s.grows (faults new.disk) e t.cause);
      }

      pub passes_cost : (costs : ℕ) → ((st : State) → Fits st → HoldsState reach honest faults main mid x st
          → IsCost costs (left_after names first budget n st).program) → (p : IlProgram) → Holds reach honest faults old rows main p
          → IsCost costs (final p budget n)
      passes_cost costs told p h =
          let o = own p h in subst (IsCost costs) o.end (told (at_first p) o.fits (s.program p h).holds)
