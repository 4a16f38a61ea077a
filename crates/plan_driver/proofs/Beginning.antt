-- A plan that begins in pools.
use Rattle.std.proofs.Common.{◌≡◌, ◌≤◌, ◌<◌, ◌^◌, ℕ, Bool, List, [], ◌∷◌, sym, ap, subst, arith, ◌∙◌}
use Rattle.std.specs.List.{AllByRecursion}
use Rattle.il_core.specs.Limits.{IsPid, IsWithinLimits}
use Rattle.il_core.specs.Size.{cost}
use Rattle.il_core.specs.declared.program.IlProgram.{IlProgram}
use Rattle.il_core.specs.declared.shape.ShapeRow.{ShapeRow}
use Rattle.compact_form.specs.declared.body.RoutineBody.{RoutineBody}
use Rattle.clone_names.specs.Made.{next_pid}
use Rattle.clone_pools.specs.States.{GrowsOn}
use Rattle.clone_pools.specs.declared.progress.Progress.{Progress}
use Rattle.clone_steps.proofs.Composing.{grows_by}
use Rattle.inline_steps.proofs.Stopped.{failed_stops}
use Rattle.naim_core.specs.declared.event.Failure.{Failure}
use Rattle.naim_core.specs.declared.event.Failure.TheVariants as failure
use Rattle.naim_loader.specs.Calls.{Fails}
use Rattle.naim_loader.specs.Paged.{Paged}
use Rattle.plan_pools.specs.Contents.{HavePools}
use Rattle.plan_pools.specs.Planning.{Holds, IsMade, PlanCause, StopsMaking}
use Rattle.plan_pools.proofs.Plans.{made_on, stops_on}
use Rattle.plan_driver.specs.Optimising.{first_free}
use Rattle.plan_driver.specs.Starting.{BeginCause, Begins, Starts}
use Rattle.plan_driver.proofs.First.{below_free}

abbrev Pools : Type 0 → Type 0
Pools D = Paged RoutineBody (Unit {0}) D

module _ {D : Type 0} (reach : D → ℕ) (honest : D → Bool) (faults : D → ℕ) (rows : List ShapeRow) (main : ℕ) (old noted : Pools D)
    (first : IsMade reach honest faults (λ p. p ∷ []) (λ p. p) rows main old noted rows) where
  -- what stops once the first program was noted
  pub first_stops : (c : Pools D) (e : Failure) → StopsMaking reach honest faults (λ p. []) rows main noted c e
      → StopsMaking reach honest faults (λ p. p ∷ []) rows main old c e
  first_stops c e s = stops_on reach honest faults rows main (λ p. p ∷ []) (λ p. p) old noted rows first (λ p. []) c e s

  module _ (mid : Pools D) (seen : IsMade reach honest faults (λ p. []) (λ p. p) rows main noted mid rows) where
    both : IsMade reach honest faults (λ p. p ∷ []) (λ p. p) rows main old mid rows
    both = made_on reach honest faults rows main (λ p. p ∷ []) (λ p. p) old noted rows first (λ p. []) (λ p. p) mid rows seen

    begin_cause : (before now : ℕ) (e : Failure) → BeginCause rows e → PlanCause reach honest faults (λ p. []) rows main mid before now e
    begin_cause before now failure.Repository c = absurd c
    begin_cause before now (failure.Damaged place kept found) c = absurd c
    begin_cause before now (failure.Unreadable place) c = absurd c
    begin_cause before now (failure.Unfit q) c = λ p h. c (subst (AllByRecursion (λ (row : ShapeRow). IsPid row.pid)) h.shapes h.valid.pids)
    begin_cause before now (failure.TooSmall q need limit) c = absurd c
    begin_cause before now failure.Memory c = tt

    pub begin_stops : (c : Pools D) (e : Failure) → Fails mid 0 e c → BeginCause rows e
        → StopsMaking reach honest faults (λ p. p ∷ []) rows main old c e
    begin_stops c e t cause =
        stops_on reach honest faults rows main (λ p. p ∷ []) (λ p. p) old mid rows both (λ p. []) c e
        (failed_stops reach honest faults rows main (λ p. []) mid c e seen.rests t (begin_cause (faults mid.disk) (faults c.disk) e cause))

    pub begins : (n : ℕ) → n ≤ 2 ^ 44 → ((p : IlProgram) → Holds reach honest faults noted rows main p → n ≡ cost p.routines)
        → ((p : IlProgram) → Holds reach honest faults noted rows main p → AllByRecursion IsWithinLimits p.routines)
        → (names : List ShapeRow) (n_now : ℕ) (x : Progress) → Begins rows n names n_now x
        → Starts reach honest faults rows main old mid names n_now x
    begins n most same within names n_now x b = record {
      ready = record {
        rests = both.rests;
        pools = subst (HavePools mid) (sym b.shapes) both.pools;
        above = subst (λ k. AllByRecursion (λ (row : ShapeRow). row.pid < k) x.shapes) (sym b.next)
            (subst (AllByRecursion (λ (row : ShapeRow). row.pid < first_free rows)) (sym b.shapes) (below_free rows));
        next = (let is = ap next_pid b.made in let free = b.next in omega (arith, is, free));
      };
      names_are = b.names_are;
      most = subst (λ k. k ≤ 2 ^ 44) (sym b.cost_is) most;
      noted = both.noted;
      grows = subst (GrowsOn faults both.noted old (first_free rows) mid) (sym b.next) (grows_by faults both.noted old mid (first_free rows) both.goes);
      program = λ p h.
          let r = both.program p h in let f = (first.program p h).holds in
          record {
            holds = record {
              holds = subst (λ rs. Holds reach honest faults mid rs main p) (sym b.shapes) r.holds;
              next = ap first_free h.shapes ∙ sym b.next;
              made = sym (ap (λ c. c.made) b.made);
              table_is = sym b.table_is;
            };
            notes = r.notes;
            cost_is = b.cost_is ∙ same p f;
            within = within p f;
          };
    }
