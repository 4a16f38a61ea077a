-- Dead routines and the rows of dead clones that went, as a step of the plan.
use Rattle.std.proofs.Common.{◌≡◌, ◌<◌, ℕ, Bool, List, [], ◌∷◌, Result, Ok, Err, refl, sym, ap, subst, ◌∙◌}
use Rattle.std.specs.Prelude.{filter, IfOk}
use Rattle.std.specs.List.{AllByRecursion}
use Rattle.il_core.specs.declared.shape.ShapeRow.{ShapeRow}
use Rattle.il_laws.specs.Reach.{is_in, is_live, pruned}
use Rattle.il_laws.specs.Table.{Row}
use Rattle.compact_form.specs.declared.body.RoutineBody.{RoutineBody}
use Rattle.clone_pools.specs.States.{IsReady, StateMade, StateStops}
use Rattle.clone_pools.specs.declared.progress.Progress.{Progress}
use Rattle.clone_steps.proofs.Composing.{lifted_stops, stops_first}
use Rattle.inline_steps.proofs.Stopped.{failed_stops}
use Rattle.naim_core.specs.declared.event.Failure.{Failure}
use Rattle.naim_core.specs.declared.event.Failure.TheVariants as failure
use Rattle.naim_loader.specs.Calls.{Fails}
use Rattle.naim_loader.specs.Paged.{Paged}
use Rattle.plan_laws.specs.Plan.{State, prune}
use Rattle.plan_pools.specs.Contents.{routine_pids}
use Rattle.plan_pools.specs.Planning.{Holds, IsMade, StopsMaking}
use Rattle.plan_pools.proofs.Plans.{stops_on}
use Rattle.plan_driver.specs.Passing.{AnyState, KeepsLive}
use Rattle.plan_driver.proofs.Lifting.{lift_made}
use Rattle.plan_driver.proofs.Standing.{table_left}

abbrev Pools : Type 0 → Type 0
Pools D = Paged RoutineBody (Unit {0}) D

-- two things that hold of an answer hold together
pub ok_both : {X E : Type 0} (P Q : X → Type 0) (r : Result X E) → IfOk r P → IfOk r Q → IfOk r (λ x. P x × Q x)
ok_both P Q (Ok x) h k = (h, k)
ok_both P Q (Err e) h k = tt

module _ {D : Type 0} (reach : D → ℕ) (honest : D → Bool) (faults : D → ℕ) (main : ℕ) (a b : Pools D) (x : Progress) where
  abbrev states : State → List State
  states st = prune st ∷ []

  module _ (left : List ShapeRow) (m : IsMade reach honest faults (λ p. pruned p ∷ []) pruned x.shapes main a b left) where
    table_is : (y : Progress) → y.table ≡ filter (λ row. is_in (routine_pids left) row.clone) x.table → (st : State)
        → Holds reach honest faults a x.shapes main st.program → st.table ≡ x.table → (prune st).table ≡ y.table
    table_is y kept st h same =
        let p = st.program in
        ap (filter (λ (row : Row). is_live p row.clone)) same ∙ sym (table_left p h.valid x.table)
        ∙ ap (λ rows. filter (λ (row : Row). is_in (routine_pids rows) row.clone) x.table) (m.program p h).holds.shapes ∙ sym kept

    pub pruned_state : IsReady a x → AllByRecursion (λ (row : ShapeRow). row.pid < x.next) left → (y : Progress)
        → KeepsLive (record x { shapes = left }) y → StateMade reach honest faults main AnyState states prune a x b y
    pruned_state ready above y k =
        lift_made reach honest faults main (λ p. pruned p ∷ []) states (λ st. refl) a b x pruned prune y ready
        (subst (IsMade reach honest faults (λ p. pruned p ∷ []) pruned x.shapes main a b) (sym k.shapes) m)
        (subst (AllByRecursion (λ (row : ShapeRow). row.pid < x.next)) (sym k.shapes) above) k.next k.made
        (λ st h. record { program = refl; next = refl; made = refl; table_is = table_is y k.table_is st h })

    -- memory was wanting once they had gone
    pub memory_stops : (c : Pools D) (e : Failure) → e ≡ failure.Memory → Fails b 0 e c → StateStops reach honest faults main AnyState states a x c e
    memory_stops c e is fails =
        subst (λ f. Fails b 0 f c → StateStops reach honest faults main AnyState states a x c f) (sym is)
        (λ t. lifted_stops reach honest faults main (λ p. pruned p ∷ []) pruned a x c states (λ st. refl) failure.Memory
        (stops_on reach honest faults x.shapes main (λ p. pruned p ∷ []) pruned a b left m (λ p. []) c failure.Memory
        (failed_stops reach honest faults left main (λ p. []) b c failure.Memory m.rests t tt))) fails

  -- it stopped before they went
  pub prune_stops : (e : Failure) → StopsMaking reach honest faults (λ p. []) x.shapes main a b e → StateStops reach honest faults main AnyState states a x b e
  prune_stops e s =
      stops_first reach honest faults main AnyState (λ st. []) states a x b e
      (lifted_stops reach honest faults main (λ p. []) pruned a x b (λ st. []) (λ st. refl) e s)
