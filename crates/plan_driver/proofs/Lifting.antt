-- A step that changes the program and the table, as a step of the plan.
use Rattle.std.proofs.Common.{◌≡◌, ◌<◌, ℕ, Bool, List, sym, ap, subst, ◌∙◌}
use Rattle.std.specs.List.{AllByRecursion}
use Rattle.il_core.specs.declared.program.IlProgram.{IlProgram}
use Rattle.il_core.specs.declared.shape.ShapeRow.{ShapeRow}
use Rattle.compact_form.specs.declared.body.RoutineBody.{RoutineBody}
use Rattle.clone_names.specs.Made.{next_pid}
use Rattle.clone_pools.specs.States.{GrowsOn, IsReady, StateMade, programs_of}
use Rattle.clone_pools.specs.declared.progress.Progress.{Progress}
use Rattle.clone_steps.proofs.Composing.{grows_by}
use Rattle.naim_loader.specs.Paged.{Paged}
use Rattle.plan_laws.specs.Plan.{State}
use Rattle.plan_pools.specs.Noting.{AllNote}
use Rattle.plan_pools.specs.Planning.{Holds, IsMade}
use Rattle.plan_driver.specs.Passing.{AnyState}

abbrev Pools : Type 0 → Type 0
Pools D = Paged RoutineBody (Unit {0}) D

-- what a step leaves of a state: this program, the next PID, the clones made, and the table of what is left
pub record Leaves (x y : Progress) (f : IlProgram → IlProgram) (st left : State) : Type 0 where
  pub program : left.program ≡ f st.program
  pub next : left.next ≡ st.next
  pub made : left.made ≡ st.made
  pub table_is : st.table ≡ x.table → left.table ≡ y.table

module _ {D : Type 0} (reach : D → ℕ) (honest : D → Bool) (faults : D → ℕ) (main : ℕ) (programs : IlProgram → List IlProgram)
    (states : State → List State) (same : (st : State) → programs_of (states st) ≡ programs st.program) (a b : Pools D) (x : Progress) where
  pub lift_made : (f : IlProgram → IlProgram) (last : State → State) (y : Progress) → IsReady a x
      → IsMade reach honest faults programs f x.shapes main a b y.shapes → AllByRecursion (λ (row : ShapeRow). row.pid < x.next) y.shapes
      → y.next ≡ x.next → y.made ≡ x.made
      → ((st : State) → Holds reach honest faults a x.shapes main st.program → Leaves x y f st (last st))
      → StateMade reach honest faults main AnyState states last a x b y
  lift_made f last y ready m above next made leaves = record {
    ready = record {
      rests = m.rests;
      pools = m.pools;
      above = subst (λ n. AllByRecursion (λ (row : ShapeRow). row.pid < n) y.shapes) (sym next) above;
      next = ap next_pid made ∙ ready.next ∙ sym next;
    };
    noted = m.noted;
    grows = subst (λ n. GrowsOn faults m.noted a x.next b n) (sym next) (grows_by faults m.noted a b x.next m.goes);
    state = λ st any h.
        let r = m.program st.program h.holds in let l = leaves st h.holds in
        record {
          holds = record {
            holds = subst (Holds reach honest faults b y.shapes main) (sym l.program) r.holds;
            next = l.next ∙ h.next ∙ sym next;
            made = l.made ∙ h.made ∙ ap (λ c. c.made) (sym made);
            table_is = l.table_is h.table_is;
          };
          notes = subst (AllNote m.noted) (sym (same st)) r.notes;
        };
  }
