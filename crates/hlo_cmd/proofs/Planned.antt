-- The plan of a program whose routines went to the pools of a loader.
use Rattle.std.proofs.Common.{◌≡◌, ◌≤◌, ◌<◌, ◌^◌, ◌*◌, ◌+◌, ℕ, Bool, true, false, nat_eq, List, [], ◌∷◌, length, Some, None, refl, sym, ap, subst}
use Rattle.std.proofs.Common.{arith, le_trans, ◌∙◌, sum_by}
use Rattle.std.specs.Prelude.{if◌then◌else◌}
use Rattle.std.specs.List.{AllByRecursion}
use Rattle.std.proofs.lemmas.List.Sums.{sum_by-cons}
use Rattle.std.proofs.lemmas.Nat.{mul-le}
use Rattle.std.proofs.lemmas.Option.{same_Some}
use Rattle.il_core.specs.Object.{ObjectParts}
use Rattle.il_core.specs.Program.{main_pid, routine_at}
use Rattle.il_core.specs.Routine.{RoutineParts}
use Rattle.il_core.specs.Size.{cost}
use Rattle.il_core.specs.declared.program.IlProgram.{IlProgram}
use Rattle.il_core.specs.declared.shape.ShapeRow.{ShapeRow}
use Rattle.compact_form.specs.Compact.{compact}
use Rattle.compact_form.specs.declared.body.RoutineBody.{RoutineBody}
use Rattle.c_module.specs.Frames.{IsFrameOf}
use Rattle.hlo_words.specs.declared.settings.OptSettings.{OptSettings}
use Rattle.naim_core.specs.declared.event.Failure.{Failure}
use Rattle.naim_core.specs.declared.event.Failure.TheVariants as failure
use Rattle.naim_loader.specs.Paged.{Paged, IsGood, IsTrusted}
use Rattle.outside.specs.Told.{Told}
use Rattle.pass_laws.specs.Worth.{IsWorth, PlanIsWorth, spendable}
use Rattle.plan_driver.specs.Optimising.{Optimises}
use Rattle.plan_pools.specs.Contents.{routine_pids}
use Rattle.plan_pools.specs.Planning.{Holds, IsCost, IsNeed, PlanCause}
use Rattle.plan_pools.proofs.Programs.{program_pids}
use Rattle.plan_laws.specs.Plan.{final, plan}
use Rattle.profile.specs.Counts.{Counts}
use Rattle.sym_tables.specs.Table.{Table}
use Rattle.hlo_cmd.proofs.Costs.{own_rising, same_sum}
use Rattle.hlo_cmd.proofs.Objects.{final_objects}
use Rattle.hlo_cmd.proofs.Pooled.{all_found, found_in_pools, frame_cost}
use Rattle.hlo_cmd.specs.Messages.{loader_refusal}
use Rattle.hlo_cmd.specs.Opt.{IsInRange}
use Rattle.hlo_cmd.specs.Paging.{HasPlanned, IsPlanningCause}
use Rattle.hlo_cmd.specs.Pools.{IsReady, inserted}

-- 64 bits tell a cost that is so many percent higher
told_cost : (before after budget : ℕ) → before ≤ 2 ^ 44 → budget ≤ 1000 → 100 * after ≤ before * (100 + budget) → after < 2 ^ 64
told_cost before after budget few range dearer =
    let rate : 100 + budget ≤ 1100 = omega (arith, range) in
    let most : 100 * after ≤ 2 ^ 44 * 1100 = le_trans dearer (mul-le before (100 + budget) (2 ^ 44) 1100 few rate) in
    omega (arith, most)

ones : (rs : List RoutineParts) → sum_by (λ (r : RoutineParts). 1) rs ≡ length rs
ones [] = refl
ones (r ∷ rs) = let a = sum_by-cons (λ (x : RoutineParts). 1) r rs in let b = ones rs in omega (arith, a, b)

-- what holds of all routines holds of one that is found
of_found : (P : RoutineParts → Type 0) (rs : List RoutineParts) (q : ℕ) (r : RoutineParts) → AllByRecursion P rs → routine_at rs q ≡ Some r → P r
of_found P [] q r all e = let bad : None ≡ Some r = e in absurd cc
of_found P (x ∷ rs) q r all e = by (of_found P rs q r all.1) (nat_eq x.pid q) e
  where
    by : (routine_at rs q ≡ Some r → P r) → (b : Bool) → (if b then Some x else routine_at rs q) ≡ Some r → P r
    by more true e = subst P (same_Some x r e) all.0
    by more false e = more e

-- so it does of those of another list that are found there
all_as : (P : RoutineParts → Type 0) (all others rs : List RoutineParts) → AllByRecursion P others → ((q : ℕ) → routine_at all q ≡ routine_at others q)
    → AllByRecursion (λ r. routine_at all r.pid ≡ Some r) rs → AllByRecursion P rs
all_as P all others [] holds same h = tt
all_as P all others (r ∷ rs) holds same h = (of_found P others r.pid r holds (sym (same r.pid) ∙ h.0), all_as P all others rs holds same h.1)

module _ {D : Type 0} (reach : D → ℕ) (honest : D → Bool) (faults : D → ℕ) (l : Paged RoutineBody (Unit {0}) D) (pids : List ℕ) (total : ℕ)
    (ready : IsReady l pids total) (s : OptSettings) (counts : Counts) (tells : List ℕ → Told) (rows : List ShapeRow) (os : List ObjectParts) (syms : Table)
    (main : ℕ) (named : main ≡ main_pid rows) (limit : l.core.limit ≡ s.limit)
    (frame : IsFrameOf counts tells s.files (inserted l) rows os syms) where
  trusted : IsGood reach honest s.limit l.first → IsTrusted reach honest l
  trusted good = subst (λ n. IsGood reach honest n l.first) (sym limit) good

  -- over a good disk the pools hold the lowered program
  holds : IsGood reach honest s.limit l.first → Holds reach honest faults l rows main frame.program
  holds good = record {
    trusted = trusted good;
    valid = frame.is.valid;
    shapes = frame.shapes;
    main_is = ap main_pid frame.shapes ∙ sym named;
    contents = record { by = λ q. ready.filled.same q ∙ sym (frame.routines q) };
  }

  total_cost : total ≡ cost frame.program.routines
  total_cost = ready.total_is ∙ frame_cost l counts tells s.files rows os syms ready.filled frame

  -- its cost is small enough that 64 bits tell one that is eleven times as much
  few : cost frame.program.routines ≤ 2 ^ 44
  few =
      let many : length frame.program.routines ≡ length (inserted l) =
      sym (ones frame.program.routines)
      ∙ same_sum (λ r. 1) frame.program.routines (inserted l) (own_rising frame.program.routines frame.is.valid.routines) ready.filled.own frame.routines
      ∙ ones (inserted l) in
      let most = frame.is.valid.few in
      let bound = ready.bound in
      omega (arith, many, most, bound, total_cost)

  -- the plan was made
  pub has_planned : PlanIsWorth → IsInRange s → (new : Paged RoutineBody (Unit {0}) D) (left : List ShapeRow) (after_plan : ℕ)
      → Optimises reach honest faults (λ p. plan p (spendable rows s.budget) s.passes) (λ p. final p (spendable rows s.budget) s.passes) rows main l new left
      → ((p : IlProgram) → Holds reach honest faults l rows main p → IsCost after_plan (final p (spendable rows s.budget) s.passes))
      → HasPlanned tells (λ n. IsGood reach honest n l.first) s counts syms reach honest new left os total after_plan
  has_planned worth range new left after_plan made costs =
      let p = frame.program in
      let q = final p (spendable p.shapes s.budget) s.passes in
      let good : IsWorth s.budget p q = worth p frame.is.valid s.budget s.passes in
      let dearer = good.cost_is in
      let held : IsGood reach honest s.limit l.first → Holds reach honest faults new left main q = λ g.
      subst (λ rs. Holds reach honest faults new left main (final p (spendable rs s.budget) s.passes)) (sym frame.shapes) (made.program p (holds g)).holds in
      record {
        lowered = p;
        program = q;
        planned = record {
          from = frame.is;
          is = refl;
          valid = good.valid;
          runs = λ input turns. good.run input turns ∙ frame.is.runs input turns;
          within_budget = dearer;
        };
        trusted = λ g. (held g).trusted;
        held = λ g.
            let at = held g in
            record {
              shapes = at.shapes;
              objects = final_objects p (spendable p.shapes s.budget) s.passes ∙ frame.objects;
              pids = program_pids q good.valid ∙ ap routine_pids at.shapes;
              routines = found_in_pools new q.routines q.routines at.contents.by (all_found q.routines good.valid.routines);
            };
        total_is = total_cost;
        after_is = λ g.
            subst (λ rs. IsCost after_plan (final p (spendable rs s.budget) s.passes)) (sym frame.shapes) (costs p (holds g))
            (told_cost (cost p.routines) (cost q.routines) s.budget few range.budget dearer);
      }

  -- it wasn't
  pub planning_told : (f : Failure) (disk disk_now : ℕ)
      → PlanCause reach honest faults (λ p. plan p (spendable rows s.budget) s.passes) rows main l disk disk_now f
      → IsPlanningCause tells (λ n. IsGood reach honest n l.first) s counts syms disk disk_now (loader_refusal f)
  planning_told failure.Repository disk disk_now cause = cause
  planning_told (failure.Damaged place kept found) disk disk_now cause = (cause.0, λ g. cause.2 (trusted g))
  planning_told (failure.Unreadable place) disk disk_now cause = λ g. cause.1 (trusted g)
  planning_told (failure.Unfit q) disk disk_now cause = λ g. cause frame.program (holds g)
  planning_told (failure.TooSmall q need lim) disk disk_now cause = record {
    lowered = frame.program;
    syms = syms;
    from = frame.is;
    fit = all_as (λ r. length (compact r) ≤ s.limit) frame.program.routines (inserted l) frame.program.routines
        (subst (λ n. AllByRecursion (λ r. length (compact r) ≤ n) (inserted l)) limit ready.short) frame.routines
        (all_found frame.program.routines frame.is.valid.routines);
    routine = λ g.
        subst (λ rs. IsNeed (plan frame.program (spendable rs s.budget) s.passes) q need) (sym frame.shapes) (cause.2 frame.program (holds g));
    long = subst (λ n. n < need) (cause.0 ∙ limit) cause.1;
    limit_is = cause.0 ∙ limit;
  }
  planning_told failure.Memory disk disk_now cause = tt
