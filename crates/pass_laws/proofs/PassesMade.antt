-- Each pass of the plan fits.
use Rattle.std.proofs.Common.{◌≡◌, ◌≤◌, ◌<◌, ℕ, zero, suc, List, [], ◌∷◌, map, refl, ap, subst, arith, ◌∙◌}
use Rattle.std.specs.Prelude.{flat_map}
use Rattle.std.specs.List.{AllByRecursion}
use Rattle.il_core.specs.Limits.{IsPid, IsWithinLimits, max_pids}
use Rattle.il_core.specs.Program.{main_pid}
use Rattle.il_core.specs.Size.{cost}
use Rattle.il_core.specs.Valid.{HasEachNameOnce}
use Rattle.il_core.specs.declared.program.IlProgram.{IlProgram}
use Rattle.il_core.specs.declared.shape.ShapeRow.{ShapeRow}
use Rattle.il_laws.specs.Keeping.{with_each}
use Rattle.plan_laws.specs.GroupLaws.{EachPass}
use Rattle.plan_laws.specs.Orders.{greatest}
use Rattle.plan_laws.specs.Plan.{Pass, State, at_first, limit_of, one_pass, pass_groups, passes, passes_from, states_of}
use Rattle.plan_laws.specs.PlanLaws.{IsFirst}
use Rattle.il_laws.proofs.Grown.{all_to}
use Rattle.plan_laws.proofs.Adding.{IsBelow, IsSound}
use Rattle.plan_laws.proofs.Passing.{first_sound, pass_succeeds}
use Rattle.plan_laws.proofs.RoutineLimits.{limits_kept}
use Rattle.plan_pools.specs.MoveLaws.{AreMovesOf}
use Rattle.plan_pools.specs.Retargeting.{moved}
use Rattle.plan_pools.specs.declared.moves.CallerMoves.{CallerMoves}
use Rattle.plan_pools.proofs.GroupMoves.{moves_retarget}
use Rattle.pass_laws.specs.PassLaws.{FitsPass, with_choice}
use Rattle.pass_laws.proofs.Adding.{can_grow}
use Rattle.pass_laws.proofs.Mains.{pass_main}

abbrev AllWithin : State → Type 0
AllWithin st = AllByRecursion IsWithinLimits st.program.routines

-- the routines of each program
abbrev AllLimited : List State → Type 0
AllLimited sts = AllByRecursion (λ (q : IlProgram). AllByRecursion IsWithinLimits q.routines) (map (λ (z : State). z.program) sts)

-- moves that say what the accepted groups say give the pass's retargeted program
abbrev MovesServe : ℕ → ℕ → State → Pass → Type 0
MovesServe budget limit st x =
    (ms : List CallerMoves) → AreMovesOf (pass_groups (suc budget) limit st) ms → with_each x.added.program (moved ms) ≡ x.retargeted.program

-- a state that a pass begins with
record Begins (names : List ShapeRow) (main : ℕ) (st : State) : Type 0 where
  sound : IsSound names st
  main_is : main_pid st.program.shapes ≡ main
  within : AllWithin st
  next : st.next ≤ max_pids

-- the six states of a pass are within the limits
record PassWithin (x : Pass) : Type 0 where
  added : AllWithin x.added
  retargeted : AllWithin x.retargeted
  simplified : AllWithin x.simplified
  inlined : AllWithin x.inlined
  simplified_again : AllWithin x.simplified_again
  pruned : AllWithin x.pruned

module _ (names : List ShapeRow) (once : HasEachNameOnce names) (budget : ℕ) where
  -- one pass, with the main that its first program has
  one_fits : (limit : ℕ) (st : State) → IsSound names st → AllWithin st → st.next ≤ max_pids → MovesServe budget limit st (one_pass names (suc budget) limit st)
      → PassWithin (one_pass names (suc budget) limit st)
      → FitsPass names (main_pid st.program.shapes) limit st (one_pass names (suc budget) limit st)
  one_fits limit st sound within next serve all =
      let x = one_pass names (suc budget) limit st in
      let h = pass_succeeds names once (suc budget) limit st sound in
      let keeps = pass_main names once (suc budget) limit st sound in
      let grow = can_grow names once limit st sound within next in
      record {
        start = record { valid = sound.valid; main_is = refl; within = within };
        may = record {
          rows = all_to (IsBelow st.next) (λ row. row.clone < max_pids) st.table (λ row below. (let less = below.1 in omega (arith, less, next)))
              sound.table_below;
          add = grow.add;
          added = h.added.sound.valid;
          added_main = keeps.added;
          sent_valid = h.retargeted.sound.valid;
          moves = serve;
        };
        states = record {
          added = refl;
          retargeted = refl;
          simplified = refl;
          inlined = ap (λ (m : ℕ). with_choice m limit x.simplified) keeps.added;
          simplified_again = refl;
          pruned = refl;
        };
        planned = record {
          added = record { valid = h.added.sound.valid; main_is = keeps.added; within = all.added };
          retargeted = record { valid = h.retargeted.sound.valid; main_is = keeps.added; within = all.retargeted };
          simplified = record { valid = h.simplified.sound.valid; main_is = keeps.added; within = all.simplified };
          inlined = record { valid = h.inlined.sound.valid; main_is = keeps.added; within = all.inlined };
          simplified_again = record { valid = h.simplified_again.sound.valid; main_is = keeps.added; within = all.simplified_again };
          pruned = record { valid = h.pruned.sound.valid; main_is = keeps.pruned; within = all.pruned };
        };
      }

  -- the next pass begins with what this one leaves
  begins_next : (main limit : ℕ) (st : State) → Begins names main st → AllWithin (one_pass names (suc budget) limit st).pruned
      → Begins names main (one_pass names (suc budget) limit st).pruned
  begins_next main limit st h within =
      record {
        sound = (pass_succeeds names once (suc budget) limit st h.sound).pruned.sound;
        main_is = (pass_main names once (suc budget) limit st h.sound).pruned ∙ h.main_is;
        within = within;
        next = (can_grow names once limit st h.sound h.within h.next).next;
      }

  all_fit : (main : ℕ) (limit : ℕ → ℕ) (left k : ℕ) (st : State) → Begins names main st
      → EachPass (λ k st x. MovesServe budget (limit k) st x) k st (passes_from names (suc budget) limit k left st)
      → AllLimited (flat_map states_of (passes_from names (suc budget) limit k left st))
      → EachPass (λ k st x. FitsPass names main (limit k) st x) k st (passes_from names (suc budget) limit k left st)
  all_fit main limit zero k st h serve all = tt
  all_fit main limit (suc left) k st h serve all =
      let x = one_pass names (suc budget) (limit k) st in
      let within : PassWithin x =
      record {
        added = all.0;
        retargeted = all.1.0;
        simplified = all.1.1.0;
        inlined = all.1.1.1.0;
        simplified_again = all.1.1.1.1.0;
        pruned = all.1.1.1.1.1.0;
      } in (
        subst (λ (m : ℕ). FitsPass names m (limit k) st x) h.main_is (one_fits (limit k) st h.sound h.within h.next serve.0 within),
        all_fit main limit left (suc k) x.pruned (begins_next main (limit k) st h within.pruned) serve.1 all.1.1.1.1.1.1,
      )

-- the first state's next PID is in its range
greatest_pid : (rows : List ShapeRow) → AllByRecursion (λ row. IsPid row.pid) rows → greatest (λ (z : ShapeRow). suc z.pid) rows ≤ max_pids
greatest_pid [] h = omega arith
greatest_pid (z ∷ rows) h = let lt = h.0 in let rest = greatest_pid rows h.1 in omega arith

pub passes_clone : (p : IlProgram) → IsFirst p → AllByRecursion IsWithinLimits p.routines → (budget n : ℕ)
    → EachPass (λ k st x. FitsPass p.shapes (main_pid p.shapes) (limit_of (cost p.routines) (suc budget) n k) st x) 1 (at_first p) (passes p (suc budget) n)
passes_clone p first within budget n =
    let kept = limits_kept p first within (suc budget) n in
    all_fit p.shapes first.valid.names budget (main_pid p.shapes) (limit_of (cost p.routines) (suc budget) n) n 1 (at_first p)
    (record { sound = first_sound p first; main_is = refl; within = within; next = greatest_pid p.shapes first.valid.pids })
    (moves_retarget p first (suc budget) n) kept.1
