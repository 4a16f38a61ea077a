-- All passes: each step leaves a sound state, whose program may follow the one before.
use Rattle.std.proofs.Common.{◌≡◌, ℕ, zero, suc, ◌<◌, ◌≤◌, List, [], ◌∷◌, map, true, refl, ◌∙◌, arith, length, inl}
use Rattle.std.specs.Prelude.{max, Some, filter, flat_map}
use Rattle.std.specs.List.{AllByRecursion}
use Rattle.std.proofs.lemmas.List.{length-map}
use Rattle.il_core.specs.declared.program.IlProgram.{IlProgram}
use Rattle.il_core.specs.declared.shape.Shape.TheVariants as shape
use Rattle.il_core.specs.declared.shape.ShapeRow.{ShapeRow}
use Rattle.il_core.specs.Program.{found, routine_at, main_pid}
use Rattle.il_core.specs.Routine.{RoutineParts}
use Rattle.il_core.specs.Size.{cost}
use Rattle.il_core.specs.Valid.{IsProgram, HasEachNameOnce}
use Rattle.il_laws.specs.Keeping.{Stands, MayFollow, with_each}
use Rattle.il_laws.specs.Reach.{is_live, stays, pruned}
use Rattle.il_laws.specs.Simplify.{simplify}
use Rattle.il_laws.specs.Table.{Row, IsRight, HasCalleesShape}
use Rattle.il_laws.proofs.CloneRows.{row_stays}
use Rattle.il_core.proofs.Found.{found_here, found_there}
use Rattle.il_laws.proofs.Grown.{all_to}
use Rattle.il_laws.proofs.Kept.{all_both, filter_all, filter_pass, Up, rising_up}
use Rattle.il_laws.proofs.KeptPrograms.{pruned_follows, routine_stays, shape_was}
use Rattle.il_core.proofs.Programs.{callee_of, routine_valid, shape_is}
use Rattle.il_laws.proofs.ReachClosed.{live_calls, main_live}
use Rattle.il_laws.proofs.Serving.{each_follows, run_kept}
use Rattle.il_laws.proofs.Simplified.{simplify_serves}
use Rattle.plan_laws.specs.Orders.{greatest}
use Rattle.plan_laws.specs.Summary.{summary, summaries}
use Rattle.plan_laws.specs.Groups.{ranked_groups, at_start}
use Rattle.plan_laws.specs.Inlining.{inlined_routine}
use Rattle.plan_laws.specs.Plan.{State, add_clones, each_routine, retargeted, prune, Pass, pass_groups, pass_choice, one_pass, states_of, limit_of}
use Rattle.plan_laws.specs.Plan.{passes_from, at_first, passes as plan_of, plan_states, plan, last_program, final}
use Rattle.plan_laws.specs.PlanLaws.{HasNoDollar, IsFirst, SameRun, Succeeds, AllSucceed, InTurn, HasRightTable}
use Rattle.plan_laws.proofs.Adding.{IsBelow, IsSound, Added, grows_itself, all_added}
use Rattle.plan_laws.proofs.GroupsFit.{groups_fit}
use Rattle.plan_laws.proofs.Inlines.{routines_follow}
use Rattle.plan_laws.proofs.Naming.{RowNamed}
use Rattle.plan_laws.proofs.Retargets.{IsGood, retargeted_follows}

-- a sound state, whose program succeeds
pub record Step (names : List ShapeRow) (st st1 : State) : Type 0 where
  pub sound : IsSound names st1
  pub succeeds : Succeeds st.program st1.program

-- what stands with other routines under the same rows stood before
stood : (p : IlProgram) → IsProgram p → (f : RoutineParts → RoutineParts) → IsProgram (with_each p f) → (x : ℕ) → Stands (with_each p f) x → Stands p x
stood p valid f valid1 x s =
    let c = callee_of p valid x s.routine.params s.routine.value (shape_is (with_each p f) valid1 x s.routine s.is) in
    record { routine = c.routine; is = c.is }

module _ (names : List ShapeRow) (once : HasEachNameOnce names) where
  -- other routines under the same rows
  each_step : (f : RoutineParts → RoutineParts) (st : State) → IsSound names st → MayFollow st.program (with_each st.program f)
      → Step names st (each_routine f st)
  each_step f st sound follows =
      let p = st.program in
      let p1 = with_each p f in
      record {
        sound = record {
          valid = follows.valid;
          below = sound.below;
          table = all_to (IsGood p) (IsGood p1) st.table
              (λ row h. record {
                right = row_stays p p1 row follows.act (stood p sound.valid f follows.valid row.callee) (stood p sound.valid f follows.valid row.clone) h.right;
                shape = record { by = h.shape.by };
              }) sound.table;
          table_below = sound.table_below;
          named = sound.named;
          few = sound.few;
        };
        succeeds = record { follows = follows; run = run_kept p p1 sound.valid follows refl refl };
      }

  pub simplify_step : (st : State) → IsSound names st → Step names st (each_routine simplify st)
  simplify_step st sound =
      let p = st.program in
      each_step simplify st sound
      (each_follows p sound.valid simplify (λ x r e. simplify_serves p r (routine_valid p sound.valid x r e)))

  pub added : (budget limit : ℕ) (st : State) → IsSound names st → Added names st (add_clones names (pass_groups budget limit st) st)
  added zero limit st sound = record { sound = sound; grows = grows_itself st.program sound.valid }
  added (suc budget) limit st sound =
      let p = st.program in
      let ss = summaries p in
      let main = main_pid p.shapes in
      let size : length ss ≡ length p.routines = length-map p.routines summary in
      all_added names once ss st.table limit (ranked_groups ss main) (at_start ss st.next) st sound (omega arith) (omega arith)
      (groups_fit p sound.valid main)

  add_step : (st st1 : State) → IsSound names st → Added names st st1 → Step names st st1
  add_step st st1 sound a =
      record {
        sound = a.sound;
        succeeds = record {
          follows = a.grows.follows;
          run = run_kept st.program st1.program sound.valid a.grows.follows a.grows.objects a.grows.main;
        };
      }

  prune_step : (st : State) → IsSound names st → Step names st (prune st)
  prune_step st sound =
      let p = st.program in
      let keep = is_live p in
      let main = main_live p in
      let closed = λ (x : ℕ) (r : RoutineParts) (k : is_live p x ≡ true) (e : routine_at p.routines x ≡ Some r). live_calls p x r k e in
      let is = pruned_follows p sound.valid in
      let rows = filter (λ (row : Row). keep row.clone) st.table in
      let back : (x : ℕ) → Stands (pruned p) x → Stands p x = λ x s. record { routine = s.routine; is = (is.stood x s.routine s.is).1 } in
      record {
        sound = record {
          valid = is.follows.valid;
          below = filter_all (stays keep) (λ (row : ShapeRow). row.pid < st.next) p.shapes sound.below;
          table = all_to (λ (row : Row). (keep row.clone ≡ true) × IsGood p row) (IsGood (pruned p)) rows
              (λ row h. record {
                right = row_stays p (pruned p) row is.follows.act (back row.callee) (back row.clone) h.1.right;
                shape = record {
                  by = λ params value e. routine_stays keep p sound.valid main closed row.clone params value h.0
                      (h.1.shape.by params value (shape_was keep p sound.valid main closed row.callee (shape.Routine params value) e));
                };
              })
              (all_both (λ (row : Row). keep row.clone ≡ true) (IsGood p) rows (filter_pass (λ (row : Row). keep row.clone) st.table)
              (filter_all (λ (row : Row). keep row.clone) (IsGood p) st.table sound.table));
          table_below = filter_all (λ (row : Row). keep row.clone) (IsBelow st.next) st.table sound.table_below;
          named = filter_all (stays keep) (RowNamed names st.made) p.shapes sound.named;
          few = sound.few;
        };
        succeeds = record { follows = is.follows; run = is.run };
      }

  -- the six steps of a pass
  pub record Passed (st : State) (x : Pass) : Type 0 where
    pub added : Step names st x.added
    pub retargeted : Step names x.added x.retargeted
    pub simplified : Step names x.retargeted x.simplified
    pub inlined : Step names x.simplified x.inlined
    pub simplified_again : Step names x.inlined x.simplified_again
    pub pruned : Step names x.simplified_again x.pruned

  pub pass_succeeds : (budget limit : ℕ) (st : State) → IsSound names st → Passed st (one_pass names budget limit st)
  pass_succeeds budget limit st sound =
      let x = one_pass names budget limit st in
      let a = x.added.program in
      let ss = summaries a in
      let main = main_pid a.shapes in
      let one = add_step st x.added sound (added budget limit st sound) in
      let two = each_step (retargeted ss x.added.table main st.next) x.added one.sound
      (retargeted_follows a one.sound.valid x.added.table one.sound.table ss main st.next) in
      let three = simplify_step x.retargeted two.sound in
      let c = x.simplified in
      let cs = pass_choice budget limit c in
      let four = each_step (inlined_routine c.program.routines cs) c three.sound (routines_follow c.program three.sound.valid cs) in
      let five = simplify_step x.inlined four.sound in
      let six = prune_step x.simplified_again five.sound in
      record { added = one; retargeted = two; simplified = three; inlined = four; simplified_again = five; pruned = six }

  passes_succeed : (budget : ℕ) (limit : ℕ → ℕ) (left k : ℕ) (st : State) → IsSound names st
      → AllSucceed st.program (map (λ (z : State). z.program) (flat_map states_of (passes_from names budget limit k left st)))
  passes_succeed budget limit zero k st sound = tt
  passes_succeed budget limit (suc left) k st sound =
      let x = one_pass names budget (limit k) st in
      let h = pass_succeeds budget (limit k) st sound in
      let rest = passes_succeed budget limit left (suc k) x.pruned h.pruned.sound in (
        h.added.succeeds,
        (h.retargeted.succeeds, (h.simplified.succeeds, (h.inlined.succeeds, (h.simplified_again.succeeds, (h.pruned.succeeds, rest))))),
      )

  right_table : (st : State) → IsSound names st → HasRightTable st
  right_table st sound =
      record {
        right = all_to (IsGood st.program) (IsRight st.program) st.table (λ row h. h.right) sound.table;
        shapes = all_to (IsGood st.program) (HasCalleesShape st.program) st.table (λ row h. h.shape) sound.table;
      }

  -- every state on the way is sound
  pub all_sound : (budget : ℕ) (limit : ℕ → ℕ) (left k : ℕ) (st : State) → IsSound names st
      → AllByRecursion (IsSound names) (flat_map states_of (passes_from names budget limit k left st))
  all_sound budget limit zero k st sound = tt
  all_sound budget limit (suc left) k st sound =
      let x = one_pass names budget (limit k) st in
      let h = pass_succeeds budget (limit k) st sound in
      let rest = all_sound budget limit left (suc k) x.pruned h.pruned.sound in (
        h.added.sound,
        (h.retargeted.sound, (h.simplified.sound, (h.inlined.sound, (h.simplified_again.sound, (h.pruned.sound, rest))))),
      )

  pub all_right : (sts : List State) → AllByRecursion (IsSound names) sts → AllByRecursion HasRightTable sts
  all_right [] h = tt
  all_right (st ∷ sts) h = (right_table st h.0, all_right sts h.1)

-- the start
greatest_above : (rows : List ShapeRow) (n : ℕ) → greatest (λ (z : ShapeRow). suc z.pid) rows ≤ n → AllByRecursion (λ z. z.pid < n) rows
greatest_above [] n h = tt
greatest_above (z ∷ rows) n h =
    let both : max (suc z.pid) (greatest (λ (y : ShapeRow). suc y.pid) rows) ≤ n = h in
    (omega arith, greatest_above rows n (omega arith))

found_later : (x : ShapeRow) (rows ys : List ShapeRow) → AllByRecursion (λ y. x.pid < y.pid) ys
    → AllByRecursion (λ row. found (λ z. z.pid) row.pid rows ≡ Some row) ys
    → AllByRecursion (λ row. found (λ z. z.pid) row.pid (x ∷ rows) ≡ Some row) ys
found_later x rows [] h g = tt
found_later x rows (y ∷ ys) h g =
    let lt = h.0 in
    (found_there (λ (z : ShapeRow). z.pid) y.pid x rows (λ e. absurd (omega arith)) ∙ g.0, found_later x rows ys h.1 g.1)

-- each row is found by its PID
self_found : (rows : List ShapeRow) → Up (λ z. z.pid) rows → AllByRecursion (λ row. found (λ z. z.pid) row.pid rows ≡ Some row) rows
self_found [] up = tt
self_found (x ∷ rows) up = (found_here (λ (z : ShapeRow). z.pid) x.pid x rows refl, found_later x rows rows up.0 (self_found rows up.1))

all_named : (names rows : List ShapeRow) → AllByRecursion (λ row. found (λ z. z.pid) row.pid names ≡ Some row) rows
    → AllByRecursion HasNoDollar rows → AllByRecursion (RowNamed names []) rows
all_named names [] h g = tt
all_named names (x ∷ rows) h g = (record { root = x; is_root = h.0; plain = g.0; is = inl refl }, all_named names rows h.1 g.1)

pub first_sound : (p : IlProgram) → IsFirst p → IsSound p.shapes (at_first p)
first_sound p first =
    record {
      valid = first.valid;
      below = greatest_above p.shapes (greatest (λ (z : ShapeRow). suc z.pid) p.shapes) (omega arith);
      table = tt;
      table_below = tt;
      named = all_named p.shapes p.shapes (self_found p.shapes (rising_up (λ (z : ShapeRow). z.pid) p.shapes first.valid.rows)) first.names;
      few = omega arith;
    }

-- the laws
pub plan_follows : (p : IlProgram) → IsFirst p → (budget passes : ℕ) → InTurn (plan p budget passes)
plan_follows p first budget passes =
    passes_succeed p.shapes first.valid.names budget (limit_of (cost p.routines) budget passes) passes 1 (at_first p) (first_sound p first)

last_run : (p : IlProgram) (qs : List IlProgram) → AllSucceed p qs → SameRun p (last_program p qs)
last_run p [] h input turns = refl
last_run p (q ∷ qs) h input turns = last_run q qs h.1 input turns ∙ h.0.run input turns

pub final_runs : (p : IlProgram) → IsFirst p → (budget passes : ℕ) → SameRun p (final p budget passes)
final_runs p first budget passes =
    last_run p (map (λ (z : State). z.program) (flat_map states_of (plan_of p budget passes))) (plan_follows p first budget passes)

pub rows_right : (p : IlProgram) → IsFirst p → (budget passes : ℕ) → AllByRecursion HasRightTable (plan_states p budget passes)
rows_right p first budget passes =
    let start = first_sound p first in
    let limit = limit_of (cost p.routines) budget passes in
    all_right p.shapes first.valid.names (plan_states p budget passes)
    (start, all_sound p.shapes first.valid.names budget limit passes 1 (at_first p) start)
