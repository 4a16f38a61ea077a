-- The accepted groups of a state can get their clones one after the other.
use Rattle.std.proofs.Common.{◌≡◌, ℕ, ◌+◌, ◌<◌, ◌≤◌, List, [], ◌∷◌, ◌++◌, Bool, true, false, refl, ap, subst, sym, ◌∙◌, arith, length, leb-true, ltb-true}
use Rattle.std.specs.Prelude.{◌^◌, ◌&&◌, is_some, nat_le, nat_lt, if◌then◌else◌, Option, Some, None}
use Rattle.std.specs.List.{AllByRecursion}
use Rattle.std.proofs.lemmas.List.{length-map}
use Rattle.il_core.specs.Limits.{IsPid, IsWithinLimits, max_arrays, max_elements, max_pids, max_registers, max_routines, max_size}
use Rattle.il_core.specs.Program.{main_pid, routine_at}
use Rattle.il_core.specs.Routine.{RoutineParts}
use Rattle.il_core.specs.Valid.{HasEachNameOnce, IsProgram}
use Rattle.il_core.specs.declared.program.IlProgram.{IlProgram}
use Rattle.il_core.specs.declared.shape.ShapeRow.{ShapeRow}
use Rattle.il_core.proofs.Found.{found_all}
use Rattle.il_core.proofs.Programs.{routine_valid}
use Rattle.il_laws.specs.Clone.{make_clone}
use Rattle.il_laws.specs.Facts.{looped}
use Rattle.il_laws.specs.Growing.{NewClone, with_copy}
use Rattle.il_laws.specs.Table.{Row}
use Rattle.il_laws.proofs.CloneValid.{clone_size}
use Rattle.il_laws.proofs.Grown.{all_push, all_to}
use Rattle.list_laws.proofs.Tests.{and_first, and_second}
use Rattle.plan_laws.specs.Groups.{Group, Taken, Spent, at_start, clone_fits, clone_in, clone_numbers, decided, groups, more_spent, ranked_groups, refused}
use Rattle.plan_laws.specs.Groups.{taken, with_new}
use Rattle.plan_laws.specs.Numbers.{Numbers, is_within}
use Rattle.plan_laws.specs.Plan.{State, add_clone, add_clones, new_clone}
use Rattle.plan_laws.specs.Summary.{Summary, summaries, summary, summary_at}
use Rattle.plan_laws.proofs.Adding.{GroupFits, IsSound, group_still, one_added, one_more}
use Rattle.plan_laws.proofs.GroupsFit.{groups_fit, summary_found}
use Rattle.plan_laws.proofs.InstrLimits.{clone_within}
use Rattle.plan_laws.proofs.Spending.{routine_of}
use Rattle.plan_pools.specs.Cloning.{CanAddAll}

abbrev AllWithin : List RoutineParts → Type 0
AllWithin rs = AllByRecursion IsWithinLimits rs

-- a clone with the numbers that its group was decided by
new_within : (r : RoutineParts) (c : NewClone) → 0 < length r.blocks → IsWithinLimits r → IsPid c.pid → (clone_numbers (summary r) c.fixed).size ≤ max_size
    → IsWithinLimits (make_clone r c.pid c.fixed)
new_within r c some h pid le =
    let size = clone_size r c.pid c.fixed some in
    record {
      pid = pid;
      params = h.params;
      regs = h.regs;
      arrays = h.arrays;
      elements = h.elements;
      size = omega arith;
      instrs = clone_within (looped r.blocks 0) c.fixed r.blocks h.instrs;
    }

size_within : (n : Numbers) → is_within n ≡ true → n.size ≤ max_size
size_within n e =
    let a = nat_le n.size max_size in
    let b = nat_le n.regs max_registers in
    let c = nat_le n.arrays max_arrays in
    leb-true n.size max_size (and_first a b (and_first (a && b) c (and_first (a && b && c) (nat_le n.elements max_elements) e)))

-- these groups can get their clones, and the next PID stays in its range
pub record CanGrow (names : List ShapeRow) (ts : List Taken) (st : State) : Type 0 where
  pub add : CanAddAll names ts st
  pub next : (add_clones names ts st).next ≤ max_pids

module _ (names : List ShapeRow) (once : HasEachNameOnce names) (p : IlProgram) (valid : IsProgram p) (table : List Row) (limit : ℕ) where
  abbrev ss : List Summary
  ss = summaries p

  -- a state on the way, with what was spent so far and the groups that are left; what stood as they were decided stands
  record IsReady (b : Spent) (gs : List Group) (st : State) : Type 0 where
    sound : IsSound names st
    within : AllWithin st.program.routines
    next : st.next ≤ max_pids
    same : b.next ≡ st.next
    few : length st.program.routines ≤ b.routines
    stand : (x : ℕ) (r : RoutineParts) → routine_at p.routines x ≡ Some r → routine_at st.program.routines x ≡ Some r
    fits : AllByRecursion (GroupFits st.program) gs

  abbrev Rest : List Group → Type 0
  Rest gs = (b : Spent) (st : State) → IsReady b gs st → CanGrow names (taken ss table limit b gs) st

  -- the state is ready for the other groups once it goes on without this one
  skipped : (b : Spent) (g : Group) (gs : List Group) (st : State) → IsReady b (g ∷ gs) st → IsReady b gs st
  skipped b g gs st h =
      record { sound = h.sound; within = h.within; next = h.next; same = h.same; few = h.few; stand = h.stand; fits = h.fits.1 }

  -- the routines with one clone more
  more_within : (b : Spent) (g : Group) (gs : List Group) (s : Summary) (st : State) → summary_at ss g.callee ≡ Some s → IsReady b (g ∷ gs) st
      → b.next < max_pids → (clone_numbers s g.fixed).size ≤ max_size
      → AllWithin (add_clone names (record { group = g; clone = b.next; is_new = true }) st).program.routines
  more_within b g gs s st e h pid le =
      let f = routine_of names p valid table limit g.callee s (routine_at p.routines g.callee) refl (sym (summary_found p.routines g.callee) ∙ e) in
      let r = f.0 in
      let t : Taken = record { group = g; clone = b.next; is_new = true } in
      let c = new_clone names st.made t in
      let here = h.stand g.callee r f.1 in
      let is = ap (λ (o : Option RoutineParts). with_copy st.program c o) here in
      let same = ap (λ (z : Summary). (clone_numbers z g.fixed).size) f.2 in
      let old = found_all (λ (z : RoutineParts). z.pid) IsWithinLimits g.callee st.program.routines r h.within here in
      let new = new_within r c (routine_valid p valid g.callee r f.1).some_block old.0 pid (omega arith) in
      subst (λ (q : IlProgram). AllWithin q.routines) (sym is) (all_push IsWithinLimits st.program.routines (make_clone r c.pid c.fixed) h.within new)

  make_one : (g : Group) (gs : List Group) → Rest gs → (b : Spent) (s : Summary) (st : State) → summary_at ss g.callee ≡ Some s → IsReady b (g ∷ gs) st
      → b.routines < max_routines → b.next < max_pids → (clone_numbers s g.fixed).size ≤ max_size
      → CanGrow names
      ((with_new g b (clone_numbers s g.fixed)).taken ++ taken ss table limit (more_spent b (clone_numbers s g.fixed)) gs) st
  make_one g gs rest b s st e h room pid le =
      let t : Taken = record { group = g; clone = b.next; is_new = true } in
      let same = h.same in
      let few = h.few in
      let above : st.next ≤ t.clone = omega arith in
      let small : length st.program.routines < max_routines = omega arith in
      let fit = h.fits.0 in
      let next = add_clone names t st in
      let one = one_added names once st h.sound t fit above small pid in
      let size = one_more names once st h.sound t fit above small pid in
      let within = more_within b g gs s st e h pid le in
      let still = all_to (GroupFits st.program) (GroupFits next.program) gs (λ x o. group_still names once st h.sound t fit above small pid x o) h.fits.1 in
      let later = rest (more_spent b (clone_numbers s g.fixed)) next
      (record {
        sound = one.sound;
        within = within;
        next = omega arith;
        same = refl;
        few = omega arith;
        stand = λ x r eq. one.grows.stand x r (h.stand x r eq);
        fits = still;
      }) in
      record {
        add = (
          record {
            valid = h.sound.valid;
            valid_then = one.sound.valid;
            within = within;
            next = same;
            in_range = omega arith;
            room = small;
            callee = ap is_some fit.is;
          },
          later.add,
        );
        next = later.next;
      }

  fit_one : (g : Group) (gs : List Group) → Rest gs → (b : Spent) (s : Summary) (st : State) (k : Bool) → clone_fits b limit (clone_numbers s g.fixed) ≡ k
      → summary_at ss g.callee ≡ Some s → IsReady b (g ∷ gs) st
      → CanGrow names
      ((if k then with_new g b (clone_numbers s g.fixed) else refused b).taken
      ++ taken ss table limit (if k then with_new g b (clone_numbers s g.fixed) else refused b).spent gs) st
  fit_one g gs rest b s st false ek e h = rest b st (skipped b g gs st h)
  fit_one g gs rest b s st true ek e h =
      let n = clone_numbers s g.fixed in
      let cost_ok = nat_le (b.cost + n.size ^ 2) limit in
      let room = nat_lt b.routines max_routines in
      let one = and_first (cost_ok && is_within n && room) (nat_lt b.next max_pids) ek in
      let pid = and_second (cost_ok && is_within n && room) (nat_lt b.next max_pids) ek in
      let two = and_first (cost_ok && is_within n) room one in
      make_one g gs rest b s st e h (ltb-true b.routines max_routines (and_second (cost_ok && is_within n) room one)) (ltb-true b.next max_pids pid)
      (size_within n (and_second cost_ok (is_within n) two))

  decide_one : (g : Group) (gs : List Group) → Rest gs → (b : Spent) (st : State) (o : Option ℕ) (m : Option Summary)
      → summary_at ss g.callee ≡ m → IsReady b (g ∷ gs) st
      → CanGrow names ((decided limit g b o m).taken ++ taken ss table limit (decided limit g b o m).spent gs) st
  decide_one g gs rest b st (Some clone) m e h =
      let later = rest b st (skipped b g gs st h) in
      record { add = (tt, later.add); next = later.next }
  decide_one g gs rest b st None None e h = rest b st (skipped b g gs st h)
  decide_one g gs rest b st None (Some s) e h = fit_one g gs rest b s st (clone_fits b limit (clone_numbers s g.fixed)) refl e h

  groups_grow : (gs : List Group) → Rest gs
  groups_grow [] b st h = record { add = tt; next = h.next }
  groups_grow (g ∷ gs) b st h = decide_one g gs (groups_grow gs) b st (clone_in table g.callee g.fixed) (summary_at ss g.callee) refl h

-- the groups of a sound state
pub can_grow : (names : List ShapeRow) (once : HasEachNameOnce names) (limit : ℕ) (st : State) → IsSound names st
    → AllByRecursion IsWithinLimits st.program.routines
    → st.next ≤ max_pids → CanGrow names (groups (summaries st.program) st.table (main_pid st.program.shapes) st.next limit) st
can_grow names once limit st sound within next =
    let p = st.program in
    let ss = summaries p in
    let main = main_pid p.shapes in
    let size : length ss ≡ length p.routines = length-map p.routines summary in
    groups_grow names once p sound.valid st.table limit (ranked_groups ss main) (at_start ss st.next) st
    (record {
      sound = sound;
      within = within;
      next = next;
      same = refl;
      few = omega arith;
      stand = λ x r e. e;
      fits = groups_fit p sound.valid main;
    })
