-- Every routine of every program of the plan is within the limits of the language.
use Rattle.std.proofs.Common.{◌≡◌, ℕ, zero, suc, ◌+◌, ◌<◌, ◌≤◌, List, [], ◌∷◌, ◌++◌, map, Bool, true, false, refl, ap, subst, sym, ◌∙◌, arith, length}
use Rattle.std.proofs.Common.{leb-true, le-leb, ltb-true}
use Rattle.std.specs.Prelude.{◌^◌, ◌&&◌, nat_le, nat_lt, if◌then◌else◌, flat_map, sum, Option, Some, None}
use Rattle.std.specs.List.{AllByRecursion, list_all}
use Rattle.il_core.specs.declared.program.IlProgram.{IlProgram}
use Rattle.il_core.specs.declared.shape.ShapeRow.{ShapeRow}
use Rattle.il_core.specs.Limits.{IsPid, IsWithinLimits, max_arrays, max_elements, max_pids, max_registers, max_routines, max_size}
use Rattle.il_core.specs.Program.{routine_at, main_pid}
use Rattle.il_core.specs.Routine.{RoutineParts}
use Rattle.il_core.specs.Size.{size, cost}
use Rattle.il_core.specs.Valid.{IsProgram, HasEachNameOnce}
use Rattle.il_laws.specs.Clone.{make_clone}
use Rattle.il_laws.specs.Facts.{looped}
use Rattle.il_laws.specs.Growing.{NewClone, with_copy}
use Rattle.il_laws.specs.Known.{known_sites}
use Rattle.il_laws.specs.Reach.{is_live}
use Rattle.il_laws.specs.Retarget.{SiteMove, retarget}
use Rattle.il_laws.specs.Simplify.{simplify}
use Rattle.il_laws.specs.Table.{Row}
use Rattle.il_laws.proofs.CloneValid.{clone_size}
use Rattle.il_core.proofs.Found.{found_all}
use Rattle.il_laws.proofs.Grown.{all_push, all_to, found_left}
use Rattle.il_laws.proofs.Kept.{filter_all}
use Rattle.il_core.proofs.Programs.{routine_valid}
use Rattle.list_laws.proofs.Tests.{and_first, and_second}
use Rattle.il_laws.proofs.Within.{simplify_within}
use Rattle.plan_laws.specs.Orders.{greatest}
use Rattle.plan_laws.specs.Summary.{Summary, summary, summaries, summary_at, CallSite, numbered}
use Rattle.plan_laws.specs.Numbers.{Choice, Numbers, own, with_calls, numbers, inlined_numbers, is_within}
use Rattle.plan_laws.specs.Inlining.{inlined_routine}
use Rattle.plan_laws.specs.Groups.{Group, Taken, Spent, clone_fits, more_spent, refused, with_new, decided, clone_in, clone_numbers, taken, may_move}
use Rattle.plan_laws.specs.Groups.{fixed_of, clone_of_site, with_move, moves, ranked_groups, at_start}
use Rattle.plan_laws.specs.Plan.{State, new_clone, add_clone, add_clones, retargeted, Pass, pass_groups, pass_choice, one_pass, states_of, limit_of}
use Rattle.plan_laws.specs.Plan.{passes_from, at_first, plan}
use Rattle.plan_laws.specs.PlanLaws.{IsFirst}
use Rattle.plan_laws.proofs.Adding.{IsBelow, IsSound}
use Rattle.plan_laws.proofs.Chosen.{StandsHere, all_here, choice_within}
use Rattle.plan_laws.proofs.GroupsFit.{summary_found}
use Rattle.plan_laws.proofs.Inlines.{by_serves}
use Rattle.plan_laws.proofs.InstrLimits.{AreWithin, clone_within, ArePids, retarget_within, by_within}
use Rattle.plan_laws.proofs.Passing.{pass_succeeds, first_sound}
use Rattle.plan_laws.proofs.Retargets.{row_for, if_some}
use Rattle.plan_laws.proofs.Sizes.{numbers_are}
use Rattle.plan_laws.proofs.Spending.{none_chosen, routine_of, retarget_size}

abbrev pub AllWithin : List RoutineParts → Type 0
AllWithin rs = AllByRecursion IsWithinLimits rs

-- the routines are within the limits, and so is the next PID
pub record IsLimited (st : State) : Type 0 where
  pub each : AllWithin st.program.routines
  pub next : st.next ≤ max_pids

-- a clone with the numbers that its group was decided by
new_within : (r : RoutineParts) (c : NewClone) → 0 < length r.blocks → IsWithinLimits r → IsPid c.pid → (clone_numbers (summary r) c.fixed).size ≤ max_size
    → IsWithinLimits (make_clone r c.pid c.fixed)
new_within r c some h pid le =
    let size = clone_size r c.pid c.fixed some in
    record {
      pid = pid;
      params = h.params;
      regs = h.regs;
      arrays = h.arrays;
      elements = h.elements;
      size = omega arith;
      instrs = clone_within (looped r.blocks 0) c.fixed r.blocks h.instrs;
    }

module _ (names : List ShapeRow) (p : IlProgram) (valid : IsProgram p) (table : List Row) (limit : ℕ) where
  abbrev ss : List Summary
  ss = summaries p

  -- what stood as the groups were decided stands
  abbrev Stand : State → Type 0
  Stand st = (x : ℕ) (r : RoutineParts) → routine_at p.routines x ≡ Some r → routine_at st.program.routines x ≡ Some r

  abbrev Rest : List Group → Type 0
  Rest gs = (b : Spent) (st : State) → IsLimited st → Stand st → IsLimited (add_clones names (taken ss table limit b gs) st)

  copy_stands : (q : IlProgram) (c : NewClone) (o : Option RoutineParts) (x : ℕ) (r : RoutineParts) → routine_at q.routines x ≡ Some r
      → routine_at (with_copy q c o).routines x ≡ Some r
  copy_stands q c None x r e = e
  copy_stands q c (Some z) x r e = found_left (λ (y : RoutineParts). y.pid) x q.routines (make_clone z c.pid c.fixed ∷ []) r e

  make_one : (g : Group) (gs : List Group) → Rest gs → (b : Spent) (s : Summary) (st : State) → summary_at ss g.callee ≡ Some s
      → IsLimited st → Stand st → b.next < max_pids → (clone_numbers s g.fixed).size ≤ max_size
      → IsLimited (add_clones names ((with_new g b (clone_numbers s g.fixed)).taken ++ taken ss table limit (more_spent b (clone_numbers s g.fixed)) gs) st)
  make_one g gs rest b s st e h stand pid le =
      let f = routine_of names p valid table limit g.callee s (routine_at p.routines g.callee) refl (sym (summary_found p.routines g.callee) ∙ e) in
      let r = f.0 in
      let t : Taken = record { group = g; clone = b.next; is_new = true } in
      let c = new_clone names st.made t in
      let here = stand g.callee r f.1 in
      let next = add_clone names t st in
      let is = ap (λ (o : Option RoutineParts). with_copy st.program c o) here in
      let same = ap (λ (z : Summary). (clone_numbers z g.fixed).size) f.2 in
      let old = found_all (λ (z : RoutineParts). z.pid) IsWithinLimits g.callee st.program.routines r h.each here in
      let new = new_within r c (routine_valid p valid g.callee r f.1).some_block old.0 pid (omega arith) in
      rest (more_spent b (clone_numbers s g.fixed)) next
      (record {
        each = subst (λ (q : IlProgram). AllWithin q.routines) (sym is) (all_push IsWithinLimits st.program.routines (make_clone r c.pid c.fixed) h.each new);
        next = omega arith;
      })
      (λ x q eq. copy_stands st.program c (routine_at st.program.routines g.callee) x q (stand x q eq))

  size_within : (n : Numbers) → is_within n ≡ true → n.size ≤ max_size
  size_within n e =
      let a = nat_le n.size max_size in
      let b = nat_le n.regs max_registers in
      let c = nat_le n.arrays max_arrays in
      leb-true n.size max_size (and_first a b (and_first (a && b) c (and_first (a && b && c) (nat_le n.elements max_elements) e)))

  fit_one : (g : Group) (gs : List Group) → Rest gs → (b : Spent) (s : Summary) (st : State) (k : Bool)
      → clone_fits b limit (clone_numbers s g.fixed) ≡ k → summary_at ss g.callee ≡ Some s → IsLimited st → Stand st
      → IsLimited (add_clones names
      ((if k then with_new g b (clone_numbers s g.fixed) else refused b).taken
      ++ taken ss table limit (if k then with_new g b (clone_numbers s g.fixed) else refused b).spent gs) st)
  fit_one g gs rest b s st false ek e h stand = rest b st h stand
  fit_one g gs rest b s st true ek e h stand =
      let n = clone_numbers s g.fixed in
      let cost_ok = nat_le (b.cost + n.size ^ 2) limit in
      let room = nat_lt b.routines max_routines in
      let one = and_first (cost_ok && is_within n && room) (nat_lt b.next max_pids) ek in
      let pid = and_second (cost_ok && is_within n && room) (nat_lt b.next max_pids) ek in
      let two = and_first (cost_ok && is_within n) room one in
      make_one g gs rest b s st e h stand (ltb-true b.next max_pids pid) (size_within n (and_second cost_ok (is_within n) two))

  decide_one : (g : Group) (gs : List Group) → Rest gs → (b : Spent) (st : State) (o : Option ℕ) (m : Option Summary)
      → summary_at ss g.callee ≡ m → IsLimited st → Stand st
      → IsLimited (add_clones names ((decided limit g b o m).taken ++ taken ss table limit (decided limit g b o m).spent gs) st)
  decide_one g gs rest b st (Some clone) m e h stand = rest b st h stand
  decide_one g gs rest b st None None e h stand = rest b st h stand
  decide_one g gs rest b st None (Some s) e h stand = fit_one g gs rest b s st (clone_fits b limit (clone_numbers s g.fixed)) refl e h stand

  groups_limited : (gs : List Group) → Rest gs
  groups_limited [] b st h stand = h
  groups_limited (g ∷ gs) b st h stand =
      decide_one g gs (groups_limited gs) b st (clone_in table g.callee g.fixed) (summary_at ss g.callee) refl h stand

added_limited : (names : List ShapeRow) (budget limit : ℕ) (st : State) → IsProgram st.program → IsLimited st
    → IsLimited (add_clones names (pass_groups budget limit st) st)
added_limited names zero limit st valid h = h
added_limited names (suc budget) limit st valid h =
    let p = st.program in
    groups_limited names p valid st.table limit (ranked_groups (summaries p) (main_pid p.shapes)) (at_start (summaries p) st.next) st h (λ x r e. e)

-- moves go to clones of the table
module _ (ss : List Summary) (table : List Row) (main : ℕ) (pids : AllByRecursion (λ row. IsPid row.clone) table) where
  move_within : (o : Option ℕ) (k : ℕ) (ms : List SiteMove) → ((clone : ℕ) → o ≡ Some clone → IsPid clone) → ArePids ms → ArePids (with_move o k ms)
  move_within None k ms h g = g
  move_within (Some clone) k ms h g = (h clone refl, g)

  moves_within : (xs : List CallSite) → ArePids (moves ss table main xs)
  moves_within [] = tt
  moves_within (x ∷ xs) =
      move_within (clone_of_site ss table main x) x.number (moves ss table main xs)
      (λ clone e. (let row = row_for table (λ z. IsPid z.clone) x.site.callee (fixed_of ss x) clone pids
      (if_some (may_move ss main x) (clone_in table x.site.callee (fixed_of ss x)) clone e) in
      let same = row.clone_is in let pid = row.holds in omega arith)) (moves_within xs)

  moved_routine : (b : Bool) (r : RoutineParts) (xs : List CallSite) → IsWithinLimits r
      → IsWithinLimits (if b then retarget r (moves ss table main xs) else r)
  moved_routine false r xs h = h
  moved_routine true r xs h =
      let less = retarget_size true r (moves ss table main xs) in
      let most = h.size in
      record {
        pid = h.pid;
        params = h.params;
        regs = h.regs;
        arrays = h.arrays;
        elements = h.elements;
        size = omega arith;
        instrs = retarget_within (moves ss table main xs) 0 r.blocks (moves_within xs) h.instrs;
      }

  retargeted_within : (below : ℕ) (r : RoutineParts) → IsWithinLimits r → IsWithinLimits (retargeted ss table main below r)
  retargeted_within below r h = moved_routine (nat_lt r.pid below) r (numbered r.pid 0 (known_sites r)) h

map_within : (f : RoutineParts → RoutineParts) → ((r : RoutineParts) → IsWithinLimits r → IsWithinLimits (f r)) → (rs : List RoutineParts) → AllWithin rs
    → AllWithin (map f rs)
map_within f h [] g = tt
map_within f h (r ∷ rs) g = (h r g.0, map_within f h rs g.1)

-- routines with their callees have the numbers that the choice computed
module _ (p : IlProgram) (valid : IsProgram p) (cs : List Choice) (all : AllWithin p.routines) where
  abbrev test : Summary → Bool
  test s = is_within (inlined_numbers (summaries p) cs s)

  whole_within : (r : RoutineParts) → routine_at p.routines r.pid ≡ Some r → IsWithinLimits r → test (summary r) ≡ true
      → IsWithinLimits (inlined_routine p.routines cs r)
  whole_within r here h e =
      let n = inlined_numbers (summaries p) cs (summary r) in
      let is = numbers_are p valid cs r.pid r here in
      let serves = by_serves p valid cs (suc (length cs)) r.pid r here in
      let a = nat_le n.size max_size in
      let b = nat_le n.regs max_registers in
      let c = nat_le n.arrays max_arrays in
      let d = nat_le n.elements max_elements in
      let size = leb-true n.size max_size (and_first a b (and_first (a && b) c (and_first (a && b && c) d e))) in
      let regs = leb-true n.regs max_registers (and_second a b (and_first (a && b) c (and_first (a && b && c) d e))) in
      let arrays = leb-true n.arrays max_arrays (and_second (a && b) c (and_first (a && b && c) d e)) in
      let elements = leb-true n.elements max_elements (and_second (a && b && c) d e) in
      let pid = h.pid in
      let params = h.params in
      let same_pid = serves.pid in
      let same_params = serves.params in
      let is_size = is.size in
      let is_regs = is.regs in
      let is_arrays = is.arrays in
      let is_elements = is.elements in
      let blocks = all_to IsWithinLimits (λ q. AreWithin q.blocks) p.routines (λ q g. g.instrs) all in
      record {
        pid = omega arith;
        params = omega arith;
        regs = omega arith;
        arrays = omega arith;
        elements = omega arith;
        size = omega arith;
        instrs = by_within p.routines blocks cs (suc (length cs)) r h.instrs;
      }

  all_whole : (rs : List RoutineParts) → AllByRecursion (StandsHere p.routines) rs → AllWithin rs → list_all test (map summary rs) ≡ true
      → AllWithin (map (inlined_routine p.routines cs) rs)
  all_whole [] here h e = tt
  all_whole (r ∷ rs) here h e = (
    whole_within r here.0 h.0 (and_first (test (summary r)) (list_all test (map summary rs)) e),
    all_whole rs here.1 h.1 (and_second (test (summary r)) (list_all test (map summary rs)) e),
  )

-- nothing chosen: the routines' own numbers
own_within : (known : List Summary) (r : RoutineParts) → IsWithinLimits r → is_within (inlined_numbers known [] (summary r)) ≡ true
own_within known r h =
    let none = ap (λ xs. is_within (with_calls known (numbers known [] 0) (own (summary r)) xs)) (none_chosen r.pid 0 (known_sites r)) in
    let size = le-leb (size r) max_size h.size in
    let regs = le-leb r.regs max_registers h.regs in
    let arrays = le-leb (length r.arrays) max_arrays h.arrays in
    let elements = le-leb (sum r.arrays) max_elements h.elements in
    none ∙ ap (λ (b : Bool). b && nat_le r.regs max_registers && nat_le (length r.arrays) max_arrays && nat_le (sum r.arrays) max_elements) size
    ∙ ap (λ (b : Bool). b && nat_le (length r.arrays) max_arrays && nat_le (sum r.arrays) max_elements) regs
    ∙ ap (λ (b : Bool). b && nat_le (sum r.arrays) max_elements) arrays ∙ elements

all_own : (known : List Summary) (rs : List RoutineParts) → AllWithin rs → list_all (λ s. is_within (inlined_numbers known [] s)) (map summary rs) ≡ true
all_own known [] h = refl
all_own known (r ∷ rs) h =
    ap (λ (b : Bool). b && list_all (λ s. is_within (inlined_numbers known [] s)) (map summary rs)) (own_within known r h.0) ∙ all_own known rs h.1

chosen_within : (budget limit : ℕ) (st : State) → AllWithin st.program.routines
    → list_all (λ s. is_within (inlined_numbers (summaries st.program) (pass_choice budget limit st) s)) (summaries st.program) ≡ true
chosen_within zero limit st h = all_own (summaries st.program) st.program.routines h
chosen_within (suc budget) limit st h =
    choice_within (summaries st.program) (main_pid st.program.shapes) limit (all_own (summaries st.program) st.program.routines h)

module _ (names : List ShapeRow) (once : HasEachNameOnce names) where
  -- the six states of a pass
  record PassLimited (x : Pass) : Type 0 where
    added : IsLimited x.added
    retargeted : IsLimited x.retargeted
    simplified : IsLimited x.simplified
    inlined : IsLimited x.inlined
    simplified_again : IsLimited x.simplified_again
    pruned : IsLimited x.pruned

  pass_limited : (budget limit : ℕ) (st : State) → IsSound names st → IsLimited st → PassLimited (one_pass names budget limit st)
  pass_limited budget limit st sound h =
      let x = one_pass names budget limit st in
      let is = pass_succeeds names once budget limit st sound in
      let a = x.added.program in
      let c = x.simplified.program in
      let e = x.simplified_again.program in
      let cs = pass_choice budget limit x.simplified in
      let one = added_limited names budget limit st sound.valid h in
      let below = one.next in
      let pids = all_to (IsBelow x.added.next) (λ row. IsPid row.clone) x.added.table (λ row g. (let lt = g.1 in omega arith)) is.added.sound.table_below in
      let two = map_within (retargeted (summaries a) x.added.table (main_pid a.shapes) st.next)
      (retargeted_within (summaries a) x.added.table (main_pid a.shapes) pids st.next) a.routines one.each in
      let three = map_within simplify simplify_within x.retargeted.program.routines two in
      let valid = is.simplified.sound.valid in
      let four = all_whole c valid cs three c.routines (all_here c valid) three (chosen_within budget limit x.simplified three) in
      let five = map_within simplify simplify_within x.inlined.program.routines four in
      let six = filter_all (λ (r : RoutineParts). is_live e r.pid) IsWithinLimits e.routines five in
      record {
        added = one;
        retargeted = record { each = two; next = below };
        simplified = record { each = three; next = below };
        inlined = record { each = four; next = below };
        simplified_again = record { each = five; next = below };
        pruned = record { each = six; next = below };
      }

  abbrev AllLimited : List State → Type 0
  AllLimited sts = AllByRecursion (λ (q : IlProgram). AllWithin q.routines) (map (λ (st : State). st.program) sts)

  passes_limited : (budget : ℕ) (limit : ℕ → ℕ) (left k : ℕ) (st : State) → IsSound names st → IsLimited st
      → AllLimited (flat_map states_of (passes_from names budget limit k left st))
  passes_limited budget limit zero k st sound h = tt
  passes_limited budget limit (suc left) k st sound h =
      let x = one_pass names budget (limit k) st in
      let l = pass_limited budget (limit k) st sound h in
      let rest = passes_limited budget limit left (suc k) x.pruned (pass_succeeds names once budget (limit k) st sound).pruned.sound l.pruned in
      (l.added.each, (l.retargeted.each, (l.simplified.each, (l.inlined.each, (l.simplified_again.each, (l.pruned.each, rest))))))

greatest_pid : (rows : List ShapeRow) → AllByRecursion (λ row. IsPid row.pid) rows → greatest (λ (z : ShapeRow). suc z.pid) rows ≤ max_pids
greatest_pid [] h = omega arith
greatest_pid (z ∷ rows) h = let lt = h.0 in let rest = greatest_pid rows h.1 in omega arith

pub limits_kept : (p : IlProgram) → IsFirst p → AllWithin p.routines → (budget n : ℕ)
    → AllByRecursion (λ (q : IlProgram). AllWithin q.routines) (plan p budget n)
limits_kept p first all budget n =
    let names = p.shapes in
    let limit = limit_of (cost p.routines) budget n in (
      all,
      passes_limited names first.valid.names budget limit n 1 (at_first p) (first_sound p first)
          (record { each = all; next = greatest_pid p.shapes first.valid.pids }),
    )
