-- Each pass stays within its limit, and the plan within its budget.
use Rattle.std.proofs.Common.{◌≡◌, ℕ, zero, suc, ◌+◌, ◌*◌, ◌/◌, ◌<◌, ◌≤◌, List, [], ◌∷◌, ◌++◌, map, option_map, Bool, true, false, refl, ap, subst, sym}
use Rattle.std.proofs.Common.{◌∙◌, arith, length, slice_get, leb-true}
use Rattle.std.specs.Prelude.{◌^◌, ◌&&◌, cond, nat_le, nat_lt, if◌then◌else◌, filter, flat_map, Option, Some, None}
use Rattle.std.specs.List.{list_all}
use Rattle.std.proofs.lemmas.List.Sums.{sum_by-cons, sum_by-append}
use Rattle.std.proofs.lemmas.Nat.{le-div}
use Rattle.std.proofs.lemmas.Option.{none-some, same_Some}
use Rattle.std.proofs.Math.Nat.{pow-le-pow_left, div-mul-le_self, mul-le-mul_left, mul_assoc, le_of_mul-le-mul_right}
use Rattle.il_core.specs.Limits.{max_pids, max_routines}
use Rattle.il_core.specs.declared.instr.Block.{Block}
use Rattle.il_core.specs.declared.instr.Instr.{Instr}
use Rattle.il_core.specs.declared.program.IlProgram.{IlProgram}
use Rattle.il_core.specs.declared.shape.ShapeRow.{ShapeRow}
use Rattle.il_core.specs.Program.{routine_at, main_pid}
use Rattle.il_core.specs.Routine.{RoutineParts}
use Rattle.il_core.specs.Size.{block_size, blocks_size, size, cost}
use Rattle.il_core.specs.Valid.{IsProgram, HasEachNameOnce}
use Rattle.il_core.specs.Meaning.{sites_in, sites_of}
use Rattle.il_laws.specs.Clone.{make_clone}
use Rattle.il_laws.specs.Growing.{NewClone, with_copy}
use Rattle.il_laws.specs.Inline.{inlined}
use Rattle.il_laws.specs.Known.{KnownSite, known_sites}
use Rattle.il_laws.specs.Reach.{is_live}
use Rattle.il_laws.specs.Retarget.{SiteMove, retarget_instrs, retarget_blocks, retarget}
use Rattle.il_laws.specs.Simplify.{simplify}
use Rattle.il_laws.specs.Table.{Row}
use Rattle.il_laws.proofs.CloneValid.{clone_size}
use Rattle.il_laws.proofs.Grown.{found_left}
use Rattle.il_core.proofs.Programs.{routine_valid}
use Rattle.il_laws.proofs.Charges.{simplify_no_larger}
use Rattle.list_laws.proofs.Tests.{and_first, and_second}
use Rattle.plan_laws.specs.Summary.{Summary, summary, summaries, summary_at, cost_of, CallSite, numbered}
use Rattle.plan_laws.specs.Numbers.{Choice, falling, inlined_numbers, is_within, cost_after}
use Rattle.plan_laws.specs.Levels.{is_acyclic}
use Rattle.plan_laws.specs.Choosing.{ranked_sites, is_candidate, may_inline, chosen_site, accepted, choice}
use Rattle.plan_laws.specs.Inlining.{bodies, inlined_by, inlined_routine, inlined_routines}
use Rattle.plan_laws.specs.Groups.{Group, Taken, Spent, clone_fits, more_spent, refused, with_new, decided, clone_in, clone_numbers, taken, moves}
use Rattle.plan_laws.specs.Groups.{ranked_groups, at_start}
use Rattle.plan_laws.specs.Plan.{State, new_clone, add_clone, add_clones, retargeted, Pass, pass_groups, pass_choice, one_pass, states_of, limit_of}
use Rattle.plan_laws.specs.Plan.{passes_from, at_first, passes as plan_of, last_program, final}
use Rattle.plan_laws.specs.PlanLaws.{IsFirst, IsWithin}
use Rattle.plan_laws.proofs.Adding.{IsSound}
use Rattle.plan_laws.proofs.GroupsFit.{summary_found}
use Rattle.plan_laws.proofs.Passing.{pass_succeeds, first_sound}
use Rattle.plan_laws.proofs.Sizes.{inlined_cost}

abbrev square_of : RoutineParts → ℕ
square_of r = size r ^ 2

-- routines that are no larger
pub map_cost : (f : RoutineParts → RoutineParts) → ((r : RoutineParts) → size (f r) ≤ size r) → (rs : List RoutineParts) → cost (map f rs) ≤ cost rs
map_cost f h [] = omega arith
map_cost f h (r ∷ rs) =
    let one : size (f r) ^ 2 ≤ size r ^ 2 = pow-le-pow_left (h r) 2 in
    let rest = map_cost f h rs in
    let a = sum_by-cons square_of (f r) (map f rs) in
    let b = sum_by-cons square_of r rs in
    omega arith

filter_if : (k : Bool) (r : RoutineParts) (rs : List RoutineParts) → cost (cond k (r ∷ rs) rs) ≤ size r ^ 2 + cost rs
filter_if true r rs = let a = sum_by-cons square_of r rs in omega arith
filter_if false r rs = omega arith

pub filter_cost : (t : RoutineParts → Bool) (rs : List RoutineParts) → cost (filter t rs) ≤ cost rs
filter_cost t [] = omega arith
filter_cost t (r ∷ rs) =
    let one = filter_if (t r) r (filter t rs) in
    let rest = filter_cost t rs in
    let b = sum_by-cons square_of r rs in
    omega arith

-- retargeting leaves the size
instrs_length : (ms : List SiteMove) (k : ℕ) (is : List Instr) → length (retarget_instrs ms k is) ≡ length is
instrs_length ms k [] = refl
instrs_length ms k (i ∷ is) = ap suc (instrs_length ms (sites_in i + k) is)

moved_size : (ms : List SiteMove) (k : ℕ) (xs : List Block) → blocks_size (retarget_blocks ms k xs) ≡ blocks_size xs
moved_size ms k [] = refl
moved_size ms k (x ∷ xs) =
    let new : Block = record { instrs = retarget_instrs ms k x.instrs; end = x.end } in
    let a = sum_by-cons block_size new (retarget_blocks ms (sites_of x.instrs + k) xs) in
    let b = sum_by-cons block_size x xs in
    let one = instrs_length ms k x.instrs in
    let rest = moved_size ms (sites_of x.instrs + k) xs in
    omega arith

pub retarget_size : (b : Bool) (r : RoutineParts) (ms : List SiteMove) → size (if b then retarget r ms else r) ≤ size r
retarget_size true r ms = let same = moved_size ms 0 r.blocks in omega arith
retarget_size false r ms = omega arith

pub summaries_cost : (rs : List RoutineParts) → cost_of (map summary rs) ≡ cost rs
summaries_cost [] = refl
summaries_cost (r ∷ rs) =
    sum_by-cons (λ (s : Summary). s.size ^ 2) (summary r) (map summary rs)
    ∙ ap (λ (n : ℕ). size r ^ 2 + n) (summaries_cost rs) ∙ sym (sum_by-cons square_of r rs)

-- The clones of a pass: each costs what its group was decided by.
module _ (names : List ShapeRow) (p : IlProgram) (valid : IsProgram p) (table : List Row) (limit : ℕ) where
  abbrev ss : List Summary
  ss = summaries p

  -- what stood as the groups were decided stands
  abbrev Stand : State → Type 0
  Stand st = (x : ℕ) (r : RoutineParts) → routine_at p.routines x ≡ Some r → routine_at st.program.routines x ≡ Some r

  abbrev Rest : List Group → Type 0
  Rest gs = (b : Spent) (st : State) → cost st.program.routines ≤ b.cost → b.cost ≤ limit → Stand st
      → cost (add_clones names (taken ss table limit b gs) st).program.routines ≤ limit

  -- the routine of a summary
  pub routine_of : (x : ℕ) (s : Summary) (o : Option RoutineParts) → routine_at p.routines x ≡ o → option_map summary o ≡ Some s
      → (r : RoutineParts) × (routine_at p.routines x ≡ Some r) × (summary r ≡ s)
  routine_of x s None e h = absurd (none-some s h)
  routine_of x s (Some r) e h = (r, e, same_Some (summary r) s h)

  copy_cost : (q : IlProgram) (c : NewClone) (r : RoutineParts) → 0 < length r.blocks
      → cost (with_copy q c (Some r)).routines ≡ cost q.routines + (clone_numbers (summary r) c.fixed).size ^ 2
  copy_cost q c r some =
      let new = make_clone r c.pid c.fixed in
      let a = sum_by-append square_of q.routines (new ∷ []) in
      let b = sum_by-cons square_of new [] in
      let n = ap (λ (k : ℕ). k ^ 2) (clone_size r c.pid c.fixed some) in
      omega arith

  copy_stands : (q : IlProgram) (c : NewClone) (o : Option RoutineParts) (x : ℕ) (r : RoutineParts) → routine_at q.routines x ≡ Some r
      → routine_at (with_copy q c o).routines x ≡ Some r
  copy_stands q c None x r e = e
  copy_stands q c (Some z) x r e = found_left (λ (y : RoutineParts). y.pid) x q.routines (make_clone z c.pid c.fixed ∷ []) r e

  make_cost : (g : Group) (gs : List Group) → Rest gs → (b : Spent) (s : Summary) (st : State) → summary_at ss g.callee ≡ Some s
      → cost st.program.routines ≤ b.cost → b.cost + (clone_numbers s g.fixed).size ^ 2 ≤ limit → Stand st
      → cost (add_clones names
      ((with_new g b (clone_numbers s g.fixed)).taken ++ taken ss table limit (more_spent b (clone_numbers s g.fixed)) gs) st).program.routines
      ≤ limit
  make_cost g gs rest b s st e le fits stand =
      let f = routine_of g.callee s (routine_at p.routines g.callee) refl (sym (summary_found p.routines g.callee) ∙ e) in
      let r = f.0 in
      let t : Taken = record { group = g; clone = b.next; is_new = true } in
      let c = new_clone names st.made t in
      let here = stand g.callee r f.1 in
      let next = add_clone names t st in
      let is : cost next.program.routines ≡ cost (with_copy st.program c (Some r)).routines =
      ap (λ (o : Option RoutineParts). cost (with_copy st.program c o).routines) here in
      let more = copy_cost st.program c r (routine_valid p valid g.callee r f.1).some_block in
      let same = ap (λ (z : Summary). (clone_numbers z g.fixed).size ^ 2) f.2 in
      rest (more_spent b (clone_numbers s g.fixed)) next (omega arith) (omega arith)
      (λ x q eq. copy_stands st.program c (routine_at st.program.routines g.callee) x q (stand x q eq))

  fit_cost : (g : Group) (gs : List Group) → Rest gs → (b : Spent) (s : Summary) (st : State) (k : Bool)
      → clone_fits b limit (clone_numbers s g.fixed) ≡ k → summary_at ss g.callee ≡ Some s
      → cost st.program.routines ≤ b.cost → b.cost ≤ limit → Stand st
      → cost (add_clones names
      ((if k then with_new g b (clone_numbers s g.fixed) else refused b).taken
      ++ taken ss table limit (if k then with_new g b (clone_numbers s g.fixed) else refused b).spent gs) st).program.routines ≤ limit
  fit_cost g gs rest b s st false ek e le within stand = rest b st le within stand
  fit_cost g gs rest b s st true ek e le within stand =
      let n = clone_numbers s g.fixed in
      let cost_ok = nat_le (b.cost + n.size ^ 2) limit in
      let room = nat_lt b.routines max_routines in
      let one = and_first (cost_ok && is_within n && room) (nat_lt b.next max_pids) ek in
      let two = and_first (cost_ok && is_within n) room one in
      let three = and_first cost_ok (is_within n) two in
      make_cost g gs rest b s st e le (leb-true (b.cost + n.size ^ 2) limit three) stand

  decide_cost : (g : Group) (gs : List Group) → Rest gs → (b : Spent) (st : State) (o : Option ℕ) (m : Option Summary)
      → summary_at ss g.callee ≡ m → cost st.program.routines ≤ b.cost → b.cost ≤ limit → Stand st
      → cost (add_clones names ((decided limit g b o m).taken ++ taken ss table limit (decided limit g b o m).spent gs) st).program.routines ≤ limit
  decide_cost g gs rest b st (Some clone) m e le within stand = rest b st le within stand
  decide_cost g gs rest b st None None e le within stand = rest b st le within stand
  decide_cost g gs rest b st None (Some s) e le within stand =
      fit_cost g gs rest b s st (clone_fits b limit (clone_numbers s g.fixed)) refl e le within stand

  pub groups_cost : (gs : List Group) → Rest gs
  groups_cost [] b st le within stand = omega arith
  groups_cost (g ∷ gs) b st le within stand =
      decide_cost g gs (groups_cost gs) b st (clone_in table g.callee g.fixed) (summary_at ss g.callee) refl le within stand

added_cost : (names : List ShapeRow) (budget limit : ℕ) (st : State) → IsProgram st.program → cost st.program.routines ≤ limit
    → cost (add_clones names (pass_groups budget limit st) st).program.routines ≤ limit
added_cost names zero limit st valid le = le
added_cost names (suc budget) limit st valid le =
    let p = st.program in
    let same = summaries_cost p.routines in
    groups_cost names p valid st.table limit (ranked_groups (summaries p) (main_pid p.shapes)) (at_start (summaries p) st.next) st
    (omega arith) (omega arith) (λ x r e. e)

-- nothing chosen: nothing changes
pub none_chosen : (pid k : ℕ) (xs : List KnownSite) → falling [] pid k xs [] ≡ []
none_chosen pid k [] = refl
none_chosen pid k (x ∷ xs) = none_chosen pid (suc k) xs

none_size : (rs : List RoutineParts) (r : RoutineParts) → size (inlined_routine rs [] r) ≤ size r
none_size rs r =
    let same = ap (λ xs. size (inlined r (bodies (inlined_by rs [] 0) rs xs))) (none_chosen r.pid 0 (known_sites r)) in
    omega arith

-- the choice
module _ (ss : List Summary) (main limit : ℕ) where
  take_if : (P : List Choice → Type 0) (k : Bool) (ds es : List Choice) → (k ≡ true → P ds) → P es → P (if k then ds else es)
  take_if P true ds es h g = h refl
  take_if P false ds es h g = g

  -- what holds where calls may be inlined together holds of the choice
  pub accepted_holds : (P : List Choice → Type 0) → ((cs : List Choice) → may_inline ss limit cs ≡ true → P cs) → (cs : List Choice) (xs : List CallSite)
      → P cs → P (accepted ss main limit cs xs)
  accepted_holds P h cs [] g = g
  accepted_holds P h cs (x ∷ xs) g =
      let ds = cs ++ chosen_site x ∷ [] in
      take_if P (is_candidate main x && may_inline ss limit ds) (accepted ss main limit ds xs) (accepted ss main limit cs xs)
      (λ k. accepted_holds P h ds xs (h ds (and_second (is_candidate main x) (may_inline ss limit ds) k)))
      (accepted_holds P h cs xs g)

chosen_cost : (budget limit : ℕ) (st : State) → IsProgram st.program → cost st.program.routines ≤ limit
    → cost (inlined_routines st.program.routines (pass_choice budget limit st)) ≤ limit
chosen_cost zero limit st valid le =
    let none = map_cost (inlined_routine st.program.routines []) (λ r. none_size st.program.routines r) st.program.routines in
    omega arith
chosen_cost (suc budget) limit st valid le =
    let p = st.program in
    let ss = summaries p in
    let main = main_pid p.shapes in
    let none = map_cost (inlined_routine p.routines []) (λ r. none_size p.routines r) p.routines in
    let start = inlined_cost p valid [] in
    let done = accepted_holds ss main limit (λ cs. cost_after ss cs ≤ limit)
    (λ cs e. leb-true (cost_after ss cs) limit
    (and_second (is_acyclic cs && list_all (λ s. is_within (inlined_numbers ss cs s)) ss) (nat_le (cost_after ss cs) limit) e))
    [] (ranked_sites ss) (omega arith) in
    let whole = inlined_cost p valid (choice ss main limit) in
    omega arith

module _ (names : List ShapeRow) (once : HasEachNameOnce names) where
  pub pass_costs : (budget limit : ℕ) (st : State) → IsSound names st → cost st.program.routines ≤ limit → IsWithin limit (one_pass names budget limit st)
  pass_costs budget limit st sound le =
      let x = one_pass names budget limit st in
      let h = pass_succeeds names once budget limit st sound in
      let a = x.added.program in
      let ss = summaries a in
      let main = main_pid a.shapes in
      let one = added_cost names budget limit st sound.valid le in
      let two = map_cost (retargeted ss x.added.table main st.next)
      (λ r. retarget_size (nat_lt r.pid st.next) r (moves ss x.added.table main (numbered r.pid 0 (known_sites r)))) a.routines in
      let three = map_cost simplify (λ r. (simplify_no_larger r).size) x.retargeted.program.routines in
      let four = chosen_cost budget limit x.simplified h.simplified.sound.valid (omega arith) in
      let five = map_cost simplify (λ r. (simplify_no_larger r).size) x.inlined.program.routines in
      let six = filter_cost (λ r. is_live x.simplified_again.program r.pid) x.simplified_again.program.routines in
      record { added = one; retargeted = omega arith; simplified = omega arith; inlined = four; simplified_again = omega arith; pruned = omega arith }

  module _ (cost0 budget n : ℕ) (some : 0 < n) where
    abbrev limit : ℕ → ℕ
    limit = limit_of cost0 budget n

    more_limit : (k : ℕ) → limit k ≤ limit (suc k)
    more_limit k =
        let low = div-mul-le_self (cost0 * budget * k) (100 * n) in
        let next : k ≤ suc k = omega arith in
        let more = mul-le-mul_left (cost0 * budget) next in
        let high = le-div (cost0 * budget * k / (100 * n)) (cost0 * budget * suc k) (100 * n) (omega arith) (omega arith) in
        omega arith

    -- each pass within its limit
    pub all_within : (left j : ℕ) (st : State) → IsSound names st → cost st.program.routines ≤ limit j → (k : ℕ) (x : Pass)
        → slice_get (passes_from names budget limit (suc j) left st) k ≡ Some x → IsWithin (limit (suc j + k)) x
    all_within zero j st sound le k x e = absurd (none-some x e)
    all_within (suc left) j st sound le zero x e =
        let up = more_limit j in
        let first = one_pass names budget (limit (suc j)) st in
        let here : suc j ≡ suc j + 0 = omega arith in
        subst (λ (i : ℕ). IsWithin (limit i) x) here
        (subst (IsWithin (limit (suc j))) (same_Some first x e) (pass_costs budget (limit (suc j)) st sound (omega arith)))
    all_within (suc left) j st sound le (suc k) x e =
        let up = more_limit j in
        let first = one_pass names budget (limit (suc j)) st in
        let costs = pass_costs budget (limit (suc j)) st sound (omega arith) in
        let there : suc (suc j) + k ≡ suc j + suc k = omega arith in
        subst (λ (i : ℕ). IsWithin (limit i) x) there
        (all_within left (suc j) first.pruned (pass_succeeds names once budget (limit (suc j)) st sound).pruned.sound costs.pruned k x e)

    last_cost : (left j : ℕ) (st : State) → j + left ≡ n → IsSound names st → cost st.program.routines ≤ limit j
        → cost (last_program st.program (map (λ (z : State). z.program) (flat_map states_of (passes_from names budget limit (suc j) left st)))).routines
        ≤ limit n
    last_cost zero j st e sound le =
        let same : j ≡ n = omega arith in
        subst (λ (k : ℕ). cost st.program.routines ≤ limit k) same le
    last_cost (suc left) j st e sound le =
        let up = more_limit j in
        let x = one_pass names budget (limit (suc j)) st in
        let one = (pass_costs budget (limit (suc j)) st sound (omega arith)).pruned in
        last_cost left (suc j) x.pruned (omega arith) (pass_succeeds names once budget (limit (suc j)) st sound).pruned.sound one

-- the first limit is at least the first cost
first_limit : (c b n : ℕ) → c ≤ limit_of c b n 0
first_limit c b n = omega arith

distribute : (c b : ℕ) → c * (100 + b) ≡ c * 100 + c * b
distribute zero b = omega arith
distribute (suc c) b = let rest = distribute c b in omega arith

-- 100 times the last limit
top_limit : (c b n : ℕ) → 0 < n → 100 * limit_of c b n n ≤ c * (100 + b)
top_limit c b n some =
    let q = c * b * n / (100 * n) in
    let low : q * (100 * n) ≤ c * b * n = div-mul-le_self (c * b * n) (100 * n) in
    let assoc : q * 100 * n ≡ q * (100 * n) = mul_assoc q 100 n in
    let under : q * 100 * n ≤ c * b * n = omega arith in
    let most : q * 100 ≤ c * b = le_of_mul-le-mul_right under some in
    let parts = distribute c b in
    omega arith

at_least : (b : ℕ) → 100 ≤ 100 + b
at_least b = omega arith

some_pass : (names : List ShapeRow) (budget : ℕ) (limit : ℕ → ℕ) (n k : ℕ) (st : State) (x : Pass)
    → slice_get (passes_from names budget limit 1 n st) k ≡ Some x → 0 < n
some_pass names budget limit zero k st x e = absurd (none-some x e)
some_pass names budget limit (suc n) k st x e = omega arith

pub passes_within : (p : IlProgram) → IsFirst p → (budget n k : ℕ) (x : Pass) → slice_get (plan_of p budget n) k ≡ Some x
    → IsWithin (limit_of (cost p.routines) budget n (suc k)) x
passes_within p first budget n k x e =
    let cost0 = cost p.routines in
    let some = some_pass p.shapes budget (limit_of cost0 budget n) n k (at_first p) x e in
    let here : 1 + k ≡ suc k = omega arith in
    subst (λ (i : ℕ). IsWithin (limit_of cost0 budget n i) x) here
    (all_within p.shapes first.valid.names cost0 budget n some n 0 (at_first p) (first_sound p first) (first_limit cost0 budget n) k x e)

pub budget_kept : (p : IlProgram) → IsFirst p → (budget n : ℕ) → 100 * cost (final p budget n).routines ≤ cost p.routines * (100 + budget)
budget_kept p first budget zero =
    let more = mul-le-mul_left (cost p.routines) (at_least budget) in
    omega arith
budget_kept p first budget (suc n) =
    let cost0 = cost p.routines in
    let top = top_limit cost0 budget (suc n) (omega arith) in
    let last = last_cost p.shapes first.valid.names cost0 budget (suc n) (omega arith) (suc n) 0 (at_first p) (omega arith) (first_sound p first)
    (first_limit cost0 budget (suc n)) in
    omega arith
