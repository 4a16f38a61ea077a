-- What accepted groups may send: their clones have PIDs, and their members' callers stand.
use Rattle.std.proofs.Common.{◌≡◌, ◌+◌, ◌<◌, ◌++◌, ℕ, suc, Bool, true, false, nat_eq, List, [], ◌∷◌, IsSome, map, refl, ap, sym, subst, arith, ltb-true, ◌∙◌}
use Rattle.std.specs.Prelude.{◌^◌, ◌&&◌, if◌then◌else◌, length, nat_le, nat_lt, Option, Some, None}
use Rattle.std.specs.List.{AllByRecursion}
use Rattle.list_laws.proofs.Tests.{and_second}
use Rattle.il_core.specs.Limits.{max_pids, max_routines}
use Rattle.il_core.specs.Program.{routine_at}
use Rattle.il_core.specs.Routine.{RoutineParts}
use Rattle.il_core.specs.Valid.{IsProgram}
use Rattle.il_core.specs.declared.program.IlProgram.{IlProgram}
use Rattle.il_core.specs.declared.shape.ShapeRow.{ShapeRow}
use Rattle.il_laws.specs.Clone.{Fixed, make_clone}
use Rattle.il_laws.specs.Growing.{NewClone, with_copy}
use Rattle.il_laws.specs.Table.{Row}
use Rattle.il_laws.proofs.Grown.{all_to}
use Rattle.il_laws.proofs.SpliceBlocks.{all_append}
use Rattle.clone_groups.specs.Grouping.{accepted}
use Rattle.clone_groups.specs.declared.groups.Group.{Group as CodeGroup}
use Rattle.plan_laws.specs.Groups.{Group, Spent, Taken, at_start, clone_fits, clone_in, clone_numbers, decided, fixed_of, group_before, grouped, has_key, joined}
use Rattle.plan_laws.specs.Groups.{may_move, more_spent, ranked_groups, refused, taken, with_new}
use Rattle.plan_laws.specs.Numbers.{Numbers, is_within}
use Rattle.plan_laws.specs.Plan.{State, add_clone, add_clones, new_clone}
use Rattle.plan_laws.specs.Summary.{CallSite, Summary, call_sites, summaries, summary_at}
use Rattle.plan_laws.proofs.Chosen.{IsOf, sites_of_callers}
use Rattle.plan_laws.proofs.GroupsFit.{sorted_all}
use Rattle.plan_laws.proofs.Retargets.{row_for}
use Rattle.plan_pools.specs.Cloning.{MayClone, groups_in, sent, with_clones}
use Rattle.clone_steps.specs.Sending.{MaySend}

-- ---- callers

module _ (P : ℕ → Type 0) where
  abbrev AllCallers : Group → Type 0
  AllCallers g = AllByRecursion (λ m. P m.caller) g.members

  joined_all : (x : CallSite) (fixed : List Fixed) (gs : List Group) → P x.caller → AllByRecursion AllCallers gs
      → AllByRecursion AllCallers (joined x fixed gs)
  joined_all x fixed [] one h = ((one, tt), tt)
  joined_all x fixed (g ∷ gs) one h = by (has_key x.site.callee fixed g) (joined_all x fixed gs one h.1)
    where
      by : (b : Bool) → AllByRecursion AllCallers (joined x fixed gs)
          → AllByRecursion AllCallers (if b then record g {
            members = record { caller = x.caller; site = x.number } ∷ g.members;
            count = x.site.count + g.count;
          } ∷ gs
          else g ∷ joined x fixed gs)
      by true rest = ((one, h.0), h.1)
      by false rest = (h.0, rest)

  grouped_all : (ss : List Summary) (main : ℕ) (xs : List CallSite) → AllByRecursion (λ x. P x.caller) xs → AllByRecursion AllCallers (grouped ss main xs)
  grouped_all ss main [] h = tt
  grouped_all ss main (x ∷ xs) h = by (may_move ss main x) (grouped_all ss main xs h.1)
    where
      by : (b : Bool) → AllByRecursion AllCallers (grouped ss main xs)
          → AllByRecursion AllCallers (if b then joined x (fixed_of ss x) (grouped ss main xs) else grouped ss main xs)
      by true rest = joined_all x (fixed_of ss x) (grouped ss main xs) h.0 rest
      by false rest = rest

-- ---- what holds of each group, and of each clone, holds of those that are taken

module _ (Q : Group → Type 0) (ss : List Summary) (table : List Row) (limit : ℕ) where
  taken_all : (gs : List Group) (b : Spent) → AllByRecursion Q gs → AllByRecursion (λ t. Q t.group) (taken ss table limit b gs)
  taken_all [] b h = tt
  taken_all (g ∷ gs) b h =
      at (λ c. taken_all gs c h.1) (clone_in table g.callee g.fixed) (summary_at ss g.callee)
    where
      fits : ((c : Spent) → AllByRecursion (λ t. Q t.group) (taken ss table limit c gs)) → (m : Numbers) (k : Bool)
          → AllByRecursion (λ t. Q t.group)
          ((if k then with_new g b m else refused b).taken ++ taken ss table limit (if k then with_new g b m else refused b).spent gs)
      fits rest m true = (h.0, rest (more_spent b m))
      fits rest m false = rest b

      at : ((c : Spent) → AllByRecursion (λ t. Q t.group) (taken ss table limit c gs)) → (o : Option ℕ) (s : Option Summary)
          → AllByRecursion (λ t. Q t.group) ((decided limit g b o s).taken ++ taken ss table limit (decided limit g b o s).spent gs)
      at rest (Some clone) s = (h.0, rest b)
      at rest None None = rest b
      at rest None (Some s) = fits rest (clone_numbers s g.fixed) (clone_fits b limit (clone_numbers s g.fixed))

module _ (ss : List Summary) (table : List Row) (limit : ℕ) (rows : AllByRecursion (λ row. row.clone < max_pids) table) where
  in_range : (b : Spent) (n : Numbers) → clone_fits b limit n ≡ true → b.next < max_pids
  in_range b n e =
      ltb-true b.next max_pids
      (and_second (nat_le (b.cost + n.size ^ 2) limit && is_within n && nat_lt b.routines max_routines) (nat_lt b.next max_pids) e)

  row_range : (g : Group) (clone : ℕ) → clone_in table g.callee g.fixed ≡ Some clone → clone < max_pids
  row_range g clone e =
      let r = row_for table (λ (row : Row). row.clone < max_pids) g.callee g.fixed clone rows e in subst (λ n. n < max_pids) r.clone_is r.holds

  clones_small : (gs : List Group) (b : Spent) → AllByRecursion (λ t. t.clone < max_pids) (taken ss table limit b gs)
  clones_small [] b = tt
  clones_small (g ∷ gs) b = at (clones_small gs) (clone_in table g.callee g.fixed) refl (summary_at ss g.callee)
    where
      fits : ((c : Spent) → AllByRecursion (λ t. t.clone < max_pids) (taken ss table limit c gs)) → (m : Numbers) (k : Bool) → clone_fits b limit m ≡ k
          → AllByRecursion (λ t. t.clone < max_pids)
          ((if k then with_new g b m else refused b).taken ++ taken ss table limit (if k then with_new g b m else refused b).spent gs)
      fits rest m true e = (in_range b m e, rest (more_spent b m))
      fits rest m false e = rest b

      at : ((c : Spent) → AllByRecursion (λ t. t.clone < max_pids) (taken ss table limit c gs)) → (o : Option ℕ)
          → clone_in table g.callee g.fixed ≡ o → (s : Option Summary)
          → AllByRecursion (λ t. t.clone < max_pids) ((decided limit g b o s).taken ++ taken ss table limit (decided limit g b o s).spent gs)
      at rest (Some clone) e s = (row_range g clone e, rest b)
      at rest None e None = rest b
      at rest None e (Some s) = fits rest (clone_numbers s g.fixed) (clone_fits b limit (clone_numbers s g.fixed)) refl

-- ---- routines stand with clones added

stands_front : (rs ss : List RoutineParts) (q : ℕ) → IsSome (routine_at rs q) → IsSome (routine_at (rs ++ ss) q)
stands_front [] ss q h = cc
stands_front (r ∷ rs) ss q h = by (nat_eq r.pid q) h (stands_front rs ss q)
  where
    by : (b : Bool) → IsSome (if b then Some r else routine_at rs q) → (IsSome (routine_at rs q) → IsSome (routine_at (rs ++ ss) q))
        → IsSome (if b then Some r else routine_at (rs ++ ss) q)
    by true k more = refl
    by false k more = more k

stands_copy : (p : IlProgram) (c : NewClone) (o : Option RoutineParts) (q : ℕ) → IsSome (routine_at p.routines q)
    → IsSome (routine_at (with_copy p c o).routines q)
stands_copy p c None q h = h
stands_copy p c (Some r) q h = stands_front p.routines (make_clone r c.pid c.fixed ∷ []) q h

stands_added : (names : List ShapeRow) (ts : List Taken) (st : State) (q : ℕ) → IsSome (routine_at st.program.routines q)
    → IsSome (routine_at (add_clones names ts st).program.routines q)
stands_added names [] st q h = h
stands_added names (t ∷ ts) st q h = stands_added names ts (if t.is_new then add_clone names t st else st) q (by t.is_new)
  where
    by : (b : Bool) → IsSome (routine_at (if b then add_clone names t st else st).program.routines q)
    by true = stands_copy st.program (new_clone names st.made t) (routine_at st.program.routines t.group.callee) q h
    by false = h

-- ---- the groups of a state

module _ (names : List ShapeRow) (main limit : ℕ) (st : State) (valid : IsProgram st.program) where
  abbrev Stands : ℕ → Type 0
  Stands q = IsSome (routine_at (with_clones names main limit st).program.routines q)

  site_stands : (x : CallSite) → IsOf st.program.routines x → Stands x.caller
  site_stands x h = stands_added names (groups_in main limit st) st x.caller (subst (λ o. IsSome o) (sym h.is) refl)

  members_stand : AllByRecursion (λ (t : Taken). AllByRecursion (λ m. Stands m.caller) t.group.members) (groups_in main limit st)
  members_stand =
      let ss = summaries st.program in
      taken_all (AllCallers Stands) ss st.table limit (ranked_groups ss main) (at_start ss st.next)
      (sorted_all (AllCallers Stands) group_before (grouped ss main (call_sites ss))
      (grouped_all Stands ss main (call_sites ss)
      (all_to (IsOf st.program.routines) (λ x. Stands x.caller) (call_sites ss) site_stands (sites_of_callers st.program valid))))

  -- accepted groups may send their calls
  pub may_send : (gs : List CodeGroup) → MayClone names main limit st → gs ≡ map accepted (groups_in main limit st)
      → MaySend gs (with_clones names main limit st).program (sent names main limit st).program
  may_send gs may are =
      let ss = summaries st.program in
      record {
        groups = groups_in main limit st;
        are = are;
        clones = clones_small ss st.table limit may.rows (ranked_groups ss main) (at_start ss st.next);
        callers = members_stand;
        valid = may.sent_valid;
        moves = may.moves;
      }
