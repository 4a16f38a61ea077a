-- The moves of the accepted groups give the plan's retargeted program.
use Rattle.std.proofs.Common.{◌≡◌, ◌≤◌, ℕ, zero, suc, Bool, true, false, List, [], ◌∷◌, None, map, length, refl, sym, ap, ap₂, arith, ltb-true, ltb-false, ◌∙◌}
use Rattle.std.specs.Prelude.{if◌then◌else◌, nat_lt}
use Rattle.std.specs.List.{AllByRecursion}
use Rattle.std.specs.Option.{unwrap_or}
use Rattle.std.proofs.Math.Nat.{le_refl}
use Rattle.il_core.specs.Program.{main_pid}
use Rattle.il_core.specs.Routine.{RoutineParts}
use Rattle.il_core.specs.Size.{cost}
use Rattle.il_core.specs.Valid.{HasEachNameOnce}
use Rattle.il_core.specs.declared.program.IlProgram.{IlProgram}
use Rattle.il_core.specs.declared.shape.ShapeRow.{ShapeRow}
use Rattle.il_laws.specs.Keeping.{with_each}
use Rattle.il_laws.specs.Known.{known_sites}
use Rattle.il_laws.specs.Retarget.{retarget}
use Rattle.clone_groups.specs.Moves.{sites_of_blocks}
use Rattle.plan_laws.specs.GroupLaws.{EachPass, MembersMove, clone_of_member}
use Rattle.plan_laws.specs.Groups.{Taken, at_start, group_before, grouped, moves, ranked_groups}
use Rattle.plan_laws.specs.Plan.{Pass, State, add_clones, at_first, limit_of, one_pass, pass_groups, passes, passes_from, retargeted}
use Rattle.plan_laws.specs.PlanLaws.{IsFirst}
use Rattle.plan_laws.specs.Summary.{call_sites, numbered, summaries}
use Rattle.plan_laws.proofs.Accepted.{taken_all}
use Rattle.plan_laws.proofs.Adding.{IsSound}
use Rattle.plan_laws.proofs.GroupsFit.{sorted_all}
use Rattle.plan_laws.proofs.Members.{groups_move}
use Rattle.plan_laws.proofs.Passing.{first_sound, pass_succeeds}
use Rattle.plan_pools.specs.MoveLaws.{AreMovesOf}
use Rattle.plan_pools.specs.Retargeting.{moved, moves_for}
use Rattle.plan_pools.specs.declared.moves.CallerMoves.{CallerMoves}
use Rattle.plan_pools.proofs.Agreeing.{Goes, known_count, move_at, retarget_same}
use Rattle.plan_pools.proofs.GroupMembers.{HasSites, IsHigh, IsLow, added_sites, callers_low, grouped_low, none_of, routines_low, sites_each, taken_high}
use Rattle.plan_pools.proofs.ZeroPass.{same_calls}

each_same : (f g : RoutineParts → RoutineParts) (rs : List RoutineParts) → AllByRecursion (λ r. f r ≡ g r) rs → map f rs ≡ map g rs
each_same f g [] h = refl
each_same f g (r ∷ rs) h = ap₂ {A = RoutineParts} {B = List RoutineParts} {C = List RoutineParts} (λ x xs. x ∷ xs) h.0 (each_same f g rs h.1)

all_so : {X : Type 0} (P Q : X → Type 0) (xs : List X) → ((x : X) → P x → Q x) → AllByRecursion P xs → AllByRecursion Q xs
all_so P Q [] f h = tt
all_so P Q (x ∷ xs) f h = (f x h.0, all_so P Q xs f h.1)

-- one pass
module _ (names : List ShapeRow) (st : State) (ts : List Taken) (ms : List CallerMoves) (are : AreMovesOf ts ms) where
  abbrev a : State
  a = add_clones names ts st

  abbrev main : ℕ
  main = main_pid a.program.shapes

  abbrev GoesHere : Type 0
  GoesHere = MembersMove ts st a

  few : (r : RoutineParts) → sites_of_blocks r.blocks ≤ length (known_sites r)
  few r = let e = known_count r in omega arith

  -- a routine that stood before
  old_same : (r : RoutineParts) → AllByRecursion (Goes (summaries a.program) main a.table ts) (numbered r.pid 0 (known_sites r))
      → moved ms r ≡ retarget r (moves (summaries a.program) a.table main (numbered r.pid 0 (known_sites r)))
  old_same r h =
      retarget_same (moves_for ms r.pid) (moves (summaries a.program) a.table main (numbered r.pid 0 (known_sites r))) (length (known_sites r))
      (λ k callee lt. are (record { caller = r.pid; site = k }) callee
      ∙ sym (move_at (summaries a.program) main a.table ts r.pid 0 (known_sites r) k callee h (omega arith) (omega arith))) r (few r)

  -- a new clone
  new_same : (r : RoutineParts) → ((k : ℕ) → clone_of_member ts (record { caller = r.pid; site = k }) ≡ None) → moved ms r ≡ r
  new_same r none =
      retarget_same (moves_for ms r.pid) [] (length (known_sites r))
      (λ k callee lt. are (record { caller = r.pid; site = k }) callee ∙ ap (λ o. unwrap_or o callee) (none k)) r (few r)
      ∙ same_calls r

  one_same : AllByRecursion (λ t. IsLow st.next t.group) ts → (r : RoutineParts)
      → HasSites st.next (Goes (summaries a.program) main a.table ts) r → moved ms r ≡ retargeted (summaries a.program) a.table main st.next r
  one_same low r h = by (nat_lt r.pid st.next) refl
    where
      by : (b : Bool) → nat_lt r.pid st.next ≡ b
          → moved ms r ≡ (if b then retarget r (moves (summaries a.program) a.table main (numbered r.pid 0 (known_sites r))) else r)
      by true e = old_same r (h (ltb-true r.pid st.next e))
      by false e = new_same r (λ k. none_of st.next ts (record { caller = r.pid; site = k }) (ltb-false r.pid st.next e) low)

  all_same : AllByRecursion (λ t. IsLow st.next t.group) ts → AllByRecursion (IsHigh st.next) ts → MembersMove ts st a
      → with_each a.program (moved ms) ≡ with_each a.program (retargeted (summaries a.program) a.table main st.next)
  all_same low high goes =
      let P = Goes (summaries a.program) main a.table ts in
      let sites = added_sites names st.next P ts st high (sites_each st.next P st.program.routines goes) in
      ap (λ (rs : List RoutineParts). record a.program { routines = rs })
      (each_same (moved ms) (retargeted (summaries a.program) a.table main st.next) a.program.routines
      (all_so (HasSites st.next P) (λ r. moved ms r ≡ retargeted (summaries a.program) a.table main st.next r) a.program.routines (one_same low) sites))

-- the accepted groups of a sound state
module _ (names : List ShapeRow) (st : State) (sound : IsSound names st) where
  groups_low : (budget limit : ℕ) → AllByRecursion (λ t. IsLow st.next t.group) (pass_groups budget limit st)
  groups_low zero limit = tt
  groups_low (suc budget) limit =
      let p = st.program in
      let ss = summaries p in
      let top = main_pid p.shapes in
      let low = callers_low st.next p.routines (routines_low p.shapes st.next sound.below p.routines sound.valid.shapes.routines) in
      taken_all names ss st.table limit (IsLow st.next) (ranked_groups ss top) (at_start ss st.next)
      (sorted_all (IsLow st.next) group_before (grouped ss top (call_sites ss)) (grouped_low ss top st.next (call_sites ss) low))

  groups_high : (budget limit : ℕ) → AllByRecursion (IsHigh st.next) (pass_groups budget limit st)
  groups_high zero limit = tt
  groups_high (suc budget) limit =
      let p = st.program in
      let ss = summaries p in
      taken_high ss st.table limit st.next (ranked_groups ss (main_pid p.shapes)) (at_start ss st.next) (le_refl st.next)

module _ (names : List ShapeRow) (once : HasEachNameOnce names) (budget : ℕ) (limit : ℕ → ℕ) where
  abbrev Moves : ℕ → State → Pass → Type 0
  Moves k st x = MembersMove (pass_groups budget (limit k) st) st x.added

  abbrev Retargets : ℕ → State → Pass → Type 0
  Retargets k st x = (ms : List CallerMoves) → AreMovesOf (pass_groups budget (limit k) st) ms → with_each x.added.program (moved ms) ≡ x.retargeted.program

  all_retarget : (left k : ℕ) (st : State) → IsSound names st → EachPass Moves k st (passes_from names budget limit k left st)
      → EachPass Retargets k st (passes_from names budget limit k left st)
  all_retarget zero k st sound h = tt
  all_retarget (suc left) k st sound h =
      let x = one_pass names budget (limit k) st in (
        λ ms are. all_same names st (pass_groups budget (limit k) st) ms are (groups_low names st sound budget (limit k))
            (groups_high names st sound budget (limit k)) h.0,
        all_retarget left (suc k) x.pruned (pass_succeeds names once budget (limit k) st sound).pruned.sound h.1,
      )

pub moves_retarget : (p : IlProgram) → IsFirst p → (budget n : ℕ)
    → EachPass (λ k st x. (ms : List CallerMoves) → AreMovesOf (pass_groups budget (limit_of (cost p.routines) budget n k) st) ms
    → with_each x.added.program (moved ms) ≡ x.retargeted.program) 1 (at_first p) (passes p budget n)
moves_retarget p first budget n =
    all_retarget p.shapes first.valid.names budget (limit_of (cost p.routines) budget n) n 1 (at_first p) (first_sound p first) (groups_move p first budget n)
