-- A clone that can be added to a state in pools has its place there.
use Rattle.std.proofs.Common.{◌≡◌, ◌≤◌, ◌<◌, ℕ, Bool, true, false, List, [], ◌∷◌, Option, None, Some, length, map, nat_eq, refl, sym, ap, subst, arith, ◌∙◌}
use Rattle.std.specs.Prelude.{◌&&◌, ◌||◌, if◌then◌else◌, is_some, nat_lt, not, option_map, IsSome}
use Rattle.std.specs.List.{AllByRecursion, list_any}
use Rattle.std.specs.Cmp.{nat_eq_equiv}
use Rattle.std.specs.Map.{keys_of}
use Rattle.std.proofs.lemmas.Bool.{lt-ltb}
use Rattle.std.proofs.lemmas.List.{length-map}
use Rattle.std.proofs.lemmas.Map.Entries.{length-keys_of}
use Rattle.std.proofs.lemmas.Map.Made.{is_some-lookup, length-le_from_is_member}
use Rattle.list_laws.proofs.Entries.{number_itself}
use Rattle.il_core.specs.Limits.{max_pids, max_routines}
use Rattle.il_core.specs.Program.{routine_at}
use Rattle.il_core.specs.Routine.{RoutineParts}
use Rattle.il_core.specs.Size.{charge}
use Rattle.il_core.specs.declared.program.IlProgram.{IlProgram}
use Rattle.il_core.specs.declared.shape.ShapeRow.{ShapeRow}
use Rattle.il_core.specs.Valid.{IsProgram}
use Rattle.il_laws.proofs.Grown.{all_of}
use Rattle.plan_laws.specs.Groups.{Taken}
use Rattle.plan_laws.specs.Plan.{State}
use Rattle.compact_form.specs.Compact.{IsRoutine, compact}
use Rattle.compact_form.specs.declared.body.RoutineBody.{RoutineBody}
use Rattle.clone_groups.specs.Grouping.{accepted}
use Rattle.clone_groups.specs.declared.groups.Group.{Group}
use Rattle.naim_core.specs.State.{pool_at}
use Rattle.naim_core.specs.declared.pool.Pool.{Pool}
use Rattle.naim_loader.specs.Contents.{HasPool, StandsFor}
use Rattle.naim_loader.specs.Paged.{Paged, content_at, kept_at}
use Rattle.naim_loader.specs.Rows.{Kept}
use Rattle.plan_pools.specs.Cloning.{CanAdd}
use Rattle.plan_pools.specs.Contents.{is_routine, routine_pids}
use Rattle.plan_pools.proofs.Programs.{program_pids}
use Rattle.clone_pools.specs.Growing.{is_fit}
use Rattle.clone_pools.specs.States.{HoldsState, IsReady}
use Rattle.clone_pools.specs.declared.progress.Progress.{Progress}

-- the routine of an IsSome
pub some_routine : (o : Option RoutineParts) → IsSome o → (r : RoutineParts) × (o ≡ Some r)
some_routine None h = absurd cc
some_routine (Some r) h = (r, refl)

-- the PIDs of rows are below what all PIDs of rows are
below_pids : (n : ℕ) (rows : List ShapeRow) → AllByRecursion (λ row. row.pid < n) rows → AllByRecursion (λ q. q < n) (routine_pids rows)
below_pids n [] h = tt
below_pids n (row ∷ rows) h = by (is_routine row.shape) (below_pids n rows h.1)
  where
    by : (b : Bool) → AllByRecursion (λ q. q < n) (routine_pids rows)
        → AllByRecursion (λ q. q < n) (if b then row.pid ∷ routine_pids rows else routine_pids rows)
    by true more = (h.0, more)
    by false more = more

below_map : (n : ℕ) (rs : List RoutineParts) → AllByRecursion (λ q. q < n) (map (λ r. r.pid) rs) → AllByRecursion (λ r. r.pid < n) rs
below_map n [] h = tt
below_map n (r ∷ rs) h = (h.0, below_map n rs h.1)

-- so are those of a valid program's routines
pub routines_below : (n : ℕ) (p : IlProgram) (rows : List ShapeRow) → IsProgram p → p.shapes ≡ rows → AllByRecursion (λ row. row.pid < n) rows
    → AllByRecursion (λ r. r.pid < n) p.routines
routines_below n p rows valid same above =
    below_map n p.routines
    (subst (AllByRecursion (λ q. q < n)) (ap routine_pids (sym same) ∙ sym (program_pids p valid)) (below_pids n rows above))

found_member : (rs : List RoutineParts) (q : ℕ) (r : RoutineParts) → routine_at rs q ≡ Some r → list_any (nat_eq q) (map (λ z. z.pid) rs) ≡ true
found_member [] q r e = absurd cc
found_member (z ∷ rs) q r e = by (nat_eq z.pid q) refl e (λ k. found_member rs q r k)
  where
    by : (b : Bool) → nat_eq z.pid q ≡ b → (if b then Some z else routine_at rs q) ≡ Some r
        → (routine_at rs q ≡ Some r → list_any (nat_eq q) (map (λ y. y.pid) rs) ≡ true)
        → (nat_eq q z.pid || list_any (nat_eq q) (map (λ y. y.pid) rs)) ≡ true
    by true same h more = ap (λ v. v || list_any (nat_eq q) (map (λ y. y.pid) rs)) (nat_eq_equiv.symm q z.pid ∙ same)
    by false same h more = ap (λ v. v || list_any (nat_eq q) (map (λ y. y.pid) rs)) (nat_eq_equiv.symm q z.pid ∙ same) ∙ more h

-- all of two tests, and of six
all_two : (a b : Bool) → a ≡ true → b ≡ true → (a && b) ≡ true
all_two a b ha hb = ap (λ v. v && b) ha ∙ hb

all_six : (a b c d e f : Bool) → a ≡ true → b ≡ true → c ≡ true → d ≡ true → e ≡ true → f ≡ true → (a && b && c && d && e && f) ≡ true
all_six a b c d e f ha hb hc hd he hf =
    all_two (a && b && c && d && e) f
    (all_two (a && b && c && d) e (all_two (a && b && c) d (all_two (a && b) c (all_two a b ha hb) hc) hd) he) hf

-- a pool with a routine is kept
kept_some : (o : Option (Kept RoutineBody (Unit {0}))) (r : RoutineParts) → option_map (λ (b : RoutineBody). b.routine) (option_map (λ k. k.value) o) ≡ Some r
    → is_some o ≡ true
kept_some None r e = absurd cc
kept_some (Some k) r e = refl

kept_none : (o : Option (Kept RoutineBody (Unit {0}))) → ((r : RoutineParts)
    → option_map (λ (b : RoutineBody). b.routine) (option_map (λ k. k.value) o) ≡ Some r → ⊥) → not (is_some o) ≡ true
kept_none None h = refl
kept_none (Some k) h = absurd (h k.value.routine refl)

module _ {D : Type 0} (reach : D → ℕ) (honest : D → Bool) (faults : D → ℕ) (bytes : D → Option (List ℕ)) (main : ℕ) (l : Paged RoutineBody (Unit {0}) D)
    (x : Progress) (stands : StandsFor (λ b. charge b.routine) (λ b. compact b.routine) (λ b. IsRoutine b.routine) bytes reach honest l)
    (ready : IsReady l x) (st : State) (h : HoldsState reach honest faults main l x st) where
  abbrev pub rs : List RoutineParts
  rs = st.program.routines

  -- each pool has a routine of the program
  pool_member : (q : ℕ) → list_any (nat_eq q) (keys_of l.core.pools) ≡ true → list_any (nat_eq q) (map (λ r. r.pid) rs) ≡ true
  pool_member q m = by (pool_at l.core.pools q) (content_at l q) refl (stands.pools q) (is_some-lookup (nat_eq q) l.core.pools ∙ m)
    where
      by : (o : Option Pool) (c : Option RoutineBody) → content_at l q ≡ c
          → HasPool (λ b. charge b.routine) (λ b. compact b.routine) (λ b. IsRoutine b.routine) bytes reach honest l q o c → is_some o ≡ true
          → list_any (nat_eq q) (map (λ r. r.pid) rs) ≡ true
      by None c at has s = absurd cc
      by (Some p) None at has s = absurd has
      by (Some p) (Some b) at has s = found_member rs q b.routine (sym (h.holds.contents.by q) ∙ ap (option_map (λ z. z.routine)) at)

  -- so there are no more pools than routines
  pub few_pools : length l.core.pools ≤ length rs
  few_pools =
      let le = length-le_from_is_member nat_eq_equiv (keys_of l.core.pools) (map (λ r. r.pid) rs) stands.sound.one_pool pool_member in
      let a = length-keys_of l.core.pools in
      let b = length-map rs (λ (r : RoutineParts). r.pid) in
      omega (arith, le, a, b)

  pub below : AllByRecursion (λ r. r.pid < x.next) rs
  below = routines_below x.next st.program x.shapes h.holds.valid h.holds.shapes ready.above

  -- a clone that can be added fits
  pub can_fit : (names : List ShapeRow) (t : Taken) (g : Group) → accepted t ≡ g → CanAdd names t st → is_fit l x.next g ≡ true
  can_fit names t g same can =
      let r = some_routine (routine_at rs t.group.callee) can.callee in
      let clone_is : g.clone ≡ x.next = sym (ap (λ (z : Group). z.clone) same) ∙ can.next ∙ h.next in
      let callee_is : t.group.callee ≡ g.callee = ap (λ (z : Group). z.callee) same in
      let there : routine_at rs g.callee ≡ Some r.0 = ap (routine_at rs) (sym callee_is) ∙ r.1 in
      let few = few_pools in
      let next_is = h.next in
      let range = can.in_range in
      let room = can.room in
      all_six (nat_eq g.clone x.next) (nat_lt g.callee x.next) (nat_lt x.next max_pids) (nat_lt (length l.core.pools) max_routines)
      (is_some (kept_at l g.callee)) (not (is_some (kept_at l x.next)))
      (ap (λ n. nat_eq n x.next) clone_is ∙ number_itself x.next)
      (lt-ltb g.callee x.next (all_of (λ (z : RoutineParts). z.pid) (λ n. n < x.next) g.callee rs r.0 below there))
      (lt-ltb x.next max_pids (subst (λ n. n < max_pids) next_is range))
      (lt-ltb (length l.core.pools) max_routines (omega (arith, few, room)))
      (kept_some (kept_at l g.callee) r.0 (h.holds.contents.by g.callee ∙ there))
      (kept_none (kept_at l x.next) (λ z e.
      let less : x.next < x.next =
      all_of (λ (z : RoutineParts). z.pid) (λ n. n < x.next) x.next rs z below (sym (h.holds.contents.by x.next) ∙ e) in
      absurd (omega (arith, less))))
