-- Routines that go to the pools of a loader, one after another.
use Rattle.std.proofs.Common.{◌≡◌, ◌≤◌, ◌<◌, ◌+◌, ◌^◌, ℕ, Bool, true, false, nat_eq, List, [], ◌∷◌, ◌++◌, length, map, Option, Some, None, IsSome, Ok}
use Rattle.std.proofs.Common.{Err, inl, inr, refl, sym, ap, subst, arith, ◌∙◌}
use Rattle.std.specs.Prelude.{flat_map, option_map, if◌then◌else◌}
use Rattle.std.specs.List.{AllByRecursion}
use Rattle.std.proofs.lemmas.Bool.{cases_lt}
use Rattle.std.proofs.lemmas.Grind.{flat_map-append}
use Rattle.std.proofs.lemmas.List.{length-append, map-append}
use Rattle.list_laws.proofs.Elements.{all_added, sum_added}
use Rattle.list_laws.proofs.Entries.{apart_number, number_itself, other_number, same_number}
use Rattle.compact_form.specs.Compact.{compact}
use Rattle.compact_form.specs.declared.body.RoutineBody.{RoutineBody}
use Rattle.il_core.specs.Program.{routine_at}
use Rattle.il_core.specs.Routine.{RoutineParts}
use Rattle.il_core.specs.Size.{cost, size}
use Rattle.naim_loader.specs.Paged.{Paged, fresh, kept_at}
use Rattle.naim_loader.specs.Rows.{Kept}
use Rattle.one_owner.specs.Answers.{Places}
use Rattle.plan_pools.specs.Contents.{routine_in}
use Rattle.hlo_cmd.specs.Pools.{HaveOwnPids, IsFilled, IsReady, inserted, listed}

-- a routine behind others is found by its number, if none before it has that
found_behind : (rs : List RoutineParts) (r : RoutineParts) → routine_at rs r.pid ≡ None → routine_at (rs ++ r ∷ []) r.pid ≡ Some r
found_behind [] r none = rw (number_itself r.pid) refl
found_behind (x ∷ rs) r none = by (found_behind rs r) (nat_eq x.pid r.pid) none
  where
    by : (routine_at rs r.pid ≡ None → routine_at (rs ++ r ∷ []) r.pid ≡ Some r) → (b : Bool) → (if b then Some x else routine_at rs r.pid) ≡ None
        → (if b then Some x else routine_at (rs ++ r ∷ []) r.pid) ≡ Some r
    by more true none = absurd cc
    by more false none = more none

-- and any other number finds what it found
found_before : (rs : List RoutineParts) (r : RoutineParts) (q : ℕ) → nat_eq r.pid q ≡ false → routine_at (rs ++ r ∷ []) q ≡ routine_at rs q
found_before [] r q e = rw e refl
found_before (x ∷ rs) r q e = ap (λ (o : Option RoutineParts). if nat_eq x.pid q then Some x else o) (found_before rs r q e)

-- a pool without a routine isn't there
not_there : {B : Type 0} (o : Option (Kept RoutineBody B)) → option_map (λ (b : RoutineBody). b.routine) (option_map (λ k. k.value) o) ≡ None → o ≡ None
not_there None e = refl
not_there (Some k) e = absurd cc

-- ---- one routine more

-- the others keep their own PIDs
own_more : (rs : List RoutineParts) (r : RoutineParts) → HaveOwnPids rs → routine_at rs r.pid ≡ None → HaveOwnPids (rs ++ r ∷ [])
own_more [] r h none = (refl, tt)
own_more (x ∷ rs) r h none = by (own_more rs r h.1) (nat_eq x.pid r.pid) refl none
  where
    by : (routine_at rs r.pid ≡ None → HaveOwnPids (rs ++ r ∷ [])) → (b : Bool) → nat_eq x.pid r.pid ≡ b → (if b then Some x else routine_at rs r.pid) ≡ None
        → HaveOwnPids ((x ∷ rs) ++ r ∷ [])
    by more true e some = let bad : Some x ≡ None = some in absurd cc
    by more false e none = (found_before rs r x.pid (other_number r.pid x.pid (λ same. apart_number x.pid r.pid e (sym same))) ∙ h.0, more none)

cost_more : (rs : List RoutineParts) (r : RoutineParts) → cost (rs ++ r ∷ []) ≡ cost rs + size r ^ 2
cost_more rs r = sum_added (λ x. size x ^ 2) rs r

module _ {D : Type 0} (faults : D → ℕ) (old new : Paged RoutineBody (Unit {0}) D) (r : RoutineParts) (filled : IsFilled old)
    (apart : routine_at (inserted old) r.pid ≡ None) (placed : Places faults old new r.pid (record { routine = r }) tt) where
  text_free : routine_in old r.pid ≡ None
  text_free = filled.same r.pid ∙ apart

  -- its pool wasn't there
  pub free : kept_at old r.pid ≡ None
  free = not_there (kept_at old r.pid) text_free

  kept_elsewhere : (q : ℕ) → nat_eq r.pid q ≡ false → kept_at new q ≡ kept_at old q
  kept_elsewhere q e = placed.kept q ∙ rw e refl

  kept_here : kept_at new r.pid ≡ Some (record { value = record { routine = r }; brief = tt })
  kept_here = placed.kept r.pid ∙ rw (number_itself r.pid) refl

  elsewhere : (q : ℕ) → nat_eq r.pid q ≡ false → routine_in new q ≡ routine_in old q
  elsewhere q e = ap (λ (k : Option (Kept RoutineBody (Unit {0}))). option_map (λ (b : RoutineBody). b.routine) (option_map (λ x. x.value) k))
      (kept_elsewhere q e)

  here : routine_in new r.pid ≡ Some r
  here = ap (λ (k : Option (Kept RoutineBody (Unit {0}))). option_map (λ (b : RoutineBody). b.routine) (option_map (λ x. x.value) k)) kept_here

  -- a pool that was there has another number
  other : (q : ℕ) → IsSome (kept_at old q) → nat_eq r.pid q ≡ false
  other q some = other_number r.pid q (λ e. absurd (let none : kept_at old q ≡ None = subst (λ n. kept_at old n ≡ None) e free in let bad : false ≡ true =
      rw none at some in cc))

  same_front : (qs : List ℕ) → AllByRecursion (λ q. IsSome (kept_at old q)) qs
      → flat_map (λ q. listed (routine_in new q)) qs ≡ flat_map (λ q. listed (routine_in old q)) qs
  same_front [] h = refl
  same_front (q ∷ qs) (h, hs) = ap (λ o. listed o ++ flat_map (λ x. listed (routine_in new x)) qs) (elsewhere q (other q h))
      ∙ ap (λ l. listed (routine_in old q) ++ l) (same_front qs hs)

  -- it is the last of those that were put in
  pub one_more : inserted new ≡ inserted old ++ r ∷ []
  one_more =
      ap (λ l. flat_map (λ q. listed (routine_in new q)) l) placed.insertions
      ∙ flat_map-append (λ q. listed (routine_in new q)) old.trail.insertions (r.pid ∷ [])
      ∙ ap (λ l. l ++ flat_map (λ q. listed (routine_in new q)) (r.pid ∷ [])) (same_front old.trail.insertions filled.there)
      ∙ ap (λ o. inserted old ++ (listed o ++ [])) here

  still_there : (q : ℕ) → IsSome (kept_at old q) → IsSome (kept_at new q)
  still_there q some = subst IsSome (sym (kept_elsewhere q (other q some))) some

  all_still : (qs : List ℕ) → AllByRecursion (λ q. IsSome (kept_at old q)) qs → AllByRecursion (λ q. IsSome (kept_at new q)) qs
  all_still [] h = tt
  all_still (q ∷ qs) (h, hs) = (still_there q h, all_still qs hs)

  same_by : (q : ℕ) (b : Bool) → nat_eq r.pid q ≡ b → routine_in new q ≡ routine_at (inserted old ++ r ∷ []) q
  same_by q true e = subst (λ n. routine_in new n ≡ routine_at (inserted old ++ r ∷ []) n) (same_number r.pid q e)
      (here ∙ sym (found_behind (inserted old) r apart))
  same_by q false e = elsewhere q e ∙ filled.same q ∙ sym (found_before (inserted old) r q e)

  some_here : IsSome (kept_at new r.pid)
  some_here = subst IsSome (sym kept_here) refl

  pub filled_now : IsFilled new
  filled_now = record {
    own = subst HaveOwnPids (sym one_more) (own_more (inserted old) r filled.own apart);
    same = λ q. same_by q (nat_eq r.pid q) refl ∙ ap (λ l. routine_at l q) (sym one_more);
    many = placed.used ∙ ap (λ n. n + 1) filled.many ∙ sym (length-append (inserted old) (r ∷ [])) ∙ ap length (sym one_more);
    there = subst (AllByRecursion (λ q. IsSome (kept_at new q))) (sym placed.insertions)
        (all_added (λ q. IsSome (kept_at new q)) old.trail.insertions r.pid (all_still old.trail.insertions filled.there) some_here);
  }

  -- the loader is ready for the next one
  pub ready_now : (pids : List ℕ) (total square : ℕ) → IsReady old pids total → length (compact r) ≤ old.core.limit → square ≡ size r ^ 2 → square ≤ 2 ^ 32
      → IsReady new (pids ++ r.pid ∷ []) (total + square)
  ready_now pids total square ready fits is few = record {
    rests = placed.rests;
    filled = filled_now;
    short = subst (AllByRecursion (λ x. length (compact x) ≤ new.core.limit)) (sym one_more)
        (subst (λ n. AllByRecursion (λ x. length (compact x) ≤ n) (inserted old ++ r ∷ [])) (sym placed.stays.limit)
        (all_added (λ x. length (compact x) ≤ old.core.limit) (inserted old) r ready.short fits));
    pids_are = ap (λ l. l ++ r.pid ∷ []) ready.pids_are ∙ sym (map-append (λ (x : RoutineParts). x.pid) (inserted old) (r ∷ []))
        ∙ ap (map (λ (x : RoutineParts). x.pid)) (sym one_more);
    total_is = ap (λ n. n + square) ready.total_is ∙ ap (λ n. cost (inserted old) + n) is ∙ sym (cost_more (inserted old) r) ∙ ap cost (sym one_more);
    bound =
        let long : length (inserted new) ≡ length (inserted old) + 1 = ap length one_more ∙ length-append (inserted old) (r ∷ []) in
        let before = ready.bound in
        rw long (omega (arith, before, few));
  }

-- no routine was put in yet
pub none_yet : {D : Type 0} (limit : ℕ) (d : D) → inserted (fresh {B = Unit {0}} limit 1 d) ≡ []
none_yet limit d = refl

-- and the loader is ready for the first
pub ready_for_first : {D : Type 0} (limit : ℕ) (d : D) → IsReady (fresh {B = Unit {0}} limit 1 d) [] 0
ready_for_first limit d = record {
  rests = record { alone = record { others = []; hands = refl; free = refl; closed = refl }; running = refl; home = refl };
  filled = record { own = tt; same = λ q. refl; many = refl; there = tt };
  short = tt;
  pids_are = refl;
  total_is = refl;
  bound = omega arith;
}

-- a routine's pool that isn't there is none of those that were put in
pub room_left : {D : Type 0} (l : Paged RoutineBody (Unit {0}) D) → IsFilled l → length (inserted l) < 4096 → length l.core.pools < 4096
room_left l filled lt = rw filled.many lt

-- a routine that was placed has a compact form within the limit
pub fits : {A E : Type 0} (limit n : ℕ) (x : A) (e : E) → (limit < n → Ok x ≡ Err e) → n ≤ limit
fits limit n x e h = elim (cases_lt limit n) [ inl lt ↦ (let bad : Ok x ≡ Err e = h lt in absurd cc) | inr le ↦ le ]

-- one PID more, that of a routine
pub pids_more : (pids new : List ℕ) (x r : RoutineParts) → new ≡ pids ++ x.pid ∷ [] → x ≡ r → new ≡ pids ++ r.pid ∷ []
pids_more pids new x r e is = e ∙ ap (λ (y : RoutineParts). pids ++ y.pid ∷ []) is
