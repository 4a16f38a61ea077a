-- Routines that are changed one after another.
use Rattle.std.proofs.Common.{◌≡◌, ◌<◌, ◌≤◌, ◌+◌, ◌*◌, ◌^◌, ℕ, zero, suc, Bool, true, false, cond, nat_eq, List, [], ◌∷◌, ◌++◌, length, take, get_or}
use Rattle.std.proofs.Common.{Option, Some, None, IsSome, refl, sym, ap, subst, arith, ◌∙◌}
use Rattle.std.proofs.Math.Nat.{le_refl}
use Rattle.std.specs.Prelude.{is_some, option_map, ◌||◌, if◌then◌else◌}
use Rattle.std.specs.Arc.{arc_value}
use Rattle.std.specs.List.{AllByRecursion, IsDistinct}
use Rattle.std.proofs.lemmas.List.{take_more}
use Rattle.std.proofs.lemmas.Map.Keys.{IsDistinct-head, IsDistinct-tail}
use Rattle.std.proofs.lemmas.Option.{same_Some}
use Rattle.list_laws.proofs.Entries.{number_itself, same_number}
use Rattle.il_core.specs.Routine.{RoutineParts}
use Rattle.il_core.specs.Size.{charge}
use Rattle.il_core.specs.Valid.{IsValid}
use Rattle.il_core.specs.declared.shape.ShapeRow.{ShapeRow}
use Rattle.il_core.proofs.Found.{all_at}
use Rattle.il_laws.specs.Reach.{is_in}
use Rattle.il_laws.specs.SimplifyLaws.{NoLarger}
use Rattle.compact_form.specs.Compact.{IsRoutine, compact}
use Rattle.compact_form.specs.Laws.{within_charge}
use Rattle.compact_form.specs.declared.body.RoutineBody.{RoutineBody}
use Rattle.naim_core.specs.declared.event.Failure.{Failure}
use Rattle.naim_core.specs.declared.event.Failure.TheVariants as failure
use Rattle.naim_loader.specs.declared.forms.WritePin.{WritePin}
use Rattle.naim_core.specs.State.{empty_hand, pool_at}
use Rattle.naim_core.specs.declared.pool.Pool.{Pool}
use Rattle.naim_loader.specs.Calls.{Fails, stage_at}
use Rattle.naim_loader.specs.Contents.{StandsFor}
use Rattle.naim_loader.specs.Paged.{Paged, content_at, kept_at, IsTrusted}
use Rattle.naim_loader.specs.Rows.{Kept}
use Rattle.one_owner.specs.Alone.{IsResting, IsWriting, charge_at, writing}
use Rattle.one_owner.specs.Answers.{HasStated, TakesToWrite}
use Rattle.one_owner.specs.Causes.{PlaceCause, TakeCause}
use Rattle.one_owner.specs.Going.{Stops}
use Rattle.one_owner.proofs.Frames.{rest_stops, rose_since}
use Rattle.one_owner.proofs.Pools.{pool_there}
use Rattle.plan_pools.specs.Contents.{routine_in}
use Rattle.plan_pools.specs.Passes.{ChangeCause, Changes, ChangesOne, StopsChanging, changed_at}
use Rattle.plan_pools.specs.Rewriting.{RewriteCause, Rewritten, failure_of}
use Rattle.plan_pools.specs.declared.simplifying.Unmade.{Unmade}
use Rattle.plan_pools.specs.declared.simplifying.Unmade.TheVariants as unmade
use Rattle.plan_pools.proofs.Frames.{is_some_of, some_is}
use Rattle.plan_pools.proofs.Staying.{pools_itself, pools_kept, pools_on, pools_rewrite, pools_take, trusted_on}

pub in_push : (xs : List ℕ) (y q : ℕ) → is_in (xs ++ y ∷ []) q ≡ (is_in xs q || nat_eq y q)
in_push [] y q = by (nat_eq y q)
  where
    by : (b : Bool) → (b || false) ≡ (false || b)
    by true = refl
    by false = refl
in_push (x ∷ xs) y q = by (nat_eq x q) (in_push xs y q)
  where
    by : (b : Bool) → is_in (xs ++ y ∷ []) q ≡ (is_in xs q || nat_eq y q) → (b || is_in (xs ++ y ∷ []) q) ≡ ((b || is_in xs q) || nat_eq y q)
    by true e = refl
    by false e = e

-- a number that isn't there again hasn't come before
pub not_before : (ps : List ℕ) (k d : ℕ) → IsDistinct nat_eq ps → k < length ps → is_in (take k ps) (get_or ps k d) ≡ false
not_before [] k d h less = absurd (omega arith)
not_before (x ∷ xs) zero d h less = refl
not_before (x ∷ xs) (suc k) d h less =
    let others : nat_eq x (get_or xs k d) ≡ false = all_at (λ y. nat_eq x y ≡ false) xs k d (IsDistinct-head nat_eq x xs h) (omega arith) in
    ap (λ b. b || is_in (take k xs) (get_or xs k d)) others ∙ not_before xs k d (IsDistinct-tail nat_eq x xs h) (omega arith)

-- and is one of them all
pub in_all : (ps : List ℕ) (k d : ℕ) → k < length ps → is_in ps (get_or ps k d) ≡ true
in_all [] k d less = absurd (omega arith)
in_all (x ∷ xs) zero d less = ap (λ b. b || is_in xs x) (number_itself x)
in_all (x ∷ xs) (suc k) d less = by (nat_eq x (get_or xs k d)) (in_all xs k d (omega arith))
  where
    by : (b : Bool) → is_in xs (get_or xs k d) ≡ true → (b || is_in xs (get_or xs k d)) ≡ true
    by true e = refl
    by false e = e

module _ {B D : Type 0} (reach : D → ℕ) (honest : D → Bool) (faults : D → ℕ) (f : RoutineParts → RoutineParts) where
  -- nothing is chosen
  pub changes_itself : (l : Paged RoutineBody B D) → IsResting l → Changes reach honest faults f (is_in []) l l
  changes_itself l w = record { rests = w; pools = pools_itself faults l; routines = λ g q. refl }

  -- the next of several
  module _ (old mid : Paged RoutineBody B D) (ps : List ℕ) (k p : ℕ) (differ : IsDistinct nat_eq ps) (less : k < length ps) (is : p ≡ get_or ps k 0)
      (before : Changes reach honest faults f (is_in (take k ps)) old mid) where
    fresh : (q : ℕ) → nat_eq p q ≡ true → is_in (take k ps) q ≡ false
    fresh q e = ap (is_in (take k ps)) (sym (same_number p q e) ∙ is) ∙ not_before ps k 0 differ less

    one_more : (q : ℕ) → is_in (take (k + 1) ps) q ≡ (is_in (take k ps) q || nat_eq p q)
    one_more q = ap (λ l. is_in l q) (take_more ps k 0 less ∙ ap (λ y. take k ps ++ y ∷ []) (sym is)) ∙ in_push (take k ps) p q

    pub changes_next : (new : Paged RoutineBody B D) → ChangesOne reach honest faults f p mid new
        → Changes reach honest faults f (is_in (take (k + 1) ps)) old new
    changes_next new c = record {
      rests = c.rests;
      pools = pools_on faults old mid new before.pools c.pools;
      routines = λ g q.
          c.routines (trusted_on faults reach honest old mid before.pools.stays g) q
          ∙ by q (nat_eq p q) refl (before.routines g q) ∙ sym (ap (λ b. if b then option_map f (routine_in old q) else routine_in old q) (one_more q));
    }
      where
        by : (q : ℕ) (v : Bool) → nat_eq p q ≡ v → routine_in mid q ≡ changed_at f (is_in (take k ps)) (routine_in old) q
            → (if v then option_map f (routine_in mid q) else routine_in mid q)
            ≡ (if is_in (take k ps) q || v then option_map f (routine_in old q) else routine_in old q)
        by q true e h =
            let none = fresh q e in
            let same : routine_in mid q ≡ routine_in old q = h ∙ ap (λ b. if b then option_map f (routine_in old q) else routine_in old q) none in
            ap (option_map f) same ∙ sym (ap (λ b. if b || true then option_map f (routine_in old q) else routine_in old q) none)
        by q false e h = h ∙ any (is_in (take k ps) q)
          where
            any : (b : Bool) → (if b then option_map f (routine_in old q) else routine_in old q) ≡
                (if b || false then option_map f (routine_in old q) else routine_in old q)
            any true = refl
            any false = refl

    chosen : (q : ℕ) → nat_eq p q ≡ true → is_in ps q ≡ true
    chosen q e = ap (is_in ps) (sym (same_number p q e) ∙ is) ∙ in_all ps k 0 less

    unchanged : (q : ℕ) → nat_eq p q ≡ true → IsTrusted reach honest old → routine_in mid q ≡ routine_in old q
    unchanged q e g = before.routines g q ∙ ap (λ b. if b then option_map f (routine_in old q) else routine_in old q) (fresh q e)

    cause_next : (rows : List ShapeRow) (now : ℕ) (e : Failure) → ChangeCause reach honest faults f rows (nat_eq p) mid (faults mid.disk) now e
        → ChangeCause reach honest faults f rows (is_in ps) old (faults old.disk) now e
    cause_next rows now failure.Repository c = rose_since (faults old.disk) (faults mid.disk) now before.pools.stays.later c
    cause_next rows now (failure.Damaged place kept found) c =
        (c.0, (c.1.0, c.1.1 ∙ ap (λ n. c.1.0 * n) before.pools.stays.limit), λ g. c.2 (trusted_on faults reach honest old mid before.pools.stays g))
    cause_next rows now (failure.Unreadable place) c =
        ((c.0.0, c.0.1 ∙ ap (λ n. c.0.0 * n) before.pools.stays.limit), λ g. c.1 (trusted_on faults reach honest old mid before.pools.stays g))
    cause_next rows now (failure.Unfit q) c =
        (chosen q c.0, λ g r at valid. c.1 (trusted_on faults reach honest old mid before.pools.stays g) r (unchanged q c.0 g ∙ at) valid)
    cause_next rows now (failure.TooSmall q need limit) c = (
      chosen q c.0,
      c.1 ∙ before.pools.stays.limit,
      c.2,
      λ g r at. c.3 (trusted_on faults reach honest old mid before.pools.stays g) r (unchanged q c.0 g ∙ at),
    )
    cause_next rows now failure.Memory c = c

    pub stops_next : (new : Paged RoutineBody B D) (rows : List ShapeRow) (e : Failure) → StopsChanging reach honest faults f rows (nat_eq p) mid new e
        → StopsChanging reach honest faults f rows (is_in ps) old new e
    stops_next new rows e s = record {
      kept = s.kept;
      home = s.home;
      pools = pools_on faults old mid new before.pools s.pools;
      cause = cause_next rows (faults new.disk) e s.cause;
    }

    pub present_next : AllByRecursion (λ q. IsSome (kept_at old q)) ps → IsSome (kept_at mid p)
    present_next h =
        let there : IsSome (kept_at old p) = subst (λ q. IsSome (kept_at old q)) (sym is) (all_at (λ q. IsSome (kept_at old q)) ps k 0 h less) in
        some_is (kept_at mid p) (before.pools.has p ∙ is_some_of (kept_at old p) there)

-- one routine that is taken, changed and put back
module _ {D : Type 0} (reach : D → ℕ) (honest : D → Bool) (faults : D → ℕ) (f : RoutineParts → RoutineParts) where
  pub one_changed : (old mid new : Paged RoutineBody (Unit {0}) D) (p room : ℕ) (x : WritePin RoutineBody) → TakesToWrite reach honest faults old mid p room x
      → Rewritten faults mid new x.pid (f (arc_value x.body).routine) → ChangesOne reach honest faults f p old new
  one_changed old mid new p room x t w = record {
    rests = w.rewrites.rests;
    pools = pools_on faults old mid new (pools_take faults reach honest old mid p room x t) (pools_rewrite faults mid new x.pid w.body tt there w.rewrites);
    routines = λ g q. by g q (nat_eq p q) refl;
  }
    where
      now : Kept RoutineBody (Unit {0})
      now = record t.was { value = arc_value x.body }

      there : is_some (kept_at mid x.pid) ≡ true
      there = ap (λ q. is_some (kept_at mid q)) t.pid ∙ ap is_some (t.kept p ∙ ap (λ v. cond v (Some now) (kept_at old p)) (number_itself p))

      after : (q : ℕ) → kept_at new q ≡ cond (nat_eq p q) (Some (record { value = w.body; brief = tt })) (kept_at mid q)
      after q = w.rewrites.kept q ∙ ap (λ z. cond (nat_eq z q) (Some (record { value = w.body; brief = tt })) (kept_at mid q)) t.pid

      by : IsTrusted reach honest old → (q : ℕ) (v : Bool) → nat_eq p q ≡ v
          → routine_in new q ≡ (if v then option_map f (routine_in old q) else routine_in old q)
      by g q true e =
          let before : routine_in old q ≡ Some t.was.value.routine =
          ap (λ z. routine_in old z) (sym (same_number p q e)) ∙ ap (λ o. option_map (λ b. b.routine) (option_map (λ k. k.value) o)) t.there in
          ap (λ o. option_map (λ b. b.routine) (option_map (λ k. k.value) o))
          (after q ∙ ap (λ v. cond v (Some (record { value = w.body; brief = tt })) (kept_at mid q)) e)
          ∙ ap (λ r. Some r) (w.routine ∙ ap (λ b. f b.routine) (t.same (λ u. g))) ∙ sym (ap (option_map f) before)
      by g q false e =
          ap (λ o. option_map (λ b. b.routine) (option_map (λ k. k.value) o))
          (after q ∙ ap (λ v. cond v (Some (record { value = w.body; brief = tt })) (kept_at mid q)) e ∙ t.kept q
          ∙ ap (λ v. cond v (Some now) (kept_at old q)) e)

  take_cause : (charge : RoutineBody → ℕ) (spell : RoutineBody → List ℕ) (is_value : RoutineBody → Type 0) (rows : List ShapeRow) (chosen : ℕ → Bool)
      (l : Paged RoutineBody (Unit {0}) D) (p before now : ℕ) (e : Failure) → TakeCause charge spell is_value reach honest l p before now e
      → ChangeCause reach honest faults f rows chosen l before now e
  take_cause charge spell is_value rows chosen l p before now failure.Repository c = c
  take_cause charge spell is_value rows chosen l p before now (failure.Damaged place kept found) c = (c.differ, (p, c.place_is), c.distrusted)
  take_cause charge spell is_value rows chosen l p before now (failure.Unreadable place) c = ((p, c.place_is), c.distrusted)
  take_cause charge spell is_value rows chosen l p before now (failure.Unfit q) c = absurd c
  take_cause charge spell is_value rows chosen l p before now (failure.TooSmall q need limit) c = absurd c
  take_cause charge spell is_value rows chosen l p before now failure.Memory c = c

  -- taking it failed
  pub take_stops : (charge : RoutineBody → ℕ) (spell : RoutineBody → List ℕ) (is_value : RoutineBody → Type 0) (rows : List ShapeRow)
      (old new : Paged RoutineBody (Unit {0}) D) (p : ℕ) (e : Failure)
      → Stops faults (TakeCause charge spell is_value reach honest old p (faults old.disk) (faults new.disk)) old new e
      → StopsChanging reach honest faults f rows (nat_eq p) old new e
  take_stops charge spell is_value rows old new p e s = record {
    kept = s.kept;
    home = s.home;
    pools = pools_kept faults old new s.keeps;
    cause = take_cause charge spell is_value rows (nat_eq p) old p (faults old.disk) (faults new.disk) e s.cause;
  }

  -- changing it failed
  pub rewrite_stops : (rows : List ShapeRow) (old mid new : Paged RoutineBody (Unit {0}) D) (p room : ℕ) (x : WritePin RoutineBody) (e : Failure)
      → TakesToWrite reach honest faults old mid p room x
      → Stops faults (RewriteCause f rows x.pid (arc_value x.body).routine mid.core.limit (faults mid.disk) (faults new.disk)) mid new e
      → StopsChanging reach honest faults f rows (nat_eq p) old new e
  rewrite_stops rows old mid new p room x e t s = record {
    kept = s.kept;
    home = s.home;
    pools = pools_on faults old mid new (pools_take faults reach honest old mid p room x t) (pools_kept faults mid new s.keeps);
    cause = cause e s.cause;
  }
    where
      same : (q : ℕ) → q ≡ x.pid → nat_eq p q ≡ true
      same q h = ap (nat_eq p) (h ∙ t.pid) ∙ number_itself p

      had : (q : ℕ) (r : RoutineParts) → q ≡ x.pid → IsTrusted reach honest old → routine_in old q ≡ Some r → (arc_value x.body).routine ≡ r
      had q r h g at =
          ap (λ b. b.routine) (t.same (λ u. g))
          ∙ same_Some t.was.value.routine r
          (sym (ap (λ o. option_map (λ b. b.routine) (option_map (λ k. k.value) o)) (ap (kept_at old) (h ∙ t.pid) ∙ t.there)) ∙ at)

      cause : (e : Failure) → RewriteCause f rows x.pid (arc_value x.body).routine mid.core.limit (faults mid.disk) (faults new.disk) e
          → ChangeCause reach honest faults f rows (nat_eq p) old (faults old.disk) (faults new.disk) e
      cause failure.Repository c = rose_since (faults old.disk) (faults mid.disk) (faults new.disk) t.stays.later c
      cause (failure.Damaged place kept found) c = absurd c
      cause (failure.Unreadable place) c = absurd c
      cause (failure.Unfit q) c = (same q c.0, λ g r at valid. c.1 (subst (IsValid rows) (sym (had q r c.0 g at)) valid))
      cause (failure.TooSmall q need limit) c = (
        same q c.0,
        c.2 ∙ t.stays.limit,
        subst (λ n. n < need) (sym c.2) c.3,
        λ g r at. c.1 ∙ ap (λ z. length (compact (f z))) (had q r c.0 g at),
      )
      cause failure.Memory c = c

  -- the room is twice the charge of the routine that is taken
  pub stated : (is_value : RoutineBody → Type 0) (bytes : D → Option (List ℕ)) (old mid : Paged RoutineBody (Unit {0}) D) (p n room : ℕ)
      (x : WritePin RoutineBody)
      → TakesToWrite reach honest faults old mid p room x
      → StandsFor (λ b. charge b.routine) (λ b. compact b.routine) is_value bytes reach honest mid → charge_at old p ≡ Some n → room ≡ 2 * n
      → HasStated mid x.pid (2 * charge (arc_value x.body).routine)
  stated is_value bytes old mid p n room x t s at twice =
      let content : content_at mid p ≡ Some (arc_value x.body) = ap (content_at mid) (sym t.pid) ∙ t.pin.content in
      let z = pool_there (λ b. charge b.routine) (λ b. compact b.routine) is_value bytes reach honest mid p (arc_value x.body) s content in
      let same : n ≡ charge (arc_value x.body).routine =
      same_Some n (charge (arc_value x.body).routine) (sym (t.charge_same ∙ at) ∙ ap (option_map (λ v. v.e)) z.1 ∙ ap (λ e. Some e) z.2.charge_is) in
      record {
        room = room;
        stage_is = ap (stage_at mid) t.pid ∙ t.room_is;
        within = subst (λ m. 2 * m ≤ room) same (subst (λ m. 2 * n ≤ m) (sym twice) (le_refl _));
      }

  -- the disk's count, the limit or memory
  pub put_cause : (rows : List ShapeRow) (p : ℕ) (r : RoutineParts) (b : RoutineBody) (limit before now : ℕ) (e : Failure) → b.routine ≡ f r
      → PlaceCause before now p (length (compact b.routine)) limit e → RewriteCause f rows p r limit before now e
  put_cause rows p r b limit before now failure.Repository is c = c
  put_cause rows p r b limit before now (failure.Damaged place kept found) is c = c
  put_cause rows p r b limit before now (failure.Unreadable place) is c = c
  put_cause rows p r b limit before now (failure.Unfit q) is c = absurd c
  put_cause rows p r b limit before now (failure.TooSmall q need l) is c =
      (c.0, c.1 ∙ ap (λ z. length (compact z)) is, c.2, subst (λ n. limit < n) (sym c.1) c.3)
  put_cause rows p r b limit before now failure.Memory is c = c

  pub put_stops : (rows : List ShapeRow) (old new : Paged RoutineBody (Unit {0}) D) (p : ℕ) (r : RoutineParts) (b : RoutineBody) (e : Failure) → b.routine ≡ f r
      → Stops faults (PlaceCause (faults old.disk) (faults new.disk) p (length (compact b.routine)) old.core.limit) old new e
      → Stops faults (RewriteCause f rows p r old.core.limit (faults old.disk) (faults new.disk)) old new e
  put_stops rows old new p r b e is s = record {
    kept = s.kept;
    home = s.home;
    keeps = s.keeps;
    cause = put_cause rows p r b old.core.limit (faults old.disk) (faults new.disk) e is s.cause;
  }

  unmade_cause : (rows : List ShapeRow) (p : ℕ) (r : RoutineParts) (limit before now : ℕ) (u : Unmade) → (u ≡ unmade.Unfit → IsValid rows r → ⊥)
      → RewriteCause f rows p r limit before now (failure_of p u)
  unmade_cause rows p r limit before now unmade.Unfit h = (refl, h refl)
  unmade_cause rows p r limit before now unmade.Memory h = tt

  pub unmade_stops : (rows : List ShapeRow) (old new : Paged RoutineBody (Unit {0}) D) (p : ℕ) (r : RoutineParts) (u : Unmade) (e : Failure) → IsWriting old p
      → (u ≡ unmade.Unfit → IsValid rows r → ⊥) → e ≡ failure_of p u → Fails old 0 (failure_of p u) new
      → Stops faults (RewriteCause f rows p r old.core.limit (faults old.disk) (faults new.disk)) old new e
  unmade_stops rows old new p r u e w h same t =
      let C = RewriteCause f rows p r old.core.limit (faults old.disk) (faults new.disk) in
      subst (Stops faults C old new) (sym same)
      (rest_stops faults C old new (writing p) (failure_of p u) w (unmade_cause rows p r old.core.limit (faults old.disk) (faults new.disk) u h) t)

  -- memory was wanting before anything was taken
  pub memory_stops : (rows : List ShapeRow) (chosen : ℕ → Bool) (old new : Paged RoutineBody (Unit {0}) D) (e : Failure) → IsResting old → e ≡ failure.Memory
      → Fails old 0 failure.Memory new → StopsChanging reach honest faults f rows chosen old new e
  memory_stops rows chosen old new e w same t =
      let s = rest_stops faults (λ e. Unit {0}) old new empty_hand failure.Memory w tt t in
      subst (StopsChanging reach honest faults f rows chosen old new) (sym same)
      (record { kept = s.kept; home = s.home; pools = pools_kept faults old new s.keeps; cause = tt })

-- a simplified routine fits a room of twice the charge of the old one
pub fits_room : {T B D : Type 0} (f : RoutineParts → RoutineParts) (l : Paged T B D) (p : ℕ) (r : RoutineParts) (b : RoutineBody) → NoLarger r (f r)
    → b.routine ≡ f r
    → IsRoutine b.routine → HasStated l p (2 * charge r) → HasStated l p (charge b.routine + length (compact b.routine))
fits_room f l p r b small is value s =
    let w = within_charge b.routine value in
    let c : charge b.routine ≤ charge r = subst (λ z. charge z ≤ charge r) (sym is) small.charge in
    record { room = s.room; stage_is = s.stage_is; within = (let k = s.within in let m = w.1 in omega arith) }

-- a pool's charge is a number of 41 bits
pub small_charge : {T B D : Type 0} (charge : T → ℕ) (spell : T → List ℕ) (is_value : T → Type 0) (bytes : D → Option (List ℕ)) (reach : D → ℕ)
    (honest : D → Bool)
    (l : Paged T B D) (p n : ℕ) → StandsFor charge spell is_value bytes reach honest l → charge_at l p ≡ Some n → n ≤ 2 ^ 40
small_charge charge spell is_value bytes reach honest l p n s at = by (pool_at l.core.pools p) refl at
  where
    by : (o : Option Pool) → pool_at l.core.pools p ≡ o → option_map (λ x. x.e) o ≡ Some n → n ≤ 2 ^ 40
    by None e h = cc
    by (Some x) e h = subst (λ m. m ≤ 2 ^ 40) (same_Some x.e n h) (s.sound.forms_fit p x e).charge
