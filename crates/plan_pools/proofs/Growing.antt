-- One caller that takes in its callees, in its pool.
use Rattle.std.proofs.Common.{◌≡◌, ◌+◌, ◌*◌, ◌≤◌, ℕ, Bool, true, false, nat_eq, List, Option, Some, None, IsSome, length, refl, sym, ap, subst, arith, ◌∙◌}
use Rattle.std.specs.Prelude.{is_some, option_map, if◌then◌else◌}
use mathlib.Core.Path.{fun_ext}
use Rattle.list_laws.proofs.Entries.{same_number}
use Rattle.il_core.specs.Routine.{RoutineParts}
use Rattle.il_core.specs.Size.{charge}
use Rattle.il_core.specs.Valid.{IsValid}
use Rattle.il_core.specs.declared.shape.ShapeRow.{ShapeRow}
use Rattle.il_laws.specs.Inline.{inlined}
use Rattle.compact_form.specs.Compact.{compact}
use Rattle.compact_form.specs.declared.body.RoutineBody.{RoutineBody}
use Rattle.naim_core.specs.declared.event.Failure.{Failure}
use Rattle.naim_loader.specs.Calls.{stage_at}
use Rattle.naim_loader.specs.Paged.{Paged, kept_at, IsTrusted}
use Rattle.naim_loader.specs.declared.forms.WritePin.{WritePin}
use Rattle.one_owner.specs.Alone.{IsResting}
use Rattle.one_owner.specs.Answers.{HasStated, Rewrites, TakesToWrite}
use Rattle.one_owner.specs.Causes.{PlaceCause}
use Rattle.one_owner.specs.Going.{Stops}
use Rattle.plan_pools.specs.Contents.{routine_in}
use Rattle.plan_pools.specs.Passes.{ChangesOne}
use Rattle.plan_pools.specs.Printing.{Reads, Rests}
use Rattle.plan_pools.proofs.Frames.{is_some_of, reads_on, some_is, trusted_on}
use Rattle.plan_pools.proofs.Staying.{pools_itself, pools_on, pools_take}
use Rattle.plan_pools.proofs.Walking.{one_changed}
use Rattle.plan_pools.specs.Accepting.{bodies_at, sites_of, taken_in}
use Rattle.plan_pools.specs.Fitting.{AreFit}
use Rattle.plan_pools.specs.Stopping.{StopsInlining}
use Rattle.plan_pools.specs.declared.sites.CalledSite.{CalledSite}
use Rattle.plan_pools.proofs.Stopped.{none_in, place_stops, pools_read, routines_read, some_in, stops_after}

module _ {D : Type 0} (reach : D → ℕ) (honest : D → Bool) (faults : D → ℕ) where
  abbrev Pools : Type 0
  Pools = Paged RoutineBody (Unit {0}) D

  pub rests_on : (a b c : Pools) → Rests reach honest faults a b → Rests reach honest faults b c → Rests reach honest faults a c
  rests_on a b c x y = record { rests = y.rests; reads = reads_on reach honest faults a b c x.reads y.reads }

  -- what stands at each PID is what stood there
  pub same_at : (a b : Pools) → Reads reach honest faults a b → IsTrusted reach honest a → routine_in b ≡ routine_in a
  same_at a b r g = fun_ext (routines_read reach honest faults a b r g)

  pub still_there : (a b : Pools) (p : ℕ) → Reads reach honest faults a b → IsSome (kept_at a p) → IsSome (kept_at b p)
  still_there a b p r h = some_is (kept_at b p) (r.has p ∙ is_some_of (kept_at a p) h)

  -- a copy that was made and then spliced into
  module _ (rows : List ShapeRow) (t : ℕ → ℕ → Bool) (old mid : Pools) (p : ℕ) (reads : Reads reach honest faults old mid) (copy : RoutineParts)
      (sites : List CalledSite)
      (of : sites ≡ sites_of t copy) (is : IsTrusted reach honest old → (r : RoutineParts) → routine_in old p ≡ Some r → copy ≡ r) where
    pub grown_is : (x : RoutineParts) → (IsTrusted reach honest mid → x ≡ inlined copy (bodies_at (routine_in mid) sites))
        → IsTrusted reach honest old → (r : RoutineParts) → routine_in old p ≡ Some r → x ≡ taken_in t (routine_in old) r
    grown_is x made g r at =
        made (trusted_on reach honest faults old mid reads g)
        ∙ ap (λ (l : List CalledSite). inlined copy (bodies_at (routine_in mid) l)) of
        ∙ ap (λ (f : ℕ → Option RoutineParts). inlined copy (bodies_at f (sites_of t copy))) (same_at old mid reads g)
        ∙ ap (taken_in t (routine_in old)) (is g r at)

    pub grown_stops : (new : Pools) (e : Failure)
        → StopsInlining reach honest faults (λ q. IsTrusted reach honest mid → AreFit rows copy (bodies_at (routine_in mid) sites) → ⊥) (λ q n. ⊥) mid new e
        → StopsInlining reach honest faults
        (λ q. IsTrusted reach honest old → (r : RoutineParts) → routine_in old p ≡ Some r → IsValid rows r
        → AreFit rows r (bodies_at (routine_in old) (sites_of t r)) → ⊥)
        (λ q n. ⊥) old new e
    grown_stops new e s =
        stops_after reach honest faults (λ q. IsTrusted reach honest mid → AreFit rows copy (bodies_at (routine_in mid) sites) → ⊥)
        (λ q. IsTrusted reach honest old → (r : RoutineParts) → routine_in old p ≡ Some r → IsValid rows r
        → AreFit rows r (bodies_at (routine_in old) (sites_of t r)) → ⊥)
        (λ q n. ⊥) (λ q n. ⊥) old mid new e (pools_read reach honest faults old mid reads)
        (λ q no g r at valid h. no (trusted_on reach honest faults old mid reads g)
        (subst (λ (l : List CalledSite). AreFit rows copy (bodies_at (routine_in mid) l)) (sym of)
        (subst (λ (f : ℕ → Option RoutineParts). AreFit rows copy (bodies_at f (sites_of t copy))) (sym (same_at old mid reads g))
        (subst (λ (z : RoutineParts). AreFit rows z (bodies_at (routine_in old) (sites_of t z))) (sym (is g r at)) h))))
        (λ q n c. c) s

  -- a body that takes the place of a pool's
  module _ (old mid : Pools) (p room : ℕ) (x : WritePin RoutineBody) (t : TakesToWrite reach honest faults old mid p room x) (b : RoutineBody) where
    pub put_stated : (n : ℕ) → room ≡ 2 * n → n ≡ charge b.routine → length (compact b.routine) ≤ n
        → HasStated mid x.pid (charge b.routine + length (compact b.routine))
    put_stated n twice is long =
        record { room = room; stage_is = ap (stage_at mid) t.pid ∙ t.room_is; within = omega (arith, twice, is, long) }

    pub put_changes : (new : Pools) → Rewrites faults mid new x.pid b tt → ChangesOne reach honest faults (λ _. b.routine) p old new
    put_changes new w = one_changed reach honest faults (λ _. b.routine) old mid new p room x t (record { body = b; routine = refl; rewrites = w })

    pub put_stops : (new : Pools) (e : Failure)
        → Stops faults (PlaceCause (faults mid.disk) (faults new.disk) x.pid (length (compact b.routine)) mid.core.limit) mid new e
        → StopsInlining reach honest faults (λ q. ⊥) (λ q n. (q ≡ p) × (n ≡ length (compact b.routine))) old new e
    put_stops new e s =
        stops_after reach honest faults (λ q. ⊥) (λ q. ⊥) (λ q n. (q ≡ p) × (n ≡ length (compact b.routine)))
        (λ q n. (q ≡ p) × (n ≡ length (compact b.routine)))
        old mid new e (pools_take faults reach honest old mid p room x t) (λ q c. c) (λ q n c. c)
        (place_stops reach honest faults (λ q. ⊥) (λ q n. (q ≡ p) × (n ≡ length (compact b.routine))) mid new x.pid (length (compact b.routine)) e
        (λ q n is size. (is ∙ t.pid, size)) s)

  -- nothing changes where there is no pool
  pub nothing_changes : (f : RoutineParts → RoutineParts) (l : Pools) (p : ℕ) → IsResting l → is_some (kept_at l p) ≡ false
      → ChangesOne reach honest faults f p l l
  nothing_changes f l p w absent =
      record { rests = w; pools = pools_itself faults l; routines = λ g q. by q (nat_eq p q) refl }
    where
      by : (q : ℕ) (v : Bool) → nat_eq p q ≡ v → routine_in l q ≡ (if v then option_map f (routine_in l q) else routine_in l q)
      by q true e =
          let none : routine_in l q ≡ None = ap (routine_in l) (sym (same_number p q e)) ∙ none_in l p absent in
          none ∙ sym (ap (option_map f) none)
      by q false e = refl

  -- a routine that was made of what the pools have takes its place
  module _ (f : RoutineParts → RoutineParts) (old mid : Pools) (p : ℕ) (reads : Reads reach honest faults old mid) (x : RoutineParts)
      (is : IsTrusted reach honest old → (r : RoutineParts) → routine_in old p ≡ Some r → x ≡ f r) where
    pub replaced : (new : Pools) → ChangesOne reach honest faults (λ _. x) p mid new → ChangesOne reach honest faults f p old new
    replaced new c = record {
      rests = c.rests;
      pools = pools_on faults old mid new (pools_read reach honest faults old mid reads) c.pools;
      routines = λ g q. c.routines (trusted_on reach honest faults old mid reads g) q
          ∙ ap (λ (o : Option RoutineParts). if nat_eq p q then option_map (λ _. x) o else o) (routines_read reach honest faults old mid reads g q)
          ∙ by g q (nat_eq p q) refl;
    }
      where
        by : IsTrusted reach honest old → (q : ℕ) (v : Bool) → nat_eq p q ≡ v
            → (if v then option_map (λ _. x) (routine_in old q) else routine_in old q) ≡ (if v then option_map f (routine_in old q) else routine_in old q)
        by g q true e = at (routine_in old q) refl
          where
            at : (o : Option RoutineParts) → routine_in old q ≡ o → option_map (λ _. x) o ≡ option_map f o
            at None h = refl
            at (Some r) h = ap Some (is g r (ap (routine_in old) (same_number p q e) ∙ h))
        by g q false e = refl

    pub replaced_stops : (V : ℕ → Type 0) (new : Pools) (e : Failure) → is_some (kept_at old p) ≡ true
        → StopsInlining reach honest faults (λ q. ⊥) (λ q n. (q ≡ p) × (n ≡ length (compact x))) mid new e
        → StopsInlining reach honest faults V
        (λ q n. (q ≡ p) × (IsTrusted reach honest old → (r : RoutineParts) × (routine_in old p ≡ Some r) × (n ≡ length (compact (f r))))) old new e
    replaced_stops V new e there s =
        let r = some_in old p there in
        stops_after reach honest faults (λ q. ⊥) V (λ q n. (q ≡ p) × (n ≡ length (compact x)))
        (λ q n. (q ≡ p) × (IsTrusted reach honest old → (r : RoutineParts) × (routine_in old p ≡ Some r) × (n ≡ length (compact (f r)))))
        old mid new e (pools_read reach honest faults old mid reads) (λ q c. absurd c)
        (λ q n c. (c.0, λ g. (r.0, r.1, c.1 ∙ ap (λ (z : RoutineParts). length (compact z)) (is g r.0 r.1)))) s

  -- a routine that wasn't made is there
  pub grown_refused : (rows : List ShapeRow) (t : ℕ → ℕ → Bool) (N : ℕ → ℕ → Type 0) (old new : Pools) (p : ℕ) (e : Failure) → is_some (kept_at old p) ≡ true
      → StopsInlining reach honest faults
      (λ q. IsTrusted reach honest old → (r : RoutineParts) → routine_in old p ≡ Some r → IsValid rows r
      → AreFit rows r (bodies_at (routine_in old) (sites_of t r)) → ⊥)
      (λ q n. ⊥) old new e
      → StopsInlining reach honest faults
      (λ q. IsTrusted reach honest old
      → (r : RoutineParts) × (routine_in old p ≡ Some r) × (IsValid rows r → AreFit rows r (bodies_at (routine_in old) (sites_of t r)) → ⊥))
      N old new e
  grown_refused rows t N old new p e there s =
      let r = some_in old p there in
      stops_after reach honest faults
      (λ q. IsTrusted reach honest old → (r : RoutineParts) → routine_in old p ≡ Some r → IsValid rows r
      → AreFit rows r (bodies_at (routine_in old) (sites_of t r)) → ⊥)
      (λ q. IsTrusted reach honest old
      → (r : RoutineParts) × (routine_in old p ≡ Some r) × (IsValid rows r → AreFit rows r (bodies_at (routine_in old) (sites_of t r)) → ⊥))
      (λ q n. ⊥) N old old new e (pools_itself faults old)
      (λ q no g. (r.0, r.1, λ valid fit. no g r.0 r.1 valid fit)) (λ q n c. absurd c) s

  -- a caller that isn't valid
  pub copy_refused : (rows : List ShapeRow) (t : ℕ → ℕ → Bool) (old new : Pools) (p : ℕ) (e : Failure)
      → StopsInlining reach honest faults (λ q. IsTrusted reach honest old → (r : RoutineParts) → routine_in old p ≡ Some r → IsValid rows r → ⊥)
      (λ q n. ⊥) old new e
      → StopsInlining reach honest faults
      (λ q. IsTrusted reach honest old → (r : RoutineParts) → routine_in old p ≡ Some r → IsValid rows r
      → AreFit rows r (bodies_at (routine_in old) (sites_of t r)) → ⊥)
      (λ q n. ⊥) old new e
  copy_refused rows t old new p e s =
      stops_after reach honest faults
      (λ q. IsTrusted reach honest old → (r : RoutineParts) → routine_in old p ≡ Some r → IsValid rows r → ⊥)
      (λ q. IsTrusted reach honest old → (r : RoutineParts) → routine_in old p ≡ Some r → IsValid rows r
      → AreFit rows r (bodies_at (routine_in old) (sites_of t r)) → ⊥)
      (λ q n. ⊥) (λ q n. ⊥) old old new e (pools_itself faults old) (λ q no g r at valid fit. no g r at valid) (λ q n c. c) s
