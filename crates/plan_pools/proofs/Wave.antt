-- The callers of a wave, one after another.
use Rattle.std.proofs.Common.{◌≡◌, ◌<◌, ◌+◌, ℕ, zero, suc, Bool, true, false, nat_eq, List, [], ◌∷◌, ◌++◌, length, take, get_or, Option, Some, None}
use Rattle.std.proofs.Common.{refl, sym, ap, subst, ◌∙◌}
use Rattle.std.specs.Prelude.{option_map, ◌||◌, if◌then◌else◌}
use Rattle.std.specs.List.{AllByRecursion, IsDistinct}
use Rattle.std.proofs.lemmas.List.{take_more}
use Rattle.list_laws.proofs.Entries.{same_number}
use Rattle.il_core.specs.Routine.{RoutineParts}
use Rattle.il_core.specs.Valid.{IsValid}
use Rattle.il_core.specs.declared.shape.ShapeRow.{ShapeRow}
use Rattle.il_laws.specs.Inline.{SiteBody, inlined}
use Rattle.il_laws.specs.Reach.{is_in}
use Rattle.compact_form.specs.Compact.{compact}
use Rattle.compact_form.specs.declared.body.RoutineBody.{RoutineBody}
use Rattle.naim_core.specs.declared.event.Failure.{Failure}
use Rattle.naim_loader.specs.Paged.{Paged, IsTrusted}
use Rattle.one_owner.specs.Alone.{IsResting}
use Rattle.plan_pools.specs.Contents.{routine_in}
use Rattle.plan_pools.specs.Passes.{ChangesOne, changed_at}
use Rattle.plan_pools.proofs.Staying.{pools_itself, pools_on, trusted_on}
use Rattle.plan_pools.proofs.Walking.{in_all, in_push, not_before}
use Rattle.plan_pools.specs.Accepting.{bodies_at, sites_of, taken_in}
use Rattle.plan_pools.specs.Fitting.{AreFit}
use Rattle.plan_pools.specs.Stopping.{Becomes, StopsInlining}
use Rattle.plan_pools.specs.Waving.{IsSuited, IsWaveNeed, SuitsWave}
use Rattle.plan_pools.specs.declared.sites.CalledSite.{CalledSite}
use Rattle.plan_pools.proofs.Bodies.{same_bodies}
use Rattle.plan_pools.proofs.Stopped.{stops_after}

-- a number that isn't there hasn't come before
out_before : (ps : List ℕ) (k q : ℕ) → is_in ps q ≡ false → is_in (take k ps) q ≡ false
out_before [] zero q e = refl
out_before [] (suc k) q e = refl
out_before (x ∷ xs) zero q e = refl
out_before (x ∷ xs) (suc k) q e = by (nat_eq x q) e (out_before xs k q)
  where
    by : (b : Bool) → (b || is_in xs q) ≡ false → (is_in xs q ≡ false → is_in (take k xs) q ≡ false) → (b || is_in (take k xs) q) ≡ false
    by true h more = h
    by false h more = more h

module _ {D : Type 0} (reach : D → ℕ) (honest : D → Bool) (faults : D → ℕ) (rows : List ShapeRow) (t : ℕ → ℕ → Bool) (ps : List ℕ) where
  abbrev Pools : Type 0
  Pools = Paged RoutineBody (Unit {0}) D

  -- those of the first k callers have taken in their callees, as these stood first
  abbrev pub Done : Pools → Pools → ℕ → Type 0
  Done old now k = Becomes reach honest faults (SuitsWave rows t ps (routine_in old))
      (changed_at (taken_in t (routine_in old)) (is_in (take k ps)) (routine_in old)) old now

  pub done_first : (l : Pools) → IsResting l → Done l l 0
  done_first l w = record { rests = w; pools = pools_itself faults l; routines = λ g s q. refl }

  module _ (old mid : Pools) (k p : ℕ) (differ : IsDistinct nat_eq ps) (less : k < length ps) (is : p ≡ get_or ps k 0) (before : Done old mid k) where
    fresh : is_in (take k ps) p ≡ false
    fresh = ap (is_in (take k ps)) is ∙ not_before ps k 0 differ less

    chosen : is_in ps p ≡ true
    chosen = ap (is_in ps) is ∙ in_all ps k 0 less

    one_more : (q : ℕ) → is_in (take (k + 1) ps) q ≡ (is_in (take k ps) q || nat_eq p q)
    one_more q = ap (λ l. is_in l q) (take_more ps k 0 less ∙ ap (λ y. take k ps ++ y ∷ []) (sym is)) ∙ in_push (take k ps) p q

    module _ (g : IsTrusted reach honest old) (suits : SuitsWave rows t ps (routine_in old)) where
      -- who isn't yet changed is as at first
      unchanged : (q : ℕ) → is_in (take k ps) q ≡ false → routine_in mid q ≡ routine_in old q
      unchanged q e =
          before.routines g suits q ∙ ap (λ b. if b then option_map (taken_in t (routine_in old)) (routine_in old q) else routine_in old q) e

      here : routine_in mid p ≡ routine_in old p
      here = unchanged p fresh

      suited : (r : RoutineParts) → routine_in old p ≡ Some r → IsSuited rows t ps (routine_in old) r
      suited r at = suits.each p r chosen at

      callees_stay : (xs : List CalledSite) → AllByRecursion (λ x. is_in ps x.callee ≡ false) xs
          → AllByRecursion (λ x. routine_in mid x.callee ≡ routine_in old x.callee) xs
      callees_stay [] h = tt
      callees_stay (x ∷ xs) h = (unchanged x.callee (out_before ps k x.callee h.0), callees_stay xs h.1)

      -- its callees are as at first
      bodies_stay : (r : RoutineParts) → routine_in old p ≡ Some r → bodies_at (routine_in mid) (sites_of t r) ≡ bodies_at (routine_in old) (sites_of t r)
      bodies_stay r at = same_bodies (routine_in mid) (routine_in old) (sites_of t r) (callees_stay (sites_of t r) (suited r at).apart)

      taken_stays : (r : RoutineParts) → routine_in old p ≡ Some r → taken_in t (routine_in mid) r ≡ taken_in t (routine_in old) r
      taken_stays r at = ap (λ (l : List SiteBody). inlined r l) (bodies_stay r at)

    pub done_next : (new : Pools) → ChangesOne reach honest faults (taken_in t (routine_in mid)) p mid new → Done old new (k + 1)
    done_next new c = record {
      rests = c.rests;
      pools = pools_on faults old mid new before.pools c.pools;
      routines = λ g s q.
          c.routines (trusted_on faults reach honest old mid before.pools.stays g) q ∙ by g s q (nat_eq p q) refl (before.routines g s q)
          ∙ sym (ap (λ b. if b then option_map (taken_in t (routine_in old)) (routine_in old q) else routine_in old q) (one_more q));
    }
      where
        by : IsTrusted reach honest old → SuitsWave rows t ps (routine_in old) → (q : ℕ) (v : Bool) → nat_eq p q ≡ v
            → routine_in mid q ≡ changed_at (taken_in t (routine_in old)) (is_in (take k ps)) (routine_in old) q
            → (if v then option_map (taken_in t (routine_in mid)) (routine_in mid q) else routine_in mid q)
            ≡ (if is_in (take k ps) q || v then option_map (taken_in t (routine_in old)) (routine_in old q) else routine_in old q)
        by g s q true e h =
            let to : p ≡ q = same_number p q e in
            let none : is_in (take k ps) q ≡ false = ap (is_in (take k ps)) (sym to) ∙ fresh in
            ap (option_map (taken_in t (routine_in mid))) (unchanged g s q none) ∙ at (routine_in old q) refl
            ∙ sym (ap (λ b. if b || true then option_map (taken_in t (routine_in old)) (routine_in old q) else routine_in old q) none)
          where
            at : (o : Option RoutineParts) → routine_in old q ≡ o → option_map (taken_in t (routine_in mid)) o ≡ option_map (taken_in t (routine_in old)) o
            at None there = refl
            at (Some r) there = ap Some (taken_stays g s r (ap (routine_in old) (same_number p q e) ∙ there))
        by g s q false e h = h ∙ any (is_in (take k ps) q)
          where
            any : (b : Bool) → (if b then option_map (taken_in t (routine_in old)) (routine_in old q) else routine_in old q)
                ≡ (if b || false then option_map (taken_in t (routine_in old)) (routine_in old q) else routine_in old q)
            any true = refl
            any false = refl

    pub done_stops : (new : Pools) (e : Failure)
        → StopsInlining reach honest faults
        (λ q. IsTrusted reach honest mid
        → (r : RoutineParts) × (routine_in mid p ≡ Some r) × (IsValid rows r → AreFit rows r (bodies_at (routine_in mid) (sites_of t r)) → ⊥))
        (λ q n. (q ≡ p) × (IsTrusted reach honest mid
        → (r : RoutineParts) × (routine_in mid p ≡ Some r) × (n ≡ length (compact (taken_in t (routine_in mid) r)))))
        mid new e
        → StopsInlining reach honest faults (λ q. IsTrusted reach honest old → SuitsWave rows t ps (routine_in old) → ⊥)
        (λ q n. IsTrusted reach honest old → SuitsWave rows t ps (routine_in old) → IsWaveNeed t ps (routine_in old) q n) old new e
    done_stops new e s =
        stops_after reach honest faults
        (λ q. IsTrusted reach honest mid
        → (r : RoutineParts) × (routine_in mid p ≡ Some r) × (IsValid rows r → AreFit rows r (bodies_at (routine_in mid) (sites_of t r)) → ⊥))
        (λ q. IsTrusted reach honest old → SuitsWave rows t ps (routine_in old) → ⊥)
        (λ q n. (q ≡ p) × (IsTrusted reach honest mid
        → (r : RoutineParts) × (routine_in mid p ≡ Some r) × (n ≡ length (compact (taken_in t (routine_in mid) r)))))
        (λ q n. IsTrusted reach honest old → SuitsWave rows t ps (routine_in old) → IsWaveNeed t ps (routine_in old) q n)
        old mid new e before.pools unfit needs s
      where
        unfit : (q : ℕ)
            → (IsTrusted reach honest mid → (r : RoutineParts) × (routine_in mid p ≡ Some r) ×
            (IsValid rows r → AreFit rows r (bodies_at (routine_in mid) (sites_of t r)) → ⊥))
            → IsTrusted reach honest old → SuitsWave rows t ps (routine_in old) → ⊥
        unfit q refuses g suits =
            let x = refuses (trusted_on faults reach honest old mid before.pools.stays g) in
            let at = sym (here g suits) ∙ x.1 in
            let one = suited g suits x.0 at in
            x.2 one.valid (subst (AreFit rows x.0) (sym (bodies_stay g suits x.0 at)) one.fit)

        needs : (q n : ℕ)
            → ((q ≡ p) × (IsTrusted reach honest mid
            → (r : RoutineParts) × (routine_in mid p ≡ Some r) × (n ≡ length (compact (taken_in t (routine_in mid) r)))))
            → IsTrusted reach honest old → SuitsWave rows t ps (routine_in old) → IsWaveNeed t ps (routine_in old) q n
        needs q n c g suits =
            let x = c.1 (trusted_on faults reach honest old mid before.pools.stays g) in
            let at = sym (here g suits) ∙ x.1 in
            record {
              chosen = ap (is_in ps) c.0 ∙ chosen;
              routine = x.0;
              there = ap (routine_in old) c.0 ∙ at;
              size = x.2 ∙ ap (λ (z : RoutineParts). length (compact z)) (taken_stays g suits x.0 at);
            }
