-- How pools are left, put together.
use Rattle.std.proofs.Common.{◌≡◌, ◌<◌, ◌*◌, ℕ, Bool, true, false, List, Option, Some, None, refl, sym, ap, subst, ◌∙◌}
use Rattle.std.specs.Prelude.{is_some, option_map}
use Rattle.std.specs.Arc.{arc_value}
use Rattle.il_core.specs.Routine.{RoutineParts}
use Rattle.compact_form.specs.declared.body.RoutineBody.{RoutineBody}
use Rattle.naim_core.specs.declared.event.Failure.{Failure}
use Rattle.naim_core.specs.declared.event.Failure.TheVariants as failure
use Rattle.naim_core.specs.declared.state.Hand.{Hand}
use Rattle.naim_loader.specs.Calls.{Fails}
use Rattle.naim_loader.specs.Paged.{Paged, kept_at, IsTrusted}
use Rattle.naim_loader.specs.Rows.{Kept}
use Rattle.naim_loader.specs.declared.forms.ReadPin.{ReadPin}
use Rattle.one_owner.specs.Alone.{Works}
use Rattle.one_owner.specs.Answers.{Takes}
use Rattle.one_owner.specs.Causes.{PlaceCause, RoomCause, TakeCause}
use Rattle.one_owner.specs.Going.{Stays, Stops}
use Rattle.one_owner.proofs.Frames.{rest_stops, rose_since}
use Rattle.plan_pools.specs.Contents.{routine_in}
use Rattle.plan_pools.specs.Passes.{SamePools}
use Rattle.plan_pools.specs.Printing.{ReadCause, Reads, StopsReading}
use Rattle.plan_pools.proofs.Frames.{stops_room, stops_take}
use Rattle.plan_pools.proofs.Staying.{pools_kept, pools_on, trusted_on}
use Rattle.plan_pools.specs.Stopping.{InlineCause, StopsInlining}
use Rattle.plan_pools.specs.Rewriting.{failure_of}
use Rattle.plan_pools.specs.declared.simplifying.Unmade.{Unmade}
use Rattle.plan_pools.specs.declared.simplifying.Unmade.TheVariants as unmade

-- a pool that isn't there has no routine, and one that is has one
pub none_in : {B D : Type 0} (l : Paged RoutineBody B D) (p : ℕ) → is_some (kept_at l p) ≡ false → routine_in l p ≡ None
none_in l p e = by (kept_at l p) e
  where
    by : {B : Type 0} (o : Option (Kept RoutineBody B)) → is_some o ≡ false → option_map (λ b. b.routine) (option_map (λ k. k.value) o) ≡ None
    by None e = refl
    by (Some k) e = let bad : true ≡ false = e in absurd cc

pub some_in : {B D : Type 0} (l : Paged RoutineBody B D) (p : ℕ) → is_some (kept_at l p) ≡ true → (r : RoutineParts) × (routine_in l p ≡ Some r)
some_in l p e = by (kept_at l p) e
  where
    by : {B : Type 0} (o : Option (Kept RoutineBody B)) → is_some o ≡ true
        → (r : RoutineParts) × (option_map (λ b. b.routine) (option_map (λ k. k.value) o) ≡ Some r)
    by None e = let bad : false ≡ true = e in absurd cc
    by (Some k) e = (k.value.routine, refl)

module _ {D : Type 0} (reach : D → ℕ) (honest : D → Bool) (faults : D → ℕ) where
  abbrev Pools : Type 0
  Pools = Paged RoutineBody (Unit {0}) D

  -- pools that are read are the same
  pub pools_read : (a b : Pools) → Reads reach honest faults a b → SamePools faults a b
  pools_read a b r = record { stays = r.stays; has = r.has; used = r.used; insertions = r.insertions }

  pub routines_read : (a b : Pools) → Reads reach honest faults a b → IsTrusted reach honest a → (q : ℕ) → routine_in b q ≡ routine_in a q
  routines_read a b r g q = ap (λ o. option_map (λ b. b.routine) (option_map (λ k. k.value) o)) (r.same g q)

  -- over a trusted disk a pin has the pool's routine
  pub pin_has : (a b : Pools) (p : ℕ) (x : ReadPin RoutineBody) → Takes reach honest faults a b p x → IsTrusted reach honest a
      → routine_in a p ≡ Some (arc_value x.body).routine
  pin_has a b p x t g =
      ap (λ o. option_map (λ b. b.routine) (option_map (λ k. k.value) o)) t.there ∙ ap (λ b. Some b.routine) (sym (t.same (λ u. g)))

  module _ (U V : ℕ → Type 0) (M N : ℕ → ℕ → Type 0) where
    cause_after : (a b : Pools) (now : ℕ) (e : Failure) → Stays faults a b → ((q : ℕ) → U q → V q) → ((q n : ℕ) → M q n → N q n)
        → InlineCause reach honest faults U M b (faults b.disk) now e → InlineCause reach honest faults V N a (faults a.disk) now e
    cause_after a b now failure.Repository s u m c = rose_since (faults a.disk) (faults b.disk) now s.later c
    cause_after a b now (failure.Damaged place kept found) s u m c =
        (c.0, (c.1.0, c.1.1 ∙ ap (λ n. c.1.0 * n) s.limit), λ g. c.2 (trusted_on faults reach honest a b s g))
    cause_after a b now (failure.Unreadable place) s u m c =
        ((c.0.0, c.0.1 ∙ ap (λ n. c.0.0 * n) s.limit), λ g. c.1 (trusted_on faults reach honest a b s g))
    cause_after a b now (failure.Unfit q) s u m c = u q c
    cause_after a b now (failure.TooSmall q need limit) s u m c = (c.0 ∙ s.limit, c.1, m q need c.2)
    cause_after a b now failure.Memory s u m c = tt

    -- it stopped after a part that kept the pools
    pub stops_after : (a b c : Pools) (e : Failure) → SamePools faults a b → ((q : ℕ) → U q → V q) → ((q n : ℕ) → M q n → N q n)
        → StopsInlining reach honest faults U M b c e → StopsInlining reach honest faults V N a c e
    stops_after a b c e k u m s = record {
      kept = s.kept;
      home = s.home;
      pools = pools_on faults a b c k s.pools;
      cause = cause_after a b (faults c.disk) e k.stays u m s.cause;
    }

  module _ (V : ℕ → Type 0) (N : ℕ → ℕ → Type 0) where
    read_cause : (l : Pools) (before now : ℕ) (e : Failure) → ReadCause reach honest faults l before now e → InlineCause reach honest faults V N l before now e
    read_cause l before now failure.Repository c = c
    read_cause l before now (failure.Damaged place kept found) c = c
    read_cause l before now (failure.Unreadable place) c = c
    read_cause l before now (failure.Unfit q) c = absurd c
    read_cause l before now (failure.TooSmall q need limit) c = absurd c
    read_cause l before now failure.Memory c = c

    read_stops : (a b : Pools) (e : Failure) → StopsReading reach honest faults a b e → StopsInlining reach honest faults V N a b e
    read_stops a b e s = record {
      kept = s.kept;
      home = s.home;
      pools = pools_read a b s.reads;
      cause = read_cause a (faults a.disk) (faults b.disk) e s.cause;
    }

    -- a pin failed
    pub take_stops : (charge : RoutineBody → ℕ) (spell : RoutineBody → List ℕ) (is_value : RoutineBody → Type 0) (a b : Pools) (p : ℕ) (e : Failure)
        → Stops faults (TakeCause charge spell is_value reach honest a p (faults a.disk) (faults b.disk)) a b e
        → StopsInlining reach honest faults V N a b e
    take_stops charge spell is_value a b p e s = read_stops a b e (stops_take reach honest faults charge spell is_value a b p e s)

    -- giving back failed
    pub back_stops : (a b : Pools) (e : Failure) → Stops faults (RoomCause (faults a.disk) (faults b.disk)) a b e → StopsInlining reach honest faults V N a b e
    back_stops a b e s = read_stops a b e (stops_room reach honest faults a b e s)

    place_cause : (l : Pools) (before now p n : ℕ) (e : Failure) → ((q need : ℕ) → q ≡ p → need ≡ n → N q need)
        → PlaceCause before now p n l.core.limit e → InlineCause reach honest faults V N l before now e
    place_cause l before now p n failure.Repository h c = c
    place_cause l before now p n (failure.Damaged place kept found) h c = absurd c
    place_cause l before now p n (failure.Unreadable place) h c = absurd c
    place_cause l before now p n (failure.Unfit q) h c = absurd c
    place_cause l before now p n (failure.TooSmall q need limit) h c =
        (c.2, subst (λ k. k < need) (sym c.2) (subst (λ k. l.core.limit < k) (sym c.1) c.3), h q need c.0 c.1)
    place_cause l before now p n failure.Memory h c = c

    -- putting a new value there failed
    pub place_stops : (a b : Pools) (p n : ℕ) (e : Failure) → ((q need : ℕ) → q ≡ p → need ≡ n → N q need)
        → Stops faults (PlaceCause (faults a.disk) (faults b.disk) p n a.core.limit) a b e → StopsInlining reach honest faults V N a b e
    place_stops a b p n e h s = record {
      kept = s.kept;
      home = s.home;
      pools = pools_kept faults a b s.keeps;
      cause = place_cause a (faults a.disk) (faults b.disk) p n e h s.cause;
    }

    unmade_cause : (l : Pools) (before now p : ℕ) (u : Unmade) → (u ≡ unmade.Unfit → V p) → InlineCause reach honest faults V N l before now (failure_of p u)
    unmade_cause l before now p unmade.Unfit h = h refl
    unmade_cause l before now p unmade.Memory h = tt

    -- a routine wasn't made
    pub unmade_stops : (a b : Pools) (hand : Hand) (p : ℕ) (u : Unmade) (e : Failure) → Works a hand → (u ≡ unmade.Unfit → V p) → e ≡ failure_of p u
        → Fails a 0 (failure_of p u) b → StopsInlining reach honest faults V N a b e
    unmade_stops a b hand p u e w h same t =
        let C = InlineCause reach honest faults V N a (faults a.disk) (faults b.disk) in
        let s = rest_stops faults C a b hand (failure_of p u) w (unmade_cause a (faults a.disk) (faults b.disk) p u h) t in
        subst (StopsInlining reach honest faults V N a b) (sym same)
        (record { kept = s.kept; home = s.home; pools = pools_kept faults a b s.keeps; cause = s.cause })
