-- What stays, put together, and what a failure leaves.
use Rattle.std.proofs.Common.{◌≡◌, ◌≤◌, ℕ, Bool, true, false, nat_eq, length, Option, Some, None, Result, Ok, Err, refl, sym, ap, subst, arith, le_trans, ◌∙◌}
use Rattle.std.proofs.Math.Nat.{le_refl}
use Rattle.std.specs.Prelude.{IfErr, IfOk}
use Rattle.std.specs.Option.{option_map_or}
use Rattle.std.proofs.lemmas.Option.{same_Some}
use Rattle.outside.specs.Faults.{Rose}
use Rattle.naim_core.specs.State.{is_written, pool_at}
use Rattle.naim_core.specs.declared.event.Event.{Event}
use Rattle.naim_core.specs.declared.event.Failure.{Failure}
use Rattle.naim_core.specs.declared.event.Failure.TheVariants as failure
use Rattle.naim_core.specs.declared.pool.Pool.{Pool}
use Rattle.naim_core.specs.declared.state.Hand.{Hand}
use Rattle.list_laws.proofs.Entries.{same_number}
use Rattle.naim_loader.specs.Calls.{Fails, brought}
use Rattle.naim_loader.specs.Paged.{Paged, kept_at, Changes, Steps}
use Rattle.one_owner.specs.Alone.{IsAlone, Works}
use Rattle.one_owner.specs.Causes.{PlaceCause, RoomCause}
use Rattle.one_owner.specs.Going.{Keeps, KeepsWritten, Stays, Stops}
use Rattle.one_owner.proofs.Events.{Acts, others_act, workers_act}

pub rose_since : (first then now : ℕ) → first ≤ then → Rose then now → Rose first now
rose_since first then now le rose = omega (arith, le, rose)

pub room_since : (first then now : ℕ) (f : Failure) → first ≤ then → RoomCause then now f → RoomCause first now f
room_since first then now failure.Repository le c = rose_since first then now le c
room_since first then now (failure.Damaged place kept found) le c = c
room_since first then now (failure.Unreadable place) le c = c
room_since first then now (failure.Unfit p) le c = c
room_since first then now (failure.TooSmall p need limit) le c = c
room_since first then now failure.Memory le c = c

-- what stops a room stops a new pool
pub place_cause : (before now p n limit : ℕ) (f : Failure) → RoomCause before now f → PlaceCause before now p n limit f
place_cause before now p n limit failure.Repository c = c
place_cause before now p n limit (failure.Damaged place kept found) c = c
place_cause before now p n limit (failure.Unreadable place) c = c
place_cause before now p n limit (failure.Unfit q) c = c
place_cause before now p n limit (failure.TooSmall q need l) c = absurd c
place_cause before now p n limit failure.Memory c = c

-- what holds of an answer holds so of it
pub ok_so : {X E : Type 0} (P Q : X → Type 0) (r : Result X E) → ((x : X) → P x → Q x) → IfOk r P → IfOk r Q
ok_so P Q (Ok x) f h = f x h
ok_so P Q (Err e) f h = tt

pub err_so : {X E : Type 0} (P Q : E → Type 0) (r : Result X E) → ((e : E) → P e → Q e) → IfErr r P → IfErr r Q
err_so P Q (Ok x) f h = tt
err_so P Q (Err e) f h = f e h

module _ {T B D : Type 0} (faults : D → ℕ) where
  pub stays_itself : (l : Paged T B D) → Stays faults l l
  stays_itself l = record { limit = refl; workers = refl; first = refl; programs = refl; later = (le_refl _) }

  pub keeps_itself : (l : Paged T B D) → Keeps faults l l
  keeps_itself l = record { stays = stays_itself l; kept = λ q. refl; used = refl; insertions = refl }

  pub stays_on : (a b c : Paged T B D) → Stays faults a b → Stays faults b c → Stays faults a c
  stays_on a b c x y = record {
    limit = y.limit ∙ x.limit;
    workers = y.workers ∙ x.workers;
    first = y.first ∙ x.first;
    programs = y.programs ∙ x.programs;
    later
        = le_trans x.later y.later;
  }

  pub keeps_on : (a b c : Paged T B D) → Keeps faults a b → Keeps faults b c → Keeps faults a c
  keeps_on a b c x y = record {
    stays = stays_on a b c x.stays y.stays;
    kept = λ q. y.kept q ∙ x.kept q;
    used = y.used ∙ x.used;
    insertions = y.insertions ∙
        x.insertions;
  }

  -- an event of one pool keeps all pools
  pub keeps_step : (a b : Paged T B D) (e : Event) (p : ℕ) (x y : Pool) (h : Hand → Hand) (d : Option ℕ) (g : Hand) → Steps a e b → Acts a.core b.core p x y h d
      → IsAlone a.core g → Keeps faults a b
  keeps_step a b e p x y h d g t act o = record {
    stays = record {
      limit = act.limit;
      workers = workers_act a.core b.core p x y h d g act o;
      first = ap (λ z. z.first) t.same;
      programs = ap (λ z. z.trail.programs) t.same;
      later = subst (λ z. faults a.disk ≤ faults z) (sym (ap (λ z. z.disk) t.same)) (le_refl _);
    };
    kept = λ q. ap (λ z. kept_at z q) t.same;
    used = act.swap.count;
    insertions = ap (λ z. z.trail.insertions) t.same;
  }

  -- and what is written, where that pool isn't
  pub written_step : (a b : Paged T B D) (p : ℕ) (x y : Pool) (h : Hand → Hand) (d : Option ℕ) → Acts a.core b.core p x y h d → is_written x.stage ≡ false
      → KeepsWritten a b
  written_step a b p x y h d act none q z at w = by (nat_eq p q) refl
    where
      by : (v : Bool) → nat_eq p q ≡ v → pool_at b.core.pools q ≡ Some z
      by true t =
          (let here : pool_at a.core.pools q ≡ Some x = ap (pool_at a.core.pools) (sym (same_number p q t)) ∙ act.at in
          let same : x ≡ z = same_Some x z (sym here ∙ at) in
          let q : false ≡ true = sym none ∙ ap (λ v. is_written v.stage) same ∙ w in absurd cc)
      by false t = others_act a.core b.core p q x y h d act t ∙ at

  pub written_on : (a b c : Paged T B D) → KeepsWritten a b → KeepsWritten b c → KeepsWritten a c
  written_on a b c f g q x at w = g q x (f q x at w) w

  -- and so does one with which the disk comes home, as far as what is kept of pools is the same
  pub stays_change : (a b : Paged T B D) (e : Event) (p : ℕ) (x y : Pool) (h : Hand → Hand) (d : Option ℕ) (g : Hand) → Changes a e b
      → Acts a.core b.core p x y h d → IsAlone a.core g → faults a.disk ≤ faults b.disk → Stays faults a b
  stays_change a b e p x y h d g t act o later = record {
    limit = act.limit;
    workers = workers_act a.core b.core p x y h d g act o;
    first = ap (λ z. z.first) t.same;
    programs = ap (λ z. z.trail.programs) t.same;
    later = later;
  }

  pub insertions_change : (a b : Paged T B D) (e : Event) → Changes a e b → b.trail.insertions ≡ a.trail.insertions
  insertions_change a b e t = ap (λ z. z.trail.insertions) t.same

  kept_brought : (l : Paged T B D) (o : Option D) (q : ℕ) → kept_at (brought l o) q ≡ kept_at l q
  kept_brought l None q = refl
  kept_brought l (Some d) q = refl

  core_brought : (l : Paged T B D) (o : Option D) → (brought l o).core ≡ l.core
  core_brought l None = refl
  core_brought l (Some d) = refl

  first_brought : (l : Paged T B D) (o : Option D) → (brought l o).first ≡ l.first
  first_brought l None = refl
  first_brought l (Some d) = refl

  trail_brought : (l : Paged T B D) (o : Option D) → (brought l o).trail ≡ l.trail
  trail_brought l None = refl
  trail_brought l (Some d) = refl

  -- a failure that is told while none is kept
  pub fails_stop : (C : Failure → Type 0) (a b : Paged T B D) (o : Option D) (f : Failure) → a.core.failure ≡ None → (brought a o).home ≡ true
      → faults a.disk ≤ faults (brought a o).disk → C f → Fails (brought a o) 0 f b → Stops faults C a b f
  fails_stop C a b o f none home later cause t = record {
    kept = ap (λ z. z.core.failure) t.same ∙ ap (λ s. option_map_or (λ kept. Some kept) s.failure (Some f)) (core_brought a o) ∙ ap
        (λ z. option_map_or (λ kept. Some kept) z (Some f)) none;
    home = ap (λ z. z.home) t.same ∙ home;
    keeps = record {
      stays = record {
        limit = ap (λ z. z.core.limit) t.same ∙ ap (λ s. s.limit) (core_brought a o);
        workers = ap (λ z. length z.core.hands) t.same ∙ ap (λ s. length s.hands) (core_brought a o);
        first = ap (λ z. z.first) t.same ∙ first_brought a o;
        programs = ap (λ z. z.trail.programs) t.same ∙ ap (λ z. z.programs) (trail_brought a o);
        later = subst (λ z. faults a.disk ≤ faults z) (sym (ap (λ z. z.disk) t.same)) later;
      };
      kept = λ q. ap (λ z. kept_at z q) t.same ∙ kept_brought a o q;
      used = ap (λ z. length z.core.pools) t.same ∙ ap (λ s. length s.pools) (core_brought a o);
      insertions = ap (λ z. z.trail.insertions) t.same ∙ ap (λ z. z.insertions) (trail_brought a o);
    };
    cause = cause;
  }

  -- where the disk is at home
  pub rest_stops : (C : Failure → Type 0) (a b : Paged T B D) (h : Hand) (f : Failure) → Works a h → C f → Fails a 0 f b → Stops faults C a b f
  rest_stops C a b h f w cause t = fails_stop C a b None f w.running w.home (le_refl _) cause t

  -- a failure after a part that kept all pools
  pub stops_on : (C C' : Failure → Type 0) (a b c : Paged T B D) (f : Failure) → Keeps faults a b → (C f → C' f) → Stops faults C b c f → Stops faults C' a c f
  stops_on C C' a b c f k cause s = record { kept = s.kept; home = s.home; keeps = keeps_on a b c k s.keeps; cause = cause s.cause }

  pub room_stops : (a b c : Paged T B D) (f : Failure) → Keeps faults a b → Stops faults (RoomCause (faults b.disk) (faults c.disk)) b c f
      → Stops faults (RoomCause (faults a.disk) (faults c.disk)) a c f
  room_stops a b c f k s = stops_on (RoomCause (faults b.disk) (faults c.disk)) (RoomCause (faults a.disk) (faults c.disk)) a b c f k
      (room_since (faults a.disk) (faults b.disk) (faults c.disk) f k.stays.later) s
