-- No event changes the limit or the number of workers; records lie apart.
use Rattle.std.proofs.Common.{◌≡◌, ℕ, ◌+◌, ◌*◌, ◌<◌, ◌≤◌, Bool, true, false, nat_eq, [], ◌∷◌, ◌++◌, drop, length, Some, None, Ok}
use Rattle.std.proofs.Common.{Err, Result, refl, sym, subst, arith, inl, inr}
use Rattle.std.specs.Prelude.{slice_get, slice_set, MatchResult, is_some, ◌&&◌, not, if◌then◌else◌}
use Rattle.std.specs.Map.{remove_entry}
use Rattle.std.specs.Option.{option_map_or}
use Rattle.std.proofs.Math.Nat.{mul-le-mul_right}
use Rattle.std.proofs.lemmas.Bool.{cases_lt}
use Rattle.std.proofs.lemmas.List.{length-set}
use Rattle.naim_core.specs.Charges.{under_sum}
use Rattle.naim_core.specs.Rows
use Rattle.naim_core.specs.Sound.{IsSound, RecordsApart}
use Rattle.naim_core.specs.State.{Core, pool_at, hand_at, holds, victim, is_offloaded, moves_by_disk}
use Rattle.naim_core.specs.Steps.{permit, front, in_place, take_pin, then_state, on_pool, Follows, step_of, step_running, is_fail}
use Rattle.naim_core.specs.declared.event.Event.{Event}
use Rattle.naim_core.specs.declared.event.Event.TheVariants as event
use Rattle.naim_core.specs.declared.event.Refusal.{Refusal}
use Rattle.naim_core.specs.declared.event.Refusal.TheVariants.{Absent, Stopped}
use Rattle.naim_core.specs.declared.pool.Pool.{Pool}
use Rattle.naim_core.specs.declared.pool.Stage.TheVariants as stage
use Rattle.naim_core.specs.declared.state.Hand.{Hand}

-- the new state has the limit and as many hands
pub record Keeps (s t : Core) : Type 0 where
  pub limit : t.limit ≡ s.limit
  pub workers : length t.hands ≡ length s.hands

-- where the definition answers a state, it keeps them
abbrev OnState : Core → Result Core Refusal → Type 0
OnState s r = MatchResult r (Keeps s) (λ _. Unit {0})

permitted : (s t : Core) (row : Rows.Row) → Keeps s t → OnState s (permit row t)
permitted s t [] k = k
permitted s t ((true, r) ∷ row) k = tt
permitted s t ((false, r) ∷ row) k = permitted s t row k

changed_to : {X : Type 0} (s : Core) (row : Rows.Row) (x : X) (f : X → Core) → ((y : X) → Keeps s (f y)) → OnState s (then_state (permit row x) f)
changed_to s [] x f k = k x
changed_to s ((true, r) ∷ row) x f k = tt
changed_to s ((false, r) ∷ row) x f k = changed_to s row x f k

found_then : (s : Core) (p : ℕ) (f : Pool → Result Core Refusal) → ((x : Pool) → OnState s (f x)) → OnState s (on_pool s p f)
found_then s p f k = elim (pool_at s.pools p) as (λ o. OnState s (option_map_or f o (Err Absent))) [ Some x ↦ k x | None ↦ tt ]

one_hand : (s : Core) (w : ℕ) (h : Hand) → length (slice_set s.hands w h) ≡ length s.hands
one_hand s w h = length-set s.hands w h

running_keeps : (s : Core) (e : Event) → OnState s (step_running s e)
running_keeps s (event.Insert p f e c) = changed_to s (Rows.insert_row s.limit (under_sum s.pools) (is_some (pool_at s.pools p)) (length s.pools) f e c)
    (Rows.inserted f e c) (λ x. record s { pools = (p, x) ∷ s.pools }) (λ y. record { limit = refl; workers = refl })
running_keeps s (event.Remove p) = found_then s p (λ x. permit (Rows.remove_row x s.in_wave) (record s { pools = remove_entry (nat_eq p) s.pools }))
    (λ x. permitted s (record s { pools = remove_entry (nat_eq p) s.pools }) (Rows.remove_row x s.in_wave) (record { limit = refl; workers = refl }))
running_keeps s (event.BeginWave tasks) = permitted s (record s { in_wave = true; tasks = tasks; unclaimed = tasks; done = [] })
    (Rows.begin_wave_row s.pools s.hands s.in_wave tasks) (record { limit = refl; workers = refl })
running_keeps s event.EndWave = permitted s (record s { in_wave = false; tasks = []; unclaimed = []; done = [] })
    (Rows.end_wave_row s.hands s.in_wave s.tasks s.done) (record { limit = refl; workers = refl })
running_keeps s (event.Claim w) = permitted s (record s {
  hands = slice_set s.hands w (record (hand_at s.hands w) { task = slice_get s.unclaimed 0 });
  unclaimed
      = drop 1 s.unclaimed;
}) (Rows.claim_row (hand_at s.hands w) s.unclaimed)
    (record { limit = refl; workers = one_hand s w (record (hand_at s.hands w) { task = slice_get s.unclaimed 0 }) })
running_keeps s (event.PinRead w p) = found_then s p (λ x. then_state
    (permit (Rows.pin_read_row x (hand_at s.hands w)) (record x { stage = Rows.with_reader x.stage }))
    (λ y. record s { pools = front p y s.pools; hands = slice_set s.hands w (record (hand_at s.hands w) { read = Some p }); disk = s.disk }))
    (λ x. changed_to s (Rows.pin_read_row x (hand_at s.hands w)) (record x { stage = Rows.with_reader x.stage })
    (λ y. record s { pools = front p y s.pools; hands = slice_set s.hands w (record (hand_at s.hands w) { read = Some p }); disk = s.disk })
    (λ y. record { limit = refl; workers = one_hand s w (record (hand_at s.hands w) { read = Some p }) }))
running_keeps s (event.PinWrite w p room) = found_then s p (λ x. then_state
    (permit (Rows.pin_write_row x (hand_at s.hands w) s.in_wave p room) (record x { stage = stage.Written room }))
    (λ y. record s { pools = front p y s.pools; hands = slice_set s.hands w (record (hand_at s.hands w) { written = Some p }); disk = s.disk }))
    (λ x. changed_to s (Rows.pin_write_row x (hand_at s.hands w) s.in_wave p room) (record x { stage = stage.Written room })
    (λ y. record s { pools = front p y s.pools; hands = slice_set s.hands w (record (hand_at s.hands w) { written = Some p }); disk = s.disk })
    (λ y. record { limit = refl; workers = one_hand s w (record (hand_at s.hands w) { written = Some p }) }))
running_keeps s (event.ReloadBegin w p m) = found_then s p (λ x. then_state
    (permit (Rows.reload_begin_row x (hand_at s.hands w) s.in_wave p m s.disk) (record x { stage = stage.Reloading m (is_offloaded x.stage) }))
    (λ y. record s {
      pools = in_place p y s.pools;
      hands = slice_set s.hands w (take_pin m p (hand_at s.hands w));
      disk = if is_offloaded x.stage then Some w
          else s.disk;
    })) (λ x. changed_to s (Rows.reload_begin_row x (hand_at s.hands w) s.in_wave p m s.disk)
    (record x { stage = stage.Reloading m (is_offloaded x.stage) })
    (λ y. record s {
      pools = in_place p y s.pools;
      hands = slice_set s.hands w (take_pin m p (hand_at s.hands w));
      disk = if is_offloaded x.stage then Some w
          else s.disk;
    }) (λ y. record { limit = refl; workers = one_hand s w (take_pin m p (hand_at s.hands w)) }))
running_keeps s (event.ReloadEnd w p) = found_then s p (λ x. then_state
    (permit (Rows.reload_end_row x (hand_at s.hands w) p) (record x { stage = Rows.reloaded x.stage }))
    (λ y. record s {
      pools = front p y s.pools;
      hands = slice_set s.hands w (record (hand_at s.hands w) { moved = None });
      disk = if moves_by_disk x.stage
          then None else s.disk;
    })) (λ x. changed_to s (Rows.reload_end_row x (hand_at s.hands w) p) (record x { stage = Rows.reloaded x.stage })
    (λ y. record s {
      pools = front p y s.pools;
      hands = slice_set s.hands w (record (hand_at s.hands w) { moved = None });
      disk = if moves_by_disk x.stage
          then None else s.disk;
    }) (λ y. record { limit = refl; workers = one_hand s w (record (hand_at s.hands w) { moved = None }) }))
running_keeps s (event.UnpinRead w p f) = found_then s p (λ x. then_state
    (permit (Rows.unpin_read_row s.limit (under_sum s.pools) x (hand_at s.hands w) p f) (record x { stage = Rows.without_reader f x.stage }))
    (λ y. record s { pools = front p y s.pools; hands = slice_set s.hands w (record (hand_at s.hands w) { read = None }); disk = s.disk }))
    (λ x. changed_to s (Rows.unpin_read_row s.limit (under_sum s.pools) x (hand_at s.hands w) p f) (record x { stage = Rows.without_reader f x.stage })
    (λ y. record s { pools = front p y s.pools; hands = slice_set s.hands w (record (hand_at s.hands w) { read = None }); disk = s.disk })
    (λ y. record { limit = refl; workers = one_hand s w (record (hand_at s.hands w) { read = None }) }))
running_keeps s (event.CompactBegin w p wanted) = found_then s p
    (λ x. then_state (permit (Rows.compact_begin_row s.limit (under_sum s.pools) (victim s.pools) x (hand_at s.hands w) p wanted)
    (record x { stage = stage.Compacting })) (λ y. record s {
      pools = in_place p y s.pools;
      hands = slice_set s.hands w
          (record (hand_at s.hands w) { moved = Some p });
      disk = s.disk;
    }))
    (λ x. changed_to s (Rows.compact_begin_row s.limit (under_sum s.pools) (victim s.pools) x (hand_at s.hands w) p wanted)
    (record x { stage = stage.Compacting }) (λ y. record s {
      pools = in_place p y s.pools;
      hands = slice_set s.hands w
          (record (hand_at s.hands w) { moved = Some p });
      disk = s.disk;
    })
    (λ y. record { limit = refl; workers = one_hand s w (record (hand_at s.hands w) { moved = Some p }) }))
running_keeps s (event.CompactEnd w p) = found_then s p (λ x. then_state
    (permit (Rows.compact_end_row x (hand_at s.hands w) p) (record x { stage = stage.Compacted }))
    (λ y. record s { pools = in_place p y s.pools; hands = slice_set s.hands w (record (hand_at s.hands w) { moved = None }); disk = s.disk }))
    (λ x. changed_to s (Rows.compact_end_row x (hand_at s.hands w) p) (record x { stage = stage.Compacted })
    (λ y. record s { pools = in_place p y s.pools; hands = slice_set s.hands w (record (hand_at s.hands w) { moved = None }); disk = s.disk })
    (λ y. record { limit = refl; workers = one_hand s w (record (hand_at s.hands w) { moved = None }) }))
running_keeps s (event.OffloadBegin w p wanted) = found_then s p
    (λ x. then_state (permit (Rows.offload_begin_row s.limit (under_sum s.pools) (victim s.pools) x (hand_at s.hands w) p wanted s.disk)
    (record x { stage = stage.Offloading })) (λ y. record s {
      pools = in_place p y s.pools;
      hands = slice_set s.hands w
          (record (hand_at s.hands w) { moved = Some p });
      disk = Some w;
    }))
    (λ x. changed_to s (Rows.offload_begin_row s.limit (under_sum s.pools) (victim s.pools) x (hand_at s.hands w) p wanted s.disk)
    (record x { stage = stage.Offloading }) (λ y. record s {
      pools = in_place p y s.pools;
      hands = slice_set s.hands w
          (record (hand_at s.hands w) { moved = Some p });
      disk = Some w;
    })
    (λ y. record { limit = refl; workers = one_hand s w (record (hand_at s.hands w) { moved = Some p }) }))
running_keeps s (event.OffloadEnd w p) = found_then s p (λ x. then_state
    (permit (Rows.offload_end_row x (hand_at s.hands w) p) (record x { stage = stage.Offloaded }))
    (λ y. record s { pools = in_place p y s.pools; hands = slice_set s.hands w (record (hand_at s.hands w) { moved = None }); disk = None }))
    (λ x. changed_to s (Rows.offload_end_row x (hand_at s.hands w) p) (record x { stage = stage.Offloaded })
    (λ y. record s { pools = in_place p y s.pools; hands = slice_set s.hands w (record (hand_at s.hands w) { moved = None }); disk = None })
    (λ y. record { limit = refl; workers = one_hand s w (record (hand_at s.hands w) { moved = None }) }))
running_keeps s (event.UnpinWrite w p f e c) = found_then s p
    (λ x. then_state (permit (Rows.unpin_write_row s.limit (under_sum s.pools) x (hand_at s.hands w) p f e c) (Rows.inserted f e c))
    (λ y. record s {
      pools = front p y s.pools;
      hands = slice_set s.hands w
          (record (hand_at s.hands w) { written = None; task = if holds (hand_at s.hands w).task p then None else (hand_at s.hands w).task });
      disk = s.disk;
      done =
          if holds (hand_at s.hands w).task p then s.done ++ p ∷ [] else s.done;
    }))
    (λ x. changed_to s (Rows.unpin_write_row s.limit (under_sum s.pools) x (hand_at s.hands w) p f e c) (Rows.inserted f e c)
    (λ y. record s {
      pools = front p y s.pools;
      hands = slice_set s.hands w
          (record (hand_at s.hands w) { written = None; task = if holds (hand_at s.hands w).task p then None else (hand_at s.hands w).task });
      disk = s.disk;
      done =
          if holds (hand_at s.hands w).task p then s.done ++ p ∷ [] else s.done;
    })
    (λ y. record {
      limit = refl;
      workers = one_hand s w (record (hand_at s.hands w)
          { written = None; task = if holds (hand_at s.hands w).task p then None else (hand_at s.hands w).task });
    }))
running_keeps s (event.Fail w f) = record { limit = refl; workers = refl }

step_keeps : (s : Core) (e : Event) → OnState s (step_of s e)
step_keeps s e = by_stop (is_some s.failure && not (is_fail e))
  where
    by_stop : (b : Bool) → OnState s (if b then Err Stopped else step_running s e)
    by_stop true = tt
    by_stop false = running_keeps s e

-- whatever the answer
pub follows_keeps : (s : Core) (e : Event) (answer : Result (Unit {0}) Refusal) (new : Core) → Follows (step_of s e) s answer new → Keeps s new
follows_keeps s e answer new f = by_answer (step_of s e) (step_keeps s e) f
  where
    by_answer : (r : Result Core Refusal) → OnState s r → Follows r s answer new → Keeps s new
    by_answer (Ok t) k g = subst (Keeps s) (sym g.1) k
    by_answer (Err r) k g = subst (Keeps s) (sym g.1) (record { limit = refl; workers = refl })

-- of two records, that of the smaller PID ends before the other begins
record_before : (limit p q c : ℕ) → p < q → c ≤ limit → p * limit + c ≤ q * limit
record_before limit p q c below short = let m : (p + 1) * limit ≤ q * limit = mul-le-mul_right limit (omega arith) in grind arith

pub records_apart : (s : Core) → IsSound s → RecordsApart s
records_apart s sound p q x y other at there has also = elim (cases_lt p q) [
  | inl below ↦ inl (record_before s.limit p q x.c below (sound.forms_fit p x at).within)
  | inr above ↦ inr (record_before s.limit q p y.c (omega arith) (sound.forms_fit q y there).within)
]
