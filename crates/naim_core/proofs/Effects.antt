-- What an accepted event of one pool leaves, for crates that keep more of each pool.
use Rattle.std.proofs.Common.{◌≡◌, ℕ, Bool, true, false, cond, not, nat_eq, [], ◌∷◌, ◌++◌, length, Option}
use Rattle.std.proofs.Common.{Some, None, Result, Ok, Err, refl, sym, ap, subst, ◌∙◌}
use Rattle.std.specs.Prelude.{is_some, slice_set, ◌&&◌, ◌||◌, if◌then◌else◌}
use Rattle.std.specs.Cmp.{nat_eq_equiv}
use Rattle.std.specs.Option.{option_map_or}
use Rattle.std.specs.Map.{remove_entry}
use Rattle.naim_core.specs.Charges.{under_sum}
use Rattle.naim_core.specs.Rows
use Rattle.naim_core.specs.Sound.{IsSound}
use Rattle.naim_core.specs.State.{Core, pool_at, hand_at, holds, victim, is_expanded, is_read, is_written, is_pinned}
use Rattle.naim_core.specs.State.{is_offloaded, is_away, is_compacting, is_offloading, is_reloading, is_moving, moves_by_disk}
use Rattle.naim_core.specs.Steps.{permit, then_state, on_pool, front, in_place, take_pin, Follows, step_of, step_running, is_fail}
use Rattle.naim_core.specs.declared.event.Event.{Event}
use Rattle.naim_core.specs.declared.event.Event.TheVariants as event
use Rattle.naim_core.specs.declared.event.Failure.{Failure}
use Rattle.naim_core.specs.declared.event.Form.{Form}
use Rattle.naim_core.specs.declared.event.Mode.{Mode}
use Rattle.naim_core.specs.declared.event.Refusal.{Refusal}
use Rattle.naim_core.specs.declared.event.Refusal.TheVariants.{Stopped, Absent, NotHeld, HandFull, NoTask, Moving, WrongForm, InUse, DiskOut}
use Rattle.naim_core.specs.declared.pool.Pool.{Pool}
use Rattle.naim_core.specs.declared.pool.Stage.{Stage}
use Rattle.naim_core.specs.declared.pool.Stage.TheVariants as stage
use Rattle.naim_core.proofs.Keeps.{Swapped, swapped_front, swapped_in_place}
use Rattle.list_laws.proofs.Entries.{lookup_removed}

-- what an answer tells of the step
pub follows_ok : (st : Result Core Refusal) (old new : Core) → Follows st old (Ok tt) new → st ≡ Ok new
follows_ok (Ok t) old new f = ap (λ z. Ok z) (sym f.1)
follows_ok (Err x) old new f = let h = f.0 in cc

pub follows_err : (st : Result Core Refusal) (old new : Core) (r : Refusal) → Follows st old (Err r) new → (new ≡ old) × (st ≡ Err r)
follows_err (Ok t) old new r f = let h = f.0 in cc
follows_err (Err x) old new r f = let h : x ≡ r = (let e = f.0 in cc) in (f.1, ap (λ z. Err z) h)

-- an answer that isn't Ok leaves the state
pub follows_none : (st : Result Core Refusal) (old new : Core) (r : Result (Unit {0}) Refusal) → Follows st old r new → ((u : Unit {0}) → r ≡ Ok u → ⊥)
    → new ≡ old
follows_none (Ok t) old new r f n = absurd (n tt f.0)
follows_none (Err x) old new r f n = f.1

pub running : (s : Core) (e : Event) → s.failure ≡ None → step_of s e ≡ step_running s e
running s e none = rw none refl

-- with a failure kept, nothing but another failure is taken
pub stopped : (s : Core) (e : Event) → is_some s.failure ≡ true → is_fail e ≡ false → step_of s e ≡ Err Stopped
stopped s e kept other = rw (kept, other) refl

pub no_failure : (o : Option Failure) → is_some o ≡ false → o ≡ None
no_failure None h = refl
no_failure (Some f) h = cc

permit_gives : {X : Type 0} (row : Rows.Row) (x y : X) → permit row x ≡ Ok y → x ≡ y
permit_gives [] x y h = cc
permit_gives ((true, r) ∷ row) x y h = cc
permit_gives ((false, r) ∷ row) x y h = permit_gives row x y h

-- the first part of a row that is permitted doesn't fail
part : {X : Type 0} (b : Bool) (r : Refusal) (rest : Result X Refusal) (y : X) → (if b then Err r else rest) ≡ Ok y → (b ≡ false) × (rest ≡ Ok y)
part true r rest y h = cc
part false r rest y h = (refl, h)

both_of : (a b : Bool) → not (a && b) ≡ false → (a ≡ true) × (b ≡ true)
both_of true true h = (refl, refl)
both_of true false h = cc
both_of false b h = cc

neither : (a b : Bool) → (a || b) ≡ false → (a ≡ false) × (b ≡ false)
neither false false h = (refl, refl)
neither true b h = cc
neither false true h = cc

-- What an event of the pool p leaves: p is y, or gone, the disk is with `disk`, and nothing else of the pools has changed.
pub record Turned (s new : Core) (p : ℕ) (y : Option Pool) (disk : Option ℕ) : Type 0 where
  pub limit_is : new.limit ≡ s.limit
  pub failure_is : new.failure ≡ s.failure
  pub disk_is : new.disk ≡ disk
  pub found : (q : ℕ) → pool_at new.pools q ≡ cond (nat_eq p q) y (pool_at s.pools q)

-- The pool p was there at a stage that the event takes, and became another.
pub record Did (s new : Core) (p : ℕ) (Was : Stage → Type 0) (becomes : Pool → Pool) (disk : Pool → Option ℕ) : Type 0 where
  pub pool : Pool
  pub at : pool_at s.pools p ≡ Some pool
  pub was : Was pool.stage
  pub turned : Turned s new p (Some (becomes pool)) (disk pool)

-- a permitted event on a pool
record OnPool (s : Core) (p : ℕ) (row : Pool → Rows.Row) (f : Pool → Pool) (g : Pool → Pool → Core) (new : Core) : Type 0 where
  pool : Pool
  at : pool_at s.pools p ≡ Some pool
  permitted : permit (row pool) (f pool) ≡ Ok (f pool)
  is : new ≡ g pool (f pool)

on_this : (s : Core) (p : ℕ) (x : Pool) (row : Pool → Rows.Row) (f : Pool → Pool) (g : Pool → Pool → Core) (new : Core) (r : Result Pool Refusal)
    → pool_at s.pools p ≡ Some x → permit (row x) (f x) ≡ r
    → then_state r (λ y. g x y) ≡ Ok new → OnPool s p row f g new
on_this s p x row f g new (Ok y) at e h =
    let same = permit_gives (row x) (f x) y e in let n : g x y ≡ new = cc in
    record { pool = x; at = at; permitted = e ∙ ap (λ z. Ok z) (sym same); is = sym n ∙ ap (λ z. g x z) (sym same) }
on_this s p x row f g new (Err r) at e h = cc

on_found : (s : Core) (p : ℕ) (row : Pool → Rows.Row) (f : Pool → Pool) (g : Pool → Pool → Core) (new : Core) (o : Option Pool) → pool_at s.pools p ≡ o
    → option_map_or (λ x. then_state (permit (row x) (f x)) (λ y. g x y)) o (Err Absent) ≡ Ok new → OnPool s p row f g new
on_found s p row f g new None at h = cc
on_found s p row f g new (Some x) at h = on_this s p x row f g new (permit (row x) (f x)) at refl h

did_on : (s : Core) (p : ℕ) (row : Pool → Rows.Row) (f : Pool → Pool) (g : Pool → Pool → Core) (new : Core)
    → on_pool s p (λ x. then_state (permit (row x) (f x)) (λ y. g x y)) ≡ Ok new → OnPool s p row f g new
did_on s p row f g new h = on_found s p row f g new (pool_at s.pools p) refl h

turned_to : (s t new : Core) (p : ℕ) (x y : Pool) → Swapped p x y s.pools t.pools → t.limit ≡ s.limit → t.failure ≡ s.failure → new ≡ t
    → Turned s new p (Some y) t.disk
turned_to s t new p x y swap l f is = subst (λ z. Turned s z p (Some y) t.disk) (sym is)
    (record { limit_is = l; failure_is = f; disk_is = refl; found = swap.found })

pub insert_did : (s new : Core) (p : ℕ) (f : Form) (e c : ℕ) → s.failure ≡ None → step_of s (event.Insert p f e c) ≡ Ok new
    → Turned s new p (Some (Rows.inserted f e c)) s.disk
insert_did s new p f e c none h =
    let row = Rows.insert_row s.limit (under_sum s.pools) (is_some (pool_at s.pools p)) (length s.pools) f e c in
    let t : Core = record s { pools = (p, Rows.inserted f e c) ∷ s.pools } in
    let is : new ≡ t = made row (Rows.inserted f e c) (permit row (Rows.inserted f e c)) refl (sym (running s (event.Insert p f e c) none) ∙ h) in
    subst (λ z. Turned s z p (Some (Rows.inserted f e c)) s.disk) (sym is)
    (record {
      limit_is = refl;
      failure_is = refl;
      disk_is = refl;
      found = λ q. ap (λ b. cond b (Some (Rows.inserted f e c)) (pool_at s.pools q))
          (nat_eq_equiv.symm q p);
    })
  where
    made : (row : Rows.Row) (x : Pool) (r : Result Pool Refusal) → permit row x ≡ r → then_state r (λ y. record s { pools = (p, y) ∷ s.pools }) ≡ Ok new
        → new ≡ record s { pools = (p, x) ∷ s.pools }
    made row x (Ok y) e k = let same = permit_gives row x y e in let n : record s { pools = (p, y) ∷ s.pools } ≡ new = cc in sym n ∙ ap
        (λ z. record s { pools = (p, z) ∷ s.pools }) (sym same)
    made row x (Err r) e k = cc

-- expanded, and nobody writes it
abbrev pub is_shared : Stage → Bool
is_shared stage.Free = true
is_shared (stage.Read readers) = true
is_shared _ = false

shared_of : (st : Stage) → is_moving st ≡ false → is_away st ≡ false → is_written st ≡ false → is_shared st ≡ true
shared_of stage.Free m a w = refl
shared_of (stage.Read readers) m a w = refl
shared_of (stage.Written room) m a w = cc
shared_of stage.Compacted m a w = cc
shared_of stage.Offloaded m a w = cc
shared_of stage.Compacting m a w = cc
shared_of stage.Offloading m a w = cc
shared_of (stage.Reloading m' d) m a w = cc

pub pin_read_did : (s new : Core) (w p : ℕ) → IsSound s → s.failure ≡ None → step_of s (event.PinRead w p) ≡ Ok new
    → Did s new p (λ st. is_shared st ≡ true) (λ x. record x { stage = Rows.with_reader x.stage }) (λ x. s.disk)
pin_read_did s new w p sound none h =
    let g = hand_at s.hands w in
    let d = did_on s p (λ x. Rows.pin_read_row x g) (λ x. record x { stage = Rows.with_reader x.stage })
    (λ x y. record s { pools = front p y s.pools; hands = slice_set s.hands w (record g { read = Some p }) }) new
    (sym (running s (event.PinRead w p) none) ∙ h) in
    let x = d.pool in let y : Pool = record x { stage = Rows.with_reader x.stage } in
    let free = part (is_some g.read) HandFull _ y d.permitted in let still = part (is_moving x.stage) Moving _ y free.1 in
    let here = part (is_away x.stage) WrongForm _ y still.1 in let alone = part (is_written x.stage) InUse _ y here.1 in
    record {
      pool = x;
      at = d.at;
      was = shared_of x.stage still.0 here.0 alone.0;
      turned = turned_to s (record s { pools = front p y s.pools; hands = slice_set s.hands w (record g { read = Some p }) }) new p x y
          (swapped_front p x y s.pools sound.one_pool d.at) refl refl d.is;
    }

free_of : (st : Stage) → is_moving st ≡ false → is_away st ≡ false → is_pinned st ≡ false → st ≡ stage.Free
free_of stage.Free m a w = refl
free_of (stage.Read readers) m a w = cc
free_of (stage.Written room) m a w = cc
free_of stage.Compacted m a w = cc
free_of stage.Offloaded m a w = cc
free_of stage.Compacting m a w = cc
free_of stage.Offloading m a w = cc
free_of (stage.Reloading m' d) m a w = cc

pub pin_write_did : (s new : Core) (w p room : ℕ) → IsSound s → s.failure ≡ None → step_of s (event.PinWrite w p room) ≡ Ok new
    → Did s new p (λ st. st ≡ stage.Free) (λ x. record x { stage = stage.Written room }) (λ x. s.disk)
pin_write_did s new w p room sound none h =
    let g = hand_at s.hands w in
    let d = did_on s p (λ x. Rows.pin_write_row x g s.in_wave p room) (λ x. record x { stage = stage.Written room })
    (λ x y. record s { pools = front p y s.pools; hands = slice_set s.hands w (record g { written = Some p }) }) new
    (sym (running s (event.PinWrite w p room) none) ∙ h) in
    let x = d.pool in let y : Pool = record x { stage = stage.Written room } in
    let free = part (is_some g.written) HandFull _ y d.permitted in let task = part (s.in_wave && not (holds g.task p)) NoTask _ y free.1 in
    let still = part (is_moving x.stage) Moving _ y task.1 in let here = part (is_away x.stage) WrongForm _ y still.1 in let alone = part (is_pinned x.stage)
    InUse _ y here.1 in
    record {
      pool = x;
      at = d.at;
      was = free_of x.stage still.0 here.0 alone.0;
      turned = turned_to s (record s { pools = front p y s.pools; hands = slice_set s.hands w (record g { written = Some p }) }) new p x y
          (swapped_front p x y s.pools sound.one_pool d.at) refl refl d.is;
    }

away_of : (st : Stage) → is_moving st ≡ false → is_expanded st ≡ false → is_away st ≡ true
away_of stage.Free m a = cc
away_of (stage.Read readers) m a = cc
away_of (stage.Written room) m a = cc
away_of stage.Compacted m a = refl
away_of stage.Offloaded m a = refl
away_of stage.Compacting m a = cc
away_of stage.Offloading m a = cc
away_of (stage.Reloading m' d) m a = cc

home_of : (st : Stage) (disk : Option ℕ) → (is_offloaded st && is_some disk) ≡ false → st ≡ stage.Offloaded → disk ≡ None
home_of st None h e = refl
home_of st (Some w) h e = (let k : (is_offloaded st && true) ≡ true = ap (λ z. is_offloaded z && true) e in cc)

-- a pool that is away is on its way; from the disk, which was home, with the disk
pub reload_begin_did : (s new : Core) (w p : ℕ) (m : Mode) → IsSound s → s.failure ≡ None → step_of s (event.ReloadBegin w p m) ≡ Ok new
    → Did s new p (λ st. (is_away st ≡ true) × (st ≡ stage.Offloaded → s.disk ≡ None)) (λ x. record x { stage = stage.Reloading m (is_offloaded x.stage) })
    (λ x. if is_offloaded x.stage then Some w else s.disk)
reload_begin_did s new w p m sound none h =
    let g = hand_at s.hands w in
    let d = did_on s p (λ x. Rows.reload_begin_row x g s.in_wave p m s.disk) (λ x. record x { stage = stage.Reloading m (is_offloaded x.stage) })
    (λ x y. record s { pools = in_place p y s.pools; hands = slice_set s.hands w (take_pin m p g); disk = if is_offloaded x.stage then Some w else s.disk }) new
    (sym (running s (event.ReloadBegin w p m) none) ∙ h) in
    let x = d.pool in let y : Pool = record x { stage = stage.Reloading m (is_offloaded x.stage) } in
    let free = part (is_some g.moved || is_some (Rows.pin_place m g)) HandFull _ y d.permitted in let task = part
    (Rows.is_write m && s.in_wave && not (holds g.task p)) NoTask _ y free.1 in
    let still = part (is_moving x.stage) Moving _ y task.1 in let here = part (is_expanded x.stage) WrongForm _ y still.1 in let home = part
    (is_offloaded x.stage && is_some s.disk) DiskOut _ y here.1 in
    record {
      pool = x;
      at = d.at;
      was = (away_of x.stage still.0 here.0, home_of x.stage s.disk home.0);
      turned = turned_to s (record s {
        pools = in_place p y s.pools;
        hands = slice_set s.hands w (take_pin m p g);
        disk = if is_offloaded x.stage then Some w
            else s.disk;
      }) new p x y (swapped_in_place p x y s.pools sound.one_pool d.at) refl refl d.is;
    }

pub reload_end_did : (s new : Core) (w p : ℕ) → IsSound s → s.failure ≡ None → step_of s (event.ReloadEnd w p) ≡ Ok new
    → Did s new p (λ st. is_reloading st ≡ true) (λ x. record x { stage = Rows.reloaded x.stage }) (λ x. if moves_by_disk x.stage then None else s.disk)
reload_end_did s new w p sound none h =
    let g = hand_at s.hands w in
    let d = did_on s p (λ x. Rows.reload_end_row x g p) (λ x. record x { stage = Rows.reloaded x.stage })
    (λ x y. record s {
      pools = front p y s.pools;
      hands = slice_set s.hands w (record g { moved = None });
      disk = if moves_by_disk x.stage then None else s.disk;
    }) new
    (sym (running s (event.ReloadEnd w p) none) ∙ h) in
    let x = d.pool in let y : Pool = record x { stage = Rows.reloaded x.stage } in
    let held = part (not (holds g.moved p && is_reloading x.stage)) NotHeld _ y d.permitted in
    record {
      pool = x;
      at = d.at;
      was = (both_of (holds g.moved p) (is_reloading x.stage) held.0).1;
      turned = turned_to s (record s {
        pools = front p y s.pools;
        hands = slice_set s.hands w (record g { moved = None });
        disk = if moves_by_disk x.stage
            then None else s.disk;
      }) new p x y (swapped_front p x y s.pools sound.one_pool d.at) refl refl d.is;
    }

pub unpin_read_did : (s new : Core) (w p : ℕ) (f : Form) → IsSound s → s.failure ≡ None → step_of s (event.UnpinRead w p f) ≡ Ok new
    → Did s new p (λ st. is_read st ≡ true) (λ x. record x { stage = Rows.without_reader f x.stage }) (λ x. s.disk)
unpin_read_did s new w p f sound none h =
    let g = hand_at s.hands w in
    let d = did_on s p (λ x. Rows.unpin_read_row s.limit (under_sum s.pools) x g p f) (λ x. record x { stage = Rows.without_reader f x.stage })
    (λ x y. record s { pools = front p y s.pools; hands = slice_set s.hands w (record g { read = None }) }) new
    (sym (running s (event.UnpinRead w p f) none) ∙ h) in
    let x = d.pool in let y : Pool = record x { stage = Rows.without_reader f x.stage } in
    let held = part (not (holds g.read p && is_read x.stage)) NotHeld _ y d.permitted in
    record {
      pool = x;
      at = d.at;
      was = (both_of (holds g.read p) (is_read x.stage) held.0).1;
      turned = turned_to s (record s { pools = front p y s.pools; hands = slice_set s.hands w (record g { read = None }) }) new p x y
          (swapped_front p x y s.pools sound.one_pool d.at) refl refl d.is;
    }

pub unpin_write_did : (s new : Core) (w p : ℕ) (f : Form) (e c : ℕ) → IsSound s → s.failure ≡ None → step_of s (event.UnpinWrite w p f e c) ≡ Ok new
    → Did s new p (λ st. is_written st ≡ true) (λ x. Rows.inserted f e c) (λ x. s.disk)
unpin_write_did s new w p f e c sound none h =
    let g = hand_at s.hands w in
    let after : Pool → Core = λ y. record s {
      pools = front p y s.pools;
      hands = slice_set s.hands w
          (record g { written = None; task = if holds g.task p then None else g.task });
      done = if holds g.task p then s.done ++ p ∷ [] else s.done;
    } in
    let d = did_on s p (λ x. Rows.unpin_write_row s.limit (under_sum s.pools) x g p f e c) (λ x. Rows.inserted f e c) (λ x y. after y) new
    (sym (running s (event.UnpinWrite w p f e c) none) ∙ h) in
    let x = d.pool in let y = Rows.inserted f e c in
    let held = part (not (holds g.written p && is_written x.stage)) NotHeld _ y d.permitted in
    record {
      pool = x;
      at = d.at;
      was = (both_of (holds g.written p) (is_written x.stage) held.0).1;
      turned = turned_to s (after y) new p x y (swapped_front p x y s.pools sound.one_pool d.at) refl refl d.is;
    }

pub compact_end_did : (s new : Core) (w p : ℕ) → IsSound s → s.failure ≡ None → step_of s (event.CompactEnd w p) ≡ Ok new
    → Did s new p (λ st. is_compacting st ≡ true) (λ x. record x { stage = stage.Compacted }) (λ x. s.disk)
compact_end_did s new w p sound none h =
    let g = hand_at s.hands w in
    let d = did_on s p (λ x. Rows.compact_end_row x g p) (λ x. record x { stage = stage.Compacted })
    (λ x y. record s { pools = in_place p y s.pools; hands = slice_set s.hands w (record g { moved = None }) }) new
    (sym (running s (event.CompactEnd w p) none) ∙ h) in
    let x = d.pool in let y : Pool = record x { stage = stage.Compacted } in
    let held = part (not (holds g.moved p && is_compacting x.stage)) NotHeld _ y d.permitted in
    record {
      pool = x;
      at = d.at;
      was = (both_of (holds g.moved p) (is_compacting x.stage) held.0).1;
      turned = turned_to s (record s { pools = in_place p y s.pools; hands = slice_set s.hands w (record g { moved = None }) }) new p x y
          (swapped_in_place p x y s.pools sound.one_pool d.at) refl refl d.is;
    }

pub offload_end_did : (s new : Core) (w p : ℕ) → IsSound s → s.failure ≡ None → step_of s (event.OffloadEnd w p) ≡ Ok new
    → Did s new p (λ st. is_offloading st ≡ true) (λ x. record x { stage = stage.Offloaded }) (λ x. None)
offload_end_did s new w p sound none h =
    let g = hand_at s.hands w in
    let d = did_on s p (λ x. Rows.offload_end_row x g p) (λ x. record x { stage = stage.Offloaded })
    (λ x y. record s { pools = in_place p y s.pools; hands = slice_set s.hands w (record g { moved = None }); disk = None }) new
    (sym (running s (event.OffloadEnd w p) none) ∙ h) in
    let x = d.pool in let y : Pool = record x { stage = stage.Offloaded } in
    let held = part (not (holds g.moved p && is_offloading x.stage)) NotHeld _ y d.permitted in
    record {
      pool = x;
      at = d.at;
      was = (both_of (holds g.moved p) (is_offloading x.stage) held.0).1;
      turned = turned_to s (record s { pools = in_place p y s.pools; hands = slice_set s.hands w (record g { moved = None }); disk = None }) new p x y
          (swapped_in_place p x y s.pools sound.one_pool d.at) refl refl d.is;
    }

-- the victim is expanded and nobody holds it, or compacted
pub compact_begin_did : (s new : Core) (w p wanted : ℕ) → IsSound s → s.failure ≡ None → step_of s (event.CompactBegin w p wanted) ≡ Ok new
    → Did s new p (λ st. is_expanded st ≡ true) (λ x. record x { stage = stage.Compacting }) (λ x. s.disk)
compact_begin_did s new w p wanted sound none h =
    let g = hand_at s.hands w in
    let d = did_on s p (λ x. Rows.compact_begin_row s.limit (under_sum s.pools) (victim s.pools) x g p wanted) (λ x. record x { stage = stage.Compacting })
    (λ x y. record s { pools = in_place p y s.pools; hands = slice_set s.hands w (record g { moved = Some p }) }) new
    (sym (running s (event.CompactBegin w p wanted) none) ∙ h) in
    let x = d.pool in let y : Pool = record x { stage = stage.Compacting } in
    let free = part (is_some g.moved) HandFull _ y d.permitted in let still = part (is_moving x.stage) Moving _ y free.1 in let here = part (is_away x.stage)
    WrongForm _ y still.1 in
    record {
      pool = x;
      at = d.at;
      was = expanded_of x.stage still.0 here.0;
      turned = turned_to s (record s { pools = in_place p y s.pools; hands = slice_set s.hands w (record g { moved = Some p }) }) new p x y
          (swapped_in_place p x y s.pools sound.one_pool d.at) refl refl d.is;
    }
  where
    expanded_of : (st : Stage) → is_moving st ≡ false → is_away st ≡ false → is_expanded st ≡ true
    expanded_of stage.Free m a = refl
    expanded_of (stage.Read readers) m a = refl
    expanded_of (stage.Written room) m a = refl
    expanded_of stage.Compacted m a = cc
    expanded_of stage.Offloaded m a = cc
    expanded_of stage.Compacting m a = cc
    expanded_of stage.Offloading m a = cc
    expanded_of (stage.Reloading m' d) m a = cc

pub offload_begin_did : (s new : Core) (w p wanted : ℕ) → IsSound s → s.failure ≡ None → step_of s (event.OffloadBegin w p wanted) ≡ Ok new
    → Did s new p (λ st. (st ≡ stage.Compacted) × (s.disk ≡ None)) (λ x. record x { stage = stage.Offloading }) (λ x. Some w)
offload_begin_did s new w p wanted sound none h =
    let g = hand_at s.hands w in
    let d = did_on s p (λ x. Rows.offload_begin_row s.limit (under_sum s.pools) (victim s.pools) x g p wanted s.disk)
    (λ x. record x { stage = stage.Offloading }) (λ x y. record s
    { pools = in_place p y s.pools; hands = slice_set s.hands w (record g { moved = Some p }); disk = Some w }) new
    (sym (running s (event.OffloadBegin w p wanted) none) ∙ h) in
    let x = d.pool in let y : Pool = record x { stage = stage.Offloading } in
    let free = part (is_some g.moved) HandFull _ y d.permitted in let still = part (is_moving x.stage) Moving _ y free.1 in let here = part
    (is_expanded x.stage || is_offloaded x.stage) WrongForm _ y still.1 in
    let home = part (is_some s.disk) DiskOut _ y here.1 in
    record {
      pool = x;
      at = d.at;
      was = (
        compacted_of x.stage still.0 (neither (is_expanded x.stage) (is_offloaded x.stage) here.0).0
            (neither (is_expanded x.stage) (is_offloaded x.stage) here.0).1,
        none_of s.disk home.0,
      );
      turned = turned_to s (record s { pools = in_place p y s.pools; hands = slice_set s.hands w (record g { moved = Some p }); disk = Some w }) new p x y
          (swapped_in_place p x y s.pools sound.one_pool d.at) refl refl d.is;
    }
  where
    none_of : (o : Option ℕ) → is_some o ≡ false → o ≡ None
    none_of None h = refl
    none_of (Some f) h = cc

    compacted_of : (st : Stage) → is_moving st ≡ false → is_expanded st ≡ false → is_offloaded st ≡ false → st ≡ stage.Compacted
    compacted_of stage.Free m a o = cc
    compacted_of (stage.Read readers) m a o = cc
    compacted_of (stage.Written room) m a o = cc
    compacted_of stage.Compacted m a o = refl
    compacted_of stage.Offloaded m a o = cc
    compacted_of stage.Compacting m a o = cc
    compacted_of stage.Offloading m a o = cc
    compacted_of (stage.Reloading m' d) m a o = cc

-- a pool that goes
pub remove_did : (s new : Core) (p : ℕ) → IsSound s → s.failure ≡ None → step_of s (event.Remove p) ≡ Ok new → Turned s new p None s.disk
remove_did s new p sound none h = gone (pool_at s.pools p) (sym (running s (event.Remove p) none) ∙ h)
  where
    gone : (o : Option Pool) → option_map_or (λ x. permit (Rows.remove_row x s.in_wave) (record s { pools = remove_entry (nat_eq p) s.pools })) o (Err Absent) ≡
        Ok new → Turned s new p None s.disk
    gone None k = cc
    gone (Some x) k =
        let is = permit_gives (Rows.remove_row x s.in_wave) (record s { pools = remove_entry (nat_eq p) s.pools }) new k in
        subst (λ z. Turned s z p None s.disk) is (record {
          limit_is = refl;
          failure_is = refl;
          disk_is = refl;
          found = λ q. lookup_removed p q s.pools
              sound.one_pool;
        })
