-- What an event of worker 0 on one pool leaves.
use Rattle.std.proofs.Common.{◌≡◌, ℕ, true, false, cond, nat_eq, List, [], ◌∷◌, ◌++◌, length, Option, Some, None, Result, Ok, Err, refl, sym, ap, subst, ◌∙◌}
use Rattle.std.specs.Prelude.{slice_set, if◌then◌else◌}
use Rattle.naim_core.specs.Charges.{under_sum}
use Rattle.naim_core.specs.Rows
use Rattle.naim_core.specs.Sound.{IsSound}
use Rattle.naim_core.specs.State.{Core, pool_at, hand_at, holds, victim, is_offloaded, moves_by_disk}
use Rattle.naim_core.specs.Steps.{front, in_place, on_pool, permit, step_of, take_pin, then_state}
use Rattle.naim_core.specs.declared.event.Event.TheVariants as event
use Rattle.naim_core.specs.declared.event.Form.{Form}
use Rattle.naim_core.specs.declared.event.Mode.{Mode}
use Rattle.naim_core.specs.declared.event.Refusal.{Refusal}
use Rattle.naim_core.specs.declared.pool.Pool.{Pool}
use Rattle.naim_core.specs.declared.pool.Stage.TheVariants as stage
use Rattle.naim_core.specs.declared.state.Hand.{Hand}
use Rattle.naim_core.proofs.Effects.{running}
use Rattle.naim_core.proofs.Keeps.{Swapped, swapped_front, swapped_in_place}
use Rattle.list_laws.proofs.Entries.{number_itself}
use Rattle.one_owner.specs.Alone.{IsAlone}

pub permit_gives : {X : Type 0} (row : Rows.Row) (x y : X) → permit row x ≡ Ok y → x ≡ y
permit_gives [] x y h = cc
permit_gives ((true, r) ∷ row) x y h = cc
permit_gives ((false, r) ∷ row) x y h = permit_gives row x y h

-- the pool p, which was there as x, became y, and worker 0 has another hand; the disk is with that worker
pub record Acts (s new : Core) (p : ℕ) (x y : Pool) (h : Hand → Hand) (disk : Option ℕ) : Type 0 where
  pub at : pool_at s.pools p ≡ Some x
  pub swap : Swapped p x y s.pools new.pools
  pub hands : (g : Hand) (others : List Hand) → s.hands ≡ g ∷ others → new.hands ≡ h g ∷ others
  pub closed : new.in_wave ≡ s.in_wave
  pub failure : new.failure ≡ s.failure
  pub limit : new.limit ≡ s.limit
  pub disk_is : new.disk ≡ disk

-- an event that was taken made its state of the pool that was there
on_found : (s : Core) (p : ℕ) (x : Pool) (row : Pool → Rows.Row) (f : Pool → Pool) (g : Pool → Pool → Core) (new : Core) → pool_at s.pools p ≡ Some x
    → on_pool s p (λ x. then_state (permit (row x) (f x)) (λ y. g x y)) ≡ Ok new → new ≡ g x (f x)
on_found s p x row f g new at h = made (permit (row x) (f x)) refl (rw at at h)
  where
    made : (r : Result Pool Refusal) → permit (row x) (f x) ≡ r → then_state r (λ y. g x y) ≡ Ok new → new ≡ g x (f x)
    made (Ok y) e k = (let same = permit_gives (row x) (f x) y e in let is : g x y ≡ new = cc in sym is ∙ ap (λ z. g x z) (sym same))
    made (Err r) e k = cc

acts : (s t new : Core) (p : ℕ) (x y : Pool) (h : Hand → Hand) → pool_at s.pools p ≡ Some x → Swapped p x y s.pools t.pools
    → t.hands ≡ slice_set s.hands 0 (h (hand_at s.hands 0)) → t.in_wave ≡ s.in_wave → t.failure ≡ s.failure
    → t.limit ≡ s.limit → new ≡ t → Acts s new p x y h t.disk
acts s t new p x y h at swap hands closed failure limit is = subst (λ z. Acts s z p x y h t.disk) (sym is) (record {
  at = at;
  swap = swap;
  hands = λ g others e. hands ∙ ap (λ hs. slice_set hs 0 (h (hand_at hs 0))) e;
  closed = closed;
  failure = failure;
  limit = limit;
  disk_is = refl;
})

pub compact_begins : (s new : Core) (p wanted : ℕ) (x : Pool) → IsSound s → s.failure ≡ None → pool_at s.pools p ≡ Some x
    → step_of s (event.CompactBegin 0 p wanted) ≡ Ok new
    → Acts s new p x (record x { stage = stage.Compacting }) (λ g. record g { moved = Some p }) s.disk
compact_begins s new p wanted x sound none at h =
    let g = hand_at s.hands 0 in let y : Pool = record x { stage = stage.Compacting } in
    let after : Pool → Pool → Core = λ x y. record s { pools = in_place p y s.pools; hands = slice_set s.hands 0 (record g { moved = Some p }) } in
    let is = on_found s p x (λ x. Rows.compact_begin_row s.limit (under_sum s.pools) (victim s.pools) x g p wanted) (λ x. record x { stage = stage.Compacting })
    after new at (sym (running s (event.CompactBegin 0 p wanted) none) ∙ h) in
    acts s (after x y) new p x y (λ g. record g { moved = Some p }) at (swapped_in_place p x y s.pools sound.one_pool at) refl refl refl refl is

pub compact_ends : (s new : Core) (p : ℕ) (x : Pool) → IsSound s → s.failure ≡ None → pool_at s.pools p ≡ Some x → step_of s (event.CompactEnd 0 p) ≡ Ok new
    → Acts s new p x (record x { stage = stage.Compacted }) (λ g. record g { moved = None }) s.disk
compact_ends s new p x sound none at h =
    let g = hand_at s.hands 0 in let y : Pool = record x { stage = stage.Compacted } in
    let after : Pool → Pool → Core = λ x y. record s { pools = in_place p y s.pools; hands = slice_set s.hands 0 (record g { moved = None }) } in
    let is = on_found s p x (λ x. Rows.compact_end_row x g p) (λ x. record x { stage = stage.Compacted }) after new at
    (sym (running s (event.CompactEnd 0 p) none) ∙ h) in
    acts s (after x y) new p x y (λ g. record g { moved = None }) at (swapped_in_place p x y s.pools sound.one_pool at) refl refl refl refl is

pub offload_begins : (s new : Core) (p wanted : ℕ) (x : Pool) → IsSound s → s.failure ≡ None → pool_at s.pools p ≡ Some x
    → step_of s (event.OffloadBegin 0 p wanted) ≡ Ok new
    → Acts s new p x (record x { stage = stage.Offloading }) (λ g. record g { moved = Some p }) (Some 0)
offload_begins s new p wanted x sound none at h =
    let g = hand_at s.hands 0 in let y : Pool = record x { stage = stage.Offloading } in
    let after : Pool → Pool → Core = λ x y. record s { pools = in_place p y s.pools; hands = slice_set s.hands 0 (record g { moved = Some p }); disk = Some 0 }
    in
    let is = on_found s p x (λ x. Rows.offload_begin_row s.limit (under_sum s.pools) (victim s.pools) x g p wanted s.disk)
    (λ x. record x { stage = stage.Offloading }) after new at
    (sym (running s (event.OffloadBegin 0 p wanted) none) ∙ h) in
    acts s (after x y) new p x y (λ g. record g { moved = Some p }) at (swapped_in_place p x y s.pools sound.one_pool at) refl refl refl refl is

pub offload_ends : (s new : Core) (p : ℕ) (x : Pool) → IsSound s → s.failure ≡ None → pool_at s.pools p ≡ Some x → step_of s (event.OffloadEnd 0 p) ≡ Ok new
    → Acts s new p x (record x { stage = stage.Offloaded }) (λ g. record g { moved = None }) None
offload_ends s new p x sound none at h =
    let g = hand_at s.hands 0 in let y : Pool = record x { stage = stage.Offloaded } in
    let after : Pool → Pool → Core = λ x y. record s { pools = in_place p y s.pools; hands = slice_set s.hands 0 (record g { moved = None }); disk = None } in
    let is = on_found s p x (λ x. Rows.offload_end_row x g p) (λ x. record x { stage = stage.Offloaded }) after new at
    (sym (running s (event.OffloadEnd 0 p) none) ∙ h) in
    acts s (after x y) new p x y (λ g. record g { moved = None }) at (swapped_in_place p x y s.pools sound.one_pool at) refl refl refl refl is

pub read_pins : (s new : Core) (p : ℕ) (x : Pool) → IsSound s → s.failure ≡ None → pool_at s.pools p ≡ Some x → step_of s (event.PinRead 0 p) ≡ Ok new
    → Acts s new p x (record x { stage = Rows.with_reader x.stage }) (λ g. record g { read = Some p }) s.disk
read_pins s new p x sound none at h =
    let g = hand_at s.hands 0 in let y : Pool = record x { stage = Rows.with_reader x.stage } in
    let after : Pool → Pool → Core = λ x y. record s { pools = front p y s.pools; hands = slice_set s.hands 0 (record g { read = Some p }) } in
    let is = on_found s p x (λ x. Rows.pin_read_row x g) (λ x. record x { stage = Rows.with_reader x.stage }) after new at
    (sym (running s (event.PinRead 0 p) none) ∙ h) in
    acts s (after x y) new p x y (λ g. record g { read = Some p }) at (swapped_front p x y s.pools sound.one_pool at) refl refl refl refl is

pub reload_begins : (s new : Core) (p : ℕ) (kind : Mode) (x : Pool) → IsSound s → s.failure ≡ None → pool_at s.pools p ≡ Some x
    → step_of s (event.ReloadBegin 0 p kind) ≡ Ok new
    → Acts s new p x (record x { stage = stage.Reloading kind (is_offloaded x.stage) }) (λ g. take_pin kind p g)
    (if is_offloaded x.stage then Some 0 else s.disk)
reload_begins s new p kind x sound none at h =
    let g = hand_at s.hands 0 in let y : Pool = record x { stage = stage.Reloading kind (is_offloaded x.stage) } in
    let after : Pool → Pool → Core = λ x y. record s {
      pools = in_place p y s.pools;
      hands = slice_set s.hands 0 (take_pin kind p g);
      disk = if is_offloaded
          x.stage then Some 0 else s.disk;
    } in
    let is = on_found s p x (λ x. Rows.reload_begin_row x g s.in_wave p kind s.disk) (λ x. record x { stage = stage.Reloading kind (is_offloaded x.stage) })
    after new at
    (sym (running s (event.ReloadBegin 0 p kind) none) ∙ h) in
    acts s (after x y) new p x y (λ g. take_pin kind p g) at (swapped_in_place p x y s.pools sound.one_pool at) refl refl refl refl is

pub reload_ends : (s new : Core) (p : ℕ) (x : Pool) → IsSound s → s.failure ≡ None → pool_at s.pools p ≡ Some x → step_of s (event.ReloadEnd 0 p) ≡ Ok new
    → Acts s new p x (record x { stage = Rows.reloaded x.stage }) (λ g. record g { moved = None }) (if moves_by_disk x.stage then None else s.disk)
reload_ends s new p x sound none at h =
    let g = hand_at s.hands 0 in let y : Pool = record x { stage = Rows.reloaded x.stage } in
    let after : Pool → Pool → Core = λ x y. record s {
      pools = front p y s.pools;
      hands = slice_set s.hands 0 (record g { moved = None });
      disk =
          if moves_by_disk x.stage then None else s.disk;
    } in
    let is = on_found s p x (λ x. Rows.reload_end_row x g p) (λ x. record x { stage = Rows.reloaded x.stage }) after new at
    (sym (running s (event.ReloadEnd 0 p) none) ∙ h) in
    acts s (after x y) new p x y (λ g. record g { moved = None }) at (swapped_front p x y s.pools sound.one_pool at) refl refl refl refl is

pub read_unpins : (s new : Core) (p : ℕ) (f : Form) (x : Pool) → IsSound s → s.failure ≡ None → pool_at s.pools p ≡ Some x
    → step_of s (event.UnpinRead 0 p f) ≡ Ok new
    → Acts s new p x (record x { stage = Rows.without_reader f x.stage }) (λ g. record g { read = None }) s.disk
read_unpins s new p f x sound none at h =
    let g = hand_at s.hands 0 in let y : Pool = record x { stage = Rows.without_reader f x.stage } in
    let after : Pool → Pool → Core = λ x y. record s { pools = front p y s.pools; hands = slice_set s.hands 0 (record g { read = None }) } in
    let is = on_found s p x (λ x. Rows.unpin_read_row s.limit (under_sum s.pools) x g p f) (λ x. record x { stage = Rows.without_reader f x.stage }) after new
    at
    (sym (running s (event.UnpinRead 0 p f) none) ∙ h) in
    acts s (after x y) new p x y (λ g. record g { read = None }) at (swapped_front p x y s.pools sound.one_pool at) refl refl refl refl is

pub write_pins : (s new : Core) (p room : ℕ) (x : Pool) → IsSound s → s.failure ≡ None → pool_at s.pools p ≡ Some x
    → step_of s (event.PinWrite 0 p room) ≡ Ok new
    → Acts s new p x (record x { stage = stage.Written room }) (λ g. record g { written = Some p }) s.disk
write_pins s new p room x sound none at h =
    let g = hand_at s.hands 0 in let y : Pool = record x { stage = stage.Written room } in
    let after : Pool → Pool → Core = λ x y. record s { pools = front p y s.pools; hands = slice_set s.hands 0 (record g { written = Some p }) } in
    let is = on_found s p x (λ x. Rows.pin_write_row x g s.in_wave p room) (λ x. record x { stage = stage.Written room }) after new at
    (sym (running s (event.PinWrite 0 p room) none) ∙ h) in
    acts s (after x y) new p x y (λ g. record g { written = Some p }) at (swapped_front p x y s.pools sound.one_pool at) refl refl refl refl is

-- the hand after a pin for writing
abbrev pub wrote : ℕ → Hand → Hand
wrote p g = record g { written = None; task = if holds g.task p then None else g.task }

pub write_unpins : (s new : Core) (p : ℕ) (f : Form) (e c : ℕ) (x : Pool) → IsSound s → s.failure ≡ None → pool_at s.pools p ≡ Some x
    → step_of s (event.UnpinWrite 0 p f e c) ≡ Ok new → Acts s new p x (Rows.inserted f e c) (wrote p) s.disk
write_unpins s new p f e c x sound none at h =
    let g = hand_at s.hands 0 in let y : Pool = Rows.inserted f e c in
    let after : Pool → Pool → Core = λ x y. record s {
      pools = front p y s.pools;
      hands = slice_set s.hands 0 (wrote p g);
      done = if holds g.task p then s.done ++ p ∷ [] else s.done;
    } in
    let is = on_found s p x (λ x. Rows.unpin_write_row s.limit (under_sum s.pools) x g p f e c) (λ x. Rows.inserted f e c) after new at
    (sym (running s (event.UnpinWrite 0 p f e c) none) ∙ h) in
    acts s (after x y) new p x y (wrote p) at (swapped_front p x y s.pools sound.one_pool at) refl refl refl refl is

-- worker 0 works alone still
pub alone_acts : (s new : Core) (p : ℕ) (x y : Pool) (h : Hand → Hand) (disk : Option ℕ) (g : Hand) → Acts s new p x y h disk → IsAlone s g → IsAlone new (h g)
alone_acts s new p x y h disk g a o = record { others = o.others; hands = a.hands g o.others o.hands; free = o.free; closed = a.closed ∙ o.closed }

pub workers_act : (s new : Core) (p : ℕ) (x y : Pool) (h : Hand → Hand) (disk : Option ℕ) (g : Hand) → Acts s new p x y h disk → IsAlone s g
    → length new.hands ≡ length s.hands
workers_act s new p x y h disk g a o = ap length (a.hands g o.others o.hands) ∙ sym (ap length o.hands)

-- the pool after its event
pub pool_acts : (s new : Core) (p : ℕ) (x y : Pool) (h : Hand → Hand) (disk : Option ℕ) → Acts s new p x y h disk → pool_at new.pools p ≡ Some y
pool_acts s new p x y h disk a = let e = a.swap.found p in rw (number_itself p) at e

-- the other pools are as they were
pub others_act : (s new : Core) (p q : ℕ) (x y : Pool) (h : Hand → Hand) (disk : Option ℕ) → Acts s new p x y h disk → nat_eq p q ≡ false
    → pool_at new.pools q ≡ pool_at s.pools q
others_act s new p q x y h disk a ne = a.swap.found q ∙ ap (λ b. cond b (Some y) (pool_at s.pools q)) ne
