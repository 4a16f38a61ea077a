-- Each event on a pool, told of the state that contracts see.
use Rattle.std.proofs.Common.{◌≡◌, ℕ, ◌+◌, ◌<◌, true, false, nat_eq, List, [], ◌∷◌, ◌++◌, sum_by, length, get_or, Option, Some}
use Rattle.std.proofs.Common.{None, Ok, Err, Result, refl, sym, ap, subst, arith, ◌∙◌}
use Rattle.std.specs.Option.{option_eq}
use Rattle.std.specs.Cmp.{nat_eq_equiv}
use Rattle.std.proofs.lemmas.List.Sums.{sum_by-append, sum_by-cons}
use Rattle.std.specs.Prelude.{count_by, is_some, if◌then◌else◌}
use Rattle.std.specs.List.{slice_get, slice_set}
use Rattle.std.proofs.lemmas.Option.{slice_get_read, unwrap_or-slice_get, get_or_from_slice_get}
use Rattle.naim_core.specs.Charges.{under_sum}
use Rattle.naim_core.specs.Rows
use Rattle.naim_core.specs.Sound.{IsSound}
use Rattle.naim_core.specs.State.{Core, pool_at, hand_at, empty_hand, holds, is_offloaded, moves_by_disk, victim}
use Rattle.naim_core.specs.Steps.{permit, front, in_place, take_pin, Follows, pin_read_step, pin_write_step, reload_begin_step, reload_end_step}
use Rattle.naim_core.specs.Steps.{unpin_read_step, compact_begin_step, compact_end_step, offload_begin_step, offload_end_step, unpin_write_step}
use Rattle.naim_core.specs.declared.event.Form.{Form}
use Rattle.naim_core.specs.declared.event.Mode.{Mode}
use Rattle.naim_core.specs.declared.event.Mode.TheVariants as mode
use Rattle.naim_core.specs.declared.event.Refusal.{Refusal}
use Rattle.naim_core.specs.declared.pool.Pool.{Pool}
use Rattle.naim_core.specs.declared.pool.Stage.TheVariants as stage
use Rattle.naim_core.specs.declared.state.Hand.{Hand}
use Rattle.naim_core.proofs.Events.{permit_gives, permit_ok, pin_read_sound, pin_write_sound, reload_begin_sound, reload_end_sound, unpin_read_sound}
use Rattle.naim_core.proofs.Events.{compact_begin_sound, compact_end_sound, offload_begin_sound, offload_end_sound, unpin_write_sound}
use Rattle.naim_core.proofs.Keeps.{holds_is, one}
use Rattle.list_laws.proofs.Entries.{number_itself, same_number}

-- the pool p and the hand of the worker w, as they were read in the state s; contracts see s as now
pub record Met (s now : Core) (p w : ℕ) (x : Pool) (h : Hand) : Type 0 where
  pub view : s ≡ now
  pub sound : IsSound s
  pub found : pool_at s.pools p ≡ Some x
  pub below : w < length now.hands
  pub hand : h ≡ get_or s.hands w h

pub hand_there : (s now : Core) (p w : ℕ) (x : Pool) (h : Hand) → Met s now p w x h → slice_get s.hands w ≡ Some h
hand_there s now p w x h met = slice_get_read s.hands (length s.hands) w h refl (let l = ap (λ n. length n.hands) met.view in let b = met.below in omega arith)
    met.hand

pub hand_is : (s now : Core) (p w : ℕ) (x : Pool) (h : Hand) → Met s now p w x h → hand_at s.hands w ≡ h
hand_is s now p w x h met = unwrap_or-slice_get s.hands w empty_hand ∙ get_or_from_slice_get s.hands w h empty_hand (hand_there s now p w x h met)

pub task_same : (s now : Core) (p w : ℕ) (x : Pool) (h : Hand) → Met s now p w x h → h.task ≡ (hand_at now.hands w).task
task_same s now p w x h met = sym (ap (λ k. k.task) (ap (λ n. hand_at n.hands w) (sym met.view) ∙ hand_is s now p w x h met))

pub pin_read_keeps : (s now : Core) (p w : ℕ) (x y : Pool) (h : Hand) → Met s now p w x h
    → permit (Rows.pin_read_row x h) (record x { stage = Rows.with_reader x.stage }) ≡ Ok y →
    (disk : Option ℕ) → disk ≡ (s.disk)
    → IsSound (record now { pools = front p y now.pools; hands = slice_set now.hands w (record h { read = Some p }); disk = disk })
pin_read_keeps s now p w x y h met ok disk home =
    let row = Rows.pin_read_row x h in let new : Pool = record x { stage = Rows.with_reader x.stage } in
    let kept : IsSound (record s { pools = front p new s.pools; hands = slice_set s.hands w (record h { read = Some p }); disk = s.disk }) =
    pin_read_sound s p w x.stage x.e x.c h.task h.written h.read h.moved met.sound met.found (hand_there s now p w x h met) (permit_ok row new y ok) in
    let kept' : IsSound (record s { pools = front p y s.pools; hands = slice_set s.hands w (record h { read = Some p }); disk = disk }) =
    subst (λ d. IsSound (record s { pools = front p y s.pools; hands = slice_set s.hands w (record h { read = Some p }); disk = d })) (sym home)
    (subst (λ z. IsSound (record s { pools = front p z s.pools; hands = slice_set s.hands w (record h { read = Some p }); disk = s.disk }))
    (permit_gives row new y ok) kept) in
    subst (λ n. IsSound (record n { pools = front p y n.pools; hands = slice_set n.hands w (record h { read = Some p }); disk = disk })) met.view kept'

pub pin_read_follows : (s now : Core) (p w : ℕ) (x y : Pool) (h : Hand) → Met s now p w x h
    → permit (Rows.pin_read_row x h) (record x { stage = Rows.with_reader x.stage }) ≡ Ok y →
    (disk : Option ℕ) → disk ≡ (s.disk) → (t : Core)
    → t ≡ record now { pools = front p y now.pools; hands = slice_set now.hands w (record h { read = Some p }); disk = disk }
    → Follows (pin_read_step now w p) now (Ok tt) t
pin_read_follows s now p w x y h met ok disk home t is =
    let hand = hand_is s now p w x h met in let found = met.found in
    let step : pin_read_step s w p ≡ Ok (record s { pools = front p y s.pools; hands = slice_set s.hands w (record h { read = Some p }); disk = disk }) =
    rw (found, hand, ok, home) refl in
    let here : (u : Core) → u ≡ record s { pools = front p y s.pools; hands = slice_set s.hands w (record h { read = Some p }); disk = disk }
    → Follows (pin_read_step s w p) s (Ok tt) u = λ u e. rw step (refl, e) in
    subst (λ n. (u : Core) → u ≡ record n { pools = front p y n.pools; hands = slice_set n.hands w (record h { read = Some p }); disk = disk }
    → Follows (pin_read_step n w p) n (Ok tt) u) met.view here t is

pub pin_read_refused : (s now : Core) (p w : ℕ) (x : Pool) (h : Hand) (r : Refusal) → Met s now p w x h
    → permit (Rows.pin_read_row x h) (record x { stage = Rows.with_reader x.stage }) ≡ Err r →
    (answer : Result (Unit {0}) Refusal) → answer ≡ Err r → Follows (pin_read_step now w p) now answer now
pin_read_refused s now p w x h r met ok answer is =
    let hand = hand_is s now p w x h met in let found = met.found in
    let step : pin_read_step s w p ≡ Err r = rw (found, hand, ok) refl in
    let here : Follows (pin_read_step s w p) s answer s = rw step (is, refl) in
    subst (λ n. Follows (pin_read_step n w p) n answer n) met.view here

pub pin_write_keeps : (s now : Core) (p w : ℕ) (room : ℕ) (x y : Pool) (h : Hand) → Met s now p w x h
    → permit (Rows.pin_write_row x h s.in_wave p room) (record x { stage = stage.Written room }) ≡ Ok y →
    (disk : Option ℕ) → disk ≡ (s.disk)
    → IsSound (record now { pools = front p y now.pools; hands = slice_set now.hands w (record h { written = Some p }); disk = disk })
pin_write_keeps s now p w room x y h met ok disk home =
    let row = Rows.pin_write_row x h s.in_wave p room in let new : Pool = record x { stage = stage.Written room } in
    let kept : IsSound (record s { pools = front p new s.pools; hands = slice_set s.hands w (record h { written = Some p }); disk = s.disk }) =
    pin_write_sound s p w room x.stage x.e x.c h.task h.written h.read h.moved met.sound met.found (hand_there s now p w x h met) (permit_ok row new y ok) in
    let kept' : IsSound (record s { pools = front p y s.pools; hands = slice_set s.hands w (record h { written = Some p }); disk = disk }) =
    subst (λ d. IsSound (record s { pools = front p y s.pools; hands = slice_set s.hands w (record h { written = Some p }); disk = d })) (sym home)
    (subst (λ z. IsSound (record s { pools = front p z s.pools; hands = slice_set s.hands w (record h { written = Some p }); disk = s.disk }))
    (permit_gives row new y ok) kept) in
    subst (λ n. IsSound (record n { pools = front p y n.pools; hands = slice_set n.hands w (record h { written = Some p }); disk = disk })) met.view kept'

pub pin_write_follows : (s now : Core) (p w : ℕ) (room : ℕ) (x y : Pool) (h : Hand) → Met s now p w x h
    → permit (Rows.pin_write_row x h s.in_wave p room) (record x { stage = stage.Written room }) ≡ Ok y →
    (disk : Option ℕ) → disk ≡ (s.disk) → (t : Core)
    → t ≡ record now { pools = front p y now.pools; hands = slice_set now.hands w (record h { written = Some p }); disk = disk }
    → Follows (pin_write_step now w p room) now (Ok tt) t
pin_write_follows s now p w room x y h met ok disk home t is =
    let hand = hand_is s now p w x h met in let found = met.found in
    let step : pin_write_step s w p room ≡ Ok (record s { pools = front p y s.pools; hands = slice_set s.hands w (record h { written = Some p }); disk = disk })
    = rw (found, hand, ok, home) refl in
    let here : (u : Core) → u ≡ record s { pools = front p y s.pools; hands = slice_set s.hands w (record h { written = Some p }); disk = disk }
    → Follows (pin_write_step s w p room) s (Ok tt) u = λ u e. rw step (refl, e) in
    subst (λ n. (u : Core) → u ≡ record n { pools = front p y n.pools; hands = slice_set n.hands w (record h { written = Some p }); disk = disk }
    → Follows (pin_write_step n w p room) n (Ok tt) u) met.view here t is

pub pin_write_refused : (s now : Core) (p w : ℕ) (room : ℕ) (x : Pool) (h : Hand) (r : Refusal) → Met s now p w x h
    → permit (Rows.pin_write_row x h s.in_wave p room) (record x { stage = stage.Written room }) ≡ Err r →
    (answer : Result (Unit {0}) Refusal) → answer ≡ Err r → Follows (pin_write_step now w p room) now answer now
pin_write_refused s now p w room x h r met ok answer is =
    let hand = hand_is s now p w x h met in let found = met.found in
    let step : pin_write_step s w p room ≡ Err r = rw (found, hand, ok) refl in
    let here : Follows (pin_write_step s w p room) s answer s = rw step (is, refl) in
    subst (λ n. Follows (pin_write_step n w p room) n answer n) met.view here

pub reload_begin_keeps : (s now : Core) (p w : ℕ) (m : Mode) (x y : Pool) (h : Hand) → Met s now p w x h
    → permit (Rows.reload_begin_row x h s.in_wave p m s.disk) (record x { stage = stage.Reloading m (is_offloaded x.stage) }) ≡ Ok y →
    (disk : Option ℕ) → disk ≡ (if is_offloaded x.stage then Some w else s.disk)
    → IsSound (record now { pools = in_place p y now.pools; hands = slice_set now.hands w (take_pin m p h); disk = disk })
reload_begin_keeps s now p w m x y h met ok disk home =
    let row = Rows.reload_begin_row x h s.in_wave p m s.disk in let new : Pool = record x { stage = stage.Reloading m (is_offloaded x.stage) } in
    let kept : IsSound (record s {
      pools = in_place p new s.pools;
      hands = slice_set s.hands w (take_pin m p h);
      disk = if is_offloaded x.stage then Some w
          else s.disk;
    }) =
    reload_begin_sound s p w m x.stage x.e x.c h.task h.written h.read h.moved met.sound met.found (hand_there s now p w x h met) (permit_ok row new y ok) in
    let kept' : IsSound (record s { pools = in_place p y s.pools; hands = slice_set s.hands w (take_pin m p h); disk = disk }) =
    subst (λ d. IsSound (record s { pools = in_place p y s.pools; hands = slice_set s.hands w (take_pin m p h); disk = d })) (sym home)
    (subst (λ z. IsSound (record s {
      pools = in_place p z s.pools;
      hands = slice_set s.hands w (take_pin m p h);
      disk = if is_offloaded x.stage then Some w
          else s.disk;
    })) (permit_gives row new y ok) kept) in
    subst (λ n. IsSound (record n { pools = in_place p y n.pools; hands = slice_set n.hands w (take_pin m p h); disk = disk })) met.view kept'

pub reload_begin_follows : (s now : Core) (p w : ℕ) (m : Mode) (x y : Pool) (h : Hand) → Met s now p w x h
    → permit (Rows.reload_begin_row x h s.in_wave p m s.disk) (record x { stage = stage.Reloading m (is_offloaded x.stage) }) ≡ Ok y →
    (disk : Option ℕ) → disk ≡ (if is_offloaded x.stage then Some w else s.disk) → (t : Core)
    → t ≡ record now { pools = in_place p y now.pools; hands = slice_set now.hands w (take_pin m p h); disk = disk }
    → Follows (reload_begin_step now w p m) now (Ok tt) t
reload_begin_follows s now p w m x y h met ok disk home t is =
    let hand = hand_is s now p w x h met in let found = met.found in
    let step : reload_begin_step s w p m ≡ Ok (record s { pools = in_place p y s.pools; hands = slice_set s.hands w (take_pin m p h); disk = disk }) =
    rw (found, hand, ok, home) refl in
    let here : (u : Core) → u ≡ record s { pools = in_place p y s.pools; hands = slice_set s.hands w (take_pin m p h); disk = disk }
    → Follows (reload_begin_step s w p m) s (Ok tt) u = λ u e. rw step (refl, e) in
    subst (λ n. (u : Core) → u ≡ record n { pools = in_place p y n.pools; hands = slice_set n.hands w (take_pin m p h); disk = disk }
    → Follows (reload_begin_step n w p m) n (Ok tt) u) met.view here t is

pub reload_begin_refused : (s now : Core) (p w : ℕ) (m : Mode) (x : Pool) (h : Hand) (r : Refusal) → Met s now p w x h
    → permit (Rows.reload_begin_row x h s.in_wave p m s.disk) (record x { stage = stage.Reloading m (is_offloaded x.stage) }) ≡ Err r →
    (answer : Result (Unit {0}) Refusal) → answer ≡ Err r → Follows (reload_begin_step now w p m) now answer now
reload_begin_refused s now p w m x h r met ok answer is =
    let hand = hand_is s now p w x h met in let found = met.found in
    let step : reload_begin_step s w p m ≡ Err r = rw (found, hand, ok) refl in
    let here : Follows (reload_begin_step s w p m) s answer s = rw step (is, refl) in
    subst (λ n. Follows (reload_begin_step n w p m) n answer n) met.view here

pub reload_end_keeps : (s now : Core) (p w : ℕ) (x y : Pool) (h : Hand) → Met s now p w x h
    → permit (Rows.reload_end_row x h p) (record x { stage = Rows.reloaded x.stage }) ≡ Ok y →
    (disk : Option ℕ) → disk ≡ (if moves_by_disk x.stage then None else s.disk)
    → IsSound (record now { pools = front p y now.pools; hands = slice_set now.hands w (record h { moved = None }); disk = disk })
reload_end_keeps s now p w x y h met ok disk home =
    let row = Rows.reload_end_row x h p in let new : Pool = record x { stage = Rows.reloaded x.stage } in
    let kept : IsSound (record s {
      pools = front p new s.pools;
      hands = slice_set s.hands w (record h { moved = None });
      disk = if moves_by_disk x.stage
          then None else s.disk;
    }) =
    reload_end_sound s p w x.stage x.e x.c h.task h.written h.read h.moved met.sound met.found (hand_there s now p w x h met) (permit_ok row new y ok) in
    let kept' : IsSound (record s { pools = front p y s.pools; hands = slice_set s.hands w (record h { moved = None }); disk = disk }) =
    subst (λ d. IsSound (record s { pools = front p y s.pools; hands = slice_set s.hands w (record h { moved = None }); disk = d })) (sym home)
    (subst (λ z. IsSound (record s {
      pools = front p z s.pools;
      hands = slice_set s.hands w (record h { moved = None });
      disk = if moves_by_disk x.stage
          then None else s.disk;
    })) (permit_gives row new y ok) kept) in
    subst (λ n. IsSound (record n { pools = front p y n.pools; hands = slice_set n.hands w (record h { moved = None }); disk = disk })) met.view kept'

pub reload_end_follows : (s now : Core) (p w : ℕ) (x y : Pool) (h : Hand) → Met s now p w x h
    → permit (Rows.reload_end_row x h p) (record x { stage = Rows.reloaded x.stage }) ≡ Ok y →
    (disk : Option ℕ) → disk ≡ (if moves_by_disk x.stage then None else s.disk) → (t : Core)
    → t ≡ record now { pools = front p y now.pools; hands = slice_set now.hands w (record h { moved = None }); disk = disk }
    → Follows (reload_end_step now w p) now (Ok tt) t
reload_end_follows s now p w x y h met ok disk home t is =
    let hand = hand_is s now p w x h met in let found = met.found in
    let step : reload_end_step s w p ≡ Ok (record s { pools = front p y s.pools; hands = slice_set s.hands w (record h { moved = None }); disk = disk }) =
    rw (found, hand, ok, home) refl in
    let here : (u : Core) → u ≡ record s { pools = front p y s.pools; hands = slice_set s.hands w (record h { moved = None }); disk = disk }
    → Follows (reload_end_step s w p) s (Ok tt) u = λ u e. rw step (refl, e) in
    subst (λ n. (u : Core) → u ≡ record n { pools = front p y n.pools; hands = slice_set n.hands w (record h { moved = None }); disk = disk }
    → Follows (reload_end_step n w p) n (Ok tt) u) met.view here t is

pub reload_end_refused : (s now : Core) (p w : ℕ) (x : Pool) (h : Hand) (r : Refusal) → Met s now p w x h
    → permit (Rows.reload_end_row x h p) (record x { stage = Rows.reloaded x.stage }) ≡ Err r →
    (answer : Result (Unit {0}) Refusal) → answer ≡ Err r → Follows (reload_end_step now w p) now answer now
reload_end_refused s now p w x h r met ok answer is =
    let hand = hand_is s now p w x h met in let found = met.found in
    let step : reload_end_step s w p ≡ Err r = rw (found, hand, ok) refl in
    let here : Follows (reload_end_step s w p) s answer s = rw step (is, refl) in
    subst (λ n. Follows (reload_end_step n w p) n answer n) met.view here

pub unpin_read_keeps : (s now : Core) (p w : ℕ) (f : Form) (x y : Pool) (h : Hand) → Met s now p w x h
    → permit (Rows.unpin_read_row s.limit (under_sum s.pools) x h p f) (record x { stage = Rows.without_reader f x.stage }) ≡ Ok y →
    (disk : Option ℕ) → disk ≡ (s.disk)
    → IsSound (record now { pools = front p y now.pools; hands = slice_set now.hands w (record h { read = None }); disk = disk })
unpin_read_keeps s now p w f x y h met ok disk home =
    let row = Rows.unpin_read_row s.limit (under_sum s.pools) x h p f in let new : Pool = record x { stage = Rows.without_reader f x.stage } in
    let kept : IsSound (record s { pools = front p new s.pools; hands = slice_set s.hands w (record h { read = None }); disk = s.disk }) =
    unpin_read_sound s p w f x.stage x.e x.c h.task h.written h.read h.moved met.sound met.found (hand_there s now p w x h met) (permit_ok row new y ok) in
    let kept' : IsSound (record s { pools = front p y s.pools; hands = slice_set s.hands w (record h { read = None }); disk = disk }) =
    subst (λ d. IsSound (record s { pools = front p y s.pools; hands = slice_set s.hands w (record h { read = None }); disk = d })) (sym home)
    (subst (λ z. IsSound (record s { pools = front p z s.pools; hands = slice_set s.hands w (record h { read = None }); disk = s.disk }))
    (permit_gives row new y ok) kept) in
    subst (λ n. IsSound (record n { pools = front p y n.pools; hands = slice_set n.hands w (record h { read = None }); disk = disk })) met.view kept'

pub unpin_read_follows : (s now : Core) (p w : ℕ) (f : Form) (x y : Pool) (h : Hand) → Met s now p w x h
    → permit (Rows.unpin_read_row s.limit (under_sum s.pools) x h p f) (record x { stage = Rows.without_reader f x.stage }) ≡ Ok y →
    (disk : Option ℕ) → disk ≡ (s.disk) → (t : Core)
    → t ≡ record now { pools = front p y now.pools; hands = slice_set now.hands w (record h { read = None }); disk = disk }
    → Follows (unpin_read_step now w p f) now (Ok tt) t
unpin_read_follows s now p w f x y h met ok disk home t is =
    let hand = hand_is s now p w x h met in let found = met.found in
    let step : unpin_read_step s w p f ≡ Ok (record s { pools = front p y s.pools; hands = slice_set s.hands w (record h { read = None }); disk = disk }) =
    rw (found, hand, ok, home) refl in
    let here : (u : Core) → u ≡ record s { pools = front p y s.pools; hands = slice_set s.hands w (record h { read = None }); disk = disk }
    → Follows (unpin_read_step s w p f) s (Ok tt) u = λ u e. rw step (refl, e) in
    subst (λ n. (u : Core) → u ≡ record n { pools = front p y n.pools; hands = slice_set n.hands w (record h { read = None }); disk = disk }
    → Follows (unpin_read_step n w p f) n (Ok tt) u) met.view here t is

pub unpin_read_refused : (s now : Core) (p w : ℕ) (f : Form) (x : Pool) (h : Hand) (r : Refusal) → Met s now p w x h
    → permit (Rows.unpin_read_row s.limit (under_sum s.pools) x h p f) (record x { stage = Rows.without_reader f x.stage }) ≡ Err r →
    (answer : Result (Unit {0}) Refusal) → answer ≡ Err r → Follows (unpin_read_step now w p f) now answer now
unpin_read_refused s now p w f x h r met ok answer is =
    let hand = hand_is s now p w x h met in let found = met.found in
    let step : unpin_read_step s w p f ≡ Err r = rw (found, hand, ok) refl in
    let here : Follows (unpin_read_step s w p f) s answer s = rw step (is, refl) in
    subst (λ n. Follows (unpin_read_step n w p f) n answer n) met.view here

pub compact_begin_keeps : (s now : Core) (p w : ℕ) (wanted : ℕ) (x y : Pool) (h : Hand) → Met s now p w x h
    → permit (Rows.compact_begin_row s.limit (under_sum s.pools) (victim s.pools) x h p wanted) (record x { stage = stage.Compacting }) ≡ Ok y →
    (disk : Option ℕ) → disk ≡ (s.disk)
    → IsSound (record now { pools = in_place p y now.pools; hands = slice_set now.hands w (record h { moved = Some p }); disk = disk })
compact_begin_keeps s now p w wanted x y h met ok disk home =
    let row = Rows.compact_begin_row s.limit (under_sum s.pools) (victim s.pools) x h p wanted in let new : Pool = record x { stage = stage.Compacting } in
    let kept : IsSound (record s { pools = in_place p new s.pools; hands = slice_set s.hands w (record h { moved = Some p }); disk = s.disk }) =
    compact_begin_sound s p w wanted x.stage x.e x.c h.task h.written h.read h.moved met.sound met.found (hand_there s now p w x h met) (permit_ok row new y ok)
    in
    let kept' : IsSound (record s { pools = in_place p y s.pools; hands = slice_set s.hands w (record h { moved = Some p }); disk = disk }) =
    subst (λ d. IsSound (record s { pools = in_place p y s.pools; hands = slice_set s.hands w (record h { moved = Some p }); disk = d })) (sym home)
    (subst (λ z. IsSound (record s { pools = in_place p z s.pools; hands = slice_set s.hands w (record h { moved = Some p }); disk = s.disk }))
    (permit_gives row new y ok) kept) in
    subst (λ n. IsSound (record n { pools = in_place p y n.pools; hands = slice_set n.hands w (record h { moved = Some p }); disk = disk })) met.view kept'

pub compact_begin_follows : (s now : Core) (p w : ℕ) (wanted : ℕ) (x y : Pool) (h : Hand) → Met s now p w x h
    → permit (Rows.compact_begin_row s.limit (under_sum s.pools) (victim s.pools) x h p wanted) (record x { stage = stage.Compacting }) ≡ Ok y →
    (disk : Option ℕ) → disk ≡ (s.disk) → (t : Core)
    → t ≡ record now { pools = in_place p y now.pools; hands = slice_set now.hands w (record h { moved = Some p }); disk = disk }
    → Follows (compact_begin_step now w p wanted) now (Ok tt) t
compact_begin_follows s now p w wanted x y h met ok disk home t is =
    let hand = hand_is s now p w x h met in let found = met.found in
    let step : compact_begin_step s w p wanted ≡ Ok (record s {
      pools = in_place p y s.pools;
      hands = slice_set s.hands w (record h { moved = Some p });
      disk =
          disk;
    }) = rw (found, hand, ok, home) refl in
    let here : (u : Core) → u ≡ record s { pools = in_place p y s.pools; hands = slice_set s.hands w (record h { moved = Some p }); disk = disk }
    → Follows (compact_begin_step s w p wanted) s (Ok tt) u = λ u e. rw step (refl, e) in
    subst (λ n. (u : Core) → u ≡ record n { pools = in_place p y n.pools; hands = slice_set n.hands w (record h { moved = Some p }); disk = disk }
    → Follows (compact_begin_step n w p wanted) n (Ok tt) u) met.view here t is

pub compact_begin_refused : (s now : Core) (p w : ℕ) (wanted : ℕ) (x : Pool) (h : Hand) (r : Refusal) → Met s now p w x h
    → permit (Rows.compact_begin_row s.limit (under_sum s.pools) (victim s.pools) x h p wanted) (record x { stage = stage.Compacting }) ≡ Err r →
    (answer : Result (Unit {0}) Refusal) → answer ≡ Err r → Follows (compact_begin_step now w p wanted) now answer now
compact_begin_refused s now p w wanted x h r met ok answer is =
    let hand = hand_is s now p w x h met in let found = met.found in
    let step : compact_begin_step s w p wanted ≡ Err r = rw (found, hand, ok) refl in
    let here : Follows (compact_begin_step s w p wanted) s answer s = rw step (is, refl) in
    subst (λ n. Follows (compact_begin_step n w p wanted) n answer n) met.view here

pub compact_end_keeps : (s now : Core) (p w : ℕ) (x y : Pool) (h : Hand) → Met s now p w x h
    → permit (Rows.compact_end_row x h p) (record x { stage = stage.Compacted }) ≡ Ok y →
    (disk : Option ℕ) → disk ≡ (s.disk)
    → IsSound (record now { pools = in_place p y now.pools; hands = slice_set now.hands w (record h { moved = None }); disk = disk })
compact_end_keeps s now p w x y h met ok disk home =
    let row = Rows.compact_end_row x h p in let new : Pool = record x { stage = stage.Compacted } in
    let kept : IsSound (record s { pools = in_place p new s.pools; hands = slice_set s.hands w (record h { moved = None }); disk = s.disk }) =
    compact_end_sound s p w x.stage x.e x.c h.task h.written h.read h.moved met.sound met.found (hand_there s now p w x h met) (permit_ok row new y ok) in
    let kept' : IsSound (record s { pools = in_place p y s.pools; hands = slice_set s.hands w (record h { moved = None }); disk = disk }) =
    subst (λ d. IsSound (record s { pools = in_place p y s.pools; hands = slice_set s.hands w (record h { moved = None }); disk = d })) (sym home)
    (subst (λ z. IsSound (record s { pools = in_place p z s.pools; hands = slice_set s.hands w (record h { moved = None }); disk = s.disk }))
    (permit_gives row new y ok) kept) in
    subst (λ n. IsSound (record n { pools = in_place p y n.pools; hands = slice_set n.hands w (record h { moved = None }); disk = disk })) met.view kept'

pub compact_end_follows : (s now : Core) (p w : ℕ) (x y : Pool) (h : Hand) → Met s now p w x h
    → permit (Rows.compact_end_row x h p) (record x { stage = stage.Compacted }) ≡ Ok y →
    (disk : Option ℕ) → disk ≡ (s.disk) → (t : Core)
    → t ≡ record now { pools = in_place p y now.pools; hands = slice_set now.hands w (record h { moved = None }); disk = disk }
    → Follows (compact_end_step now w p) now (Ok tt) t
compact_end_follows s now p w x y h met ok disk home t is =
    let hand = hand_is s now p w x h met in let found = met.found in
    let step : compact_end_step s w p ≡ Ok (record s { pools = in_place p y s.pools; hands = slice_set s.hands w (record h { moved = None }); disk = disk }) =
    rw (found, hand, ok, home) refl in
    let here : (u : Core) → u ≡ record s { pools = in_place p y s.pools; hands = slice_set s.hands w (record h { moved = None }); disk = disk }
    → Follows (compact_end_step s w p) s (Ok tt) u = λ u e. rw step (refl, e) in
    subst (λ n. (u : Core) → u ≡ record n { pools = in_place p y n.pools; hands = slice_set n.hands w (record h { moved = None }); disk = disk }
    → Follows (compact_end_step n w p) n (Ok tt) u) met.view here t is

pub compact_end_refused : (s now : Core) (p w : ℕ) (x : Pool) (h : Hand) (r : Refusal) → Met s now p w x h
    → permit (Rows.compact_end_row x h p) (record x { stage = stage.Compacted }) ≡ Err r →
    (answer : Result (Unit {0}) Refusal) → answer ≡ Err r → Follows (compact_end_step now w p) now answer now
compact_end_refused s now p w x h r met ok answer is =
    let hand = hand_is s now p w x h met in let found = met.found in
    let step : compact_end_step s w p ≡ Err r = rw (found, hand, ok) refl in
    let here : Follows (compact_end_step s w p) s answer s = rw step (is, refl) in
    subst (λ n. Follows (compact_end_step n w p) n answer n) met.view here

pub offload_begin_keeps : (s now : Core) (p w : ℕ) (wanted : ℕ) (x y : Pool) (h : Hand) → Met s now p w x h
    → permit (Rows.offload_begin_row s.limit (under_sum s.pools) (victim s.pools) x h p wanted s.disk) (record x { stage = stage.Offloading }) ≡ Ok y →
    (disk : Option ℕ) → disk ≡ (Some w)
    → IsSound (record now { pools = in_place p y now.pools; hands = slice_set now.hands w (record h { moved = Some p }); disk = disk })
offload_begin_keeps s now p w wanted x y h met ok disk home =
    let row = Rows.offload_begin_row s.limit (under_sum s.pools) (victim s.pools) x h p wanted s.disk in let new : Pool = record x { stage = stage.Offloading }
    in
    let kept : IsSound (record s { pools = in_place p new s.pools; hands = slice_set s.hands w (record h { moved = Some p }); disk = Some w }) =
    offload_begin_sound s p w wanted x.stage x.e x.c h.task h.written h.read h.moved met.sound met.found (hand_there s now p w x h met) (permit_ok row new y ok)
    in
    let kept' : IsSound (record s { pools = in_place p y s.pools; hands = slice_set s.hands w (record h { moved = Some p }); disk = disk }) =
    subst (λ d. IsSound (record s { pools = in_place p y s.pools; hands = slice_set s.hands w (record h { moved = Some p }); disk = d })) (sym home)
    (subst (λ z. IsSound (record s { pools = in_place p z s.pools; hands = slice_set s.hands w (record h { moved = Some p }); disk = Some w }))
    (permit_gives row new y ok) kept) in
    subst (λ n. IsSound (record n { pools = in_place p y n.pools; hands = slice_set n.hands w (record h { moved = Some p }); disk = disk })) met.view kept'

pub offload_begin_follows : (s now : Core) (p w : ℕ) (wanted : ℕ) (x y : Pool) (h : Hand) → Met s now p w x h
    → permit (Rows.offload_begin_row s.limit (under_sum s.pools) (victim s.pools) x h p wanted s.disk) (record x { stage = stage.Offloading }) ≡ Ok y →
    (disk : Option ℕ) → disk ≡ (Some w) → (t : Core)
    → t ≡ record now { pools = in_place p y now.pools; hands = slice_set now.hands w (record h { moved = Some p }); disk = disk }
    → Follows (offload_begin_step now w p wanted) now (Ok tt) t
offload_begin_follows s now p w wanted x y h met ok disk home t is =
    let hand = hand_is s now p w x h met in let found = met.found in
    let step : offload_begin_step s w p wanted ≡ Ok (record s {
      pools = in_place p y s.pools;
      hands = slice_set s.hands w (record h { moved = Some p });
      disk =
          disk;
    }) = rw (found, hand, ok, home) refl in
    let here : (u : Core) → u ≡ record s { pools = in_place p y s.pools; hands = slice_set s.hands w (record h { moved = Some p }); disk = disk }
    → Follows (offload_begin_step s w p wanted) s (Ok tt) u = λ u e. rw step (refl, e) in
    subst (λ n. (u : Core) → u ≡ record n { pools = in_place p y n.pools; hands = slice_set n.hands w (record h { moved = Some p }); disk = disk }
    → Follows (offload_begin_step n w p wanted) n (Ok tt) u) met.view here t is

pub offload_begin_refused : (s now : Core) (p w : ℕ) (wanted : ℕ) (x : Pool) (h : Hand) (r : Refusal) → Met s now p w x h
    → permit (Rows.offload_begin_row s.limit (under_sum s.pools) (victim s.pools) x h p wanted s.disk) (record x { stage = stage.Offloading }) ≡ Err r →
    (answer : Result (Unit {0}) Refusal) → answer ≡ Err r → Follows (offload_begin_step now w p wanted) now answer now
offload_begin_refused s now p w wanted x h r met ok answer is =
    let hand = hand_is s now p w x h met in let found = met.found in
    let step : offload_begin_step s w p wanted ≡ Err r = rw (found, hand, ok) refl in
    let here : Follows (offload_begin_step s w p wanted) s answer s = rw step (is, refl) in
    subst (λ n. Follows (offload_begin_step n w p wanted) n answer n) met.view here

pub offload_end_keeps : (s now : Core) (p w : ℕ) (x y : Pool) (h : Hand) → Met s now p w x h
    → permit (Rows.offload_end_row x h p) (record x { stage = stage.Offloaded }) ≡ Ok y →
    (disk : Option ℕ) → disk ≡ (None)
    → IsSound (record now { pools = in_place p y now.pools; hands = slice_set now.hands w (record h { moved = None }); disk = disk })
offload_end_keeps s now p w x y h met ok disk home =
    let row = Rows.offload_end_row x h p in let new : Pool = record x { stage = stage.Offloaded } in
    let kept : IsSound (record s { pools = in_place p new s.pools; hands = slice_set s.hands w (record h { moved = None }); disk = None }) =
    offload_end_sound s p w x.stage x.e x.c h.task h.written h.read h.moved met.sound met.found (hand_there s now p w x h met) (permit_ok row new y ok) in
    let kept' : IsSound (record s { pools = in_place p y s.pools; hands = slice_set s.hands w (record h { moved = None }); disk = disk }) =
    subst (λ d. IsSound (record s { pools = in_place p y s.pools; hands = slice_set s.hands w (record h { moved = None }); disk = d })) (sym home)
    (subst (λ z. IsSound (record s { pools = in_place p z s.pools; hands = slice_set s.hands w (record h { moved = None }); disk = None }))
    (permit_gives row new y ok) kept) in
    subst (λ n. IsSound (record n { pools = in_place p y n.pools; hands = slice_set n.hands w (record h { moved = None }); disk = disk })) met.view kept'

pub offload_end_follows : (s now : Core) (p w : ℕ) (x y : Pool) (h : Hand) → Met s now p w x h
    → permit (Rows.offload_end_row x h p) (record x { stage = stage.Offloaded }) ≡ Ok y →
    (disk : Option ℕ) → disk ≡ (None) → (t : Core)
    → t ≡ record now { pools = in_place p y now.pools; hands = slice_set now.hands w (record h { moved = None }); disk = disk }
    → Follows (offload_end_step now w p) now (Ok tt) t
offload_end_follows s now p w x y h met ok disk home t is =
    let hand = hand_is s now p w x h met in let found = met.found in
    let step : offload_end_step s w p ≡ Ok (record s { pools = in_place p y s.pools; hands = slice_set s.hands w (record h { moved = None }); disk = disk }) =
    rw (found, hand, ok, home) refl in
    let here : (u : Core) → u ≡ record s { pools = in_place p y s.pools; hands = slice_set s.hands w (record h { moved = None }); disk = disk }
    → Follows (offload_end_step s w p) s (Ok tt) u = λ u e. rw step (refl, e) in
    subst (λ n. (u : Core) → u ≡ record n { pools = in_place p y n.pools; hands = slice_set n.hands w (record h { moved = None }); disk = disk }
    → Follows (offload_end_step n w p) n (Ok tt) u) met.view here t is

pub offload_end_refused : (s now : Core) (p w : ℕ) (x : Pool) (h : Hand) (r : Refusal) → Met s now p w x h
    → permit (Rows.offload_end_row x h p) (record x { stage = stage.Offloaded }) ≡ Err r →
    (answer : Result (Unit {0}) Refusal) → answer ≡ Err r → Follows (offload_end_step now w p) now answer now
offload_end_refused s now p w x h r met ok answer is =
    let hand = hand_is s now p w x h met in let found = met.found in
    let step : offload_end_step s w p ≡ Err r = rw (found, hand, ok) refl in
    let here : Follows (offload_end_step s w p) s answer s = rw step (is, refl) in
    subst (λ n. Follows (offload_end_step n w p) n answer n) met.view here

-- a reload leaves the task as it is
pub pin_task : (m : Mode) (p : ℕ) (h : Hand) → (take_pin m p h).task ≡ h.task
pin_task mode.Read p h = refl
pin_task (mode.Write room) p h = refl

-- the sum of the places that hold q, where the task that is done leaves the hand
done_counts : (s : Core) (p : ℕ) (t : Option ℕ) → t ≡ Some p → (q : ℕ)
    → count_by (nat_eq q) s.unclaimed + count_by (nat_eq q) (s.done ++ p ∷ []) + one (holds None q) ≡ count_by (nat_eq q) s.unclaimed + count_by (nat_eq q)
    s.done + one (holds t q)
done_counts s p t is q = let a = sum_by-append (λ i. one (nat_eq q i)) s.done (p ∷ []) in let b = sum_by-cons (λ i. one (nat_eq q i)) p [] in let c : one
    (holds t q) ≡ one (nat_eq p q) = ap (λ o. one (holds o q)) is in let d = ap one (nat_eq_equiv.symm q p) in
    let z : sum_by (λ i. one (nat_eq q i)) [] ≡ 0 = refl in let y : one (holds None q) ≡ 0 = refl in omega arith

pub unpin_write_done : (s now : Core) (p w : ℕ) (f : Form) (e c : ℕ) (x y : Pool) (h : Hand) → Met s now p w x h
    → permit (Rows.unpin_write_row s.limit (under_sum s.pools) x h p f e c) (Rows.inserted f e c) ≡ Ok y → h.task ≡ Some p →
    IsSound (record now { pools = front p y now.pools; hands = slice_set now.hands w (record h { written = None; task = None }); done = now.done ++ p ∷ [] })
unpin_write_done s now p w f e c x y h met ok task =
    let row = Rows.unpin_write_row s.limit (under_sum s.pools) x h p f e c in let new : Pool = Rows.inserted f e c in let g : Hand = record h
    { written = None; task = None } in
    let kept = unpin_write_sound s p w f e c x.stage x.e x.c h.task h.written h.read h.moved met.sound met.found (hand_there s now p w x h met)
    (permit_ok row new y ok) g (s.done ++ p ∷ []) refl refl refl (done_counts s p h.task task) in
    let kept' : IsSound (record s { pools = front p y s.pools; hands = slice_set s.hands w g; done = s.done ++ p ∷ [] }) =
    subst (λ z. IsSound (record s { pools = front p z s.pools; hands = slice_set s.hands w g; done = s.done ++ p ∷ [] })) (permit_gives row new y ok) kept in
    subst (λ n. IsSound (record n { pools = front p y n.pools; hands = slice_set n.hands w g; done = n.done ++ p ∷ [] })) met.view kept'

pub unpin_write_other : (s now : Core) (p w : ℕ) (f : Form) (e c : ℕ) (x y : Pool) (h : Hand) → Met s now p w x h
    → permit (Rows.unpin_write_row s.limit (under_sum s.pools) x h p f e c) (Rows.inserted f e c) ≡ Ok y →
    (disk : Option ℕ) → disk ≡ s.disk
    → IsSound (record now { pools = front p y now.pools; hands = slice_set now.hands w (record h { written = None }); disk = disk })
unpin_write_other s now p w f e c x y h met ok disk home =
    let row = Rows.unpin_write_row s.limit (under_sum s.pools) x h p f e c in let new : Pool = Rows.inserted f e c in let g : Hand = record h { written = None }
    in
    let kept = unpin_write_sound s p w f e c x.stage x.e x.c h.task h.written h.read h.moved met.sound met.found (hand_there s now p w x h met)
    (permit_ok row new y ok) g s.done refl refl refl (λ q. refl) in
    let kept' : IsSound (record s { pools = front p y s.pools; hands = slice_set s.hands w g; disk = disk }) =
    subst (λ d. IsSound (record s { pools = front p y s.pools; hands = slice_set s.hands w g; disk = d })) (sym home)
    (subst (λ z. IsSound (record s { pools = front p z s.pools; hands = slice_set s.hands w g; disk = s.disk })) (permit_gives row new y ok) kept) in
    subst (λ n. IsSound (record n { pools = front p y n.pools; hands = slice_set n.hands w g; disk = disk })) met.view kept'

pub unpin_write_follows_done : (s now : Core) (p w : ℕ) (f : Form) (e c : ℕ) (x y : Pool) (h : Hand) → Met s now p w x h
    → permit (Rows.unpin_write_row s.limit (under_sum s.pools) x h p f e c) (Rows.inserted f e c) ≡ Ok y → h.task ≡ Some p →
    (t : Core) → t ≡ record now {
      pools = front p y now.pools;
      hands = slice_set now.hands w (record h { written = None; task = None });
      done = now.done ++ p ∷
          [];
    } → Follows (unpin_write_step now w p f e c) now (Ok tt) t
unpin_write_follows_done s now p w f e c x y h met ok task t is =
    let hand = hand_is s now p w x h met in let found = met.found in
    let mine : holds h.task p ≡ true = ap (λ o. holds o p) task ∙ number_itself p in
    let step : unpin_write_step s w p f e c ≡ Ok (record s {
      pools = front p y s.pools;
      hands = slice_set s.hands w (record h { written = None; task = None });
      done = s.done ++ p ∷ [];
    }) = rw (found, hand, ok, mine) refl in
    let here : (u : Core) → u ≡ record s {
      pools = front p y s.pools;
      hands = slice_set s.hands w (record h { written = None; task = None });
      done = s.done ++ p
          ∷ [];
    } → Follows (unpin_write_step s w p f e c) s (Ok tt) u = λ u k. rw step (refl, k) in
    subst (λ n. (u : Core) → u ≡ record n {
      pools = front p y n.pools;
      hands = slice_set n.hands w (record h { written = None; task = None });
      done = n.done ++
          p ∷ [];
    } → Follows (unpin_write_step n w p f e c) n (Ok tt) u) met.view here t is

pub unpin_write_follows_other : (s now : Core) (p w : ℕ) (f : Form) (e c : ℕ) (x y : Pool) (h : Hand) → Met s now p w x h
    → permit (Rows.unpin_write_row s.limit (under_sum s.pools) x h p f e c) (Rows.inserted f e c) ≡ Ok y → (h.task ≡ Some p → ⊥) →
    (disk : Option ℕ) → disk ≡ s.disk → (t : Core)
    → t ≡ record now { pools = front p y now.pools; hands = slice_set now.hands w (record h { written = None }); disk = disk }
    → Follows (unpin_write_step now w p f e c) now (Ok tt) t
unpin_write_follows_other s now p w f e c x y h met ok task disk home t is =
    let hand = hand_is s now p w x h met in let found = met.found in
    let other : holds h.task p ≡ false = (elim (holds h.task p) as (λ b. holds h.task p ≡ b → b ≡ false)
    [ true ↦ λ k. absurd (task (holds_is h.task p k)) | false ↦ λ k. refl ]) refl in
    let step : unpin_write_step s w p f e c ≡ Ok (record s {
      pools = front p y s.pools;
      hands = slice_set s.hands w (record h { written = None });
      disk = disk;
    }) = rw (found, hand, ok, other, home) refl in
    let here : (u : Core) → u ≡ record s { pools = front p y s.pools; hands = slice_set s.hands w (record h { written = None }); disk = disk }
    → Follows (unpin_write_step s w p f e c) s (Ok tt) u = λ u k. rw step (refl, k) in
    subst (λ n. (u : Core) → u ≡ record n { pools = front p y n.pools; hands = slice_set n.hands w (record h { written = None }); disk = disk }
    → Follows (unpin_write_step n w p f e c) n (Ok tt) u) met.view here t is

pub unpin_write_refused : (s now : Core) (p w : ℕ) (f : Form) (e c : ℕ) (x : Pool) (h : Hand) (r : Refusal) → Met s now p w x h
    → permit (Rows.unpin_write_row s.limit (under_sum s.pools) x h p f e c) (Rows.inserted f e c) ≡ Err r →
    (answer : Result (Unit {0}) Refusal) → answer ≡ Err r → Follows (unpin_write_step now w p f e c) now answer now
unpin_write_refused s now p w f e c x h r met ok answer is =
    let hand = hand_is s now p w x h met in let found = met.found in
    let step : unpin_write_step s w p f e c ≡ Err r = rw (found, hand, ok) refl in
    let here : Follows (unpin_write_step s w p f e c) s answer s = rw step (is, refl) in
    subst (λ n. Follows (unpin_write_step n w p f e c) n answer n) met.view here

-- the test whether a place is p
pub eq_some : (o : Option ℕ) (p : ℕ) → true ≡ option_eq nat_eq o (Some p) → o ≡ Some p
eq_some None p h = cc
eq_some (Some q) p h = ap (λ k. Some k) (same_number q p (sym h))

pub ne_some : (o : Option ℕ) (p : ℕ) → false ≡ option_eq nat_eq o (Some p) → o ≡ Some p → ⊥
ne_some o p h e = let k : option_eq nat_eq o (Some p) ≡ true = ap (λ v. option_eq nat_eq v (Some p)) e ∙ number_itself p in cc

-- a hand that was read
pub read_hand : (hands : List Hand) (w : ℕ) (h : Hand) → w < length hands → h ≡ get_or hands w h → slice_get hands w ≡ Some h
read_hand hands w h below is = slice_get_read hands (length hands) w h refl below is

pub read_hand_at : (hands : List Hand) (w : ℕ) (h : Hand) → w < length hands → h ≡ get_or hands w h → hand_at hands w ≡ h
read_hand_at hands w h below is = unwrap_or-slice_get hands w empty_hand ∙ get_or_from_slice_get hands w h empty_hand (read_hand hands w h below is)

pub none_of : (o : Option ℕ) → false ≡ is_some o → o ≡ None
none_of None h = refl
none_of (Some x) h = cc
