-- Each event on a pool keeps the state sound.
use Rattle.std.proofs.Common.{◌≡◌, ◌≢◌, ℕ, ◌+◌, ◌-◌, ◌<◌, ◌≤◌, ◌^◌, Bool, true, false, not, cond, ◌==◌, nat_eq, nat_lt, nat_le, List}
use Rattle.std.proofs.Common.{[], ◌∷◌, length, reverse, find, Option, Some, None, IsSome, Ok, Err, Result, is_ok, refl, sym, ap, subst}
use Rattle.std.proofs.Common.{arith, ◌∙◌, sum_by, ◌⊎◌, inl, inr, option_map, zero-add, true≢false}
use Rattle.std.specs.Prelude.{count_by, is_some, ◌&&◌, ◌||◌, if◌then◌else◌}
use Rattle.std.specs.Cmp.{nat_eq_equiv}
use Rattle.std.proofs.lemmas.List.Sums.{sum_by-cons}
use Rattle.std.specs.List.{IsDistinct, slice_get, slice_set}
use Rattle.std.specs.Option.{option_or, option_map_or}
use Rattle.std.proofs.lemmas.List.{reverse-append}
use Rattle.std.proofs.lemmas.List.Folds.{find-append}
use Rattle.std.proofs.lemmas.Map.Keys.{IsDistinct-tail, IsDistinct-cons}
use Rattle.std.specs.Map.{keys_of, values_of, lookup}
use Rattle.std.proofs.lemmas.Bool.Decides.{nat_tests}
use Rattle.std.proofs.lemmas.Option.{same_Some, cond_some}
use Rattle.naim_core.specs.Charges.{under_part, under_sum}
use Rattle.naim_core.specs.Rows
use Rattle.naim_core.specs.Sound.{wanted_by, read_pins, write_pins, movers, IsFitStage, IsFitPool, KeepsPin, IsSound}
use Rattle.naim_core.specs.State.{Core, pool_at, holds, moves_by_disk, is_offloaded, victim, is_free, is_compacted}
use Rattle.naim_core.specs.Steps.{permit, front, in_place, take_pin}
use Rattle.naim_core.specs.declared.event.Form.{Form}
use Rattle.naim_core.specs.declared.event.Form.TheVariants as form
use Rattle.naim_core.specs.declared.event.Mode.{Mode}
use Rattle.naim_core.specs.declared.event.Mode.TheVariants as mode
use Rattle.naim_core.specs.declared.event.Refusal.{Refusal}
use Rattle.naim_core.specs.declared.event.Refusal.TheVariants.{NotHeld, NoTask, DiskOut, Fits as Fits_refusal}
use Rattle.naim_core.specs.declared.event.Refusal.TheVariants.{NotVictim, Present, Full, BadSize, TooSmall, NeedsRoom}
use Rattle.naim_core.specs.declared.pool.Pool.{Pool}
use Rattle.naim_core.specs.declared.pool.Stage.{Stage}
use Rattle.naim_core.specs.declared.pool.Stage.TheVariants as stage
use Rattle.naim_core.specs.declared.state.Hand.{Hand}
use Rattle.list_laws.proofs.Entries.{same_number, number_itself, other_number, sum_removed, apart_number, head_absent, apart_from_none}
use Rattle.naim_core.proofs.Keeps.{one, Swapped, swapped_front, swapped_in_place, Fits, holds_is, change_sound}

-- a place that keeps what it holds, takes p, or lets p go
fits_same : (number : Stage → ℕ) (p : ℕ) (x y : Pool) (a : Option ℕ) → number y.stage ≡ number x.stage → Fits number p x y a a
fits_same number p x y a e = record { here = ap (λ n. n + one (holds a p)) e; elsewhere = λ q d. refl }

fits_take : (number : Stage → ℕ) (p : ℕ) (x y : Pool) → number y.stage ≡ number x.stage + 1 → Fits number p x y None (Some p)
fits_take number p x y e = record {
  here = (let i : one (p == p) ≡ 1 = ap one (number_itself p) in let g : number y.stage + 0 ≡ number x.stage + one (p == p) = omega arith in g);
  elsewhere = λ q d. sym (other_number p q d);
}

fits_drop : (number : Stage → ℕ) (p : ℕ) (x y : Pool) → number y.stage + 1 ≡ number x.stage → Fits number p x y (Some p) None
fits_drop number p x y e = record {
  here = (let i : one (p == p) ≡ 1 = ap one (number_itself p) in let g : number y.stage + one (p == p) ≡ number x.stage + 0 = omega arith in g);
  elsewhere = λ q d. other_number p q d;
}

-- the change of an event, its task left as it is
change_at : (s : Core) (p w : ℕ) (x y : Pool) (h g : Hand) (pools : List (ℕ × Pool)) (disk : Option ℕ) → IsSound s → pool_at s.pools p ≡ Some x
    → slice_get s.hands w ≡ Some h →
    Swapped p x y s.pools pools → IsFitPool s.limit y → under_sum s.pools + under_part y ≤ s.limit + under_part x →
    Fits read_pins p x y h.read g.read → Fits write_pins p x y h.written g.written → Fits movers p x y h.moved g.moved →
    KeepsPin pools g → ((m : Mode) (d : Bool) → y.stage ≡ stage.Reloading m d → movers x.stage ≡ 0) →
    one (moves_by_disk y.stage) + one (is_some s.disk) ≡ one (moves_by_disk x.stage) + one (is_some disk) →
    ((v : ℕ) → disk ≡ Some v → (s.disk ≡ Some v) ⊎ ((v ≡ w) × (moves_by_disk y.stage ≡ true) × (g.moved ≡ Some p))) →
    g.task ≡ h.task → (s.in_wave ≡ true → (q : ℕ) → g.written ≡ Some q → g.task ≡ Some q) →
    IsSound (record s { pools = pools; hands = slice_set s.hands w g; disk = disk })
change_at s p w x y h g pools disk sound at hand swap fits under reads writes moves pins fresh home owner task own =
    change_sound s (record s { pools = pools; hands = slice_set s.hands w g; disk = disk }) p w x y h g sound (record {
      pool = at;
      hand = hand;
      pools = swap;
      hands = refl;
      limit = refl;
      fits = fits;
      under = under;
      reads = reads;
      writes = writes;
      moves = moves;
      pins = pins;
      fresh = fresh;
      disk = home;
      owner = owner;
      in_wave = refl;
      tasks = refl;
      kept = λ t. ap (λ o. count_by (nat_eq t) s.unclaimed + count_by (nat_eq t) s.done + one (holds o t)) task;
      own = own;
    })

fits_like : (number : Stage → ℕ) (p : ℕ) (x y : Pool) (a b : Option ℕ) → a ≡ b → number y.stage ≡ number x.stage → Fits number p x y a b
fits_like number p x y a b same e = subst (Fits number p x y a) same (fits_same number p x y a e)

fits_gone : (number : Stage → ℕ) (p : ℕ) (x y : Pool) (a b : Option ℕ) → a ≡ Some p → b ≡ None → number y.stage + 1 ≡ number x.stage → Fits number p x y a b
fits_gone number p x y a b had left e = subst (λ o. Fits number p x y o b) (sym had) (subst (Fits number p x y (Some p)) (sym left) (fits_drop number p x y e))

-- what the other moves of the hand want stays
pins_same : (s : Core) (p w : ℕ) (x y : Pool) (h g : Hand) (pools : List (ℕ × Pool)) → IsSound s → slice_get s.hands w ≡ Some h → Swapped p x y s.pools pools →
    ((m : Mode) (d : Bool) → y.stage ≡ stage.Reloading m d → ⊥) → g.moved ≡ h.moved →
    ((q : ℕ) → p ≢ q → h.read ≡ Some q → g.read ≡ Some q) → ((q : ℕ) → p ≢ q → h.written ≡ Some q → g.written ≡ Some q) → KeepsPin pools g
pins_same s p w x y h g pools sound hand swap still moved read written q z d m is =
    (elim (nat_eq p q) as (λ b. nat_eq p q ≡ b
    → (z.stage ≡ stage.Reloading mode.Read d → g.read ≡ Some q) × ((room : ℕ) → z.stage ≡ stage.Reloading (mode.Write room) d → g.written ≡ Some q)) [
      | true ↦ λ t. let e = swap.found q in let e' = rw t at e in let zy : y ≡ z = same_Some y z (sym e' ∙ is) in
          ((λ r. absurd (still mode.Read d (ap (λ v. v.stage) zy ∙ r))), (λ room r. absurd (still (mode.Write room) d (ap (λ v. v.stage) zy ∙ r))))
      | false ↦ λ t. let e = swap.found q in let e' = rw t at e in
          let away : p ≢ q = λ same. (let k : nat_eq p q ≡ true = ap (nat_eq p) (sym same) ∙ number_itself p in cc) in
          let was = sound.pins_kept w h hand q z d (sym moved ∙ m) (sym e' ∙ is) in
          ((λ r. read q away (was.0 r)), (λ room r. written q away (was.1 room r)))
    ]) refl

-- a hand that moves p alone, and p is not reloaded
pins_move : (p : ℕ) (x y : Pool) (g : Hand) (old pools : List (ℕ × Pool)) → Swapped p x y old pools →
    ((m : Mode) (d : Bool) → y.stage ≡ stage.Reloading m d → ⊥) → g.moved ≡ Some p → KeepsPin pools g
pins_move p x y g old pools swap still moved q z d m is =
    let same : p ≡ q = same_Some p q (sym moved ∙ m) in
    let t : nat_eq p q ≡ true = ap (nat_eq p) (sym same) ∙ number_itself p in
    let e = swap.found q in let e' = rw t at e in let zy : y ≡ z = same_Some y z (sym e' ∙ is) in
    ((λ r. absurd (still mode.Read d (ap (λ v. v.stage) zy ∙ r))), (λ room r. absurd (still (mode.Write room) d (ap (λ v. v.stage) zy ∙ r))))

-- the content of p itself
same_here : (p q : ℕ) (x y z : Pool) (old pools : List (ℕ × Pool)) → Swapped p x y old pools → p ≡ q → pool_at pools q ≡ Some z → y ≡ z
same_here p q x y z old pools swap same is =
    let t : nat_eq p q ≡ true = ap (nat_eq p) (sym same) ∙ number_itself p in
    let e = swap.found q in let e' = rw t at e in same_Some y z (sym e' ∙ is)

-- a hand that moves nothing
pins_none : (g : Hand) (pools : List (ℕ × Pool)) → g.moved ≡ None → KeepsPin pools g
pins_none g pools none q z d m is = cc

-- a pool that moves by the disk has it out
disk_out : (s : Core) (p : ℕ) (x : Pool) → IsSound s → pool_at s.pools p ≡ Some x → moves_by_disk x.stage ≡ true → one (is_some s.disk) ≡ 1
disk_out s p x sound at t =
    let r = sum_removed (λ v. one (moves_by_disk v.stage)) p x s.pools at in let i : one (moves_by_disk x.stage) ≡ 1 = ap one t in
    let k = sound.one_disk_move in some_one (is_some s.disk) (omega arith)
  where
    some_one : (b : Bool) → 1 ≤ one b → one b ≡ 1
    some_one true h = refl
    some_one false h = absurd (omega arith)

false_ok : {A : Type 0} → false ≡ true → A
false_ok h = absurd (true≢false (sym h))

no_both : {A : Type 0} → false ≡ true → A
no_both h = absurd (true≢false (sym h))

-- one part of a row, where all of it is permitted
permit_head : {X : Type 0} (b : Bool) (r : Refusal) (rest : Result X Refusal) → is_ok (if b then Err r else rest) ≡ true → (b ≡ false) × (is_ok rest ≡ true)
permit_head true r rest h = cc
permit_head false r rest h = (refl, h)

-- what a permitted row gives is what was to be given
pub permit_gives : {X : Type 0} (row : Rows.Row) (x y : X) → permit row x ≡ Ok y → x ≡ y
permit_gives [] x y h = cc
permit_gives ((true, r) ∷ row) x y h = cc
permit_gives ((false, r) ∷ row) x y h = permit_gives row x y h

pub permit_ok : {X : Type 0} (row : Rows.Row) (x y : X) → permit row x ≡ Ok y → is_ok (permit row x) ≡ true
permit_ok row x y h = ap is_ok h

-- the same bodies at another stage
fit_at : (limit : ℕ) (st new : Stage) (e c : ℕ) → IsFitPool limit (record { stage = st; e = e; c = c }) → IsFitStage new
    → IsFitPool limit (record { stage = new; e = e; c = c })
fit_at limit st new e c f g = record { shorter = f.shorter; within = f.within; charge = f.charge; stage_fits = g }

abbrev pub at_stage : Stage → ℕ → ℕ → Pool
at_stage st e c = record { stage = st; e = e; c = c }

abbrev pub hand_of : Option ℕ → Option ℕ → Option ℕ → Option ℕ → Hand
hand_of t wr r m = record { task = t; written = wr; read = r; moved = m }

not_above : (n k : ℕ) → nat_lt k n ≡ false → n ≤ k
not_above n k h = grind (arith, nat_tests)

pub pin_read_sound : (s : Core) (p w : ℕ) (st : Stage) (e c : ℕ) (t wr r m : Option ℕ) → IsSound s → pool_at s.pools p ≡ Some (at_stage st e c)
    → slice_get s.hands w ≡ Some (hand_of t wr r m) →
    is_ok (permit (Rows.pin_read_row (at_stage st e c) (hand_of t wr r m)) (at_stage (Rows.with_reader st) e c)) ≡ true →
    IsSound (record s { pools = front p (at_stage (Rows.with_reader st) e c) s.pools; hands = slice_set s.hands w (hand_of t wr (Some p) m) })
pin_read_sound s p w st e c t wr (Some k) m sound at hand ok = cc
pin_read_sound s p w stage.Free e c t wr None m sound at hand ok =
    let x = at_stage stage.Free e c in let y = at_stage (stage.Read 1) e c in let h = hand_of t wr None m in let g = hand_of t wr (Some p) m in
    let swap = swapped_front p x y s.pools sound.one_pool at in
    change_at s p w x y h g (front p y s.pools) s.disk sound at hand swap
    (fit_at s.limit stage.Free (stage.Read 1) e c (sound.forms_fit p x at) (omega arith)) (let u = sound.under_fits in omega arith)
    (fits_take read_pins p x y refl) (fits_same write_pins p x y wr refl) (fits_same movers p x y m refl)
    (pins_same s p w x y h g (front p y s.pools) sound hand swap (λ m d e. cc) refl (λ q d e. cc) (λ q d e. e)) (λ m d e. cc) refl (λ v o. inl o) refl
    (λ i. sound.own_task i w h hand)
pin_read_sound s p w (stage.Read n) e c t wr None m sound at hand ok =
    let x = at_stage (stage.Read n) e c in let y = at_stage (stage.Read (n + 1)) e c in let h = hand_of t wr None m in let g = hand_of t wr (Some p) m in
    let swap = swapped_front p x y s.pools sound.one_pool at in
    change_at s p w x y h g (front p y s.pools) s.disk sound at hand swap
    (fit_at s.limit (stage.Read n) (stage.Read (n + 1)) e c (sound.forms_fit p x at) (omega arith)) (let u = sound.under_fits in omega arith)
    (fits_take read_pins p x y refl) (fits_same write_pins p x y wr refl) (fits_same movers p x y m refl)
    (pins_same s p w x y h g (front p y s.pools) sound hand swap (λ m d e. cc) refl (λ q d e. cc) (λ q d e. e)) (λ m d e. cc) refl (λ v o. inl o) refl
    (λ i. sound.own_task i w h hand)
pin_read_sound s p w _ e c t wr None m sound at hand ok = cc

-- a worker that may write p in a wave has it as its task
own_task_of : (b : Bool) (t : Option ℕ) (p : ℕ) → (b && not (holds t p)) ≡ false → b ≡ true → (q : ℕ) → Some p ≡ Some q → t ≡ Some q
own_task_of true t p h i q e = holds_is t p (not_not (holds t p) h) ∙ e
  where
    not_not : (b : Bool) → not b ≡ false → b ≡ true
    not_not true h = refl
    not_not false h = cc
own_task_of false t p h i q e = cc

pub pin_write_sound : (s : Core) (p w room : ℕ) (st : Stage) (e c : ℕ) (t wr r m : Option ℕ) → IsSound s → pool_at s.pools p ≡ Some (at_stage st e c)
    → slice_get s.hands w ≡ Some (hand_of t wr r m) →
    is_ok (permit (Rows.pin_write_row (at_stage st e c) (hand_of t wr r m) s.in_wave p room) (at_stage (stage.Written room) e c)) ≡ true →
    IsSound (record s { pools = front p (at_stage (stage.Written room) e c) s.pools; hands = slice_set s.hands w (hand_of t (Some p) r m) })
pin_write_sound s p w room st e c t (Some k) r m sound at hand ok = cc
pin_write_sound s p w room stage.Free e c t None r m sound at hand ok =
    let x = at_stage stage.Free e c in let y = at_stage (stage.Written room) e c in let h = hand_of t None r m in let g = hand_of t (Some p) r m in
    let task = permit_head (s.in_wave && not (holds t p)) NoTask _ ok in let size = permit_head (nat_lt (2 ^ 41) room) BadSize _ task.1 in
    let swap = swapped_front p x y s.pools sound.one_pool at in
    change_at s p w x y h g (front p y s.pools) s.disk sound at hand swap
    (fit_at s.limit stage.Free (stage.Written room) e c (sound.forms_fit p x at) (not_above room (2 ^ 41) size.0)) (let u = sound.under_fits in omega arith)
    (fits_same read_pins p x y r refl) (fits_take write_pins p x y refl) (fits_same movers p x y m refl)
    (pins_same s p w x y h g (front p y s.pools) sound hand swap (λ m d e. cc) refl (λ q d e. e) (λ q d e. cc)) (λ m d e. cc) refl (λ v o. inl o) refl
    (own_task_of s.in_wave t p task.0)
pin_write_sound s p w room _ e c t None r m sound at hand ok = let task = permit_head (s.in_wave && not (holds t p)) NoTask _ ok in false_ok task.1

-- the disk is out as it was, or out with w, which moves p by it
abbrev TakesDisk : Core → ℕ → ℕ → Bool → Option ℕ → Type 0
TakesDisk s w p by_disk disk = (v : ℕ) → disk ≡ Some v → (s.disk ≡ Some v) ⊎ ((v ≡ w) × (by_disk ≡ true) × (Some p ≡ Some p))

taken : (s : Core) (w p : ℕ) → TakesDisk s w p true (Some w)
taken s w p v o = inr (sym (same_Some w v o), refl, refl)

-- a reload for reading
reload_read : (s : Core) (p w : ℕ) (st : Stage) (d : Bool) (e c : ℕ) (t wr : Option ℕ) (disk : Option ℕ) → IsSound s
    → pool_at s.pools p ≡ Some (at_stage st e c) → slice_get s.hands w ≡ Some (hand_of t wr None None) →
    read_pins st ≡ 0 → write_pins st ≡ 0 → movers st ≡ 0 → one d + one (is_some s.disk) ≡ one (moves_by_disk st) + one (is_some disk) → TakesDisk s w p d disk →
    IsSound (record s {
      pools = in_place p (at_stage (stage.Reloading mode.Read d) e c) s.pools;
      hands = slice_set s.hands w (hand_of t wr (Some p) (Some p));
      disk = disk;
    })
reload_read s p w st d e c t wr disk sound at hand r0 w0 m0 home owner =
    let x = at_stage st e c in let y = at_stage (stage.Reloading mode.Read d) e c in let h = hand_of t wr None None in let g = hand_of t wr (Some p) (Some p) in
    let swap = swapped_in_place p x y s.pools sound.one_pool at in
    change_at s p w x y h g (in_place p y s.pools) disk sound at hand swap
    (fit_at s.limit st (stage.Reloading mode.Read d) e c (sound.forms_fit p x at) (omega arith)) (let u = sound.under_fits in omega arith)
    (fits_take read_pins p x y (sym (ap (λ n. n + 1) r0))) (fits_same write_pins p x y wr (sym w0)) (fits_take movers p x y (sym (ap (λ n. n + 1) m0)))
    (λ q z b moved is. (
      (λ r. moved),
      (λ room r. let zy = same_here p q x y z s.pools (in_place p y s.pools) swap (same_Some p q moved) is in let k :
          stage.Reloading mode.Read d ≡ stage.Reloading (mode.Write room) b = ap (λ v. v.stage) zy ∙ r in absurd (two_modes d b room k)),
    ))
    (λ m b e. m0) home owner refl (λ i. sound.own_task i w h hand)
  where
    two_modes : (d b : Bool) (room : ℕ) → stage.Reloading mode.Read d ≡ stage.Reloading (mode.Write room) b → ⊥
    two_modes d b room k = let m : mode.Read ≡ mode.Write room = cc in cc

reload_write : (s : Core) (p w room : ℕ) (st : Stage) (d : Bool) (e c : ℕ) (t r : Option ℕ) (disk : Option ℕ) → IsSound s
    → pool_at s.pools p ≡ Some (at_stage st e c) → slice_get s.hands w ≡ Some (hand_of t None r None) →
    read_pins st ≡ 0 → write_pins st ≡ 0 → movers st ≡ 0 → one d + one (is_some s.disk) ≡ one (moves_by_disk st) + one (is_some disk) → TakesDisk s w p d disk
    → room ≤ 2 ^ 41 → (s.in_wave && not (holds t p)) ≡ false →
    IsSound (record s {
      pools = in_place p (at_stage (stage.Reloading (mode.Write room) d) e c) s.pools;
      hands = slice_set s.hands w
          (hand_of t (Some p) r (Some p));
      disk = disk;
    })
reload_write s p w room st d e c t r disk sound at hand r0 w0 m0 home owner fits task =
    let x = at_stage st e c in let y = at_stage (stage.Reloading (mode.Write room) d) e c in let h = hand_of t None r None in let g = hand_of t (Some p) r
    (Some p) in
    let swap = swapped_in_place p x y s.pools sound.one_pool at in
    change_at s p w x y h g (in_place p y s.pools) disk sound at hand swap
    (fit_at s.limit st (stage.Reloading (mode.Write room) d) e c (sound.forms_fit p x at) fits) (let u = sound.under_fits in omega arith)
    (fits_same read_pins p x y r (sym r0)) (fits_take write_pins p x y (sym (ap (λ n. n + 1) w0))) (fits_take movers p x y (sym (ap (λ n. n + 1) m0)))
    (λ q z b moved is. (
      (λ k. let zy = same_here p q x y z s.pools (in_place p y s.pools) swap (same_Some p q moved) is in let l : stage.Reloading
          (mode.Write room) d ≡ stage.Reloading mode.Read b = ap (λ v. v.stage) zy ∙ k in absurd (two_modes d b room l)),
      (λ n k. moved),
    ))
    (λ m b e. m0) home owner refl (own_task_of s.in_wave t p task)
  where
    two_modes : (d b : Bool) (room : ℕ) → stage.Reloading (mode.Write room) d ≡ stage.Reloading mode.Read b → ⊥
    two_modes d b room k = let m : mode.Write room ≡ mode.Read = cc in cc

pub reload_begin_sound : (s : Core) (p w : ℕ) (m : Mode) (st : Stage) (e c : ℕ) (t wr r mv : Option ℕ) → IsSound s → pool_at s.pools p ≡ Some (at_stage st e c)
    → slice_get s.hands w ≡ Some (hand_of t wr r mv) →
    is_ok (permit (Rows.reload_begin_row (at_stage st e c) (hand_of t wr r mv) s.in_wave p m s.disk) (at_stage (stage.Reloading m (is_offloaded st)) e c)) ≡
    true →
    IsSound (record s {
      pools = in_place p (at_stage (stage.Reloading m (is_offloaded st)) e c) s.pools;
      hands = slice_set s.hands w
          (take_pin m p (hand_of t wr r mv));
      disk = if is_offloaded st then Some w else s.disk;
    })
reload_begin_sound s p w m st e c t wr r (Some k) sound at hand ok = cc
reload_begin_sound s p w mode.Read st e c t wr (Some k) None sound at hand ok = cc
reload_begin_sound s p w (mode.Write room) st e c t (Some k) r None sound at hand ok = cc
reload_begin_sound s p w mode.Read stage.Compacted e c t wr None None sound at hand ok = reload_read s p w stage.Compacted false e c t wr s.disk sound at hand
    refl refl refl refl (λ v o. inl o)
reload_begin_sound s p w mode.Read stage.Offloaded e c t wr None None sound at hand ok =
    let out = permit_head (is_some s.disk) DiskOut _ ok in reload_read s p w stage.Offloaded true e c t wr (Some w) sound at hand refl refl refl
    (ap (λ b. 1 + one b) out.0) (taken s w p)
reload_begin_sound s p w mode.Read _ e c t wr None None sound at hand ok = cc
reload_begin_sound s p w (mode.Write room) stage.Compacted e c t None r None sound at hand ok =
    let task = permit_head (s.in_wave && not (holds t p)) NoTask _ ok in let size = permit_head (nat_lt (2 ^ 41) room) BadSize _ task.1 in
    reload_write s p w room stage.Compacted false e c t r s.disk sound at hand refl refl refl refl (λ v o. inl o) (not_above room (2 ^ 41) size.0) task.0
reload_begin_sound s p w (mode.Write room) stage.Offloaded e c t None r None sound at hand ok =
    let task = permit_head (s.in_wave && not (holds t p)) NoTask _ ok in let out = permit_head (is_some s.disk) DiskOut _ task.1 in let size = permit_head
    (nat_lt (2 ^ 41) room) BadSize _ out.1 in
    reload_write s p w room stage.Offloaded true e c t r (Some w) sound at hand refl refl refl (ap (λ b. 1 + one b) out.0) (taken s w p)
    (not_above room (2 ^ 41) size.0) task.0
reload_begin_sound s p w (mode.Write room) _ e c t None r None sound at hand ok = let task = permit_head (s.in_wave && not (holds t p)) NoTask _ ok in false_ok
    task.1

-- the end of a move: p stands at a stage where nobody moves it, and the disk comes home if it was out for it
ended : (s : Core) (p w : ℕ) (st new : Stage) (e c : ℕ) (t wr r mv : Option ℕ) (pools : List (ℕ × Pool)) (disk : Option ℕ) → IsSound s
    → pool_at s.pools p ≡ Some (at_stage st e c) → slice_get s.hands w ≡ Some (hand_of t wr r mv) → mv ≡ Some p →
    Swapped p (at_stage st e c) (at_stage new e c) s.pools pools → IsFitStage new → under_part (at_stage new e c) ≡ under_part (at_stage st e c) →
    read_pins new ≡ read_pins st → write_pins new ≡ write_pins st → movers st ≡ 1 → movers new ≡ 0 → moves_by_disk new ≡ false
    → one (is_some s.disk) ≡ one (moves_by_disk st) + one (is_some disk) → ((v : ℕ) → disk ≡ Some v → s.disk ≡ Some v) →
    IsSound (record s { pools = pools; hands = slice_set s.hands w (hand_of t wr r None); disk = disk })
ended s p w st new e c t wr r mv pools disk sound at hand moved swap fits under reads writes m1 m0 off home was_out =
    let x = at_stage st e c in let y = at_stage new e c in let h = hand_of t wr r (Some p) in let g = hand_of t wr r None in
    let hand' : slice_get s.hands w ≡ Some h = hand ∙ ap (λ o. Some (hand_of t wr r o)) moved in
    change_at s p w x y h g pools disk sound at hand' swap
    (fit_at s.limit st new e c (sound.forms_fit p x at) fits) (let u = sound.under_fits in omega arith)
    (fits_same read_pins p x y r reads) (fits_same write_pins p x y wr writes) (fits_drop movers p x y (ap (λ n. n + 1) m0 ∙ sym m1))
    (pins_none g pools refl) (λ m b e. absurd (no_mover new m b m0 e)) (let o : one (moves_by_disk new) ≡ 0 = ap one off in omega arith)
    (λ v o. inl (was_out v o)) refl (λ i. sound.own_task i w h hand')
  where
    no_mover : (new : Stage) (m : Mode) (b : Bool) → movers new ≡ 0 → new ≡ stage.Reloading m b → ⊥
    no_mover new m b z e = let k : movers new ≡ 1 = ap movers e in (omega arith)

-- both parts of a test that holds
both_of : (a b : Bool) → not (a && b) ≡ false → (a ≡ true) × (b ≡ true)
both_of true true h = (refl, refl)
both_of true false h = cc
both_of false b h = cc

home_after : (s : Core) (p : ℕ) (x : Pool) (b : Bool) → IsSound s → pool_at s.pools p ≡ Some x → moves_by_disk x.stage ≡ b
    → one (is_some s.disk) ≡ one b + one (is_some (if b then None else s.disk))
home_after s p x true sound at t = disk_out s p x sound at t
home_after s p x false sound at t = sym (zero-add (one (is_some s.disk)))

-- a disk that doesn't come home is out as it was
still_out : (b : Bool) (o : Option ℕ) (v : ℕ) → (if b then None else o) ≡ Some v → o ≡ Some v
still_out true o v e = cc
still_out false o v e = e

pub reload_end_sound : (s : Core) (p w : ℕ) (st : Stage) (e c : ℕ) (t wr r mv : Option ℕ) → IsSound s → pool_at s.pools p ≡ Some (at_stage st e c)
    → slice_get s.hands w ≡ Some (hand_of t wr r mv) →
    is_ok (permit (Rows.reload_end_row (at_stage st e c) (hand_of t wr r mv) p) (at_stage (Rows.reloaded st) e c)) ≡ true →
    IsSound (record s {
      pools = front p (at_stage (Rows.reloaded st) e c) s.pools;
      hands = slice_set s.hands w (hand_of t wr r None);
      disk = if moves_by_disk st
          then None else s.disk;
    })
reload_end_sound s p w (stage.Reloading mode.Read d) e c t wr r mv sound at hand ok =
    let part = permit_head (not (holds mv p && true)) NotHeld _ ok in let both = both_of (holds mv p) true part.0 in
    ended s p w (stage.Reloading mode.Read d) (stage.Read 1) e c t wr r mv _ _ sound at hand (holds_is mv p both.0)
    (swapped_front p (at_stage (stage.Reloading mode.Read d) e c) (at_stage (stage.Read 1) e c) s.pools sound.one_pool at) (omega arith) refl refl refl refl
    refl refl (home_after s p (at_stage (stage.Reloading mode.Read d) e c) d sound at refl) (still_out d s.disk)
reload_end_sound s p w (stage.Reloading (mode.Write room) d) e c t wr r mv sound at hand ok =
    let part = permit_head (not (holds mv p && true)) NotHeld _ ok in let both = both_of (holds mv p) true part.0 in
    ended s p w (stage.Reloading (mode.Write room) d) (stage.Written room) e c t wr r mv _ _ sound at hand (holds_is mv p both.0)
    (swapped_front p (at_stage (stage.Reloading (mode.Write room) d) e c) (at_stage (stage.Written room) e c) s.pools sound.one_pool at)
    (sound.forms_fit p (at_stage (stage.Reloading (mode.Write room) d) e c) at).stage_fits refl refl refl refl refl refl
    (home_after s p (at_stage (stage.Reloading (mode.Write room) d) e c) d sound at refl) (still_out d s.disk)
reload_end_sound s p w _ e c t wr r mv sound at hand ok = let part = permit_head (not (holds mv p && false)) NotHeld _ ok in let both = both_of (holds mv p)
    false part.0 in no_both both.1

pub compact_end_sound : (s : Core) (p w : ℕ) (st : Stage) (e c : ℕ) (t wr r mv : Option ℕ) → IsSound s → pool_at s.pools p ≡ Some (at_stage st e c)
    → slice_get s.hands w ≡ Some (hand_of t wr r mv) →
    is_ok (permit (Rows.compact_end_row (at_stage st e c) (hand_of t wr r mv) p) (at_stage stage.Compacted e c)) ≡ true →
    IsSound (record s { pools = in_place p (at_stage stage.Compacted e c) s.pools; hands = slice_set s.hands w (hand_of t wr r None); disk = s.disk })
compact_end_sound s p w stage.Compacting e c t wr r mv sound at hand ok =
    let part = permit_head (not (holds mv p && true)) NotHeld _ ok in let both = both_of (holds mv p) true part.0 in
    ended s p w stage.Compacting stage.Compacted e c t wr r mv _ _ sound at hand (holds_is mv p both.0)
    (swapped_in_place p (at_stage stage.Compacting e c) (at_stage stage.Compacted e c) s.pools sound.one_pool at) tt refl refl refl refl refl refl
    (sym (zero-add (one (is_some s.disk)))) (λ v o. o)
compact_end_sound s p w _ e c t wr r mv sound at hand ok = let part = permit_head (not (holds mv p && false)) NotHeld _ ok in let both = both_of (holds mv p)
    false part.0 in no_both both.1

pub offload_end_sound : (s : Core) (p w : ℕ) (st : Stage) (e c : ℕ) (t wr r mv : Option ℕ) → IsSound s → pool_at s.pools p ≡ Some (at_stage st e c)
    → slice_get s.hands w ≡ Some (hand_of t wr r mv) →
    is_ok (permit (Rows.offload_end_row (at_stage st e c) (hand_of t wr r mv) p) (at_stage stage.Offloaded e c)) ≡ true →
    IsSound (record s { pools = in_place p (at_stage stage.Offloaded e c) s.pools; hands = slice_set s.hands w (hand_of t wr r None); disk = None })
offload_end_sound s p w stage.Offloading e c t wr r mv sound at hand ok =
    let part = permit_head (not (holds mv p && true)) NotHeld _ ok in let both = both_of (holds mv p) true part.0 in
    ended s p w stage.Offloading stage.Offloaded e c t wr r mv _ _ sound at hand (holds_is mv p both.0)
    (swapped_in_place p (at_stage stage.Offloading e c) (at_stage stage.Offloaded e c) s.pools sound.one_pool at) tt refl refl refl refl refl refl
    (disk_out s p (at_stage stage.Offloading e c) sound at refl) (λ v o. cc)
offload_end_sound s p w _ e c t wr r mv sound at hand ok = let part = permit_head (not (holds mv p && false)) NotHeld _ ok in let both = both_of (holds mv p)
    false part.0 in no_both both.1

-- the fit of a form
fit_of : (limit under : ℕ) (f : Form) (e c : ℕ) → is_ok (permit (Rows.fit_row limit under f e c) e) ≡ true → under + Rows.bytes_of f e c ≤ limit
fit_of limit under f e c ok =
    let small = permit_head (Rows.is_compact_form f && nat_lt limit c) (TooSmall c) _ ok in
    let room = permit_head (nat_lt limit (under + Rows.bytes_of f e c)) (NeedsRoom (Rows.bytes_of f e c)) _ small.1 in not_above _ limit room.0

fit_within : (limit under : ℕ) (f : Form) (e c : ℕ) → is_ok (permit (Rows.fit_row limit under f e c) e) ≡ true → c ≤ e → c ≤ limit
fit_within limit under form.Expanded e c ok short = let a = fit_of limit under form.Expanded e c ok in omega arith
fit_within limit under form.Compacted e c ok short = let a = fit_of limit under form.Compacted e c ok in omega arith

permit_any : {X Y : Type 0} (row : Rows.Row) (x : X) (y : Y) → is_ok (permit row x) ≡ true → is_ok (permit row y) ≡ true
permit_any [] x y h = refl
permit_any ((true, r) ∷ row) x y h = cc
permit_any ((false, r) ∷ row) x y h = permit_any row x y h

fit_stage : (f : Form) → IsFitStage (Rows.free_in f)
fit_stage form.Expanded = tt
fit_stage form.Compacted = tt

free_under : (f : Form) (e c : ℕ) → under_part (at_stage (Rows.free_in f) e c) ≡ Rows.bytes_of f e c
free_under form.Expanded e c = refl
free_under form.Compacted e c = refl

free_reads : (number : Stage → ℕ) → number stage.Free ≡ 0 → number stage.Compacted ≡ 0 → (f : Form) → number (Rows.free_in f) ≡ 0
free_reads number a b form.Expanded = a
free_reads number a b form.Compacted = b

free_still : (f : Form) (m : Mode) (d : Bool) {A : Type 0} → Rows.free_in f ≡ stage.Reloading m d → A
free_still form.Expanded m d e = absurd (let k : stage.Free ≡ stage.Reloading m d = e in (let z : 0 ≡ 1 = ap movers k in omega arith))
free_still form.Compacted m d e = absurd (let k : stage.Compacted ≡ stage.Reloading m d = e in (let z : 0 ≡ 1 = ap movers k in omega arith))

free_home : (f : Form) → moves_by_disk (Rows.free_in f) ≡ false
free_home form.Expanded = refl
free_home form.Compacted = refl

-- a reader lets go
reader_leaves : (s : Core) (p w n : ℕ) (new : Stage) (e c : ℕ) (t wr r m : Option ℕ) → IsSound s → pool_at s.pools p ≡ Some (at_stage (stage.Read n) e c)
    → slice_get s.hands w ≡ Some (hand_of t wr r m) → r ≡ Some p →
    read_pins new + 1 ≡ n → write_pins new ≡ 0 → movers new ≡ 0 → moves_by_disk new ≡ false → IsFitStage new
    → under_sum s.pools + under_part (at_stage new e c) ≤ s.limit → ((m : Mode) (d : Bool) → new ≡ stage.Reloading m d → ⊥) →
    IsSound (record s { pools = front p (at_stage new e c) s.pools; hands = slice_set s.hands w (hand_of t wr None m); disk = s.disk })
reader_leaves s p w n new e c t wr r m sound at hand held reads writes moves off fits under still =
    let x = at_stage (stage.Read n) e c in let y = at_stage new e c in let h = hand_of t wr (Some p) m in let g = hand_of t wr None m in
    let swap = swapped_front p x y s.pools sound.one_pool at in
    let hand' : slice_get s.hands w ≡ Some h = hand ∙ ap (λ o. Some (hand_of t wr o m)) held in
    change_at s p w x y h g (front p y s.pools) s.disk sound at hand' swap
    (fit_at s.limit (stage.Read n) new e c (sound.forms_fit p x at) fits) (omega arith)
    (fits_drop read_pins p x y reads) (fits_same write_pins p x y wr writes) (fits_same movers p x y m moves)
    (pins_same s p w x y h g (front p y s.pools) sound hand' swap still refl (λ q d k. absurd (d (same_Some p q k))) (λ q d k. k))
    (λ m d k. absurd (still m d k))
    (ap (λ b. one b + one (is_some s.disk)) off) (λ v o. inl o) refl (λ i. sound.own_task i w h hand')

pub unpin_read_sound : (s : Core) (p w : ℕ) (f : Form) (st : Stage) (e c : ℕ) (t wr r m : Option ℕ) → IsSound s → pool_at s.pools p ≡ Some (at_stage st e c)
    → slice_get s.hands w ≡ Some (hand_of t wr r m) →
    is_ok (permit (Rows.unpin_read_row s.limit (under_sum s.pools) (at_stage st e c) (hand_of t wr r m) p f) (at_stage (Rows.without_reader f st) e c)) ≡ true →
    IsSound (record s { pools = front p (at_stage (Rows.without_reader f st) e c) s.pools; hands = slice_set s.hands w (hand_of t wr None m); disk = s.disk })
unpin_read_sound s p w f (stage.Read n) e c t wr r m sound at hand ok =
    let part = permit_head (not (holds r p && true)) NotHeld _ ok in let both = both_of (holds r p) true part.0 in
    let positive : 0 < n = (sound.forms_fit p (at_stage (stage.Read n) e c) at).stage_fits in
    (elim (n == 1) as (λ b. (n == 1) ≡ b
    → IsSound (record s {
      pools = front p (at_stage (if b then Rows.free_in f else stage.Read (n - 1)) e c) s.pools;
      hands = slice_set s.hands w
          (hand_of t wr None m);
      disk = s.disk;
    })) [
      | true ↦ λ one_left. let k = rw one_left at part.1 in
          reader_leaves s p w n (Rows.free_in f) e c t wr r m sound at hand (holds_is r p both.0)
          (let z = free_reads read_pins refl refl f in let o = same_number n 1 one_left in omega arith) (free_reads write_pins refl refl f)
          (free_reads movers refl refl f) (free_home f) (fit_stage f)
          (let a = free_under f e c in let b = fit_of s.limit (under_sum s.pools) f e c
          (permit_any (Rows.fit_row s.limit (under_sum s.pools) f e c) (at_stage (Rows.free_in f) e c) e k) in omega arith) (λ m d z. free_still f m d z)
      | false ↦ λ more. let ne : n ≢ 1 = apart_number n 1 more in
          reader_leaves s p w n (stage.Read (n - 1)) e c t wr r m sound at hand (holds_is r p both.0) (omega arith) refl refl refl (omega arith)
          (let u = sound.under_fits in omega arith) (λ m d z. let k : 0 ≡ 1 = ap movers z in omega arith)
    ]) refl
unpin_read_sound s p w f _ e c t wr r m sound at hand ok = let part = permit_head (not (holds r p && false)) NotHeld _ ok in let both = both_of (holds r p)
    false part.0 in no_both both.1

not_not : (b : Bool) → not b ≡ false → b ≡ true
not_not true h = refl
not_not false h = cc

-- the last entry that passes stands at its PID
found_back : (test : ℕ × Pool → Bool) (es : List (ℕ × Pool)) (e : ℕ × Pool) → IsDistinct nat_eq (keys_of es) → find test (reverse es) ≡ Some e
    → (lookup (nat_eq e.0) es ≡ Some e.1) × (test e ≡ true)
found_back test [] e d h = cc
found_back test (a ∷ es) e d h =
    let back = ap (find test) (reverse-append (a ∷ []) es) ∙ find-append test (reverse es) (a ∷ []) in
    let h' : option_or (find test (reverse es)) (cond (test a) (Some a) None) ≡ Some e = sym back ∙ h in
    (elim (find test (reverse es)) as (λ o. find test (reverse es) ≡ o → option_or o (cond (test a) (Some a) None) ≡ Some e
    → (lookup (nat_eq e.0) (a ∷ es) ≡ Some e.1) × (test e ≡ true)) [
      | Some f ↦ λ is k. let same : f ≡ e = same_Some f e k in let on = found_back test es e (IsDistinct-tail nat_eq a.0 (keys_of es) d) (is ∙ k) in
          (rw (later e a es d on.0) on.0, on.1)
      | None ↦ λ is k. let c = cond_some (test a) a e k in (
        rw (ap (nat_eq e.0) (ap (λ v. v.0) c.1) ∙ number_itself e.0) (ap (λ v. Some v.1) c.1),
        ap test
            (sym c.1) ∙ c.0,
      )
    ]) refl h'
  where
    later : (e a : ℕ × Pool) (es : List (ℕ × Pool)) → IsDistinct nat_eq (keys_of (a ∷ es)) → lookup (nat_eq e.0) es ≡ Some e.1 → nat_eq e.0 a.0 ≡ false
    later e a es d h = other_number e.0 a.0 (λ same. let none = head_absent a.0 es d in let k : Some e.1 ≡ None = sym h ∙
        (ap (λ i. lookup (nat_eq i) es) same ∙ none) in cc)

-- the victim is free or compacted
victim_is : (pools : List (ℕ × Pool)) (p : ℕ) (x : Pool) → IsDistinct nat_eq (keys_of pools) → victim pools ≡ Some p → pool_at pools p ≡ Some x
    → (is_free x.stage ≡ true) ⊎ (is_compacted x.stage ≡ true)
victim_is pools p x d v at =
    (elim (find (λ e. is_free e.1.stage) (reverse pools)) as (λ o. find (λ e. is_free e.1.stage) (reverse pools) ≡ o
    → option_map_or (λ e. Some e.0) o (option_map (λ e. e.0) (find (λ e. is_compacted e.1.stage) (reverse pools))) ≡ Some p
    → (is_free x.stage ≡ true) ⊎ (is_compacted x.stage ≡ true)) [
      | Some e ↦ λ is k. let f = found_back (λ e. is_free e.1.stage) pools e d is in let same : e.0 ≡ p = same_Some e.0 p k in
          let c : x ≡ e.1 = same_Some x e.1 (sym at ∙ (ap (λ i. lookup (nat_eq i) pools) (sym same) ∙ f.0)) in inl (ap (λ z. is_free z.stage) c ∙ f.1)
      | None ↦ λ is k. (elim (find (λ e. is_compacted e.1.stage) (reverse pools))
          as (λ o. find (λ e. is_compacted e.1.stage) (reverse pools) ≡ o → option_map (λ e. e.0) o ≡ Some p
          → (is_free x.stage ≡ true) ⊎ (is_compacted x.stage ≡ true)) [
            | Some e ↦ λ is2 k2. let f = found_back (λ e. is_compacted e.1.stage) pools e d is2 in let same : e.0 ≡ p = same_Some e.0 p k2 in
                let c : x ≡ e.1 = same_Some x e.1 (sym at ∙ (ap (λ i. lookup (nat_eq i) pools) (sym same) ∙ f.0)) in inr
                (ap (λ z. is_compacted z.stage) c ∙ f.1)
            | None ↦ λ is2 k2. cc
          ]) refl k
    ]) refl v

pub compact_begin_sound : (s : Core) (p w wanted : ℕ) (st : Stage) (e c : ℕ) (t wr r m : Option ℕ) → IsSound s → pool_at s.pools p ≡ Some (at_stage st e c)
    → slice_get s.hands w ≡ Some (hand_of t wr r m) →
    is_ok (permit (Rows.compact_begin_row s.limit (under_sum s.pools) (victim s.pools) (at_stage st e c) (hand_of t wr r m) p wanted)
    (at_stage stage.Compacting e c)) ≡ true →
    IsSound (record s { pools = in_place p (at_stage stage.Compacting e c) s.pools; hands = slice_set s.hands w (hand_of t wr r (Some p)); disk = s.disk })
compact_begin_sound s p w wanted st e c t wr r (Some k) sound at hand ok = cc
compact_begin_sound s p w wanted stage.Free e c t wr r None sound at hand ok =
    let x = at_stage stage.Free e c in let y = at_stage stage.Compacting e c in let h = hand_of t wr r None in let g = hand_of t wr r (Some p) in
    let swap = swapped_in_place p x y s.pools sound.one_pool at in let fits = sound.forms_fit p x at in
    change_at s p w x y h g (in_place p y s.pools) s.disk sound at hand swap
    (fit_at s.limit stage.Free stage.Compacting e c fits tt) (let u = sound.under_fits in let f = fits.shorter in omega arith)
    (fits_same read_pins p x y r refl) (fits_same write_pins p x y wr refl) (fits_take movers p x y refl)
    (pins_move p x y g s.pools (in_place p y s.pools) swap (λ m d k. let z : 0 ≡ 1 = ap moves_count k in omega arith) refl)
    (λ m d k. let z : 0 ≡ 1 = ap moves_count k in absurd (omega arith)) refl (λ v o. inl o) refl (λ i. sound.own_task i w h hand)
  where
    moves_count : Stage → ℕ
    moves_count (stage.Reloading m d) = 1
    moves_count _ = 0
compact_begin_sound s p w wanted (stage.Read n) e c t wr r None sound at hand ok =
    let a = permit_head (nat_le (under_sum s.pools + wanted) s.limit) Fits_refusal _ ok in let b = permit_head (not (holds (victim s.pools) p)) NotVictim _ a.1
    in
    elim (victim_is s.pools p (at_stage (stage.Read n) e c) sound.one_pool (holds_is (victim s.pools) p (not_not _ b.0)) at)
    [ inl h ↦ no_both h | inr h ↦ no_both h ]
compact_begin_sound s p w wanted (stage.Written n) e c t wr r None sound at hand ok =
    let a = permit_head (nat_le (under_sum s.pools + wanted) s.limit) Fits_refusal _ ok in let b = permit_head (not (holds (victim s.pools) p)) NotVictim _ a.1
    in
    elim (victim_is s.pools p (at_stage (stage.Written n) e c) sound.one_pool (holds_is (victim s.pools) p (not_not _ b.0)) at)
    [ inl h ↦ no_both h | inr h ↦ no_both h ]
compact_begin_sound s p w wanted _ e c t wr r None sound at hand ok = cc

pub offload_begin_sound : (s : Core) (p w wanted : ℕ) (st : Stage) (e c : ℕ) (t wr r m : Option ℕ) → IsSound s → pool_at s.pools p ≡ Some (at_stage st e c)
    → slice_get s.hands w ≡ Some (hand_of t wr r m) →
    is_ok (permit (Rows.offload_begin_row s.limit (under_sum s.pools) (victim s.pools) (at_stage st e c) (hand_of t wr r m) p wanted s.disk)
    (at_stage stage.Offloading e c)) ≡ true →
    IsSound (record s { pools = in_place p (at_stage stage.Offloading e c) s.pools; hands = slice_set s.hands w (hand_of t wr r (Some p)); disk = Some w })
offload_begin_sound s p w wanted st e c t wr r (Some k) sound at hand ok = cc
offload_begin_sound s p w wanted stage.Compacted e c t wr r None sound at hand ok =
    let out = permit_head (is_some s.disk) DiskOut _ ok in
    let x = at_stage stage.Compacted e c in let y = at_stage stage.Offloading e c in let h = hand_of t wr r None in let g = hand_of t wr r (Some p) in
    let swap = swapped_in_place p x y s.pools sound.one_pool at in let fits = sound.forms_fit p x at in
    change_at s p w x y h g (in_place p y s.pools) (Some w) sound at hand swap
    (fit_at s.limit stage.Compacted stage.Offloading e c fits tt) (let u = sound.under_fits in omega arith)
    (fits_same read_pins p x y r refl) (fits_same write_pins p x y wr refl) (fits_take movers p x y refl)
    (pins_move p x y g s.pools (in_place p y s.pools) swap (λ m d k. let z : 0 ≡ 1 = ap moves_count k in omega arith) refl)
    (λ m d k. let z : 0 ≡ 1 = ap moves_count k in absurd (omega arith)) (ap (λ b. 1 + one b) out.0) (taken s w p) refl (λ i. sound.own_task i w h hand)
  where
    moves_count : Stage → ℕ
    moves_count (stage.Reloading m d) = 1
    moves_count _ = 0
offload_begin_sound s p w wanted _ e c t wr r None sound at hand ok = cc

-- a new value fits as the form says
pub unpin_write_sound : (s : Core) (p w : ℕ) (f : Form) (ne nc : ℕ) (st : Stage) (e c : ℕ) (t wr r m : Option ℕ) → IsSound s
    → pool_at s.pools p ≡ Some (at_stage st e c) → slice_get s.hands w ≡ Some (hand_of t wr r m) →
    is_ok (permit (Rows.unpin_write_row s.limit (under_sum s.pools) (at_stage st e c) (hand_of t wr r m) p f ne nc) (Rows.inserted f ne nc)) ≡ true →
    (g : Hand) (done : List ℕ) → g.read ≡ r → g.moved ≡ m → g.written ≡ None →
    ((q : ℕ) → count_by (nat_eq q) s.unclaimed + count_by (nat_eq q) done + one (holds g.task q) ≡ count_by (nat_eq q) s.unclaimed + count_by (nat_eq q) s.done
    + one (holds t q)) →
    IsSound (record s { pools = front p (Rows.inserted f ne nc) s.pools; hands = slice_set s.hands w g; done = done })
unpin_write_sound s p w f ne nc (stage.Written n) e c t wr r m sound at hand ok g done read moved none tasks =
    let part = permit_head (not (holds wr p && true)) NotHeld _ ok in let both = both_of (holds wr p) true part.0 in
    let size = permit_head (nat_lt ne nc || nat_lt (2 ^ 40) ne || nat_lt n (ne + nc)) BadSize _ part.1 in
    let sizes = sizes_fit (nat_lt ne nc) (nat_lt (2 ^ 40) ne) (nat_lt n (ne + nc)) size.0 in
    let room = fit_of s.limit (under_sum s.pools) f ne nc (permit_any (Rows.fit_row s.limit (under_sum s.pools) f ne nc) (Rows.inserted f ne nc) ne size.1) in
    let short = fit_within s.limit (under_sum s.pools) f ne nc (permit_any (Rows.fit_row s.limit (under_sum s.pools) f ne nc) (Rows.inserted f ne nc) ne size.1)
    (not_above nc ne sizes.0) in
    let x = at_stage (stage.Written n) e c in let y = Rows.inserted f ne nc in let h = hand_of t wr r m in
    let swap = swapped_front p x y s.pools sound.one_pool at in
    let held = holds_is wr p both.0 in
    let z = free_under f ne nc in
    change_sound s (record s { pools = front p y s.pools; hands = slice_set s.hands w g; done = done }) p w x y h g sound (record {
      pool = at;
      hand = hand;
      pools = swap;
      hands = refl;
      limit = refl;
      fits = record { shorter = not_above nc ne sizes.0; within = short; charge = not_above ne (2 ^ 40) sizes.1; stage_fits = fit_stage f };
      under = (let a = sound.under_fits in omega arith);
      reads = fits_like read_pins p x y r g.read (sym read) (free_reads read_pins refl refl f);
      writes = fits_gone write_pins p x y wr g.written held none (ap (λ k. k + 1) (free_reads write_pins refl refl f));
      moves = fits_like movers p x y m g.moved (sym moved) (free_reads movers refl refl f);
      pins = pins_same s p w x y h g (front p y s.pools) sound hand swap (λ m d k. free_still f m d k) moved (λ q d k. read ∙ k)
          (λ q d k. absurd (d (same_Some p q (sym held ∙ k))));
      fresh = λ m d k. free_still f m d k;
      disk = ap (λ b. one b + one (is_some s.disk)) (free_home f);
      owner = λ v o. inl o;
      in_wave = refl;
      tasks = refl;
      kept = tasks;
      own = λ i q k. let l : None ≡ Some q = sym none ∙ k in cc;
    })
  where
    sizes_fit : (a b c : Bool) → (a || b || c) ≡ false → (a ≡ false) × (b ≡ false) × (c ≡ false)
    sizes_fit false false false h = (refl, refl, refl)
    sizes_fit true b c h = cc
    sizes_fit false true c h = cc
    sizes_fit false false true h = cc
unpin_write_sound s p w f ne nc _ e c t wr r m sound at hand ok g done read moved none tasks = let part = permit_head (not (holds wr p && false)) NotHeld _ ok
    in let both = both_of (holds wr p) false part.0 in no_both both.1

-- the pools with one that was absent
pub insert_sound : (s : Core) (p : ℕ) (f : Form) (e c : ℕ) → IsSound s
    → is_ok (permit (Rows.insert_row s.limit (under_sum s.pools) (is_some (pool_at s.pools p)) (length s.pools) f e c) (Rows.inserted f e c)) ≡ true →
    IsSound (record s { pools = (p, Rows.inserted f e c) ∷ s.pools })
insert_sound s p f e c sound ok =
    let absent = permit_head (is_some (pool_at s.pools p)) Present _ ok in
    let full = permit_head (nat_le 4096 (length s.pools)) Full _ absent.1 in
    let size = permit_head (nat_lt e c || nat_lt (2 ^ 40) e) BadSize _ full.1 in
    let sizes = both_false (nat_lt e c) (nat_lt (2 ^ 40) e) size.0 in
    let room = fit_of s.limit (under_sum s.pools) f e c (permit_any (Rows.fit_row s.limit (under_sum s.pools) f e c) (Rows.inserted f e c) e size.1) in
    let short = fit_within s.limit (under_sum s.pools) f e c (permit_any (Rows.fit_row s.limit (under_sum s.pools) f e c) (Rows.inserted f e c) e size.1)
    (not_above c e sizes.0) in
    let x = Rows.inserted f e c in
    let none : pool_at s.pools p ≡ None = none_of (pool_at s.pools p) absent.0 in
    let z = free_under f e c in
    let found : (q : ℕ) → pool_at ((p, x) ∷ s.pools) q ≡ cond (nat_eq p q) (Some x) (pool_at s.pools q) = λ q. ap (λ b. cond b (Some x) (pool_at s.pools q))
    (nat_eq_equiv.symm q p) in
    let still : (number : Stage → ℕ) → number (Rows.free_in f) ≡ 0 → (q n : ℕ) → n ≡ wanted_by number (pool_at s.pools q)
    → n ≡ wanted_by number (pool_at ((p, x) ∷ s.pools) q) = λ number zero_at q n was.
    (elim (nat_eq p q) as (λ b. nat_eq p q ≡ b → n ≡ wanted_by number (pool_at ((p, x) ∷ s.pools) q)) [
      | true ↦ λ t. let k = found q in let k' = rw t at k in let same = same_number p q t in
          was ∙ (ap (λ i. wanted_by number (pool_at s.pools i)) (sym same) ∙ ap (wanted_by number) none) ∙ sym (ap (wanted_by number) k' ∙ zero_at)
      | false ↦ λ t. let k = found q in let k' = rw t at k in was ∙ sym (ap (wanted_by number) k')
    ]) refl in
    record {
      under_fits = (let k = sum_by-cons under_part x (values_of s.pools) in let g : sum_by under_part (x ∷ values_of s.pools) ≤ s.limit = omega arith in g);
      one_pool = IsDistinct-cons nat_eq p (keys_of s.pools) (apart_from_none p s.pools none) sound.one_pool;
      slots = (let k = below_full (length s.pools) full.0 in let g : length ((p, x) ∷ s.pools) ≤ 4096 = omega arith in g);
      forms_fit = λ q y is. (elim (nat_eq p q) as (λ b. nat_eq p q ≡ b → IsFitPool s.limit y) [
        | true ↦ λ t. let k = found q in let k' = rw t at k in subst (IsFitPool s.limit) (same_Some x y (sym k' ∙ is))
            (record { shorter = not_above c e sizes.0; within = short; charge = not_above e (2 ^ 40) sizes.1; stage_fits = fit_stage f })
        | false ↦ λ t. let k = found q in let k' = rw t at k in sound.forms_fit q y (sym k' ∙ is)
      ]) refl;
      readers = λ q. still read_pins (free_reads read_pins refl refl f) q _ (sound.readers q);
      writers = λ q. still write_pins (free_reads write_pins refl refl f) q _ (sound.writers q);
      one_mover = λ q. still movers (free_reads movers refl refl f) q _ (sound.one_mover q);
      pins_kept = λ k h is q y d m at. (elim (nat_eq p q) as (λ b. nat_eq p q ≡ b
          → (y.stage ≡ stage.Reloading mode.Read d → h.read ≡ Some q) × ((room : ℕ) → y.stage ≡ stage.Reloading (mode.Write room) d → h.written ≡ Some q)) [
            | true ↦ λ t. let l = found q in let l' = rw t at l in let same : x ≡ y = same_Some x y (sym l' ∙ at) in
                ((λ r. free_still f mode.Read d (ap (λ v. v.stage) same ∙ r)), (λ room r. free_still f (mode.Write room) d (ap (λ v. v.stage) same ∙ r)))
            | false ↦ λ t. let l = found q in let l' = rw t at l in sound.pins_kept k h is q y d m (sym l' ∙ at)
          ]) refl;
      one_disk_move = (let a = sum_by-cons (λ v. one (moves_by_disk v.stage)) x (values_of s.pools) in let b = sound.one_disk_move in let h : one
          (moves_by_disk x.stage) ≡ 0 = ap one (free_home f) in
          let g : count_by (λ v. moves_by_disk v.stage) (x ∷ values_of s.pools) ≡ (if is_some s.disk then 1 else 0) = omega arith in g);
      disk_owner = λ v o. let m = sound.disk_owner v o in
          let away : p ≢ m.pid = λ e. (let k : None ≡ Some m.pool = sym none ∙ (ap (pool_at s.pools) e ∙ m.its_pool) in cc) in
          let n : nat_eq p m.pid ≡ false = other_number p m.pid away in let k = found m.pid in let k' = rw n at k in
          record { hand = m.hand; pid = m.pid; pool = m.pool; its_hand = m.its_hand; moves = m.moves; its_pool = k' ∙ m.its_pool; by_disk = m.by_disk };
      tasks_differ = sound.tasks_differ;
      tasks_present = λ t i. let was = sound.tasks_present t i in (elim (nat_eq p t) as (λ b. nat_eq p t ≡ b → IsSome (pool_at ((p, x) ∷ s.pools) t)) [
        | true ↦ λ e. let k = found t in let k' = rw e at k in rw k' refl
        | false ↦ λ e. let k = found t in let k' = rw e at k in rw k' was
      ]) refl;
      tasks_kept = sound.tasks_kept;
      own_task = sound.own_task;
      no_tasks = sound.no_tasks;
    }
  where
    both_false : (a b : Bool) → (a || b) ≡ false → (a ≡ false) × (b ≡ false)
    both_false false false h = (refl, refl)
    both_false true b h = cc
    both_false false true h = cc

    none_of : (o : Option Pool) → is_some o ≡ false → o ≡ None
    none_of None h = refl
    none_of (Some x) h = cc

    below_full : (n : ℕ) → nat_le 4096 n ≡ false → n < 4096
    below_full n h = grind (arith, nat_tests)
