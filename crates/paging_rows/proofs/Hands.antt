-- What an event of one of two workers leaves of the hands, and what hands tell of the pools.
use Rattle.std.proofs.Common.{◌≡◌, ℕ, zero, suc, ◌+◌, ◌<◌, Bool, true, false, nat_eq, List, [], ◌∷◌, ◌++◌, length, Option, Some, None, Result, Ok, Err}
use Rattle.std.proofs.Common.{refl, sym, ap, subst, arith, ◌∙◌}
use Rattle.std.specs.Prelude.{count_by, slice_set, if◌then◌else◌}
use Rattle.std.specs.Map.{remove_entry}
use Rattle.std.specs.Option.{option_map_or}
use Rattle.std.proofs.lemmas.List.Sums.{sum_by-cons}
use Rattle.naim_core.specs.Charges.{under_sum}
use Rattle.naim_core.specs.Rows
use Rattle.naim_core.specs.Sound.{IsFitStage, IsSound, hands_with, movers, read_pins, wanted_by, write_pins}
use Rattle.naim_core.specs.State.{Core, hand_at, holds, is_moving, is_offloaded, is_pinned, is_read, moves_by_disk, pool_at, victim}
use Rattle.naim_core.specs.Steps.{front, in_place, on_pool, permit, step_of, take_pin, then_state}
use Rattle.naim_core.specs.declared.event.Event.TheVariants as event
use Rattle.naim_core.specs.declared.event.Form.{Form}
use Rattle.naim_core.specs.declared.event.Mode.TheVariants as mode
use Rattle.naim_core.specs.declared.event.Refusal.{Refusal}
use Rattle.naim_core.specs.declared.event.Refusal.TheVariants.{Absent}
use Rattle.naim_core.specs.declared.pool.Pool.{Pool}
use Rattle.naim_core.specs.declared.pool.Stage.{Stage}
use Rattle.naim_core.specs.declared.pool.Stage.TheVariants as stage
use Rattle.naim_core.specs.declared.state.Hand.{Hand}
use Rattle.naim_core.proofs.Effects.{running}
use Rattle.naim_core.proofs.Keeps.{one}
use Rattle.list_laws.proofs.Entries.{number_itself}
use Rattle.paging_rows.specs.Pairs.{both}
use Rattle.paging_rows.proofs.Loaders.{permit_gives}

-- there are two hands, and that of w is the first that is named
pub length_both : (w : ℕ) (g h : Hand) → length (both w g h) ≡ 2
length_both zero g h = refl
length_both (suc w) g h = refl

pub worker_there : (s : Core) (w : ℕ) (g h : Hand) → w < 2 → s.hands ≡ both w g h → w < length s.hands
worker_there s w g h below hands = let e = ap length hands ∙ length_both w g h in omega arith

at_both : (w : ℕ) (g h : Hand) → w < 2 → hand_at (both w g h) w ≡ g
at_both zero g h below = refl
at_both (suc zero) g h below = refl
at_both (suc (suc w)) g h below = absurd (omega arith)

pub its_hand : (s : Core) (w : ℕ) (g h : Hand) → w < 2 → s.hands ≡ both w g h → hand_at s.hands w ≡ g
its_hand s w g h below hands = ap (λ z. hand_at z w) hands ∙ at_both w g h below

-- the hand of w after a change
turned : (w : ℕ) (f : Hand → Hand) (g h : Hand) (hands : List Hand) → w < 2 → hands ≡ both w g h → slice_set hands w (f (hand_at hands w)) ≡ both w (f g) h
turned zero f g h hands below e = ap (λ z. slice_set z 0 (f (hand_at z 0))) e
turned (suc zero) f g h hands below e = ap (λ z. slice_set z 1 (f (hand_at z 1))) e
turned (suc (suc w)) f g h hands below e = absurd (omega arith)

-- what an event on a pool leaves beside the pools and the disk
pub record Left (s new : Core) (hands : List Hand) : Type 0 where
  pub hands_are : new.hands ≡ hands
  pub closed : new.in_wave ≡ s.in_wave
  pub failure : new.failure ≡ s.failure

left : (s new : Core) (p : ℕ) (row : Pool → Rows.Row) (f : Pool → Pool) (g : Pool → Pool → Core) (hands : List Hand) → ((x y : Pool) → Left s (g x y) hands)
    → on_pool s p (λ x. then_state (permit (row x) (f x)) (λ y. g x y)) ≡ Ok new → Left s new hands
left s new p row f g hands same h = found (pool_at s.pools p) h
  where
    made : (x : Pool) (r : Result Pool Refusal) → then_state r (λ y. g x y) ≡ Ok new → Left s new hands
    made x (Ok y) k = (let is : g x y ≡ new = cc in subst (λ z. Left s z hands) is (same x y))
    made x (Err r) k = absurd cc

    found : (o : Option Pool) → option_map_or (λ x. then_state (permit (row x) (f x)) (λ y. g x y)) o (Err Absent) ≡ Ok new → Left s new hands
    found None k = absurd cc
    found (Some x) k = made x (permit (row x) (f x)) k

-- the events of worker w, who has the hand g beside the other one's h
module _ (s new : Core) (w p : ℕ) (g h : Hand) (below : w < 2) (hands : s.hands ≡ both w g h) (none : s.failure ≡ None) where
  pub pinned : step_of s (event.PinRead w p) ≡ Ok new → Left s new (both w (record g { read = Some p }) h)
  pinned e =
      let k = hand_at s.hands w in let after = slice_set s.hands w (record k { read = Some p }) in
      subst (Left s new) (turned w (λ (z : Hand). record z { read = Some p }) g h s.hands below hands)
      (left s new p (λ x. Rows.pin_read_row x k) (λ x. record x { stage = Rows.with_reader x.stage })
      (λ x y. record s { pools = front p y s.pools; hands = after }) after (λ x y. record { hands_are = refl; closed = refl; failure = refl })
      (sym (running s (event.PinRead w p) none) ∙ e))

  pub unpinned : (f : Form) → step_of s (event.UnpinRead w p f) ≡ Ok new → Left s new (both w (record g { read = None }) h)
  unpinned f e =
      let k = hand_at s.hands w in let after = slice_set s.hands w (record k { read = None }) in
      subst (Left s new) (turned w (λ (z : Hand). record z { read = None }) g h s.hands below hands)
      (left s new p (λ x. Rows.unpin_read_row s.limit (under_sum s.pools) x k p f) (λ x. record x { stage = Rows.without_reader f x.stage })
      (λ x y. record s { pools = front p y s.pools; hands = after }) after (λ x y. record { hands_are = refl; closed = refl; failure = refl })
      (sym (running s (event.UnpinRead w p f) none) ∙ e))

  pub reload_begun : step_of s (event.ReloadBegin w p mode.Read) ≡ Ok new → Left s new (both w (take_pin mode.Read p g) h)
  reload_begun e =
      let k = hand_at s.hands w in let after = slice_set s.hands w (take_pin mode.Read p k) in
      subst (Left s new) (turned w (λ z. take_pin mode.Read p z) g h s.hands below hands)
      (left s new p (λ x. Rows.reload_begin_row x k s.in_wave p mode.Read s.disk)
      (λ x. record x { stage = stage.Reloading mode.Read (is_offloaded x.stage) })
      (λ x y. record s { pools = in_place p y s.pools; hands = after; disk = if is_offloaded x.stage then Some w else s.disk }) after
      (λ x y. record { hands_are = refl; closed = refl; failure = refl })
      (sym (running s (event.ReloadBegin w p mode.Read) none) ∙ e))

  pub reload_ended : step_of s (event.ReloadEnd w p) ≡ Ok new → Left s new (both w (record g { moved = None }) h)
  reload_ended e =
      let k = hand_at s.hands w in let after = slice_set s.hands w (record k { moved = None }) in
      subst (Left s new) (turned w (λ (z : Hand). record z { moved = None }) g h s.hands below hands)
      (left s new p (λ x. Rows.reload_end_row x k p) (λ x. record x { stage = Rows.reloaded x.stage })
      (λ x y. record s { pools = front p y s.pools; hands = after; disk = if moves_by_disk x.stage then None else s.disk }) after
      (λ x y. record { hands_are = refl; closed = refl; failure = refl })
      (sym (running s (event.ReloadEnd w p) none) ∙ e))

  pub compact_begun : (wanted : ℕ) → step_of s (event.CompactBegin w p wanted) ≡ Ok new → Left s new (both w (record g { moved = Some p }) h)
  compact_begun wanted e =
      let k = hand_at s.hands w in let after = slice_set s.hands w (record k { moved = Some p }) in
      subst (Left s new) (turned w (λ (z : Hand). record z { moved = Some p }) g h s.hands below hands)
      (left s new p (λ x. Rows.compact_begin_row s.limit (under_sum s.pools) (victim s.pools) x k p wanted) (λ x. record x { stage = stage.Compacting })
      (λ x y. record s { pools = in_place p y s.pools; hands = after }) after (λ x y. record { hands_are = refl; closed = refl; failure = refl })
      (sym (running s (event.CompactBegin w p wanted) none) ∙ e))

  pub compact_ended : step_of s (event.CompactEnd w p) ≡ Ok new → Left s new (both w (record g { moved = None }) h)
  compact_ended e =
      let k = hand_at s.hands w in let after = slice_set s.hands w (record k { moved = None }) in
      subst (Left s new) (turned w (λ (z : Hand). record z { moved = None }) g h s.hands below hands)
      (left s new p (λ x. Rows.compact_end_row x k p) (λ x. record x { stage = stage.Compacted })
      (λ x y. record s { pools = in_place p y s.pools; hands = after }) after (λ x y. record { hands_are = refl; closed = refl; failure = refl })
      (sym (running s (event.CompactEnd w p) none) ∙ e))

  pub offload_begun : (wanted : ℕ) → step_of s (event.OffloadBegin w p wanted) ≡ Ok new → Left s new (both w (record g { moved = Some p }) h)
  offload_begun wanted e =
      let k = hand_at s.hands w in let after = slice_set s.hands w (record k { moved = Some p }) in
      subst (Left s new) (turned w (λ (z : Hand). record z { moved = Some p }) g h s.hands below hands)
      (left s new p (λ x. Rows.offload_begin_row s.limit (under_sum s.pools) (victim s.pools) x k p wanted s.disk) (λ x. record x { stage = stage.Offloading })
      (λ x y. record s { pools = in_place p y s.pools; hands = after; disk = Some w }) after (λ x y. record { hands_are = refl; closed = refl; failure = refl })
      (sym (running s (event.OffloadBegin w p wanted) none) ∙ e))

  pub offload_ended : step_of s (event.OffloadEnd w p) ≡ Ok new → Left s new (both w (record g { moved = None }) h)
  offload_ended e =
      let k = hand_at s.hands w in let after = slice_set s.hands w (record k { moved = None }) in
      subst (Left s new) (turned w (λ (z : Hand). record z { moved = None }) g h s.hands below hands)
      (left s new p (λ x. Rows.offload_end_row x k p) (λ x. record x { stage = stage.Offloaded })
      (λ x y. record s { pools = in_place p y s.pools; hands = after; disk = None }) after (λ x y. record { hands_are = refl; closed = refl; failure = refl })
      (sym (running s (event.OffloadEnd w p) none) ∙ e))

  pub write_pinned : (room : ℕ) → step_of s (event.PinWrite w p room) ≡ Ok new → Left s new (both w (record g { written = Some p }) h)
  write_pinned room e =
      let k = hand_at s.hands w in let after = slice_set s.hands w (record k { written = Some p }) in
      subst (Left s new) (turned w (λ (z : Hand). record z { written = Some p }) g h s.hands below hands)
      (left s new p (λ x. Rows.pin_write_row x k s.in_wave p room) (λ x. record x { stage = stage.Written room })
      (λ x y. record s { pools = front p y s.pools; hands = after }) after (λ x y. record { hands_are = refl; closed = refl; failure = refl })
      (sym (running s (event.PinWrite w p room) none) ∙ e))

  pub write_unpinned : (f : Form) (e c : ℕ) → step_of s (event.UnpinWrite w p f e c) ≡ Ok new
      → Left s new (both w (record g { written = None; task = if holds g.task p then None else g.task }) h)
  write_unpinned f e c t =
      let k = hand_at s.hands w in let after = slice_set s.hands w (record k { written = None; task = if holds k.task p then None else k.task }) in
      subst (Left s new) (turned w (λ (z : Hand). record z { written = None; task = if holds z.task p then None else z.task }) g h s.hands below hands)
      (left s new p (λ x. Rows.unpin_write_row s.limit (under_sum s.pools) x k p f e c) (λ x. Rows.inserted f e c)
      (λ x y. record s { pools = front p y s.pools; hands = after; done = if holds k.task p then s.done ++ p ∷ [] else s.done }) after
      (λ x y. record { hands_are = refl; closed = refl; failure = refl })
      (sym (running s (event.UnpinWrite w p f e c) none) ∙ t))

pub removed : (s new : Core) (p : ℕ) → s.failure ≡ None → step_of s (event.Remove p) ≡ Ok new → Left s new s.hands
removed s new p none h = gone (pool_at s.pools p) (sym (running s (event.Remove p) none) ∙ h)
  where
    gone : (o : Option Pool) → option_map_or (λ x. permit (Rows.remove_row x s.in_wave) (record s { pools = remove_entry (nat_eq p) s.pools })) o (Err Absent) ≡
        Ok new → Left s new s.hands
    gone None k = absurd cc
    gone (Some x) k = (let is = permit_gives (Rows.remove_row x s.in_wave) (record s { pools = remove_entry (nat_eq p) s.pools }) new k in subst
        (λ z. Left s z s.hands) is (record { hands_are = refl; closed = refl; failure = refl }))

-- how many of two hands hold p in that place
held : (place : Hand → Option ℕ) (w : ℕ) (g h : Hand) (p : ℕ) → hands_with place (both w g h) p ≡ one (holds (place g) p) + one (holds (place h) p)
held place zero g h p =
    let f : Hand → Bool = λ k. holds (place k) p in let a = sum_by-cons (λ k. one (f k)) g (h ∷ []) in let b = sum_by-cons (λ k. one (f k)) h [] in
    let n : count_by f (g ∷ h ∷ []) ≡ one (f g) + one (f h) = omega arith in n
held place (suc w) g h p =
    let f : Hand → Bool = λ k. holds (place k) p in let a = sum_by-cons (λ k. one (f k)) h (g ∷ []) in let b = sum_by-cons (λ k. one (f k)) g [] in
    let n : count_by f (h ∷ g ∷ []) ≡ one (f g) + one (f h) = omega arith in n

-- what the stage of p wants of the hands
pub wants : (number : Stage → ℕ) (place : Hand → Option ℕ) (s : Core) (w p : ℕ) (g h : Hand) → s.hands ≡ both w g h
    → hands_with place s.hands p ≡ wanted_by number (pool_at s.pools p)
    → wanted_by number (pool_at s.pools p) ≡ one (holds (place g) p) + one (holds (place h) p)
wants number place s w p g h hands e = sym e ∙ ap (λ z. hands_with place z p) hands ∙ held place w g h p

none_held : (o : Option ℕ) (p : ℕ) → o ≡ None → one (holds o p) ≡ 0
none_held o p e = ap (λ z. one (holds z p)) e

-- the pool that a worker reads, where nobody moves anything
pub reads_there : (s : Core) (w p : ℕ) (g h : Hand) → IsSound s → s.hands ≡ both w g h → g.read ≡ Some p → g.moved ≡ None → h.moved ≡ None
    → (x : Pool) × (pool_at s.pools p ≡ Some x) × (is_read x.stage ≡ true)
reads_there s w p g h sound hands reads mine others = found (pool_at s.pools p) refl
  where
    reading : wanted_by read_pins (pool_at s.pools p) ≡ 1 + one (holds h.read p)
    reading = wants read_pins (λ k. k.read) s w p g h hands (sound.readers p) ∙ ap (λ z. z + one (holds h.read p))
        (ap (λ z. one (holds z p)) reads ∙ ap one (number_itself p))

    moving : wanted_by movers (pool_at s.pools p) ≡ 0
    moving = (let e = wants movers (λ k. k.moved) s w p g h hands (sound.one_mover p) in let a = none_held g.moved p mine in let b = none_held h.moved p others
        in omega arith)

    by : (st : Stage) (k : ℕ) → read_pins st ≡ 1 + k → movers st ≡ 0 → is_read st ≡ true
    by stage.Free k r m = absurd (omega arith)
    by (stage.Read readers) k r m = refl
    by (stage.Written room) k r m = absurd (omega arith)
    by stage.Compacted k r m = absurd (omega arith)
    by stage.Offloaded k r m = absurd (omega arith)
    by stage.Compacting k r m = absurd (omega arith)
    by stage.Offloading k r m = absurd (omega arith)
    by (stage.Reloading m' from_disk) k r m = absurd (omega arith)

    found : (o : Option Pool) → pool_at s.pools p ≡ o → (x : Pool) × (pool_at s.pools p ≡ Some x) × (is_read x.stage ≡ true)
    found None at = (let e : wanted_by read_pins None ≡ 1 + one (holds h.read p) = sym (ap (wanted_by read_pins) at) ∙ reading in absurd (omega arith))
    found (Some x) at = (x, at, by x.stage (one (holds h.read p)) (sym (ap (wanted_by read_pins) at) ∙ reading) (sym (ap (wanted_by movers) at) ∙ moving))

no_one : (b : Bool) → one b ≡ 0 → b ≡ false
no_one true e = absurd (omega arith)
no_one false e = refl

-- the other worker doesn't read a pool that wants one reader, which is w
pub alone : (s : Core) (w p : ℕ) (g h : Hand) (x : Pool) → IsSound s → s.hands ≡ both w g h → g.read ≡ Some p → pool_at s.pools p ≡ Some x
    → read_pins x.stage ≡ 1 → holds h.read p ≡ false
alone s w p g h x sound hands reads at pins =
    let e = wants read_pins (λ k. k.read) s w p g h hands (sound.readers p) in
    let a : one (holds g.read p) ≡ 1 = ap (λ z. one (holds z p)) reads ∙ ap one (number_itself p) in
    let b : wanted_by read_pins (pool_at s.pools p) ≡ 1 = ap (wanted_by read_pins) at ∙ pins in no_one (holds h.read p) (omega arith)

-- nobody reads a pool that wants no reader
pub unread : (s : Core) (w p : ℕ) (g h : Hand) (x : Pool) → IsSound s → s.hands ≡ both w g h → pool_at s.pools p ≡ Some x → read_pins x.stage ≡ 0
    → holds h.read p ≡ false
unread s w p g h x sound hands at pins =
    let e = wants read_pins (λ k. k.read) s w p g h hands (sound.readers p) in
    let b : wanted_by read_pins (pool_at s.pools p) ≡ 0 = ap (wanted_by read_pins) at ∙ pins in no_one (holds h.read p) (omega arith)

-- a pool that nobody holds or moves
pub untouched : (s : Core) (w p : ℕ) (g h : Hand) (x : Pool) → IsSound s → s.hands ≡ both w g h → pool_at s.pools p ≡ Some x → holds g.read p ≡ false
    → holds h.read p ≡ false → g.written ≡ None → h.written ≡ None → g.moved ≡ None → h.moved ≡ None
    → (is_moving x.stage ≡ false) × (is_pinned x.stage ≡ false)
untouched s w p g h x sound hands at a b c d e f =
    by x.stage (sym (ap (wanted_by read_pins) at) ∙ (let k = wants read_pins (λ k. k.read) s w p g h hands (sound.readers p) in let i = ap one a in let j = ap
    one b in omega arith))
    (sym (ap (wanted_by write_pins) at) ∙ (let k = wants write_pins (λ k. k.written) s w p g h hands (sound.writers p) in let i = none_held g.written p c
    in let j = none_held h.written p d in omega arith))
    (sym (ap (wanted_by movers) at) ∙ (let k = wants movers (λ k. k.moved) s w p g h hands (sound.one_mover p) in let i = none_held g.moved p e in let j =
    none_held h.moved p f in omega arith))
    (sound.forms_fit p x at).stage_fits
  where
    by : (st : Stage) → read_pins st ≡ 0 → write_pins st ≡ 0 → movers st ≡ 0 → IsFitStage st → (is_moving st ≡ false) × (is_pinned st ≡ false)
    by stage.Free r v m k = (refl, refl)
    by (stage.Read readers) r v m k = absurd (omega arith)
    by (stage.Written room) r v m k = absurd (omega arith)
    by stage.Compacted r v m k = (refl, refl)
    by stage.Offloaded r v m k = (refl, refl)
    by stage.Compacting r v m k = absurd (omega arith)
    by stage.Offloading r v m k = absurd (omega arith)
    by (stage.Reloading m' from_disk) r v m k = absurd (omega arith)
