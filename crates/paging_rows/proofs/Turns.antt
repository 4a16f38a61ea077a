-- What the calls of one of two workers leave.
use Rattle.std.proofs.Common.{◌≡◌, ◌≤◌, ◌<◌, ◌^◌, ℕ, Bool, true, false, cond, nat_eq, List, length, Option, Some, None, IsSome, refl, sym, ap, subst}
use Rattle.std.proofs.Common.{arith, ◌∙◌}
use Rattle.std.specs.Prelude.{is_none, is_some, option_map, if◌then◌else◌}
use Rattle.std.specs.Arc.{arc_value}
use Rattle.std.specs.Cmp.{nat_eq_equiv}
use Rattle.std.proofs.lemmas.Option.{same_Some}
use Rattle.naim_core.specs.Sound.{IsSound, read_pins}
use Rattle.naim_core.specs.State.{Core, empty_hand, hand_at, holds, is_moving, is_offloaded, is_pinned, is_read, moves_by_disk, pool_at}
use Rattle.naim_core.specs.declared.event.Event.{Event}
use Rattle.naim_core.specs.declared.event.Event.TheVariants as event
use Rattle.naim_core.specs.declared.event.Form.{Form}
use Rattle.naim_core.specs.declared.event.Mode.TheVariants as mode
use Rattle.naim_core.specs.declared.pool.Pool.{Pool}
use Rattle.naim_core.specs.declared.pool.Stage.{Stage}
use Rattle.naim_core.specs.declared.pool.Stage.TheVariants as stage
use Rattle.naim_core.specs.declared.state.Hand.{Hand}
use Rattle.naim_core.proofs.Effects.{Did, compact_begin_did, compact_end_did, offload_begin_did, offload_end_did, pin_read_did, pin_write_did}
use Rattle.naim_core.proofs.Effects.{reload_begin_did, reload_end_did, remove_did, unpin_read_did, unpin_write_did}
use Rattle.list_laws.proofs.Entries.{number_itself, same_number}
use Rattle.naim_loader.specs.declared.forms.Draft.{Draft}
use Rattle.naim_loader.specs.declared.forms.Put.TheVariants as put
use Rattle.naim_loader.specs.declared.forms.ReadPin.{ReadPin}
use Rattle.naim_loader.specs.Calls.{Allows, AnswersInsert, KeepsAt, Removes, Writes, stage_at}
use Rattle.naim_loader.specs.Drafts.{draft_form, draft_value}
use Rattle.naim_loader.specs.Moves.{Offloads, Reloads}
use Rattle.naim_loader.specs.Paged.{Paged, content_at, kept_at, IsTrusted, Steps}
use Rattle.naim_loader.specs.Rows.{Kept}
use Rattle.paging_rows.specs.Pairs.{HasBody, HoldsWrite, Moves, Stands, Works, both, grip, pool_of}
use Rattle.paging_rows.proofs.Loaders.{inserted}
use Rattle.paging_rows.proofs.Hands.{Left, alone, compact_begun, compact_ended, its_hand, offload_begun, offload_ended, pinned, reads_there}
use Rattle.paging_rows.proofs.Hands.{reload_begun, reload_ended, removed, unpinned, unread, untouched, worker_there, write_pinned, write_unpinned}

-- a disk of such a type is never trusted
pub doubted : {T B D : Type 0} (reach : D → ℕ) (honest : D → Bool) (l : Paged T B D) → ((d : D) → honest d ≡ false) → IsTrusted reach honest l → ⊥
doubted reach honest l lies g = let e : honest l.first ≡ true = g.0 in let f = lies l.first in let no : false ≡ true = sym f ∙ e in absurd cc

-- bodies of pins, where the contents are the same
pub same_body : {T B D : Type 0} (old new : Paged T B D) (y : Option (ReadPin T)) → ((q : ℕ) → content_at new q ≡ content_at old q) → HasBody old y
    → HasBody new y
same_body old new None same b = tt
same_body old new (Some x) same b = same x.pid ∙ b

-- and where they have changed at p alone, which isn't the pin's pool
pub other_body : {T B D : Type 0} (old new : Paged T B D) (p : ℕ) (k : Option (Kept T B)) (y : Option (ReadPin T)) → KeepsAt old new p k
    → holds (pool_of y) p ≡ false → HasBody old y → HasBody new y
other_body old new p k None kept apart b = tt
other_body old new p k (Some x) kept apart b = ap (option_map (λ z. z.value))
    (kept x.pid ∙ ap (λ t. cond t k (kept_at old x.pid)) (nat_eq_equiv.symm p x.pid ∙ apart)) ∙ b

-- a pool that isn't there is no pin's
absent_apart : {T B D : Type 0} (old : Paged T B D) (p : ℕ) (y : Option (ReadPin T)) → kept_at old p ≡ None → HasBody old y → holds (pool_of y) p ≡ false
absent_apart old p None none b = refl
absent_apart old p (Some x) none b = by (nat_eq x.pid p) refl
  where
    by : (t : Bool) → nat_eq x.pid p ≡ t → t ≡ false
    by true e = (let same = same_number x.pid p e in let no = sym b ∙ ap (content_at old) same ∙ ap (option_map (λ z. z.value)) none in cc)
    by false e = refl

step_content : {T B D : Type 0} (old new : Paged T B D) (e : Event) → Steps old e new → (q : ℕ) → content_at new q ≡ content_at old q
step_content old new e t q = ap (λ z. content_at z q) t.same

-- what a worker has after an event
works_left : {T B D : Type 0} (old new : Paged T B D) (w : ℕ) (g h k : Hand) → Works old w g h → Left old.core new.core (both w k h) → Works new w k h
works_left old new w g h k o l = record { hands = l.hands_are; running = l.failure ∙ o.running; closed = l.closed ∙ o.closed }

pool_now : (s new : Core) (p : ℕ) (Was : Stage → Type 0) (f : Pool → Pool) (disk : Pool → Option ℕ) (d : Did s new p Was f disk)
    → pool_at new.pools p ≡ Some (f d.pool)
pool_now s new p Was f disk d = d.turned.found p ∙ ap (λ b. cond b (Some (f d.pool)) (pool_at s.pools p)) (number_itself p)

-- where a worker stands, it may pin a pool for reading
pub may_read : {T B D : Type 0} (l : Paged T B D) (w p : ℕ) (y : Option (ReadPin T)) → w < 2 → Stands l w None y → Allows l.core w p mode.Read
may_read l w p y below s =
    let e = its_hand l.core w (grip None) (grip (pool_of y)) below s.works.hands in
    record { moved = ap (λ z. z.moved) e; pin = ap (λ z. z.read) e; task = λ no b. absurd cc; room = (let r : 0 ≤ 2 ^ 41 = omega arith in r) }

-- the hand of a worker that stands
pub standing_hand : {T B D : Type 0} (l : Paged T B D) (w : ℕ) (x y : Option (ReadPin T)) → w < 2 → Stands l w x y → hand_at l.core.hands w ≡ grip (pool_of x)
standing_hand l w x y below s = its_hand l.core w (grip (pool_of x)) (grip (pool_of y)) below s.works.hands

pub standing_worker : {T B D : Type 0} (l : Paged T B D) (w : ℕ) (x y : Option (ReadPin T)) → w < 2 → Stands l w x y → w < length l.core.hands
standing_worker l w x y below s = worker_there l.core w (grip (pool_of x)) (grip (pool_of y)) below s.works.hands

pub moving_worker : {T B D : Type 0} (l : Paged T B D) (w : ℕ) (x y : Option (ReadPin T)) (r : Option ℕ) (p : ℕ) (d : Bool) (At : Stage → Type 0) → w < 2
    → Moves l w x y r p d At → w < length l.core.hands
moving_worker l w x y r p d At below m = worker_there l.core w (record (grip r) { moved = Some p }) (grip (pool_of y)) below m.works.hands

module _ {T B D : Type 0} (charge : T → ℕ) (spell : T → List ℕ) where
  -- a pool came in, or there was no room
  pub put_stands : (old new : Paged T B D) (p : ℕ) (d : Draft T) (brief : B) (x y : Option (ReadPin T)) → Stands old 0 x y → kept_at old p ≡ None
      → AnswersInsert charge spell old new p d brief put.Done → Stands new 0 x y
  put_stands old new p d brief x y s none i =
      let is = inserted old.core new.core p (draft_form d) (charge (draft_value d)) (length (spell (draft_value d))) s.works.running i.step in
      record {
        works = record {
          hands = ap (λ z. z.hands) is ∙ s.works.hands;
          running = ap (λ z. z.failure) is ∙ s.works.running;
          closed = ap (λ z. z.in_wave) is ∙
              s.works.closed;
        };
        disk = ap (λ z. z.disk) is ∙ s.disk;
        mine = other_body old new p _ x i.kept (absent_apart old p x none s.mine) s.mine;
        others = other_body old new p _ y i.kept (absent_apart old p y none s.others) s.others;
      }

module _ {T B D : Type 0} where
  -- a compaction has ended
  pub compact_stands : (old new : Paged T B D) (w p : ℕ) (x y : Option (ReadPin T)) → w < 2 → Moves old w x y (pool_of x) p false (λ st. st ≡ stage.Compacting)
      → Steps old (event.CompactEnd w p) new → Stands new w x y
  compact_stands old new w p x y below m t =
      let k = compact_ended old.core new.core w p (record (grip (pool_of x)) { moved = Some p }) (grip (pool_of y)) below m.works.hands m.works.running t.step
      in
      let d = compact_end_did old.core new.core w p m.sound m.works.running t.step in
      record {
        works = works_left old new w (record (grip (pool_of x)) { moved = Some p }) (grip (pool_of y)) (grip (pool_of x)) m.works k;
        disk = d.turned.disk_is ∙ m.disk;
        mine = same_body old new x (step_content old new (event.CompactEnd w p) t) m.mine;
        others = same_body old new y (step_content old new (event.CompactEnd w p) t) m.others;
      }

  -- an offload has ended
  pub offload_stands : (old new : Paged T B D) (w p : ℕ) (x y : Option (ReadPin T)) (disk : D) → w < 2
      → Moves old w x y (pool_of x) p true (λ st. st ≡ stage.Offloading) → Offloads old new w p disk → Stands new w x y
  offload_stands old new w p x y disk below m t =
      let k = offload_ended old.core new.core w p (record (grip (pool_of x)) { moved = Some p }) (grip (pool_of y)) below m.works.hands m.works.running
      t.event.step in
      let d = offload_end_did old.core new.core w p m.sound m.works.running t.event.step in
      let same : (q : ℕ) → content_at new q ≡ content_at old q = λ q. ap (λ z. content_at (record new { kept = z }) q) t.kept_same in
      record {
        works = works_left old new w (record (grip (pool_of x)) { moved = Some p }) (grip (pool_of y)) (grip (pool_of x)) m.works k;
        disk = d.turned.disk_is;
        mine = same_body old new x same m.mine;
        others = same_body old new y same m.others;
      }

  -- a move has begun by an event that leaves the contents
  pub compact_moves : (old new : Paged T B D) (w p wanted : ℕ) (x y : Option (ReadPin T)) → w < 2 → IsSound old.core → IsSound new.core → Stands old w x y
      → Steps old (event.CompactBegin w p wanted) new → Moves new w x y (pool_of x) p false (λ st. st ≡ stage.Compacting)
  compact_moves old new w p wanted x y below sound after s t =
      let g = grip (pool_of x) in let h = grip (pool_of y) in
      let k = compact_begun old.core new.core w p g h below s.works.hands s.works.running wanted t.step in
      let d = compact_begin_did old.core new.core w p wanted sound s.works.running t.step in
      record {
        works = works_left old new w g h (record g { moved = Some p }) s.works k;
        disk = d.turned.disk_is ∙ s.disk;
        home = ap (λ z. z.home) t.same ∙ ap is_none (d.turned.disk_is ∙ s.disk);
        sound = after;
        moving = record {
          pool = record d.pool { stage = stage.Compacting };
          at = pool_now old.core new.core p _ _ _ d;
          stage = refl;
          hand = ap (λ z. z.moved)
              (its_hand new.core w (record g { moved = Some p }) h below k.hands_are);
        };
        mine = same_body old new x (step_content old new (event.CompactBegin w p wanted) t) s.mine;
        others = same_body old new y (step_content old new (event.CompactBegin w p wanted) t) s.others;
      }

  pub offload_moves : (old new : Paged T B D) (w p wanted : ℕ) (x y : Option (ReadPin T)) → w < 2 → IsSound old.core → IsSound new.core → Stands old w x y
      → Steps old (event.OffloadBegin w p wanted) new → Moves new w x y (pool_of x) p true (λ st. st ≡ stage.Offloading)
  offload_moves old new w p wanted x y below sound after s t =
      let g = grip (pool_of x) in let h = grip (pool_of y) in
      let k = offload_begun old.core new.core w p g h below s.works.hands s.works.running wanted t.step in
      let d = offload_begin_did old.core new.core w p wanted sound s.works.running t.step in
      record {
        works = works_left old new w g h (record g { moved = Some p }) s.works k;
        disk = d.turned.disk_is;
        home = ap (λ z. z.home) t.same ∙ ap is_none d.turned.disk_is;
        sound = after;
        moving = record {
          pool = record d.pool { stage = stage.Offloading };
          at = pool_now old.core new.core p _ _ _ d;
          stage = refl;
          hand = ap (λ z. z.moved)
              (its_hand new.core w (record g { moved = Some p }) h below k.hands_are);
        };
        mine = same_body old new x (step_content old new (event.OffloadBegin w p wanted) t) s.mine;
        others = same_body old new y (step_content old new (event.OffloadBegin w p wanted) t) s.others;
      }

  -- a reload for reading has begun, of a pool that was at that stage
  pub reload_moves : (old new : Paged T B D) (w p : ℕ) (y : Option (ReadPin T)) (was : Stage) → w < 2 → IsSound old.core → IsSound new.core
      → Stands old w None y → Steps old (event.ReloadBegin w p mode.Read) new → stage_at old p ≡ Some was
      → Moves new w None y (Some p) p (is_offloaded was) (λ st. st ≡ stage.Reloading mode.Read (is_offloaded was))
  reload_moves old new w p y was below sound after s t lay =
      let h = grip (pool_of y) in let g : Hand = record (grip (Some p)) { moved = Some p } in
      let k = reload_begun old.core new.core w p (grip None) h below s.works.hands s.works.running t.step in
      let d = reload_begin_did old.core new.core w p mode.Read sound s.works.running t.step in
      let lies : d.pool.stage ≡ was = same_Some d.pool.stage was (sym (ap (option_map (λ z. z.stage)) d.at) ∙ lay) in
      let disk : new.core.disk ≡ (if is_offloaded was then Some w else None) = d.turned.disk_is ∙ ap (λ z. if is_offloaded z then Some w else old.core.disk)
      lies ∙ ap (λ z. if is_offloaded was then Some w else z) s.disk in
      record {
        works = works_left old new w (grip None) h g s.works k;
        disk = disk;
        home = ap (λ z. z.home) t.same ∙ ap is_none disk ∙ away (is_offloaded was);
        sound = after;
        moving = record {
          pool = record d.pool { stage = stage.Reloading mode.Read (is_offloaded d.pool.stage) };
          at = pool_now old.core new.core p _ _ _ d;
          stage = ap (λ z. stage.Reloading mode.Read (is_offloaded z)) lies;
          hand = ap (λ z. z.moved) (its_hand new.core w g h below k.hands_are);
        };
        mine = tt;
        others = same_body old new y (step_content old new (event.ReloadBegin w p mode.Read) t) s.others;
      }
    where
      away : (b : Bool) → is_none (if b then Some w else None) ≡ (if b then false else true)
      away true = refl
      away false = refl

  -- a pin that is handed out at once
  pub pin_stands : (old new : Paged T B D) (w p : ℕ) (x : ReadPin T) (y : Option (ReadPin T)) → w < 2 → IsSound old.core → Stands old w None y
      → Steps old (event.PinRead w p) new → x.pid ≡ p → content_at old p ≡ Some (arc_value x.body) → Stands new w (Some x) y
  pin_stands old new w p x y below sound s t pid content =
      let h = grip (pool_of y) in
      let k = pinned old.core new.core w p (grip None) h below s.works.hands s.works.running t.step in
      let d = pin_read_did old.core new.core w p sound s.works.running t.step in
      record {
        works = subst (λ z. Works new w (grip (Some z)) h) (sym pid) (works_left old new w (grip None) h (grip (Some p)) s.works k);
        disk = d.turned.disk_is ∙ s.disk;
        mine = step_content old new (event.PinRead w p) t x.pid ∙ ap (content_at old) pid ∙ content;
        others = same_body old new y (step_content old new (event.PinRead w p) t) s.others;
      }

  -- a pin that has ended
  pub unpin_stands : (old new : Paged T B D) (w : ℕ) (x : ReadPin T) (y : Option (ReadPin T)) (f : Form) → w < 2 → IsSound old.core → Stands old w (Some x) y
      → Steps old (event.UnpinRead w x.pid f) new → Stands new w None y
  unpin_stands old new w x y f below sound s t =
      let h = grip (pool_of y) in
      let k = unpinned old.core new.core w x.pid (grip (Some x.pid)) h below s.works.hands s.works.running f t.step in
      let d = unpin_read_did old.core new.core w x.pid f sound s.works.running t.step in
      record {
        works = works_left old new w (grip (Some x.pid)) h (grip None) s.works k;
        disk = d.turned.disk_is ∙ s.disk;
        mine = tt;
        others = same_body old new y (step_content old new (event.UnpinRead w x.pid f) t) s.others;
      }

  -- the pool of a pin that is held
  pub pin_pool : (l : Paged T B D) (w : ℕ) (x : ReadPin T) (y : Option (ReadPin T)) → IsSound l.core → Stands l w (Some x) y
      → (z : Pool) × (pool_at l.core.pools x.pid ≡ Some z) × (is_read z.stage ≡ true)
  pin_pool l w x y sound s = reads_there l.core w x.pid (grip (Some x.pid)) (grip (pool_of y)) sound s.works.hands refl refl refl

  -- a body is pinned for writing
  pub write_begun : (old new : Paged T B D) (w p room : ℕ) (y : Option (ReadPin T)) → w < 2 → IsSound old.core → IsSound new.core → Stands old w None y
      → Steps old (event.PinWrite w p room) new → HoldsWrite new w y p room
  write_begun old new w p room y below sound after s t =
      let h = grip (pool_of y) in
      let k = write_pinned old.core new.core w p (grip None) h below s.works.hands s.works.running room t.step in
      let d = pin_write_did old.core new.core w p room sound s.works.running t.step in
      record {
        works = works_left old new w (grip None) h (record empty_hand { written = Some p }) s.works k;
        disk = d.turned.disk_is ∙ s.disk;
        sound = after;
        pool = record d.pool { stage = stage.Written room };
        at = pool_now old.core new.core p _ _ _ d;
        stage = refl;
        others = same_body old new y (step_content old new (event.PinWrite w p room) t) s.others;
        apart = unread old.core w p (grip None) h d.pool sound s.works.hands d.at (ap read_pins d.was);
      }

  -- and has another value now
  pub write_stands : (charge : T → ℕ) (spell : T → List ℕ) (old new : Paged T B D) (w p room : ℕ) (d : Draft T) (brief : B) (y : Option (ReadPin T)) → w < 2
      → HoldsWrite old w y p room → Writes charge spell old new w p d brief → Stands new w None y
  write_stands charge spell old new w p room d brief y below o t =
      let h = grip (pool_of y) in let g : Hand = record empty_hand { written = Some p } in let f = draft_form d in let e = charge (draft_value d) in let c =
      length (spell (draft_value d)) in
      let k = write_unpinned old.core new.core w p g h below o.works.hands o.works.running f e c t.event.step in
      let n = unpin_write_did old.core new.core w p f e c o.sound o.works.running t.event.step in
      record {
        works = works_left old new w g h (grip None) o.works k;
        disk = n.turned.disk_is ∙ o.disk;
        mine = tt;
        others = other_body old new p _ y t.kept o.apart o.others;
      }

  -- where a worker stands, it may pin a pool for writing
  pub may_write : (l : Paged T B D) (w p room : ℕ) (y : Option (ReadPin T)) → w < 2 → Stands l w None y → room ≤ 2 ^ 41 → Allows l.core w p (mode.Write room)
  may_write l w p room y below s fits =
      let e = its_hand l.core w (grip None) (grip (pool_of y)) below s.works.hands in
      record {
        moved = ap (λ z. z.moved) e;
        pin = ap (λ z. z.written) e;
        task = λ b in_wave.
            (let no : false ≡ true = sym s.works.closed ∙ in_wave in absurd cc);
        room = fits;
      }

  -- a pool that neither worker reads may go
  pub may_remove : (l : Paged T B D) (p : ℕ) (x y : Option (ReadPin T)) → IsSound l.core → Stands l 0 x y → IsSome (pool_at l.core.pools p)
      → holds (pool_of x) p ≡ false → holds (pool_of y) p ≡ false
      → (z : Pool) × (pool_at l.core.pools p ≡ Some z) × (is_moving z.stage ≡ false) × (is_pinned z.stage ≡ false)
  may_remove l p x y sound s there a b = by (pool_at l.core.pools p) refl there
    where
      by : (o : Option Pool) → pool_at l.core.pools p ≡ o → is_some o ≡ true
          → (z : Pool) × (pool_at l.core.pools p ≡ Some z) × (is_moving z.stage ≡ false) × (is_pinned z.stage ≡ false)
      by None at e = absurd cc
      by (Some z) at e = let u = untouched l.core 0 p (grip (pool_of x)) (grip (pool_of y)) z sound s.works.hands at a b refl refl refl refl
          in (z, at, u.0, u.1)

  pub remove_stands : (old new : Paged T B D) (p : ℕ) (x y : Option (ReadPin T)) → IsSound old.core → Stands old 0 x y → holds (pool_of x) p ≡ false
      → holds (pool_of y) p ≡ false → Removes old new p → Stands new 0 x y
  remove_stands old new p x y sound s a b t =
      let k = removed old.core new.core p s.works.running t.event.step in
      let d = remove_did old.core new.core p sound s.works.running t.event.step in
      record {
        works = record { hands = k.hands_are ∙ s.works.hands; running = k.failure ∙ s.works.running; closed = k.closed ∙ s.works.closed };
        disk = d.disk_is ∙ s.disk;
        mine = other_body old new p None x t.kept a s.mine;
        others = other_body old new p None y t.kept b s.others;
      }

module _ {T B D : Type 0} (charge : T → ℕ) (spell : T → List ℕ) (reach : D → ℕ) (honest : D → Bool) where
  -- a reload has ended with that pin
  pub reload_stands : (old new : Paged T B D) (w p : ℕ) (d : Option D) (r : T) (x : ReadPin T) (y : Option (ReadPin T)) (by_disk : Bool) → w < 2
      → Moves old w None y (Some p) p by_disk (λ st. st ≡ stage.Reloading mode.Read by_disk)
      → Reloads charge spell reach honest old new w p d r → x.pid ≡ p → arc_value x.body ≡ r → Stands new w (Some x) y
  reload_stands old new w p d r x y by_disk below m t pid body =
      let h = grip (pool_of y) in let g : Hand = record (grip (Some p)) { moved = Some p } in
      let k = reload_ended old.core new.core w p g h below m.works.hands m.works.running t.event.step in
      let e = reload_end_did old.core new.core w p m.sound m.works.running t.event.step in
      let same : e.pool ≡ m.moving.pool = same_Some e.pool m.moving.pool (sym e.at ∙ m.moving.at) in
      let st : e.pool.stage ≡ stage.Reloading mode.Read by_disk = ap (λ z. z.stage) same ∙ m.moving.stage in
      let apart = alone old.core w p g h m.moving.pool m.sound m.works.hands refl m.moving.at (ap read_pins m.moving.stage) in
      record {
        works = subst (λ z. Works new w (grip (Some z)) h) (sym pid) (works_left old new w g h (grip (Some p)) m.works k);
        disk = e.turned.disk_is ∙ ap (λ z. if moves_by_disk z then None else old.core.disk) st ∙ ap (λ z. if by_disk then None else z) m.disk ∙ home by_disk;
        mine = ap (content_at new) pid ∙ ap (option_map (λ z. z.value))
            (t.kept p ∙ ap (λ b. cond b (Some (record t.was { value = r })) (kept_at old p)) (number_itself p)) ∙ ap (λ z. Some z) (sym body);
        others = other_body old new p _ y t.kept apart m.others;
      }
    where
      home : (b : Bool) → (if b then None else (if b then Some w else None)) ≡ None
      home true = refl
      home false = refl
