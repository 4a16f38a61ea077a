-- Events that aren't refused.
use Rattle.std.proofs.Common.{◌≡◌, ◌≤◌, ◌<◌, ◌+◌, ◌^◌, ℕ, Bool, true, false, not, [], ◌∷◌, ◌++◌, length, Option, Some, None, Err, refl, sym, ap, arith}
use Rattle.std.proofs.Common.{◌∙◌, ◌⊎◌, inl, inr}
use Rattle.std.specs.Prelude.{is_some, nat_le, nat_lt, ◌&&◌, ◌||◌, if◌then◌else◌}
use Rattle.std.specs.Option.{option_map_or}
use Rattle.std.proofs.lemmas.Bool.Decides.{nat_tests}
use Rattle.naim_core.specs.Charges.{room_of, under_sum}
use Rattle.naim_core.specs.Rows
use Rattle.naim_core.specs.State.{Core, hand_at, holds, is_away, is_expanded, is_moving, is_offloaded, is_pinned, is_read, is_written, pool_at, victim}
use Rattle.naim_core.specs.Steps.{front, in_place, permit, step_of, take_pin, then_state, with_hand}
use Rattle.naim_core.specs.declared.event.Event.TheVariants as event
use Rattle.naim_core.specs.declared.event.Form.{Form}
use Rattle.naim_core.specs.declared.event.Mode.{Mode}
use Rattle.naim_core.specs.declared.event.Refusal.{Refusal}
use Rattle.naim_core.specs.declared.event.Refusal.TheVariants.{Absent, BadSize, DiskOut, Fits, Full, HandFull, InUse, Moving, NeedsRoom, NoTask}
use Rattle.naim_core.specs.declared.event.Refusal.TheVariants.{NotHeld, NotVictim, Present, TooSmall, WrongForm}
use Rattle.naim_core.specs.declared.pool.Pool.{Pool}
use Rattle.naim_core.specs.declared.pool.Stage.TheVariants as stage
use Rattle.naim_core.specs.declared.state.Hand.{Hand}
use Rattle.naim_core.proofs.Effects.{running}
use Rattle.list_laws.proofs.Entries.{number_itself}

not_above : (m n : ℕ) → m ≤ n → nat_lt n m ≡ false
not_above m n h = grind (arith, nat_tests)

not_within : (m n : ℕ) → n < m → nat_le m n ≡ false
not_within m n h = grind (arith, nat_tests)

and_false : (a b : Bool) → b ≡ false → (a && b) ≡ false
and_false true b e = e
and_false false b e = refl

or_false : (a b : Bool) → a ≡ false → b ≡ false → (a || b) ≡ false
or_false true b e f = cc
or_false false b e f = f

-- an offload that is refused for the disk
at_home : (a b c f n : Bool) (x : Pool) (h : Pool → Core)
    → then_state (permit ((a, HandFull) ∷ (b, Moving) ∷ (c, WrongForm) ∷ (false, DiskOut) ∷ (f, Fits) ∷ (n, NotVictim) ∷ []) x) h ≡ Err DiskOut → ⊥
at_home true b c f n x h k = cc
at_home false true c f n x h k = cc
at_home false false true f n x h k = cc
at_home false false false true n x h k = cc
at_home false false false false true x h k = cc
at_home false false false false false x h k = cc

pub offload_home : (s : Core) (p wanted : ℕ) → s.failure ≡ None → s.disk ≡ None → step_of s (event.OffloadBegin 0 p wanted) ≡ Err DiskOut → ⊥
offload_home s p wanted none home h = found (pool_at s.pools p) (sym (running s (event.OffloadBegin 0 p wanted) none) ∙ h)
  where
    g : Hand
    g = hand_at s.hands 0

    made : Pool → Core
    made y = record s { pools = in_place p y s.pools; hands = with_hand s 0 (record g { moved = Some p }); disk = Some 0 }

    found : (o : Option Pool) → option_map_or (λ x. then_state (permit (Rows.offload_begin_row s.limit (under_sum s.pools) (victim s.pools) x g p wanted s.disk)
        (record x { stage = stage.Offloading })) made) o (Err Absent) ≡ Err DiskOut → ⊥
    found None k = cc
    found (Some x) k = at_home (is_some g.moved) (is_moving x.stage) (is_expanded x.stage || is_offloaded x.stage) (nat_le (under_sum s.pools + wanted) s.limit)
        (not (holds (victim s.pools) p)) (record x { stage = stage.Offloading }) made (rw home at k)

-- a new pool that fits
let_in : (a b c d e : Bool) (need room : ℕ) (x : Pool) (h : Pool → Core) (r : Refusal) → a ≡ false → b ≡ false → c ≡ false → d ≡ false → e ≡ false
    → then_state (permit ((a, Present) ∷ (b, Full) ∷ (c, BadSize) ∷ (d, TooSmall need) ∷ (e, NeedsRoom room) ∷ []) x) h ≡ Err r → ⊥
let_in true b c d e need room x h r p q u v w k = cc
let_in false true c d e need room x h r p q u v w k = cc
let_in false false true d e need room x h r p q u v w k = cc
let_in false false false true e need room x h r p q u v w k = cc
let_in false false false false true need room x h r p q u v w k = cc
let_in false false false false false need room x h r p q u v w k = cc

pub insert_taken : (s : Core) (p : ℕ) (f : Form) (e c : ℕ) (r : Refusal) → s.failure ≡ None → pool_at s.pools p ≡ None → length s.pools < 4096 → c ≤ e
    → e ≤ 2 ^ 40 → c ≤ s.limit → under_sum s.pools + Rows.bytes_of f e c ≤ s.limit
    → step_of s (event.Insert p f e c) ≡ Err r → ⊥
insert_taken s p f e c r none absent few short small within fits h =
    let_in (is_some (pool_at s.pools p)) (nat_le 4096 (length s.pools)) (nat_lt e c || nat_lt (2 ^ 40) e) (Rows.is_compact_form f && nat_lt s.limit c)
    (nat_lt s.limit (under_sum s.pools + Rows.bytes_of f e c)) c (Rows.bytes_of f e c)
    (Rows.inserted f e c) (λ x. record s { pools = (p, x) ∷ s.pools }) r (ap is_some absent) (not_within 4096 (length s.pools) few)
    (or_false (nat_lt e c) (nat_lt (2 ^ 40) e) (not_above c e short) (not_above e (2 ^ 40) small))
    (and_false (Rows.is_compact_form f) (nat_lt s.limit c) (not_above c s.limit within)) (not_above (under_sum s.pools + Rows.bytes_of f e c) s.limit fits)
    (sym (running s (event.Insert p f e c) none) ∙ h)

-- a body that is given back where it fits
let_go : (a last d e : Bool) (need room : ℕ) (x : Pool) (h : Pool → Core) (r : Refusal) → a ≡ false → d ≡ false → e ≡ false
    → then_state (permit ((a, NotHeld) ∷ (if last then (d, TooSmall need) ∷ (e, NeedsRoom room) ∷ [] else [])) x) h ≡ Err r → ⊥
let_go true last d e need room x h r p q u k = cc
let_go false true true e need room x h r p q u k = cc
let_go false true false true need room x h r p q u k = cc
let_go false true false false need room x h r p q u k = cc
let_go false false d e need room x h r p q u k = cc

pub unpin_taken : (s : Core) (p : ℕ) (f : Form) (x : Pool) (r : Refusal) → s.failure ≡ None → (hand_at s.hands 0).read ≡ Some p → pool_at s.pools p ≡ Some x
    → is_read x.stage ≡ true → x.c ≤ s.limit → under_sum s.pools + Rows.bytes_of f x.e x.c ≤ s.limit
    → step_of s (event.UnpinRead 0 p f) ≡ Err r → ⊥
unpin_taken s p f x r none held at read within fits h =
    let g = hand_at s.hands 0 in let y : Pool = record x { stage = Rows.without_reader f x.stage } in
    let made : Pool → Core = λ y. record s { pools = front p y s.pools; hands = with_hand s 0 (record g { read = None }) } in
    let mine : holds g.read p ≡ true = ap (λ o. holds o p) held ∙ number_itself p in
    let here = sym (running s (event.UnpinRead 0 p f) none) ∙ h in
    let_go (not (holds g.read p && is_read x.stage)) (Rows.is_last_reader x.stage) (Rows.is_compact_form f && nat_lt s.limit x.c)
    (nat_lt s.limit (under_sum s.pools + Rows.bytes_of f x.e x.c)) x.c (Rows.bytes_of f x.e x.c)
    y made r (let k : (holds g.read p && is_read x.stage) ≡ true = rw (mine, read) refl in ap not k)
    (and_false (Rows.is_compact_form f) (nat_lt s.limit x.c) (not_above x.c s.limit within))
    (not_above (under_sum s.pools + Rows.bytes_of f x.e x.c) s.limit fits) (rw at at here)

-- a pin of a pool that nobody holds or moves
no_pin : (a b c d : Bool) (x : Pool) (h : Pool → Core) (r : Refusal) → b ≡ false → d ≡ false → (r ≡ Moving) ⊎ (r ≡ InUse)
    → then_state (permit ((a, HandFull) ∷ (b, Moving) ∷ (c, WrongForm) ∷ (d, InUse) ∷ []) x) h ≡ Err r → ⊥
no_pin true b c d x h r p q (inl e) k = cc
no_pin true b c d x h r p q (inr e) k = cc
no_pin false true c d x h r p q w k = cc
no_pin false false true d x h r p q (inl e) k = cc
no_pin false false true d x h r p q (inr e) k = cc
no_pin false false false true x h r p q w k = cc
no_pin false false false false x h r p q w k = cc

pub pin_taken : (s : Core) (p : ℕ) (x : Pool) (r : Refusal) → s.failure ≡ None → pool_at s.pools p ≡ Some x → is_moving x.stage ≡ false
    → is_written x.stage ≡ false → (r ≡ Moving) ⊎ (r ≡ InUse) → step_of s (event.PinRead 0 p) ≡ Err r → ⊥
pin_taken s p x r none at still alone which h =
    let g = hand_at s.hands 0 in let y : Pool = record x { stage = Rows.with_reader x.stage } in
    let made : Pool → Core = λ y. record s { pools = front p y s.pools; hands = with_hand s 0 (record g { read = Some p }) } in
    let here = sym (running s (event.PinRead 0 p) none) ∙ h in
    no_pin (is_some g.read) (is_moving x.stage) (is_away x.stage) (is_written x.stage) y made r still alone which (rw at at here)

-- a reload where the disk is at home
no_reload : (a b c d f e : Bool) (x : Pool) (h : Pool → Core) → e ≡ false
    → then_state (permit ((a, HandFull) ∷ (b, NoTask) ∷ (c, Moving) ∷ (d, WrongForm) ∷ (e, DiskOut) ∷ (f, BadSize) ∷ []) x) h ≡ Err DiskOut → ⊥
no_reload a b c d f true x h p k = cc
no_reload true b c d f false x h p k = cc
no_reload false true c d f false x h p k = cc
no_reload false false true d f false x h p k = cc
no_reload false false false true f false x h p k = cc
no_reload false false false false true false x h p k = cc
no_reload false false false false false false x h p k = cc

pub reload_home : (s : Core) (p : ℕ) (kind : Mode) (x : Pool) → s.failure ≡ None → pool_at s.pools p ≡ Some x → s.disk ≡ None
    → step_of s (event.ReloadBegin 0 p kind) ≡ Err DiskOut → ⊥
reload_home s p kind x none at home h =
    let g = hand_at s.hands 0 in let y : Pool = record x { stage = stage.Reloading kind (is_offloaded x.stage) } in
    let made : Pool → Core = λ y. record s {
      pools = in_place p y s.pools;
      hands = with_hand s 0 (take_pin kind p g);
      disk = if is_offloaded x.stage then Some 0
          else s.disk;
    } in
    let here = sym (running s (event.ReloadBegin 0 p kind) none) ∙ h in
    no_reload (is_some g.moved || is_some (Rows.pin_place kind g)) (Rows.is_write kind && s.in_wave && not (holds g.task p)) (is_moving x.stage)
    (is_expanded x.stage) (nat_lt (2 ^ 41) (room_of kind)) (is_offloaded x.stage && is_some s.disk) y made
    (and_false (is_offloaded x.stage) (is_some s.disk) (ap is_some home)) (rw at at here)

-- a pin for writing of a pool that nobody holds or moves
no_write : (a b c d e f : Bool) (x : Pool) (h : Pool → Core) (r : Refusal) → c ≡ false → e ≡ false → (r ≡ Moving) ⊎ (r ≡ InUse)
    → then_state (permit ((a, HandFull) ∷ (b, NoTask) ∷ (c, Moving) ∷ (d, WrongForm) ∷ (e, InUse) ∷ (f, BadSize) ∷ []) x) h ≡ Err r → ⊥
no_write true b c d e f x h r p q (inl w) k = cc
no_write true b c d e f x h r p q (inr w) k = cc
no_write false true c d e f x h r p q (inl w) k = cc
no_write false true c d e f x h r p q (inr w) k = cc
no_write false false true d e f x h r p q w k = cc
no_write false false false true e f x h r p q (inl w) k = cc
no_write false false false true e f x h r p q (inr w) k = cc
no_write false false false false true f x h r p q w k = cc
no_write false false false false false true x h r p q (inl w) k = cc
no_write false false false false false true x h r p q (inr w) k = cc
no_write false false false false false false x h r p q w k = cc

pub write_pin_taken : (s : Core) (p room : ℕ) (x : Pool) (r : Refusal) → s.failure ≡ None → pool_at s.pools p ≡ Some x → is_moving x.stage ≡ false
    → is_pinned x.stage ≡ false → (r ≡ Moving) ⊎ (r ≡ InUse) → step_of s (event.PinWrite 0 p room) ≡ Err r → ⊥
write_pin_taken s p room x r none at still alone which h =
    let g = hand_at s.hands 0 in let y : Pool = record x { stage = stage.Written room } in
    let made : Pool → Core = λ y. record s { pools = front p y s.pools; hands = with_hand s 0 (record g { written = Some p }) } in
    let here = sym (running s (event.PinWrite 0 p room) none) ∙ h in
    no_write (is_some g.written) (s.in_wave && not (holds g.task p)) (is_moving x.stage) (is_away x.stage) (is_pinned x.stage) (nat_lt (2 ^ 41) room) y made r
    still alone which (rw at at here)

-- a new value that fits
no_refusal : (a b d e : Bool) (need room : ℕ) (x : Pool) (h : Pool → Core) (r : Refusal) → a ≡ false → b ≡ false → d ≡ false → e ≡ false
    → then_state (permit ((a, NotHeld) ∷ (b, BadSize) ∷ (d, TooSmall need) ∷ (e, NeedsRoom room) ∷ []) x) h ≡ Err r → ⊥
no_refusal true b d e need room x h r p q u v k = cc
no_refusal false true d e need room x h r p q u v k = cc
no_refusal false false true e need room x h r p q u v k = cc
no_refusal false false false true need room x h r p q u v k = cc
no_refusal false false false false need room x h r p q u v k = cc

pub write_taken : (s : Core) (p : ℕ) (f : Form) (e c room : ℕ) (x : Pool) (r : Refusal) → s.failure ≡ None → (hand_at s.hands 0).written ≡ Some p
    → pool_at s.pools p ≡ Some x → x.stage ≡ stage.Written room → e + c ≤ room → c ≤ e → e ≤ 2 ^ 40 → c ≤ s.limit
    → under_sum s.pools + Rows.bytes_of f e c ≤ s.limit → step_of s (event.UnpinWrite 0 p f e c) ≡ Err r → ⊥
write_taken s p f e c room x r none held at written stated short small within fits h =
    let g = hand_at s.hands 0 in let y : Pool = Rows.inserted f e c in
    let made : Pool → Core = λ y. record s {
      pools = front p y s.pools;
      hands = with_hand s 0 (record g { written = None; task = if holds g.task p then None else g.task });
      done = if holds g.task p then s.done ++ p ∷ [] else s.done;
    } in
    let mine : holds g.written p ≡ true = ap (λ o. holds o p) held ∙ number_itself p in
    let k : (holds g.written p && is_written x.stage) ≡ true = rw (mine, written) refl in
    let here = sym (running s (event.UnpinWrite 0 p f e c) none) ∙ h in
    no_refusal (not (holds g.written p && is_written x.stage)) (nat_lt e c || nat_lt (2 ^ 40) e || nat_lt (Rows.stated_room x.stage) (e + c))
    (Rows.is_compact_form f && nat_lt s.limit c) (nat_lt s.limit (under_sum s.pools + Rows.bytes_of f e c)) c (Rows.bytes_of f e c) y made r (ap not k)
    (or_false (nat_lt e c || nat_lt (2 ^ 40) e) (nat_lt (Rows.stated_room x.stage) (e + c))
    (or_false (nat_lt e c) (nat_lt (2 ^ 40) e) (not_above c e short) (not_above e (2 ^ 40) small))
    (ap (λ st. nat_lt (Rows.stated_room st) (e + c)) written ∙ not_above (e + c) room stated))
    (and_false (Rows.is_compact_form f) (nat_lt s.limit c) (not_above c s.limit within)) (not_above (under_sum s.pools + Rows.bytes_of f e c) s.limit fits)
    (rw at at here)
