-- A removal, a claim, and the begin and the end of a wave keep the state sound.
use Rattle.std.proofs.Common.{◌≡◌, ◌≢◌, ℕ, zero, suc, ◌+◌, Bool, true, false, cond, nat_eq, List, [], ◌∷◌, length, Option}
use Rattle.std.proofs.Common.{Some, None, IsSome, refl, sym, ap, subst, arith, ◌∙◌, true≢false}
use Rattle.std.specs.Prelude.{count_by, is_none, ◌&&◌, ◌||◌}
use Rattle.std.specs.Cmp.{nat_eq_equiv}
use Rattle.std.specs.List.{IsDistinct, AllByRecursion, slice_get, slice_set, list_any, list_all}
use Rattle.std.specs.Map.{remove_entry}
use Rattle.std.proofs.lemmas.List.Sums.{sum_by-cons}
use Rattle.std.proofs.lemmas.Map.Keys.{IsDistinct-cons, IsDistinct-from_apart}
use Rattle.std.proofs.lemmas.Option.{same_Some}
use Rattle.naim_core.specs.Charges.{under_part}
use Rattle.naim_core.specs.Sound.{hands_with, wanted_by, read_pins, write_pins, movers, KeepsPin, MovesByDisk, IsSound}
use Rattle.naim_core.specs.State.{Core, pool_at, holds, moves_by_disk, is_in, is_empty_hand, has_repeat, is_moving, is_pinned}
use Rattle.naim_core.specs.declared.event.Mode.TheVariants as mode
use Rattle.naim_core.specs.declared.pool.Pool.{Pool}
use Rattle.naim_core.specs.declared.pool.Stage.{Stage}
use Rattle.naim_core.specs.declared.pool.Stage.TheVariants as stage
use Rattle.naim_core.specs.declared.state.Hand.{Hand}
use Rattle.list_laws.proofs.Entries.{same_number, number_itself, other_number, lookup_removed, distinct_removed, sum_removed, length_removed}
use Rattle.naim_core.proofs.Keeps.{one, count_set, all_set, set_same, set_other}

-- a stage at which nobody holds the pool
at_rest : (st : Stage) → is_moving st ≡ false → is_pinned st ≡ false → (read_pins st ≡ 0) × (write_pins st ≡ 0) × (movers st ≡ 0) × (moves_by_disk st ≡ false)
at_rest stage.Free a b = (refl, refl, refl, refl)
at_rest (stage.Read n) a b = absurd (true≢false b)
at_rest (stage.Written n) a b = absurd (true≢false b)
at_rest stage.Compacted a b = (refl, refl, refl, refl)
at_rest stage.Offloaded a b = (refl, refl, refl, refl)
at_rest stage.Compacting a b = absurd (true≢false a)
at_rest stage.Offloading a b = absurd (true≢false a)
at_rest (stage.Reloading m d) a b = absurd (true≢false a)

no_length : (ts : List ℕ) → length ts ≡ 0 → (t : ℕ) → is_in t ts ≡ false
no_length [] z t = refl
no_length (x ∷ ts) z t = absurd (omega arith)

pub remove_sound : (s : Core) (p : ℕ) (x : Pool) → IsSound s → pool_at s.pools p ≡ Some x → is_moving x.stage ≡ false → is_pinned x.stage ≡ false
    → s.in_wave ≡ false → IsSound (record s { pools = remove_entry (nat_eq p) s.pools })
remove_sound s p x sound at still free idle =
    let rest = at_rest x.stage still free in
    let found : (q : ℕ) → pool_at (remove_entry (nat_eq p) s.pools) q ≡ cond (nat_eq p q) None (pool_at s.pools q) = λ q. lookup_removed p q s.pools
    sound.one_pool in
    let same : (number : Stage → ℕ) → number x.stage ≡ 0 → (q n : ℕ) → n ≡ wanted_by number (pool_at s.pools q)
    → n ≡ wanted_by number (pool_at (remove_entry (nat_eq p) s.pools) q) = λ number zero_at q n was.
    (elim (nat_eq p q) as (λ b. nat_eq p q ≡ b → n ≡ wanted_by number (pool_at (remove_entry (nat_eq p) s.pools) q)) [
      | true ↦ λ t. let k = found q in let k' = rw t at k in let e = same_number p q t in
          was ∙ (ap (λ i. wanted_by number (pool_at s.pools i)) (sym e) ∙ ap (wanted_by number) at ∙ zero_at) ∙ sym (ap (wanted_by number) k')
      | false ↦ λ t. let k = found q in let k' = rw t at k in was ∙ sym (ap (wanted_by number) k')
    ]) refl in
    let was_there : (q : ℕ) (y : Pool) → pool_at (remove_entry (nat_eq p) s.pools) q ≡ Some y → pool_at s.pools q ≡ Some y = λ q y is.
    (elim (nat_eq p q) as (λ b. nat_eq p q ≡ b → pool_at s.pools q ≡ Some y) [
      | true ↦ λ t. let k = found q in let k' = rw t at k in let c : None ≡ Some y = sym k' ∙ is in cc
      | false ↦ λ t. let k = found q in let k' = rw t at k in sym k' ∙ is
    ]) refl in
    record {
      under_fits = (let a = sum_removed under_part p x s.pools at in let b = sound.under_fits in omega arith);
      one_pool = distinct_removed p s.pools sound.one_pool;
      slots = (let a = length_removed p x s.pools at in let b = sound.slots in omega arith);
      forms_fit = λ q y is. sound.forms_fit q y (was_there q y is);
      readers = λ q. same read_pins rest.0 q _ (sound.readers q);
      writers = λ q. same write_pins rest.1 q _ (sound.writers q);
      one_mover = λ q. same movers rest.2 q _ (sound.one_mover q);
      pins_kept = λ k h is q y d m here. sound.pins_kept k h is q y d m (was_there q y here);
      one_disk_move = (let a = sum_removed (λ v. one (moves_by_disk v.stage)) p x s.pools at in let b = sound.one_disk_move in let c : one
          (moves_by_disk x.stage) ≡ 0 = ap one rest.3 in omega arith);
      disk_owner = λ v o. let m = sound.disk_owner v o in
          let away : p ≢ m.pid = λ e. (let z : x ≡ m.pool = same_Some x m.pool (sym at ∙ (ap (pool_at s.pools) e ∙ m.its_pool)) in
          let b : moves_by_disk x.stage ≡ true = ap (λ y. moves_by_disk y.stage) z ∙ m.by_disk in absurd (true≢false (sym b ∙ rest.3))) in
          let n : nat_eq p m.pid ≡ false = other_number p m.pid away in let k = found m.pid in let k' = rw n at k in
          record { hand = m.hand; pid = m.pid; pool = m.pool; its_hand = m.its_hand; moves = m.moves; its_pool = k' ∙ m.its_pool; by_disk = m.by_disk };
      tasks_differ = sound.tasks_differ;
      tasks_present = λ t i. absurd (true≢false (sym i ∙ no_length s.tasks (sound.no_tasks idle) t));
      tasks_kept = sound.tasks_kept;
      own_task = sound.own_task;
      no_tasks = sound.no_tasks;
    }

-- the hands where only a task has changed
same_hands : (place : Hand → Option ℕ) (hands : List Hand) (w : ℕ) (h g : Hand) → slice_get hands w ≡ Some h → place g ≡ place h → (q : ℕ)
    → hands_with place (slice_set hands w g) q ≡ hands_with place hands q
same_hands place hands w h g at same q = let c = count_set (λ k. holds (place k) q) hands w h g at in let e : one (holds (place g) q) ≡ one (holds (place h) q)
    = ap (λ o. one (holds o q)) same in omega arith

-- a hand that changes, but not in its move, leaves the moves by the disk as they are
same_moves : (hands : List Hand) (pools : List (ℕ × Pool)) (w : ℕ) (h g : Hand) → slice_get hands w ≡ Some h → g.moved ≡ h.moved → (v : ℕ)
    → MovesByDisk hands pools v → MovesByDisk (slice_set hands w g) pools v
same_moves hands pools w h g at same v m =
    (elim (nat_eq w v) as (λ b. nat_eq w v ≡ b → MovesByDisk (slice_set hands w g) pools v) [
      | true ↦ λ t. let wv = same_number w v t in
          let mine : h ≡ m.hand = same_Some h m.hand (sym at ∙ (ap (slice_get hands) wv ∙ m.its_hand)) in
          record {
            hand = g;
            pid = m.pid;
            pool = m.pool;
            its_hand = ap (slice_get (slice_set hands w g)) (sym wv) ∙ set_same hands w h g at;
            moves = same ∙ (ap (λ k. k.moved) mine ∙ m.moves);
            its_pool = m.its_pool;
            by_disk = m.by_disk;
          }
      | false ↦ λ t. let away : w ≢ v = λ e. (let k : nat_eq w v ≡ true = ap (nat_eq w) (sym e) ∙ number_itself w in cc) in
          record {
            hand = m.hand;
            pid = m.pid;
            pool = m.pool;
            its_hand = set_other hands w v g away ∙ m.its_hand;
            moves = m.moves;
            its_pool = m.its_pool;
            by_disk = m.by_disk;
          }
    ]) refl

pub claim_sound : (s : Core) (w t : ℕ) (rest : List ℕ) (h : Hand) → IsSound s → slice_get s.hands w ≡ Some h → h.task ≡ None → s.unclaimed ≡ t ∷ rest →
    IsSound (record s { hands = slice_set s.hands w (record h { task = Some t }); unclaimed = rest })
claim_sound s w t rest h sound at none next = let g : Hand = record h { task = Some t } in record {
  under_fits = sound.under_fits;
  one_pool = sound.one_pool;
  slots = sound.slots;
  forms_fit = sound.forms_fit;
  readers = λ q. same_hands (λ k. k.read) s.hands w h g at refl q ∙ sound.readers q;
  writers = λ q. same_hands (λ k. k.written) s.hands w h g at refl q ∙ sound.writers q;
  one_mover = λ q. same_hands (λ k. k.moved) s.hands w h g at refl q ∙ sound.one_mover q;
  pins_kept = all_set (KeepsPin s.pools) s.hands w g (sound.pins_kept w h at) sound.pins_kept;
  one_disk_move = sound.one_disk_move;
  disk_owner = λ v o. same_moves s.hands s.pools w h g at refl v (sound.disk_owner v o);
  tasks_differ = sound.tasks_differ;
  tasks_present = sound.tasks_present;
  tasks_kept = λ q. (let c = count_set (λ k. holds k.task q) s.hands w h g at in let a : one (holds h.task q) ≡ 0 = ap (λ o. one (holds o q)) none in
      let e = ap (count_by (nat_eq q)) next in let f = sum_by-cons (λ i. one (nat_eq q i)) t rest in let k = sound.tasks_kept q in let y = ap one
      (nat_eq_equiv.symm q t) in omega arith);
  own_task = λ i. let was = sound.own_task i in all_set (λ k. (q : ℕ) → k.written ≡ Some q → k.task ≡ Some q) s.hands w g
      (λ q e. let c : None ≡ Some q = sym none ∙ was w h at q e in cc) was;
  no_tasks = sound.no_tasks;
}

pub empty_parts : (h : Hand) → is_empty_hand h ≡ true → (h.task ≡ None) × (h.written ≡ None)
empty_parts h e = parts h.task h.written h.read h.moved e
  where
    parts : (t wr r m : Option ℕ) → (is_none t && is_none wr && is_none r && is_none m) ≡ true → (t ≡ None) × (wr ≡ None)
    parts None None r m k = (refl, refl)
    parts (Some t) wr r m k = absurd (true≢false (sym k))
    parts None (Some wr) r m k = absurd (true≢false (sym k))

pub no_task_held : (hands : List Hand) → list_all is_empty_hand hands ≡ true → (q : ℕ) → hands_with (λ h. h.task) hands q ≡ 0
no_task_held [] e q = refl
no_task_held (h ∷ hands) e q = (elim (is_empty_hand h) as (λ b. is_empty_hand h ≡ b → (b && list_all is_empty_hand hands) ≡ true
    → hands_with (λ h. h.task) (h ∷ hands) q ≡ 0) [
      | true ↦ λ t k. let c = sum_by-cons (λ l. one (holds l.task q)) h hands in let n : one (holds h.task q) ≡ 0 = ap (λ o. one (holds o q))
          (empty_parts h t).0
          in let r = no_task_held hands k q in omega arith
      | false ↦ λ t k. absurd (true≢false (sym k))
    ]) refl e

both_hold : (a b : Bool) → (a && b) ≡ true → (a ≡ true) × (b ≡ true)
both_hold true b e = (refl, e)
both_hold false b e = cc

none_written : (hands : List Hand) → list_all is_empty_hand hands ≡ true → (w : ℕ) (h : Hand) → slice_get hands w ≡ Some h → h.written ≡ None
none_written [] e w h at = cc
none_written (g ∷ hands) e zero h at = let both = both_hold (is_empty_hand g) (list_all is_empty_hand hands) e in ap (λ l. l.written) (sym (same_Some g h at)) ∙
    (empty_parts g both.0).1
none_written (g ∷ hands) e (suc n) h at = let both = both_hold (is_empty_hand g) (list_all is_empty_hand hands) e in none_written hands both.1 n h at

-- no number stands twice
pub distinct_of : (ts : List ℕ) → has_repeat ts ≡ false → IsDistinct nat_eq ts
distinct_of [] h = IsDistinct-from_apart nat_eq [] (λ i j d lt k. absurd (omega arith))
distinct_of (t ∷ ts) h = let both = both_false (is_in t ts) (has_repeat ts) h in IsDistinct-cons nat_eq t ts (apart_all t ts both.0) (distinct_of ts both.1)
  where
    both_false : (a b : Bool) → (a || b) ≡ false → (a ≡ false) × (b ≡ false)
    both_false false b h = (refl, h)
    both_false true b h = cc

    apart_all : (t : ℕ) (ts : List ℕ) → is_in t ts ≡ false → AllByRecursion (λ y. nat_eq t y ≡ false) ts
    apart_all t [] h = tt
    apart_all t (y ∷ ts) h = let both = both_false (nat_eq t y) (is_in t ts) h in (both.0, apart_all t ts both.1)

pub all_present : (s : Core) (ts : List ℕ) → list_any (λ t. is_none (pool_at s.pools t)) ts ≡ false → (t : ℕ) → is_in t ts ≡ true → IsSome (pool_at s.pools t)
all_present s [] h t i = cc
all_present s (y ∷ ts) h t i = (elim (nat_eq t y) as (λ b. nat_eq t y ≡ b → (b || is_in t ts) ≡ true → IsSome (pool_at s.pools t)) [
  | true ↦ λ e k. subst (λ q. IsSome (pool_at s.pools q)) (sym (same_number t y e)) (some_of (pool_at s.pools y) (either (is_none (pool_at s.pools y)) _ h).0)
  | false ↦ λ e k. all_present s ts (either (is_none (pool_at s.pools y)) _ h).1 t k
]) refl i
  where
    either : (a b : Bool) → (a || b) ≡ false → (a ≡ false) × (b ≡ false)
    either false b h = (refl, h)
    either true b h = cc

    some_of : (o : Option Pool) → is_none o ≡ false → IsSome o
    some_of (Some x) h = refl
    some_of None h = cc

pub begin_wave_sound : (s : Core) (ts : List ℕ) → IsSound s → list_any (λ t. is_none (pool_at s.pools t)) ts ≡ false → has_repeat ts ≡ false
    → list_all is_empty_hand s.hands ≡ true →
    IsSound (record s { in_wave = true; tasks = ts; unclaimed = ts; done = [] })
begin_wave_sound s ts sound present once idle = record {
  under_fits = sound.under_fits;
  one_pool = sound.one_pool;
  slots = sound.slots;
  forms_fit = sound.forms_fit;
  readers = sound.readers;
  writers = sound.writers;
  one_mover = sound.one_mover;
  pins_kept = sound.pins_kept;
  one_disk_move = sound.one_disk_move;
  disk_owner = sound.disk_owner;
  tasks_differ = distinct_of ts once;
  tasks_present = all_present s ts present;
  tasks_kept = λ t. (let n = no_task_held s.hands idle t in let g : count_by (nat_eq t) ts + 0 + hands_with (λ h. h.task) s.hands t ≡ count_by (nat_eq t) ts =
      omega arith in g);
  own_task = λ i w h at p e. let c : None ≡ Some p = sym (none_written s.hands idle w h at) ∙ e in cc;
  no_tasks = λ i. absurd (true≢false i);
}

pub end_wave_sound : (s : Core) → IsSound s → list_all is_empty_hand s.hands ≡ true
    → IsSound (record s { in_wave = false; tasks = []; unclaimed = []; done = [] })
end_wave_sound s sound idle = record {
  under_fits = sound.under_fits;
  one_pool = sound.one_pool;
  slots = sound.slots;
  forms_fit = sound.forms_fit;
  readers = sound.readers;
  writers = sound.writers;
  one_mover = sound.one_mover;
  pins_kept = sound.pins_kept;
  one_disk_move = sound.one_disk_move;
  disk_owner = sound.disk_owner;
  tasks_differ = distinct_of [] refl;
  tasks_present = λ t i. absurd (true≢false (sym i));
  tasks_kept = λ t. (let n = no_task_held s.hands idle t in let g : 0 + 0 + hands_with (λ h. h.task) s.hands t ≡ 0 = omega arith in g);
  own_task = λ i. absurd (true≢false (sym i));
  no_tasks = λ i. refl;
}
