-- What the hands of a worker alone tell of the pools.
use Rattle.std.proofs.Common.{◌≡◌, ℕ, suc, zero, ◌<◌, Bool, true, false, cond, List, [], ◌∷◌, length, Option, Some, None, Contains, refl, sym, ap}
use Rattle.std.proofs.Common.{subst, arith, ◌∙◌, ◌⊎◌, inl, inr}
use Rattle.std.specs.Prelude.{find, count_by, is_none, option_map, reverse, ◌&&◌}
use Rattle.std.specs.Cmp.{nat_eq_equiv}
use Rattle.std.specs.List.{list_all, slice_index_or}
use Rattle.std.specs.Map.{values_of}
use Rattle.std.specs.Option.{option_map_or}
use Rattle.std.proofs.lemmas.List.Sums.{sum_by-cons}
use Rattle.std.proofs.lemmas.List.Sorted.{Contains-permutation, IsPermutation-reverse}
use Rattle.std.proofs.lemmas.Map.Views.{lookup-from_Contains}
use Rattle.naim_core.specs.Charges.{under_at, under_part, under_sum}
use Rattle.naim_core.specs.Sound.{IsFitStage, IsSound, hands_with, movers, read_pins, wanted_by, write_pins}
use Rattle.naim_core.specs.State.{Core, empty_hand, hand_at, holds, is_compacted, is_empty_hand, is_free, is_read, pool_at, victim}
use Rattle.naim_core.specs.declared.pool.Pool.{Pool}
use Rattle.naim_core.specs.declared.pool.Stage.{Stage}
use Rattle.naim_core.specs.declared.pool.Stage.TheVariants as stage
use Rattle.naim_core.specs.declared.state.Hand.{Hand}
use Rattle.naim_core.proofs.Keeps.{one}
use Rattle.list_laws.proofs.Entries.{number_itself}
use Rattle.naim_loader.specs.Paged.{Paged}
use Rattle.one_owner.specs.Alone.{IsAlone, Works, idle, reading}

-- an empty hand is that one
empty_is : (h : Hand) → is_empty_hand h ≡ true → h ≡ empty_hand
empty_is h e = by h.task h.written h.read h.moved e
  where
    by : (t w r m : Option ℕ) → (is_none t && is_none w && is_none r && is_none m) ≡ true → record { task = t; written = w; read = r; moved = m } ≡ empty_hand
    by None None None None e = refl
    by (Some k) w r m e = cc
    by None (Some k) r m e = cc
    by None None (Some k) m e = cc
    by None None None (Some k) e = cc

both_true : (a b : Bool) → (a && b) ≡ true → (a ≡ true) × (b ≡ true)
both_true true true e = (refl, refl)
both_true true false e = cc
both_true false b e = cc

-- empty hands hold nothing
free_hold : (f : Hand → Bool) → f empty_hand ≡ false → (hs : List Hand) → list_all is_empty_hand hs ≡ true → count_by f hs ≡ 0
free_hold f none [] e = refl
free_hold f none (h ∷ hs) e =
    let b = both_true (is_empty_hand h) (list_all is_empty_hand hs) e in
    let z : one (f h) ≡ 0 = ap (λ k. one (f k)) (empty_is h b.0) ∙ ap one none in
    let c = sum_by-cons (λ k. one (f k)) h hs in let r = free_hold f none hs b.1 in omega arith

-- what a place of the hands holds, where worker 0 works alone
pub held_by : (place : Hand → Option ℕ) → place empty_hand ≡ None → (s : Core) (h : Hand) (p : ℕ) → IsAlone s h
    → hands_with place s.hands p ≡ one (holds (place h) p)
held_by place none s h p o =
    let f : Hand → Bool = λ k. holds (place k) p in
    let r = free_hold f (ap (λ z. holds z p) none) o.others o.free in
    let c = sum_by-cons (λ k. one (f k)) h o.others in
    let e : count_by f s.hands ≡ count_by f (h ∷ o.others) = ap (count_by f) o.hands in
    let g : count_by f (h ∷ o.others) ≡ one (f h) = omega arith in e ∙ g

-- the hand of worker 0
pub hand_is : (s : Core) (h : Hand) → IsAlone s h → hand_at s.hands 0 ≡ h
hand_is s h o = ap (λ hs. hand_at hs 0) o.hands

pub some_worker : (s : Core) (h : Hand) → IsAlone s h → 0 < length s.hands
some_worker s h o = let e = ap length o.hands in omega arith

-- without a move, its hand is the idle one
pub idle_is : (s : Core) (h : Hand) → IsAlone s h → idle s ≡ record h { moved = None }
idle_is s h o = ap (λ (k : Hand). record k { moved = None }) (hand_is s h o)

pub idle_works : {T B D : Type 0} (l : Paged T B D) (h : Hand) → h.moved ≡ None → Works l h → Works l (idle l.core)
idle_works l h none w =
    let same : h ≡ record h { moved = None } = λ i. record h { moved = none i } in
    subst (Works l) (same ∙ sym (idle_is l.core h w.alone)) w

-- what the pools want of hands
wants : (number : Stage → ℕ) (s : Core) (p : ℕ) (x : Pool) (n : ℕ) → pool_at s.pools p ≡ Some x → n ≡ wanted_by number (pool_at s.pools p) → number x.stage ≡ n
wants number s p x n at e = sym (e ∙ ap (wanted_by number) at)

pub none_moves : (s : Core) (h : Hand) (p : ℕ) (x : Pool) → IsSound s → IsAlone s h → h.moved ≡ None → pool_at s.pools p ≡ Some x → movers x.stage ≡ 0
none_moves s h p x sound o none at =
    wants movers s p x (hands_with (λ k. k.moved) s.hands p) at (sound.one_mover p) ∙ held_by (λ k. k.moved) refl s h p o ∙ ap (λ z. one (holds z p)) none

-- where nobody holds or moves anything, a pool is free, compacted or offloaded
pub rest_stage : (s : Core) (p : ℕ) (x : Pool) → IsSound s → IsAlone s empty_hand → pool_at s.pools p ≡ Some x
    → (x.stage ≡ stage.Free) ⊎ ((x.stage ≡ stage.Compacted) ⊎ (x.stage ≡ stage.Offloaded))
rest_stage s p x sound o at =
    by x.stage (wants read_pins s p x (hands_with (λ k. k.read) s.hands p) at (sound.readers p) ∙ held_by (λ k. k.read) refl s empty_hand p o)
    (wants write_pins s p x (hands_with (λ k. k.written) s.hands p) at (sound.writers p) ∙ held_by (λ k. k.written) refl s empty_hand p o)
    (none_moves s empty_hand p x sound o refl at) (sound.forms_fit p x at).stage_fits
  where
    by : (st : Stage) → read_pins st ≡ 0 → write_pins st ≡ 0 → movers st ≡ 0 → IsFitStage st
        → (st ≡ stage.Free) ⊎ ((st ≡ stage.Compacted) ⊎ (st ≡ stage.Offloaded))
    by stage.Free r w m f = inl refl
    by (stage.Read readers) r w m f = absurd (omega arith)
    by (stage.Written room) r w m f = absurd (omega arith)
    by stage.Compacted r w m f = inr (inl refl)
    by stage.Offloaded r w m f = inr (inr refl)
    by stage.Compacting r w m f = absurd (omega arith)
    by stage.Offloading r w m f = absurd (omega arith)
    by (stage.Reloading k from_disk) r w m f = absurd (omega arith)

-- the pool that worker 0 reads
pub read_there : (s : Core) (p : ℕ) → IsSound s → IsAlone s (reading p) → (x : Pool) × (pool_at s.pools p ≡ Some x) × (is_read x.stage ≡ true)
read_there s p sound o = found (pool_at s.pools p) refl
  where
    reads : wanted_by read_pins (pool_at s.pools p) ≡ 1
    reads = sym (sound.readers p) ∙ held_by (λ k. k.read) refl s (reading p) p o ∙ ap one (number_itself p)

    by : (st : Stage) → read_pins st ≡ 1 → movers st ≡ 0 → is_read st ≡ true
    by stage.Free r m = absurd (omega arith)
    by (stage.Read readers) r m = refl
    by (stage.Written room) r m = absurd (omega arith)
    by stage.Compacted r m = absurd (omega arith)
    by stage.Offloaded r m = absurd (omega arith)
    by stage.Compacting r m = absurd (omega arith)
    by stage.Offloading r m = absurd (omega arith)
    by (stage.Reloading k from_disk) r m = absurd (omega arith)

    found : (o' : Option Pool) → pool_at s.pools p ≡ o' → (x : Pool) × (pool_at s.pools p ≡ Some x) × (is_read x.stage ≡ true)
    found None at = (let e : wanted_by read_pins None ≡ 1 = sym (ap (wanted_by read_pins) at) ∙ reads in absurd (omega arith))
    found (Some x) at = (x, at, by x.stage (sym (ap (wanted_by read_pins) at) ∙ reads) (none_moves s (reading p) p x sound o refl at))

-- an element that a search for none passed over
none_found : {X : Type 0} (test : X → Bool) (xs : List X) (e : X) → find test xs ≡ None → Contains xs e → test e ≡ false
none_found test [] e h k = absurd (omega (arith, k.1))
none_found test (x ∷ xs) e h k = by (none_found test xs e) (test x) refl k.0 k.1 k.2 h
  where
    by : (find test xs ≡ None → Contains xs e → test e ≡ false) → (b : Bool) → test x ≡ b → (i : ℕ) → i < length (x ∷ xs) → slice_index_or (x ∷ xs) i e ≡ e
        → cond b (Some x) (find test xs) ≡ None → test e ≡ false
    by more true t i lt at n = cc
    by more false t zero lt at n = ap test (sym at) ∙ t
    by more false t (suc i) lt at n = more n (i, (omega arith), at)

none_under : (st : Stage) (e c : ℕ) → is_free st ≡ false → is_compacted st ≡ false → movers st ≡ 0 → under_at st e c ≡ 0
none_under stage.Free e c f k m = cc
none_under (stage.Read readers) e c f k m = refl
none_under (stage.Written room) e c f k m = refl
none_under stage.Compacted e c f k m = cc
none_under stage.Offloaded e c f k m = refl
none_under stage.Compacting e c f k m = absurd (omega arith)
none_under stage.Offloading e c f k m = absurd (omega arith)
none_under (stage.Reloading w from_disk) e c f k m = refl

sum_none : (es : List (ℕ × Pool)) → ((e : ℕ × Pool) → Contains es e → under_part e.1 ≡ 0) → under_sum es ≡ 0
sum_none [] h = refl
sum_none (e ∷ es) h =
    let a = sum_by-cons under_part e.1 (values_of es) in let b = h e (0, (omega arith), refl) in
    let c = sum_none es (λ x k. h x (suc k.0, (let m = k.1 in omega arith), k.2)) in
    let g : under_sum (e ∷ es) ≡ 0 = omega arith in g

-- where nothing moves and no pool can go, no bytes count
pub no_victim : (s : Core) (h : Hand) → IsSound s → IsAlone s h → h.moved ≡ None → victim s.pools ≡ None → under_sum s.pools ≡ 0
no_victim s h sound o none v =
    let fs = searches (find (λ e. is_free e.1.stage) (reverse s.pools)) (find (λ e. is_compacted e.1.stage) (reverse s.pools)) refl refl v in
    sum_none s.pools (λ e k.
    let back = Contains-permutation s.pools (reverse s.pools) e (IsPermutation-reverse s.pools) k in
    let at = lookup-from_Contains nat_eq_equiv e.0 e.1 s.pools sound.one_pool k in
    none_under e.1.stage e.1.e e.1.c (none_found (λ e. is_free e.1.stage) (reverse s.pools) e fs.0 back)
    (none_found (λ e. is_compacted e.1.stage) (reverse s.pools) e fs.1 back)
    (none_moves s h e.0 e.1 sound o none at))
  where
    searches : (a b : Option (ℕ × Pool)) → find (λ e. is_free e.1.stage) (reverse s.pools) ≡ a → find (λ e. is_compacted e.1.stage) (reverse s.pools) ≡ b
        → option_map_or (λ e. Some e.0) a (option_map (λ e. e.0) b) ≡ None
        → (find (λ e. is_free e.1.stage) (reverse s.pools) ≡ None) × (find (λ e. is_compacted e.1.stage) (reverse s.pools) ≡ None)
    searches None None p q n = (p, q)
    searches None (Some x) p q n = cc
    searches (Some x) b p q n = cc
