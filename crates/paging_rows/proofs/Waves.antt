-- What a wave of one task leaves.
use Rattle.std.proofs.Common.{◌≡◌, ℕ, ◌≤◌, ◌^◌, true, false, List, [], ◌∷◌, ◌++◌, length, Option, Some, None, IsSome, Result, Ok, Err, refl, sym, ap}
use Rattle.std.proofs.Common.{subst, ◌∙◌}
use Rattle.std.specs.Prelude.{is_none, is_some, drop, slice_get, slice_set, ◌&&◌, ◌||◌, if◌then◌else◌}
use Rattle.std.specs.List.{list_all, list_any}
use Rattle.std.specs.Option.{option_map_or}
use Rattle.naim_core.specs.Charges.{under_sum}
use Rattle.naim_core.specs.Rows
use Rattle.naim_core.specs.Sound.{IsSound}
use Rattle.naim_core.specs.State.{Core, empty_hand, hand_at, holds, is_in, pool_at}
use Rattle.naim_core.specs.Steps.{front, on_pool, permit, then_state}
use Rattle.naim_core.specs.declared.event.Event.TheVariants as event
use Rattle.naim_core.specs.declared.event.Mode.TheVariants as mode
use Rattle.naim_core.specs.declared.event.Refusal.{Refusal}
use Rattle.naim_core.specs.declared.event.Refusal.TheVariants.{Absent}
use Rattle.naim_core.specs.declared.pool.Pool.{Pool}
use Rattle.naim_core.specs.declared.pool.Stage.TheVariants as stage
use Rattle.naim_core.specs.declared.state.Hand.{Hand}
use Rattle.naim_core.proofs.Effects.{pin_write_did, running, unpin_write_did}
use Rattle.list_laws.proofs.Entries.{number_itself}
use Rattle.naim_loader.specs.Calls.{Allows, Writes}
use Rattle.naim_loader.specs.Drafts.{draft_form, draft_value}
use Rattle.naim_loader.specs.declared.forms.Draft.{Draft}
use Rattle.naim_loader.specs.Paged.{Paged, Steps}
use Rattle.paging_rows.specs.Pairs.{InWave, Stands, tasked, tasked_writer}
use Rattle.paging_rows.proofs.Loaders.{permit_gives}

-- what every end of an event on a pool has, the state has
after : (s new : Core) (p : ℕ) (row : Pool → Rows.Row) (f : Pool → Pool) (g : Pool → Pool → Core) (P : Core → Type 0) → ((x y : Pool) → P (g x y))
    → on_pool s p (λ x. then_state (permit (row x) (f x)) (λ y. g x y)) ≡ Ok new → P new
after s new p row f g P holds h = found (pool_at s.pools p) h
  where
    made : (x : Pool) (r : Result Pool Refusal) → then_state r (λ y. g x y) ≡ Ok new → P new
    made x (Ok y) k = (let is : g x y ≡ new = cc in subst P is (holds x y))
    made x (Err r) k = absurd cc

    found : (o : Option Pool) → option_map_or (λ x. then_state (permit (row x) (f x)) (λ y. g x y)) o (Err Absent) ≡ Ok new → P new
    found None k = absurd cc
    found (Some x) k = made x (permit (row x) (f x)) k

-- what an event leaves of the wave
record Kept (s z : Core) (hands : List Hand) (done : List ℕ) : Type 0 where
  hands_are : z.hands ≡ hands
  failure : z.failure ≡ s.failure
  in_wave : z.in_wave ≡ s.in_wave
  tasks : z.tasks ≡ s.tasks
  unclaimed : z.unclaimed ≡ s.unclaimed
  done_are : z.done ≡ done

module _ {T B D : Type 0} where
  pub wave_begun : (old new : Paged T B D) (p : ℕ) → IsSound new.core → Stands old 0 None None → Steps old (event.BeginWave (p ∷ [])) new
      → InWave new p empty_hand (p ∷ []) []
  wave_begun old new p sound s t =
      let c = old.core in
      let is = permit_gives (Rows.begin_wave_row c.pools c.hands c.in_wave (p ∷ []))
      (record c { in_wave = true; tasks = p ∷ []; unclaimed = p ∷ []; done = [] }) new.core
      (sym (running c (event.BeginWave (p ∷ [])) s.works.running) ∙ t.step) in
      subst (λ z. IsSound z → InWave (record new { core = z }) p empty_hand (p ∷ []) []) is
      (λ k. record {
        hands = s.works.hands;
        running = s.works.running;
        opened = refl;
        tasks = refl;
        left = refl;
        done_are = refl;
        disk = s.disk;
        sound = k;
      }) sound

  pub wave_claimed : (old new : Paged T B D) (p : ℕ) → IsSound new.core → InWave old p empty_hand (p ∷ []) [] → Steps old (event.Claim 0) new
      → InWave new p (tasked p) [] []
  wave_claimed old new p sound w t =
      let c = old.core in let h = hand_at c.hands 0 in
      let is = permit_gives (Rows.claim_row h c.unclaimed) (record c
      { hands = slice_set c.hands 0 (record h { task = slice_get c.unclaimed 0 }); unclaimed = drop 1 c.unclaimed }) new.core
      (sym (running c (event.Claim 0) w.running) ∙ t.step) in
      subst (λ z. IsSound z → InWave (record new { core = z }) p (tasked p) [] []) is (λ k. record {
        hands = (λ i. slice_set (w.hands i) 0 (record (hand_at (w.hands i) 0) { task = slice_get (w.left i) 0 }));
        running = w.running;
        opened = w.opened;
        tasks = w.tasks;
        left = ap (drop 1) w.left;
        done_are = w.done_are;
        disk = w.disk;
        sound = k;
      }) sound

  pub wave_allows : (l : Paged T B D) (p room : ℕ) → InWave l p (tasked p) [] [] → room ≤ 2 ^ 41 → Allows l.core 0 p (mode.Write room)
  wave_allows l p room w fits =
      let e = ap (λ z. hand_at z 0) w.hands in record {
        moved = ap (λ z. z.moved) e;
        pin = ap (λ z. z.written) e;
        task = λ a b. ap (λ z. z.task) e;
        room = fits;
      }

  pub wave_pinned : (old new : Paged T B D) (p room : ℕ) → IsSound new.core → InWave old p (tasked p) [] [] → Steps old (event.PinWrite 0 p room) new
      → InWave new p (tasked_writer p) [] [] × ((x : Pool) × (pool_at new.core.pools p ≡ Some x) × (x.stage ≡ stage.Written room))
  wave_pinned old new p room sound w t =
      let s = old.core in let k = hand_at s.hands 0 in let hands = slice_set s.hands 0 (record k { written = Some p }) in
      let e = after s new.core p (λ x. Rows.pin_write_row x k s.in_wave p room) (λ x. record x { stage = stage.Written room })
      (λ x y. record s { pools = front p y s.pools; hands = hands }) (λ z. Kept s z hands s.done)
      (λ x y. record { hands_are = refl; failure = refl; in_wave = refl; tasks = refl; unclaimed = refl; done_are = refl })
      (sym (running s (event.PinWrite 0 p room) w.running) ∙ t.step) in
      let d = pin_write_did s new.core 0 p room w.sound w.running t.step in (
        record {
          hands = e.hands_are ∙ ap (λ z. slice_set z 0 (record (hand_at z 0) { written = Some p })) w.hands;
          running = e.failure ∙ w.running;
          opened = e.in_wave ∙ w.opened;
          tasks = e.tasks ∙ w.tasks;
          left = e.unclaimed ∙ w.left;
          done_are = e.done_are ∙ w.done_are;
          disk = d.turned.disk_is ∙ w.disk;
          sound = sound;
        },
        (
          record d.pool { stage = stage.Written room },
          d.turned.found p ∙ ap
              (λ b. if b then Some (record d.pool { stage = stage.Written room }) else pool_at s.pools p) (number_itself p),
          refl,
        ),
      )

  pub wave_written : (charge : T → ℕ) (spell : T → List ℕ) (old new : Paged T B D) (p : ℕ) (d : Draft T) (brief : B) → IsSound new.core
      → InWave old p (tasked_writer p) [] [] → Writes charge spell old new 0 p d brief
      → InWave new p empty_hand [] (p ∷ [])
  wave_written charge spell old new p d brief sound w t =
      let s = old.core in let k = hand_at s.hands 0 in let f = draft_form d in let e = charge (draft_value d) in let c = length (spell (draft_value d)) in
      let hands = slice_set s.hands 0 (record k { written = None; task = if holds k.task p then None else k.task }) in let done = if holds k.task p then s.done
      ++ p ∷ [] else s.done in
      let a = after s new.core p (λ x. Rows.unpin_write_row s.limit (under_sum s.pools) x k p f e c) (λ x. Rows.inserted f e c)
      (λ x y. record s { pools = front p y s.pools; hands = hands; done = done }) (λ z. Kept s z hands done)
      (λ x y. record { hands_are = refl; failure = refl; in_wave = refl; tasks = refl; unclaimed = refl; done_are = refl })
      (sym (running s (event.UnpinWrite 0 p f e c) w.running) ∙ t.event.step) in
      let n = unpin_write_did s new.core 0 p f e c w.sound w.running t.event.step in
      let its : k.task ≡ Some p = ap (λ z. (hand_at z 0).task) w.hands in
      let holds_it : holds k.task p ≡ true = ap (λ o. holds o p) its ∙ number_itself p in
      record {
        hands = a.hands_are ∙ ap (λ b. slice_set s.hands 0 (record k { written = None; task = if b then None else k.task })) holds_it ∙ ap
            (λ z. slice_set z 0 (record (hand_at z 0) { written = None; task = None })) w.hands;
        running = a.failure ∙ w.running;
        opened = a.in_wave ∙ w.opened;
        tasks = a.tasks ∙ w.tasks;
        left = a.unclaimed ∙ w.left;
        done_are = a.done_are ∙ ap (λ b. if b then s.done ++ p ∷ [] else s.done) holds_it ∙ ap (λ z. z ++ p ∷ []) w.done_are;
        disk = n.turned.disk_is ∙ w.disk;
        sound = sound;
      }

  pub wave_done : (l : Paged T B D) (p : ℕ) → InWave l p empty_hand [] (p ∷ []) → list_all (λ t. is_in t l.core.done) l.core.tasks ≡ true
  wave_done l p w = (λ i. list_all (λ t. is_in t (w.done_are i)) (w.tasks i)) ∙ ap (λ b. (b || false) && true) (number_itself p)

  pub wave_ended : (old new : Paged T B D) (p : ℕ) → InWave old p empty_hand [] (p ∷ []) → Steps old event.EndWave new → Stands new 0 None None
  wave_ended old new p w t =
      let c = old.core in
      let is = permit_gives (Rows.end_wave_row c.hands c.in_wave c.tasks c.done) (record c { in_wave = false; tasks = []; unclaimed = []; done = [] }) new.core
      (sym (running c event.EndWave w.running) ∙ t.step) in
      record {
        works = record {
          hands = ap (λ z. z.hands) (sym is) ∙ w.hands;
          running = ap (λ z. z.failure) (sym is) ∙ w.running;
          closed = ap (λ z. z.in_wave) (sym is);
        };
        disk = ap (λ z. z.disk) (sym is) ∙ w.disk;
        mine = tt;
        others = tt;
      }

  pub wave_present : (l : Paged T B D) (p : ℕ) (tasks : List ℕ) → tasks ≡ p ∷ [] → IsSome (pool_at l.core.pools p)
      → list_any (λ t. is_none (pool_at l.core.pools t)) tasks ≡ false
  wave_present l p tasks e there = ap (list_any (λ t. is_none (pool_at l.core.pools t))) e ∙ ap (λ b. b || false) (by (pool_at l.core.pools p) there)
    where
      by : (o : Option Pool) → is_some o ≡ true → is_none o ≡ false
      by None e = cc
      by (Some x) e = refl
