-- A reload begins.
use Rattle.std.proofs.Common.{◌≡◌, ℕ, ◌+◌, ◌*◌, ◌<◌, ◌≤◌, ◌^◌, Bool, true, false, List, [], ◌∷◌, length, Option, Some, None, Vec, Err, refl, sym, ap}
use Rattle.std.proofs.Common.{subst, arith, ◌∙◌}
use Rattle.std.specs.Prelude.{is_none, is_some, nat_lt, not, ◌&&◌, ◌||◌, if◌then◌else◌}
use Rattle.std.specs.declared.alloc.Global.{Global}
use Rattle.std.proofs.lemmas.Bool.Decides.{nat_tests}
use Rattle.std.proofs.lemmas.Option.{same_Some}
use Rattle.repository.specs.Record.{HasBytes}
use Rattle.repository.specs.Filing.{record_of}
use Rattle.repository.specs.declared.filing.Filed.{Filed}
use Rattle.naim_core.specs.Charges.{room_of}
use Rattle.naim_core.specs.Rows
use Rattle.naim_core.specs.State.{Core, pool_at, hand_at, holds, is_away, is_moving, is_expanded, is_offloaded}
use Rattle.naim_core.specs.Steps.{permit, then_state, in_place, with_hand, take_pin, step_of}
use Rattle.naim_core.specs.declared.event.Event.TheVariants as event
use Rattle.naim_core.specs.declared.event.Mode.{Mode}
use Rattle.naim_core.specs.declared.event.Refusal.{Refusal}
use Rattle.naim_core.specs.declared.event.Refusal.TheVariants.{HandFull, NoTask, Moving, WrongForm, DiskOut, BadSize}
use Rattle.naim_core.specs.declared.pool.Pool.{Pool}
use Rattle.naim_core.specs.declared.pool.Stage.{Stage}
use Rattle.naim_core.specs.declared.pool.Stage.TheVariants as stage
use Rattle.naim_core.proofs.Effects.{running, reload_begin_did}
use Rattle.list_laws.proofs.Entries.{number_itself}
use Rattle.naim_loader.specs.declared.counters.Counters.{Counters}
use Rattle.naim_loader.specs.declared.home.Home.{Home}
use Rattle.naim_loader.specs.declared.table.Entry.{Entry}
use Rattle.naim_loader.specs.declared.table.Lying.{Lying}
use Rattle.naim_loader.specs.declared.table.Lying.TheVariants as lying
use Rattle.naim_loader.specs.declared.forms.Move.TheVariants as move
use Rattle.naim_loader.specs.declared.forms.PinAnswer.TheVariants as answer
use Rattle.naim_loader.specs.Calls.{Allows, AnswersPin, stage_at}
use Rattle.naim_loader.specs.Counting.{Stepped}
use Rattle.naim_loader.specs.Forms.{LiesAs, is_filed}
use Rattle.naim_loader.specs.Home.{told, is_home}
use Rattle.naim_loader.specs.Paged.{Paged, content_at, IsGood, IsTrusted}
use Rattle.naim_loader.specs.Rows.{Puts, Kept}
use Rattle.naim_loader.specs.Whole.{IsWhole}
use Rattle.naim_loader.proofs.Views.{steps_view}
use Rattle.naim_loader.proofs.Wholes.{whole_moved, there}

-- of a pool that is away, the only refusal of an allowed reload is that the disk is out
behind : (a b d e f g : Bool) (x : Pool) (h : Pool → Core) (r : Refusal) → a ≡ false → b ≡ false → d ≡ false → e ≡ false → g ≡ false
    → then_state (permit ((a, HandFull) ∷ (b, NoTask) ∷ (d, Moving) ∷ (e, WrongForm) ∷ (f, DiskOut) ∷ (g, BadSize) ∷ []) x) h ≡ Err r → r ≡ DiskOut
behind true b d e f g x h r p q s t u k = cc
behind false true d e f g x h r p q s t u k = cc
behind false false true e f g x h r p q s t u k = cc
behind false false false true f g x h r p q s t u k = cc
behind false false false false true g x h r p q s t u k = cc
behind false false false false false true x h r p q s t u k = cc
behind false false false false false false x h r p q s t u k = cc

away_still : (st : Stage) → is_away st ≡ true → (is_moving st ≡ false) × (is_expanded st ≡ false)
away_still stage.Free a = cc
away_still (stage.Read readers) a = cc
away_still (stage.Written room) a = cc
away_still stage.Compacted a = (refl, refl)
away_still stage.Offloaded a = (refl, refl)
away_still stage.Compacting a = cc
away_still stage.Offloading a = cc
away_still (stage.Reloading m from_disk) a = cc

free_hand : (m : Option ℕ) (q : Option ℕ) → m ≡ None → q ≡ None → (is_some m || is_some q) ≡ false
free_hand m q e f = ap (λ z. is_some z || is_some q) e ∙ ap is_some f

pub own_task : (a b : Bool) (t : Option ℕ) (p : ℕ) → (a ≡ true → b ≡ true → t ≡ Some p) → (a && b && not (holds t p)) ≡ false
own_task false b t p h = refl
own_task true false t p h = refl
own_task true true t p h = ap (λ o. not (holds o p)) (h refl refl) ∙ ap not (number_itself p)

pub not_less : (m n : ℕ) → n ≤ m → nat_lt m n ≡ false
not_less m n h = grind (arith, nat_tests)

pub reload_refused : (s : Core) (w p : ℕ) (m : Mode) (x : Pool) (r : Refusal) → s.failure ≡ None → pool_at s.pools p ≡ Some x → is_away x.stage ≡ true
    → Allows s w p m → step_of s (event.ReloadBegin w p m) ≡ Err r → r ≡ DiskOut
reload_refused s w p m x r none at away allowed h =
    let g = hand_at s.hands w in let still = away_still x.stage away in
    let h' = sym (running s (event.ReloadBegin w p m) none) ∙ h in
    let here = rw at at h' in
    behind (is_some g.moved || is_some (Rows.pin_place m g)) (Rows.is_write m && s.in_wave && not (holds g.task p)) (is_moving x.stage) (is_expanded x.stage)
    (is_offloaded x.stage && is_some s.disk) (nat_lt (2 ^ 41) (room_of m))
    (record x { stage = stage.Reloading m (is_offloaded x.stage) })
    (λ y. record s { pools = in_place p y s.pools; hands = with_hand s w (take_pin m p g); disk = if is_offloaded x.stage then Some w else s.disk }) r
    (free_hand g.moved (Rows.pin_place m g) allowed.moved allowed.pin) (own_task (Rows.is_write m) s.in_wave g.task p allowed.task) still.0 still.1
    (not_less (2 ^ 41) (room_of m) allowed.room) here

filed_away : (st : Stage) → is_offloaded st ≡ true → is_filed st ≡ true
filed_away stage.Free e = cc
filed_away (stage.Read readers) e = cc
filed_away (stage.Written room) e = cc
filed_away stage.Compacted e = cc
filed_away stage.Offloaded e = refl
filed_away stage.Compacting e = cc
filed_away stage.Offloading e = cc
filed_away (stage.Reloading m from_disk) e = cc

module _ {T : Type 0} (spell : T → List ℕ) where
  pub lies_packed : (place : ℕ) (st : Stage) (v : Vec ℕ Global) (r : T) → is_away st ≡ true → LiesAs spell place st (lying.Packed v) r
      → (st ≡ stage.Compacted) × (v.items ≡ spell r)
  lies_packed place stage.Free v r a l = cc
  lies_packed place (stage.Read readers) v r a l = cc
  lies_packed place (stage.Written room) v r a l = cc
  lies_packed place stage.Compacted v r a l = (refl, l)
  lies_packed place stage.Offloaded v r a l = absurd l
  lies_packed place stage.Compacting v r a l = cc
  lies_packed place stage.Offloading v r a l = cc
  lies_packed place (stage.Reloading m from_disk) v r a l = cc

  pub lies_stored : (place : ℕ) (st : Stage) (f : Filed) (r : T) → is_away st ≡ true → LiesAs spell place st (lying.Stored f) r
      → (st ≡ stage.Offloaded) × (f ≡ record_of place (spell r))
  lies_stored place stage.Free f r a l = cc
  lies_stored place (stage.Read readers) f r a l = cc
  lies_stored place (stage.Written room) f r a l = cc
  lies_stored place stage.Compacted f r a l = absurd l
  lies_stored place stage.Offloaded f r a l = (refl, l)
  lies_stored place stage.Compacting f r a l = cc
  lies_stored place stage.Offloading f r a l = cc
  lies_stored place (stage.Reloading m from_disk) f r a l = cc

  -- it lies packed or stored
  pub lies_away : (place : ℕ) (st : Stage) (b : Lying T) (r : T) → is_away st ≡ true → LiesAs spell place st b r → ((v : Vec ℕ Global) → b ≡ lying.Packed v → ⊥)
      → ((f : Filed) → b ≡ lying.Stored f → ⊥) → ⊥
  lies_away place stage.Free b r a l m n = cc
  lies_away place (stage.Read readers) b r a l m n = cc
  lies_away place (stage.Written room) b r a l m n = cc
  lies_away place stage.Compacted (lying.Whole x) r a l m n = l
  lies_away place stage.Compacted (lying.Packed v) r a l m n = m v refl
  lies_away place stage.Compacted (lying.Stored f) r a l m n = l
  lies_away place stage.Compacted lying.Out r a l m n = l
  lies_away place stage.Offloaded (lying.Whole x) r a l m n = l
  lies_away place stage.Offloaded (lying.Packed v) r a l m n = l
  lies_away place stage.Offloaded (lying.Stored f) r a l m n = n f refl
  lies_away place stage.Offloaded lying.Out r a l m n = l
  lies_away place stage.Compacting b r a l m n = cc
  lies_away place stage.Offloading b r a l m n = cc
  lies_away place (stage.Reloading m' from_disk) b r a l m n = cc

module _ {T D : Type 0} (charge : T → ℕ) (spell : T → List ℕ) (bytes : D → Option (List ℕ)) (reach : D → ℕ) (honest : D → Bool) where
  -- What is known where the pool p was away and its body was taken out.
  pub record Taken (limit w p : ℕ) (m : Mode) (s new : Core) (x : Pool) (disk : Home D) (first : D) (was : Lying T) : Type 0 where
    pub value : T
    pub lies : LiesAs spell (p * limit) x.stage was value
    pub charge_is : x.e ≡ charge value
    pub length_is : x.c ≡ length (spell value)
    pub below : p < 131072
    pub filed : IsGood reach honest limit first → is_filed x.stage ≡ true → HasBytes (bytes (told disk)) (p * limit) (spell value)
    pub disk_is : new.disk ≡ (if is_offloaded x.stage then Some w else s.disk)
    pub home : x.stage ≡ stage.Offloaded → is_none s.disk ≡ true

module _ {T B D : Type 0} (charge : T → ℕ) (spell : T → List ℕ) (is_value : T → Type 0) (bytes : D → Option (List ℕ)) (reach : D → ℕ) (honest : D → Bool) where
  abbrev Whole : ℕ → Core → List (ℕ × Entry T B) → Home D → D → Counters → Type 0
  Whole = IsWhole charge spell is_value bytes reach honest

  pub taken : (limit w p : ℕ) (m : Mode) (s new : Core) (x : Pool) (rows rows' : List (ℕ × Entry T B)) (disk : Home D) (first : D) (before after : Counters)
      (was : Lying T) → Whole limit s rows disk first before → s.failure ≡ None → pool_at s.pools p ≡ Some x
      → Stepped s (event.ReloadBegin w p m) new before after → (put : Puts rows rows' p lying.Out was)
      → (t : Taken charge spell bytes reach honest limit w p m s new x disk first was) × (t.value ≡ put.entry.value.value)
  taken limit w p m s new x rows rows' disk first before after was wh none at t put =
      let d = reload_begin_did s new w p m wh.sound none t.step in
      let th = there charge spell is_value bytes reach honest limit s rows disk first before p x wh at in
      let same : th.entry ≡ put.entry = same_Some th.entry put.entry (sym th.at ∙ put.at) in
      let pool : d.pool ≡ x = same_Some d.pool x (sym d.at ∙ at) in (
        record {
          value = put.entry.value.value;
          lies = subst (λ z. LiesAs spell (p * limit) x.stage z put.entry.value.value) put.was_is
              (subst (λ z. LiesAs spell (p * limit) x.stage z.body z.value.value) same (th.standing.lies none));
          charge_is = th.standing.charge_is ∙ ap (λ z. charge z.value.value) same;
          length_is = th.standing.length_is ∙ ap (λ z. length (spell z.value.value)) same;
          below = th.standing.below;
          filed = λ g f. subst (λ z. HasBytes (bytes (told disk)) (p * limit) (spell z.value.value)) same (th.standing.filed none g f);
          disk_is = d.turned.disk_is ∙ ap (λ z. if is_offloaded z.stage then Some w else s.disk) pool;
          home = λ st. ap is_none (d.was.1 (ap (λ z. z.stage) pool ∙ st));
        },
        refl,
      )

  pub reload_whole : (limit w p : ℕ) (m : Mode) (s new : Core) (x : Pool) (rows rows' : List (ℕ × Entry T B)) (disk disk' : Home D) (first : D)
      (before after : Counters) (was : Lying T) → Whole limit s rows disk first before → s.failure ≡ None
      → pool_at s.pools p ≡ Some x → Stepped s (event.ReloadBegin w p m) new before after → Puts rows rows' p lying.Out was → told disk' ≡ told disk
      → is_home disk' ≡ is_none new.disk → Whole limit new rows' disk' first after
  reload_whole limit w p m s new x rows rows' disk disk' first before after was wh none at t put same home =
      let d = reload_begin_did s new w p m wh.sound none t.step in
      let z = d.pool in let y : Pool = record z { stage = stage.Reloading m (is_offloaded z.stage) } in
      whole_moved charge spell is_value bytes reach honest limit s new p z y put.entry lying.Out (if is_offloaded z.stage then Some w else s.disk)
      (event.ReloadBegin w p m) rows rows' disk disk' first before after wh (record {
        running = none;
        pool = d.at;
        entry = put.at;
        turned = d.turned;
        step = t;
        charge_same = refl;
        length_same = refl;
        differ = put.differ;
        found = put.found;
        lies = tt;
        filed = λ f. filed_away z.stage f;
        same = same;
        home = home ∙ ap is_none d.turned.disk_is;
      })

module _ {T B D : Type 0} (charge : T → ℕ) (spell : T → List ℕ) (bytes : D → Option (List ℕ)) (reach : D → ℕ) (honest : D → Bool) where
  pub answers_packed : (old v : Paged T B D) (w p : ℕ) (m : Mode) (b : Vec ℕ Global) (r : T) (new : Core) (after : Counters) (kept : List (ℕ × Kept T B))
      (d : D) (home : Bool) → v ≡ old → Stepped v.core (event.ReloadBegin w p m) new v.counters after → kept ≡ v.kept
      → d ≡ v.disk → home ≡ is_none new.disk → stage_at v p ≡ Some stage.Compacted → content_at v p ≡ Some r → b.items ≡ spell r
      → AnswersPin charge spell bytes reach honest old (record {
        core = new;
        kept = kept;
        disk = d;
        home = home;
        first = v.first;
        counters = after;
        trail =
            v.trail;
      }) w p m (answer.Reload (move.FromBytes p b))
  answers_packed old v w p m b r new after kept d home e t k same h lay at is = (
    steps_view old v (event.ReloadBegin w p m) new after kept d home e t k same h,
    (refl, ap (λ z. stage_at z p) (sym e) ∙ lay, (r, ap (λ z. content_at z p) (sym e) ∙ at, is)),
  )

  pub answers_stored : (old v : Paged T B D) (w p : ℕ) (m : Mode) (f : Filed) (number : ℕ) (lent : D) (r : T) (new : Core) (after : Counters)
      (kept : List (ℕ × Kept T B)) (d : D) (home : Bool) → v ≡ old → Stepped v.core (event.ReloadBegin w p m) new v.counters after
      → kept ≡ v.kept → d ≡ v.disk → home ≡ is_none new.disk → stage_at v p ≡ Some stage.Offloaded → content_at v p ≡ Some r
      → f ≡ record_of (p * v.core.limit) (spell r) → number ≡ charge r → lent ≡ v.disk → p * v.core.limit + length (spell r) ≤ 131072 * v.core.limit
      → (IsTrusted reach honest v → HasBytes (bytes lent) (p * v.core.limit) (spell r))
      → AnswersPin charge spell bytes reach honest old (record {
        core = new;
        kept = kept;
        disk = d;
        home = home;
        first = v.first;
        counters = after;
        trail =
            v.trail;
      }) w p m (answer.Reload (move.FromDisk p f number lent))
  answers_stored old v w p m f number lent r new after kept d home e t k same h lay at is n l within there = (
    steps_view old v (event.ReloadBegin w p m) new after kept d home e t k same h,
    (
      refl,
      ap (λ z. stage_at z p) (sym e) ∙ lay,
      (
        r,
        is ∙ ap (λ z. record_of (p * z.core.limit) (spell r)) e,
        record {
          content = ap (λ z. content_at z p) (sym e) ∙ at;
          charge_is = n;
          disk_is = l ∙ ap (λ z. z.disk) e;
          within = subst (λ z. p * z.core.limit + length (spell r) ≤ 131072 * z.core.limit) e within;
          there = subst (λ z. IsTrusted reach honest z → HasBytes (bytes lent) (p * z.core.limit) (spell r)) e there;
        },
      ),
    ),
  )
