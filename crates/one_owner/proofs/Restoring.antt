-- A pool that is brought back for a pin.
use Rattle.std.proofs.Common.{◌≡◌, ◌≢◌, ◌≤◌, ◌<◌, ◌+◌, ◌*◌, ◌^◌, ◌⊎◌, inl, inr, ℕ, Bool, true, false, cond, nat_eq, List, length, Option, Some, None}
use Rattle.std.proofs.Common.{Result, Ok, Err, Vec, refl, sym, ap, subst, arith, le_trans, ◌∙◌}
use Rattle.std.proofs.Math.Nat.{le_refl}
use Rattle.std.specs.Prelude.{IfSome, IsTrue, is_none, is_some, option_map, unwrap_or, if◌then◌else◌}
use Rattle.std.specs.Arc.{arc_value}
use Rattle.std.specs.declared.alloc.Global.{Global}
use Rattle.std.specs.declared.sync.Arc.{Arc}
use Rattle.std.proofs.lemmas.Option.{same_Some}
use Rattle.outside.specs.Faults.{Rose}
use Rattle.outside.specs.Places.{SamePlaces}
use Rattle.sha2.specs.Sha256.{sha256}
use Rattle.repository.specs.Filing.{FetchFault, FetchesRecord, GivesFiled, record_of}
use Rattle.repository.specs.Record.{HasBytes}
use Rattle.repository.specs.declared.filing.Filed.{Filed}
use Rattle.repository.specs.declared.filing.RepoFault.{RepoFault}
use Rattle.repository.specs.declared.filing.RepoFault.TheVariants as fault
use Rattle.naim_core.specs.Rows
use Rattle.naim_core.specs.Sound.{IsSound}
use Rattle.naim_core.specs.State.{Core, empty_hand, is_offloaded, is_read, is_written, moves_by_disk, pool_at}
use Rattle.naim_core.specs.Steps.{take_pin}
use Rattle.naim_core.specs.declared.event.Event.{Event}
use Rattle.naim_core.specs.declared.event.Event.TheVariants as event
use Rattle.naim_core.specs.declared.event.Failure.{Failure}
use Rattle.naim_core.specs.declared.event.Failure.TheVariants as failure
use Rattle.naim_core.specs.declared.event.Mode.{Mode}
use Rattle.naim_core.specs.declared.event.Mode.TheVariants as mode
use Rattle.naim_core.specs.declared.pool.Pool.{Pool}
use Rattle.naim_core.specs.declared.pool.Stage.TheVariants as stage
use Rattle.list_laws.proofs.Entries.{number_itself}
use Rattle.naim_loader.specs.declared.forms.Move.{Move}
use Rattle.naim_loader.specs.declared.forms.Move.TheVariants as move
use Rattle.naim_loader.specs.declared.forms.Pin.{Pin}
use Rattle.naim_loader.specs.declared.forms.Pin.TheVariants as pin
use Rattle.naim_loader.specs.declared.forms.PinAnswer.{PinAnswer}
use Rattle.naim_loader.specs.declared.forms.PinAnswer.TheVariants as answer
use Rattle.naim_loader.specs.Calls.{AnswersPin, Fails, brought, disk_of, stage_at}
use Rattle.naim_loader.specs.Contents.{HasPin, StandsFor}
use Rattle.naim_loader.specs.Moves.{AnswersReload, EndsReload, IsMoving, IsPinWith, IsReloadingFor, Reloads, pid_of}
use Rattle.naim_loader.specs.Paged.{Paged, content_at, kept_at, IsGood, IsTrusted, Steps}
use Rattle.one_owner.specs.Alone.{IsAlone, IsResting, charge_at, pinned, reading, writing}
use Rattle.one_owner.specs.Causes.{IsUnreadable, TakeCause}
use Rattle.one_owner.specs.Going.{Keeps, Stops}
use Rattle.one_owner.specs.Reloading.{EndsBy, IsAgain, IsFetched, IsPinFor, IsReload, IsRestored, IsUnderway, IsUnpacked, Reloaded, again_for}
use Rattle.one_owner.specs.Reloading.{failure_of, pin_value}
use Rattle.one_owner.proofs.Events.{alone_acts, pool_acts, reload_begins, reload_ends}
use Rattle.one_owner.proofs.Frames.{fails_stop, insertions_change, keeps_step, stays_change, rose_since, stops_on}
use Rattle.one_owner.proofs.Hands.{hand_is}
use Rattle.one_owner.proofs.Pools.{content_same, pool_there}
use Rattle.one_owner.proofs.Rounds.{home_is}

-- bytes that spell one value alone, of another charge
pub other_charge : {T : Type 0} (charge : T → ℕ) (spell : T → List ℕ) (is_value : T → Type 0)
    → ((x y : T) → is_value x → is_value y → spell x ≡ spell y → x ≡ y) → (body : T) (b : List ℕ) (number : ℕ) → is_value body → spell body ≡ b
    → charge body ≢ number
    → (v : T) → is_value v → spell v ≡ b → charge v ≢ number
other_charge charge spell is_value apart body b number is e ne v iv ev c = ne (ap charge (apart body v is iv (e ∙ sym ev)) ∙ c)

-- the hand once its reload has begun moves that pool
moves_taken : (kind : Mode) (p : ℕ) → (take_pin kind p empty_hand).moved ≡ Some p
moves_taken mode.Read p = refl
moves_taken (mode.Write room) p = refl

-- a worker that has a pin of that mode
has_pin : {T B D : Type 0} (l : Paged T B D) (kind : Mode) (p : ℕ) (x : Pin T) (y : Pool) → IsPinFor kind p x → IsAlone l.core (pinned kind p)
    → pool_at l.core.pools p ≡ Some y → y.stage ≡ Rows.pinned_for kind → content_at l p ≡ Some (pin_value x) → HasPin l 0 x
has_pin l mode.Read p (pin.Read x) y pid alone at st content = record {
  hand = ap (λ h. h.read) (hand_is l.core (reading p) alone) ∙ ap (λ q. Some q) (sym pid);
  pool = (y, ap (pool_at l.core.pools) pid ∙ at, ap is_read st);
  content = ap (content_at l) pid ∙ content;
}
has_pin l mode.Read p (pin.Write x) y pid alone at st content = absurd pid
has_pin l (mode.Write room) p (pin.Read x) y pid alone at st content = absurd pid
has_pin l (mode.Write room) p (pin.Write x) y pid alone at st content = record {
  hand = ap (λ h. h.written) (hand_is l.core (writing p) alone) ∙ ap (λ q. Some q) (sym pid);
  pool = (y, ap (pool_at l.core.pools) pid ∙ at, ap is_written st);
  content = ap (content_at l) pid ∙ content;
}

-- the stage of a pool that is reloaded, by the share that is handed in
moving_for : (kind : Mode) {T : Type 0} (a : Arc T Global) (s : Core) (p : ℕ) (from_disk : Bool) → IsMoving s 0 p (λ st. st ≡ stage.Reloading kind from_disk)
    → IsMoving s 0 p (IsReloadingFor (again_for kind a) from_disk)
moving_for mode.Read a s p from_disk m = record { pool = m.pool; at = m.at; stage = m.stage; hand = m.hand }
moving_for (mode.Write room) a s p from_disk m = record { pool = m.pool; at = m.at; stage = (room, m.stage); hand = m.hand }

-- the pin that a reload gives is of its mode
pin_for : (kind : Mode) {T : Type 0} (p : ℕ) (r : T) (again : Option (Arc T Global)) (x : Pin T) → IsAgain kind r again → IsPinWith again p r x
    → IsPinFor kind p x × (pin_value x ≡ r)
pin_for mode.Read p r (Some a) (pin.Read x) g h = h
pin_for mode.Read p r (Some a) (pin.Write x) g h = absurd h
pin_for mode.Read p r None x g h = absurd g
pin_for (mode.Write room) p r (Some a) x g h = absurd g
pin_for (mode.Write room) p r None (pin.Read x) g h = absurd h
pin_for (mode.Write room) p r None (pin.Write x) g h = h

-- a second share is of the body
pub again_same : (kind : Mode) {T : Type 0} (r r' : T) (again : Option (Arc T Global)) → IsAgain kind r again → r ≡ r' → IfSome again (λ a. arc_value a ≡ r')
again_same mode.Read r r' (Some a) g e = g ∙ e
again_same mode.Read r r' None g e = absurd g
again_same (mode.Write room) r r' (Some a) g e = absurd g
again_same (mode.Write room) r r' None g e = tt

module _ {T B D : Type 0} (charge : T → ℕ) (spell : T → List ℕ) (is_value : T → Type 0) (bytes : D → Option (List ℕ)) (reach : D → ℕ) (honest : D → Bool)
    (faults : D → ℕ) (kind : Mode) where
  trusted_after : (old mid : Paged T B D) (e : Event) → Steps old e mid → mid.core.limit ≡ old.core.limit → IsTrusted reach honest old
      → IsTrusted reach honest mid
  trusted_after old mid e t l g = subst (λ n. IsGood reach honest n mid.first) (sym l)
      (subst (IsGood reach honest old.core.limit) (sym (ap (λ z. z.first) t.same)) g)

  trusted_before : (old mid : Paged T B D) (e : Event) → Steps old e mid → mid.core.limit ≡ old.core.limit → IsTrusted reach honest mid
      → IsTrusted reach honest old
  trusted_before old mid e t l g = subst (λ n. IsGood reach honest n old.first) l (subst (IsGood reach honest mid.core.limit) (ap (λ z. z.first) t.same) g)

  -- the state once a reload has begun
  pub record Began (old mid : Paged T B D) (p : ℕ) (m : Move T D) : Type 0 where
    pub pid : pid_of m ≡ p
    pub charge_same : charge_at mid p ≡ charge_at old p
    pub keeps : Keeps faults old mid
    pub underway : IsUnderway reach honest faults mid kind m
    pub reload : IsReload charge spell is_value bytes reach honest faults mid m
    pub trusts : IsTrusted reach honest old → IsTrusted reach honest mid
    pub trusted : (stage_at old p ≡ Some stage.Offloaded → IsTrusted reach honest old) → (is_some (disk_of m) ≡ false) ⊎ IsTrusted reach honest mid
    pub limit : mid.core.limit ≡ old.core.limit
    pub disk : mid.disk ≡ old.disk

  pub began : (old mid : Paged T B D) (p : ℕ) (m : Move T D) → IsResting old → StandsFor charge spell is_value bytes reach honest old
      → AnswersPin charge spell bytes reach honest old mid 0 p kind (answer.Reload m) → Began old mid p m
  began old mid p (move.FromBytes q v) w s a =
      let t = a.0 in let r = a.1.2.0 in let content = a.1.2.1 in
      let th = pool_there charge spell is_value bytes reach honest old p r s content in let x = th.0 in
      let lies : x.stage ≡ stage.Compacted = same_Some x.stage stage.Compacted (sym (ap (option_map (λ z. z.stage)) th.1) ∙ a.1.1) in
      let y : Pool = record x { stage = stage.Reloading kind (is_offloaded x.stage) } in
      let d : Option ℕ = if is_offloaded x.stage then Some 0 else old.core.disk in
      let act = reload_begins old.core mid.core p kind x s.sound w.running th.1 t.step in
      let alone = alone_acts old.core mid.core p x y (λ g. take_pin kind p g) d empty_hand act w.alone in
      let k = keeps_step faults old mid (event.ReloadBegin 0 p kind) p x y (λ g. take_pin kind p g) d empty_hand t act w.alone in
      let home = home_is old.core.disk (sym (s.home w.running) ∙ w.home) in
      let out : mid.core.disk ≡ None = act.disk_is ∙ ap (λ z. if is_offloaded z then Some 0 else old.core.disk) lies ∙ home in
      let there = content_same old mid p r k.kept content in
      record {
        pid = a.1.0;
        charge_same = ap (option_map (λ v. v.e)) (pool_acts old.core mid.core p x y (λ g. take_pin kind p g) d act) ∙ sym (ap (option_map (λ v. v.e)) th.1);
        keeps = k;
        underway = subst (λ z. IsUnderway reach honest faults mid kind (move.FromBytes z v)) (sym a.1.0) (record {
          alone = alone;
          moving = record {
            pool = y;
            at = pool_acts old.core mid.core p x y (λ g. take_pin kind p g) d act;
            stage = ap (λ z. stage.Reloading kind (is_offloaded z)) lies;
            hand = ap (λ h. h.moved) (hand_is mid.core (take_pin kind p empty_hand) alone) ∙ moves_taken kind p;
          };
          running = act.failure ∙ w.running;
          home = ap (λ z. z.home) t.same ∙ ap is_none out;
          later = (le_refl _);
          back = tt;
        });
        reload = subst (λ z. IsUnpacked charge spell is_value bytes reach honest faults mid z v.items) (sym a.1.0) (record {
          content = r;
          there = there;
          value = th.2.value;
          spelled = a.1.2.2;
        });
        trusts = trusted_after old mid (event.ReloadBegin 0 p kind) t act.limit;
        trusted = λ u. inl refl;
        limit = act.limit;
        disk = ap (λ z. z.disk) t.same;
      }
  began old mid p (move.FromDisk q filed number e) w s a =
      let t = a.0 in let r = a.1.2.0 in let is = a.1.2.1 in let rec = a.1.2.2 in
      let th = pool_there charge spell is_value bytes reach honest old p r s rec.content in let x = th.0 in
      let lies : x.stage ≡ stage.Offloaded = same_Some x.stage stage.Offloaded (sym (ap (option_map (λ z. z.stage)) th.1) ∙ a.1.1) in
      let y : Pool = record x { stage = stage.Reloading kind (is_offloaded x.stage) } in
      let d : Option ℕ = if is_offloaded x.stage then Some 0 else old.core.disk in
      let act = reload_begins old.core mid.core p kind x s.sound w.running th.1 t.step in
      let alone = alone_acts old.core mid.core p x y (λ g. take_pin kind p g) d empty_hand act w.alone in
      let k = keeps_step faults old mid (event.ReloadBegin 0 p kind) p x y (λ g. take_pin kind p g) d empty_hand t act w.alone in
      let out : mid.core.disk ≡ Some 0 = act.disk_is ∙ ap (λ z. if is_offloaded z then Some 0 else old.core.disk) lies in
      let disk : mid.disk ≡ old.disk = ap (λ z. z.disk) t.same in
      let there = content_same old mid p r k.kept rec.content in
      let trusts = trusted_before old mid (event.ReloadBegin 0 p kind) t act.limit in
      let same : e ≡ mid.disk = rec.disk_is ∙ sym disk in
      record {
        pid = a.1.0;
        charge_same = ap (option_map (λ v. v.e)) (pool_acts old.core mid.core p x y (λ g. take_pin kind p g) d act) ∙ sym (ap (option_map (λ v. v.e)) th.1);
        keeps = k;
        underway = subst (λ z. IsUnderway reach honest faults mid kind (move.FromDisk z filed number e)) (sym a.1.0) (record {
          alone = alone;
          moving = record {
            pool = y;
            at = pool_acts old.core mid.core p x y (λ g. take_pin kind p g) d act;
            stage = ap (λ z. stage.Reloading kind (is_offloaded z)) lies;
            hand = ap (λ h. h.moved) (hand_is mid.core (take_pin kind p empty_hand) alone) ∙ moves_taken kind p;
          };
          running = act.failure ∙ w.running;
          home = refl;
          later = subst (λ z. faults mid.disk ≤ faults z) (sym same) (le_refl _);
          back = (
            ap (λ z. z.home) t.same ∙ ap is_none out,
            λ g. subst (IsGood reach honest mid.core.limit) (sym rec.disk_is)
                (subst (λ n. IsGood reach honest n old.disk) (sym act.limit) (s.good (trusts g))),
          );
        });
        reload = subst (λ z. IsRestored charge spell is_value bytes reach honest faults mid z filed number e) (sym a.1.0) (record {
          content = r;
          there = there;
          value = th.2.value;
          filed_is = is ∙ ap (λ n. record_of (p * n) (spell r)) (sym act.limit);
          charge_is = rec.charge_is;
          within = subst (λ n. p * n + length (spell r) ≤ 131072 * n) (sym act.limit) rec.within;
          small = subst (λ n. n ≤ 2 ^ 30) (sym act.limit) s.small;
          has = λ g. (
            subst (λ z. SamePlaces (bytes mid.disk) (bytes z)) (sym same) (λ place. refl),
            subst (λ n. HasBytes (bytes e) (p * n) (spell r))
                (sym act.limit) (rec.there (trusts g)),
          );
        });
        trusts = trusted_after old mid (event.ReloadBegin 0 p kind) t act.limit;
        trusted = λ u. inr (trusted_after old mid (event.ReloadBegin 0 p kind) t act.limit (u a.1.1));
        limit = act.limit;
        disk = disk;
      }
  began old mid p (move.Compacting q v) w s a = absurd a.1
  began old mid p (move.Offloading q place v e) w s a = absurd a.1

  abbrev Cause : Paged T B D → ℕ → ℕ → ℕ → Failure → Type 0
  Cause = TakeCause charge spell is_value reach honest

  -- its failure, seen from before it began
  pub cause_before : (old mid : Paged T B D) (p : ℕ) (m : Move T D) (now : ℕ) (f : Failure) → Began old mid p m
      → Cause mid (pid_of m) (faults mid.disk) now f → Cause old p (faults old.disk) now f
  cause_before old mid p m now failure.Repository b c = subst (λ z. Rose (faults z) now) b.disk c
  cause_before old mid p m now (failure.Damaged place kept found) b c = record {
    content = c.content;
    there = ap (option_map (λ k. k.value)) (sym (b.keeps.kept p)) ∙ ap (content_at mid) (sym b.pid) ∙ c.there;
    place_is = c.place_is ∙ (λ i. b.pid i * b.limit i);
    kept_is = c.kept_is;
    read = c.read;
    long = c.long;
    found_is = c.found_is;
    differ = c.differ;
    distrusted = λ g. c.distrusted (b.trusts g);
  }
  cause_before old mid p m now (failure.Unreadable place) b c = record {
    content = c.content;
    there = ap (option_map (λ k. k.value)) (sym (b.keeps.kept p)) ∙ ap (content_at mid) (sym b.pid) ∙ c.there;
    place_is = c.place_is ∙ (λ i. b.pid i * b.limit i);
    read = c.read;
    long = c.long;
    same = c.same;
    spells_none = c.spells_none;
    distrusted = λ g. c.distrusted (b.trusts g);
  }
  cause_before old mid p m now (failure.Unfit q) b c = c
  cause_before old mid p m now (failure.TooSmall q need limit) b c = c
  cause_before old mid p m now failure.Memory b c = c

  pub stops_before : (old mid new : Paged T B D) (p : ℕ) (m : Move T D) (f : Failure) → Began old mid p m
      → Stops faults (Cause mid (pid_of m) (faults mid.disk) (faults new.disk)) mid new f
      → Stops faults (Cause old p (faults old.disk) (faults new.disk)) old new f
  stops_before old mid new p m f b s =
      stops_on faults (Cause mid (pid_of m) (faults mid.disk) (faults new.disk)) (Cause old p (faults old.disk) (faults new.disk)) old mid new f b.keeps
      (cause_before old mid p m (faults new.disk) f b) s

  -- a reload that has ended
  record Arrives (old : Paged T B D) (p : ℕ) (d : Option D) (from_disk : Bool) : Type 0 where
    alone : IsAlone old.core (take_pin kind p empty_hand)
    running : old.core.failure ≡ None
    sound : IsSound old.core
    pool : Pool
    at : pool_at old.core.pools p ≡ Some pool
    stage_is : pool.stage ≡ stage.Reloading kind from_disk
    home : from_disk ≡ false → old.core.disk ≡ None
    later : faults old.disk ≤ faults (unwrap_or d old.disk)
    same : from_disk ≡ is_some d

  arrived : (old new : Paged T B D) (p : ℕ) (d : Option D) (from_disk : Bool) (r : T) (x : Pin T) → Arrives old p d from_disk
      → Reloads charge spell reach honest old new 0 p d r → IsPinFor kind p x → pin_value x ≡ r → Reloaded reach honest faults old new kind p from_disk x
  arrived old new p d from_disk r x a t is body =
      let z = a.pool in let y : Pool = record z { stage = Rows.reloaded z.stage } in let k : Option ℕ = if moves_by_disk z.stage then None else old.core.disk in
      let act = reload_ends old.core new.core p z a.sound a.running a.at t.event.step in
      let alone = alone_acts old.core new.core p z y (λ g. record g { moved = None }) k (take_pin kind p empty_hand) act a.alone in
      let at = pool_acts old.core new.core p z y (λ g. record g { moved = None }) k act in
      let st : y.stage ≡ Rows.pinned_for kind = ap Rows.reloaded a.stage_is in
      let out : new.core.disk ≡ None = act.disk_is ∙ ap (λ st. if moves_by_disk st then None else old.core.disk) a.stage_is ∙ home from_disk a.home in
      let content : content_at new p ≡ Some r = ap (option_map (λ v. v.value))
      (t.kept p ∙ ap (λ b. cond b (Some (record t.was { value = r })) (kept_at old p)) (number_itself p)) in
      record {
        is = is;
        works = record { alone = alone; running = act.failure ∙ a.running; home = ap (λ v. v.home) t.event.same ∙ ap is_none out };
        stage_is = ap (option_map (λ v. v.stage)) at ∙ ap (λ v. Some v) st;
        charge_same = ap (option_map (λ v. v.e)) at ∙ sym (ap (option_map (λ v. v.e)) a.at);
        pin = has_pin new kind p x y is alone at st (content ∙ ap (λ v. Some v) (sym body));
        stays = stays_change faults old new (event.ReloadEnd 0 p) p z y (λ g. record g { moved = None }) k (take_pin kind p empty_hand) t.event act a.alone
            (subst (λ v. faults old.disk ≤ faults v) (sym t.disk_is) a.later);
        was = t.was;
        there = t.there;
        kept = λ q. t.kept q ∙ ap (λ v. cond (nat_eq p q) (Some (record t.was { value = v })) (kept_at old q)) (sym body);
        same = λ g. body ∙ t.same (known d from_disk a.same g);
        used = act.swap.count;
        insertions = insertions_change faults old new (event.ReloadEnd 0 p) t.event;
      }
    where
      home : (b : Bool) → (b ≡ false → old.core.disk ≡ None) → (if b then None else old.core.disk) ≡ None
      home true f = refl
      home false f = f refl

      known : (d : Option D) (b : Bool) → b ≡ is_some d → (b ≡ false) ⊎ IsTrusted reach honest old → (is_none d ≡ true) ⊎ IsTrusted reach honest old
      known None b e g = inl refl
      known (Some v) b e (inl f) = (let q : false ≡ true = sym f ∙ e in absurd cc)
      known (Some v) b e (inr g) = inr g

  arrives : (old : Paged T B D) (m : Move T D) → IsUnderway reach honest faults old kind m → StandsFor charge spell is_value bytes reach honest old
      → Arrives old (pid_of m) (disk_of m) (is_some (disk_of m))
  arrives old m u s = by (disk_of m) refl u.home u.later
    where
      at_home : (d : Option D) → (brought old d).home ≡ true → is_some d ≡ false → old.core.disk ≡ None
      at_home None h k = home_is old.core.disk (sym (s.home u.running) ∙ h)
      at_home (Some v) h k = absurd cc

      as_brought : (d : Option D) → faults old.disk ≤ faults (brought old d).disk → faults old.disk ≤ faults (unwrap_or d old.disk)
      as_brought None h = h
      as_brought (Some v) h = h

      by : (d : Option D) → d ≡ disk_of m → (brought old d).home ≡ true → faults old.disk ≤ faults (brought old d).disk
          → Arrives old (pid_of m) (disk_of m) (is_some (disk_of m))
      by d e home later = record {
        alone = u.alone;
        running = u.running;
        sound = s.sound;
        pool = u.moving.pool;
        at = u.moving.at;
        stage_is = u.moving.stage;
        home = λ k. at_home d home (ap is_some e ∙ k);
        later = subst (λ o. faults old.disk ≤ faults (unwrap_or o old.disk)) e (as_brought d later);
        same = refl;
      }

  -- what the end of a reload asks of the body and its second share
  pub ends_with : (old : Paged T B D) (m : Move T D) (r r' : T) (a : Arc T Global) (again : Option (Arc T Global))
      → EndsBy charge spell is_value bytes reach honest faults old kind m r → IsAgain kind r again → r ≡ r'
      → EndsReload charge spell bytes reach honest old 0 m r' again
  ends_with old m r r' a again e g same = subst (λ z. EndsReload charge spell bytes reach honest old 0 m z again) same (by kind again e.1 g)
    where
      by : (k : Mode) (o : Option (Arc T Global)) → ((b : Arc T Global) → EndsReload charge spell bytes reach honest old 0 m r (again_for k b)) → IsAgain k r o
          → EndsReload charge spell bytes reach honest old 0 m r o
      by mode.Read (Some b) f h = f b
      by mode.Read None f h = absurd h
      by (mode.Write room) (Some b) f h = absurd h
      by (mode.Write room) None f h = f a

  pub reloaded : (old new : Paged T B D) (m : Move T D) (r r' : T) (again : Option (Arc T Global)) (x : Pin T) → IsUnderway reach honest faults old kind m
      → StandsFor charge spell is_value bytes reach honest old → IsAgain kind r again → r ≡ r'
      → AnswersReload charge spell reach honest old new 0 m r' again (answer.Ready x)
      → Reloaded reach honest faults old new kind (pid_of m) (is_some (disk_of m)) x
  reloaded old new m r r' again x u s g same a =
      let p = pin_for kind (pid_of m) r' again x (again_as kind again g) a.1 in
      arrived old new (pid_of m) (disk_of m) (is_some (disk_of m)) r' x (arrives old m u s) a.0 p.0 p.1
    where
      again_as : (k : Mode) (o : Option (Arc T Global)) → IsAgain k r o → IsAgain k r' o
      again_as mode.Read (Some b) h = h ∙ same
      again_as mode.Read None h = h
      again_as (mode.Write room) (Some b) h = h
      again_as (mode.Write room) None h = h

  pub reload_answered : (old new : Paged T B D) (m : Move T D) (r : T) (again : Option (Arc T Global)) (a : PinAnswer T D) → old.core.failure ≡ None
      → AnswersReload charge spell reach honest old new 0 m r again a → ((x : Pin T) → a ≡ answer.Ready x → ⊥) → ⊥
  reload_answered old new m r again (answer.Ready x) none b n = n x refl
  reload_answered old new m r again (answer.Reload k) none b n = b
  reload_answered old new m r again answer.Moving none b n = b
  reload_answered old new m r again answer.InUse none b n = b
  reload_answered old new m r again answer.DiskOut none b n = b
  reload_answered old new m r again answer.Stopped none b n =
      (let e : is_some old.core.failure ≡ false = ap is_some none in let q : true ≡ false = sym b.kept ∙ e in absurd cc)
  reload_answered old new m r again answer.Memory none b n = b

  -- a body that the spelling in memory gave
  pub unpacked_ends : (old : Paged T B D) (p : ℕ) (v : Vec ℕ Global) (body : T) → IsUnderway reach honest faults old kind (move.FromBytes p v)
      → IsUnpacked charge spell is_value bytes reach honest faults old p v.items → is_value body → spell body ≡ v.items
      → EndsBy charge spell is_value bytes reach honest faults old kind (move.FromBytes p v) body
  unpacked_ends old p v body w u is e = (is, λ a. (moving_for kind a old.core p false w.moving, sym e, (u.content, u.there, u.spelled)))

  -- a body that the record gave
  pub restored_ends : (old : Paged T B D) (p : ℕ) (filed : Filed) (number : ℕ) (d : D) (b : List ℕ) (body : T)
      → IsUnderway reach honest faults old kind (move.FromDisk p filed number d)
      → IsRestored charge spell is_value bytes reach honest faults old p filed number d
      → IsFetched charge spell is_value bytes reach honest faults old p filed b → is_value body → spell body ≡ b → charge body ≡ number
      → EndsBy charge spell is_value bytes reach honest faults old kind (move.FromDisk p filed number d) body
  restored_ends old p filed number d b body w u f is e same = (
    is,
    λ a. (
      moving_for kind a old.core p true w.moving,
      ap length e ∙ f.long,
      same,
      (u.content, u.there, u.filed_is, u.charge_is),
      λ g. (let h = u.has g in let t : spell u.content ≡ spell body = sym (e ∙ f.told g u.content u.there) in
          (h.0, subst (HasBytes (bytes d) (p * old.core.limit)) t h.1)),
    ),
  )

  -- a record that spells no body of the kept charge
  pub unreadable : (old : Paged T B D) (p : ℕ) (filed : Filed) (number : ℕ) (d : D) (b : List ℕ)
      → IsRestored charge spell is_value bytes reach honest faults old p filed number d
      → IsFetched charge spell is_value bytes reach honest faults old p filed b
      → ((v : T) → is_value v → spell v ≡ b → charge v ≢ number) → IsUnreadable charge spell is_value reach honest old p filed.place
  unreadable old p filed number d b u f none = record {
    content = u.content;
    there = u.there;
    place_is = ap (λ z. z.place) u.filed_is;
    read = b;
    long = f.long ∙ ap (λ z. z.len) u.filed_is;
    same = f.digest ∙ ap (λ z. z.digest) u.filed_is;
    spells_none = λ v is e c. none v is e (c ∙ sym u.charge_is);
    distrusted = λ g. none u.content u.value (sym (f.told g u.content u.there)) (sym u.charge_is);
  }

  within_reach : (old : Paged T B D) (p : ℕ) (filed : Filed) (number : ℕ) (d : D)
      → IsRestored charge spell is_value bytes reach honest faults old p filed number d → IsGood reach honest old.core.limit d
      → filed.place + filed.len ≤ reach d
  within_reach old p filed number d u g =
      let a = ap (λ z. z.place) u.filed_is in let b = ap (λ z. z.len) u.filed_is in let c = u.within in let e = g.1 in
      subst (λ z. z + filed.len ≤ reach d) (sym a) (subst (λ z. p * old.core.limit + z ≤ reach d) (sym b) (le_trans c e))

  pub fetch_places : (old : Paged T B D) (p : ℕ) (filed : Filed) (number : ℕ) (d : D)
      → IsRestored charge spell is_value bytes reach honest faults old p filed number d → filed.place + filed.len < 2 ^ 64
  fetch_places old p filed number d u =
      let a = ap (λ z. z.place) u.filed_is in let b = ap (λ z. z.len) u.filed_is in let c = u.within in let e = u.small in
      subst (λ z. z + filed.len < 2 ^ 64) (sym a) (subst (λ z. p * old.core.limit + z < 2 ^ 64) (sym b) (omega arith))

  -- what a fetch leaves of a reload from the disk
  pub record Fetching (old : Paged T B D) (p : ℕ) (filed : Filed) (number : ℕ) (d d' : D) : Type 0 where
    pub underway : IsUnderway reach honest faults old kind (move.FromDisk p filed number d')
    pub reload : IsRestored charge spell is_value bytes reach honest faults old p filed number d'

  pub fetching : (old : Paged T B D) (p : ℕ) (filed : Filed) (number : ℕ) (d d' : D) (r : Result (Vec ℕ Global) RepoFault)
      → IsUnderway reach honest faults old kind (move.FromDisk p filed number d)
      → IsRestored charge spell is_value bytes reach honest faults old p filed number d → faults d ≤ faults d' → reach d' ≡ reach d
      → (IsTrue (honest d) → filed.place + filed.len ≤ reach d → FetchesRecord (bytes d) (bytes d') (honest d') filed r) → Fetching old p filed number d d'
  fetching old p filed number d d' r u i later reaches places =
      let good : IsTrusted reach honest old → IsGood reach honest old.core.limit d = u.back.1 in
      let did : IsTrusted reach honest old → FetchesRecord (bytes d) (bytes d') (honest d') filed r = λ g. places (good g).0
      (within_reach old p filed number d i (good g)) in
      record {
        underway = record {
          alone = u.alone;
          moving = record { pool = u.moving.pool; at = u.moving.at; stage = u.moving.stage; hand = u.moving.hand };
          running = u.running;
          home = refl;
          later = le_trans u.later later;
          back = (u.back.0, λ g. ((did g).honest, subst (λ n. 131072 * old.core.limit ≤ n) (sym reaches) (good g).1));
        };
        reload = record {
          content = i.content;
          there = i.there;
          value = i.value;
          filed_is = i.filed_is;
          charge_is = i.charge_is;
          within = i.within;
          small = i.small;
          has = λ g. (λ place. (did g).same place ∙ (i.has g).0 place, λ k lt. (i.has g).1 k lt ∙ sym ((did g).same (p * old.core.limit + k)));
        };
      }

  -- the bytes that a fetch gave
  pub fetched : (old : Paged T B D) (p : ℕ) (filed : Filed) (number : ℕ) (d : D) (v : Vec ℕ Global)
      → IsUnderway reach honest faults old kind (move.FromDisk p filed number d)
      → IsRestored charge spell is_value bytes reach honest faults old p filed number d
      → length v.items ≡ filed.len → sha256 v.items ≡ filed.digest
      → ((b : List ℕ) → IsTrue (honest d) → filed.place + filed.len ≤ reach d → filed ≡ record_of filed.place b → HasBytes (bytes d) filed.place b
      → GivesFiled (Ok v) b) → IsFetched charge spell is_value bytes reach honest faults old p filed v.items
  fetched old p filed number d v u i long digest gives = record {
    long = long;
    digest = digest;
    told = λ g r at.
        (let good = u.back.1 g in let place = ap (λ z. z.place) i.filed_is in
        let same : i.content ≡ r = same_Some i.content r (sym i.there ∙ at) in
        gives (spell i.content) good.0 (within_reach old p filed number d i good) (i.filed_is ∙ ap (λ z. record_of z (spell i.content)) (sym place))
        (subst (λ z. HasBytes (bytes d) z (spell i.content)) (sym place) (i.has g).1) ∙ ap spell same);
  }

  -- why a fetch gave none
  pub fetch_cause : (old : Paged T B D) (p : ℕ) (filed : Filed) (number : ℕ) (d : D) (now : ℕ) (f : RepoFault)
      → IsUnderway reach honest faults old kind (move.FromDisk p filed number d)
      → IsRestored charge spell is_value bytes reach honest faults old p filed number d
      → FetchFault filed (faults d) now f
      → ((b : List ℕ) → IsTrue (honest d) → filed.place + filed.len ≤ reach d → filed ≡ record_of filed.place b → HasBytes (bytes d) filed.place b
      → GivesFiled (Err f) b) → Cause old p (faults old.disk) now (failure_of filed.place f)
  fetch_cause old p filed number d now fault.Failed u i c gives = rose_since (faults old.disk) (faults d) now u.later c
  fetch_cause old p filed number d now (fault.Damaged kept found) u i c gives = record {
    content = i.content;
    there = i.there;
    place_is = ap (λ z. z.place) i.filed_is;
    kept_is = c.0 ∙ ap (λ z. z.digest) i.filed_is;
    read = c.2.0;
    long = c.2.1 ∙ ap (λ z. z.len) i.filed_is;
    found_is = sym c.2.2;
    differ = c.1;
    distrusted = λ g. (let good = u.back.1 g in let place = ap (λ z. z.place) i.filed_is in
        gives (spell i.content) good.0 (within_reach old p filed number d i good) (i.filed_is ∙ ap (λ z. record_of z (spell i.content)) (sym place))
        (subst (λ z. HasBytes (bytes d) z (spell i.content)) (sym place) (i.has g).1));
  }
  fetch_cause old p filed number d now fault.Memory u i c gives = tt

  pub fetch_stops : (old new : Paged T B D) (p : ℕ) (filed : Filed) (number : ℕ) (d d' : D) (f : RepoFault) (e : Failure)
      → IsUnderway reach honest faults old kind (move.FromDisk p filed number d)
      → IsRestored charge spell is_value bytes reach honest faults old p filed number d
      → faults d ≤ faults d' → FetchFault filed (faults d) (faults d') f
      → ((b : List ℕ) → IsTrue (honest d) → filed.place + filed.len ≤ reach d → filed ≡ record_of filed.place b → HasBytes (bytes d) filed.place b
      → GivesFiled (Err f) b) → e ≡ failure_of filed.place f → Fails (brought old (Some d')) 0 e new
      → Stops faults (Cause old p (faults old.disk) (faults new.disk)) old new e
  fetch_stops old new p filed number d d' f e u i later c gives is t =
      let cause = subst (Cause old p (faults old.disk) (faults d')) (sym is) (fetch_cause old p filed number d (faults d') f u i c gives) in
      fails_stop faults (Cause old p (faults old.disk) (faults new.disk)) old new (Some d') e u.running refl (le_trans u.later later)
      (subst (λ z. Cause old p (faults old.disk) (faults z) e) (sym (ap (λ z. z.disk) t.same)) cause) t

  -- a reload from the disk that ends in a failure of that cause
  pub restore_stops : (old new : Paged T B D) (p : ℕ) (filed : Filed) (number : ℕ) (d : D) (e : Failure)
      → IsUnderway reach honest faults old kind (move.FromDisk p filed number d) → Cause old p (faults old.disk) (faults new.disk) e
      → Fails (brought old (Some d)) 0 e new
      → Stops faults (Cause old p (faults old.disk) (faults new.disk)) old new e
  restore_stops old new p filed number d e u c t = fails_stop faults (Cause old p (faults old.disk) (faults new.disk)) old new
      (Some d) e u.running refl u.later c t
