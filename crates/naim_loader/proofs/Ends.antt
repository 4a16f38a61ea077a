-- Moves end.
use Rattle.std.proofs.Common.{◌≡◌, ℕ, ◌+◌, ◌*◌, ◌≤◌, Bool, true, false, cond, nat_eq, List, [], ◌∷◌, length, Option, Some, None, Err, Vec, refl, sym}
use Rattle.std.proofs.Common.{ap, subst, arith, ◌∙◌, ◌⊎◌, inl, inr}
use Rattle.std.specs.Prelude.{is_none, is_some, not, unwrap_or, ◌&&◌, ◌||◌, if◌then◌else◌}
use Rattle.std.specs.declared.alloc.Global.{Global}
use Rattle.std.specs.declared.snapshot.Snapshot.{Snapshot}
use Rattle.std.specs.Map.{lookup}
use Rattle.std.proofs.lemmas.List.{ext_get_or}
use Rattle.std.proofs.lemmas.Option.{same_Some}
use Rattle.outside.specs.Places.{Overwrites, SamePlaces, byte_at}
use Rattle.repository.specs.Record.{HasBytes}
use Rattle.repository.specs.Filing.{record_of}
use Rattle.repository.specs.declared.filing.Filed.{Filed}
use Rattle.naim_core.specs.Rows
use Rattle.naim_core.specs.State.{Core, pool_at, hand_at, holds, has_record, is_compacting, is_offloading, is_reloading, moves_by_disk}
use Rattle.naim_core.specs.Steps.{permit, then_state, front, in_place, with_hand, step_of}
use Rattle.naim_core.specs.declared.event.Event.TheVariants as event
use Rattle.naim_core.specs.declared.event.Mode.{Mode}
use Rattle.naim_core.specs.declared.event.Mode.TheVariants as mode
use Rattle.naim_core.specs.declared.event.Refusal.{Refusal}
use Rattle.naim_core.specs.declared.event.Refusal.TheVariants.{NotHeld}
use Rattle.naim_core.specs.declared.pool.Pool.{Pool}
use Rattle.naim_core.specs.declared.pool.Stage.{Stage}
use Rattle.naim_core.specs.declared.pool.Stage.TheVariants as stage
use Rattle.naim_core.proofs.Effects.{running, compact_end_did, offload_end_did, reload_end_did}
use Rattle.list_laws.proofs.Entries.{apart_number, number_itself}
use Rattle.naim_loader.specs.declared.counters.Counters.{Counters}
use Rattle.naim_loader.specs.declared.home.Home.{Home}
use Rattle.naim_loader.specs.declared.table.Entry.{Entry}
use Rattle.naim_loader.specs.declared.table.Lying.{Lying}
use Rattle.naim_loader.specs.declared.table.Lying.TheVariants as lying
use Rattle.naim_loader.specs.Counting.{Stepped}
use Rattle.naim_loader.specs.Forms.{LiesAs, LiesWhole, is_filed}
use Rattle.naim_loader.specs.Home.{told, is_home}
use Rattle.std.specs.declared.sync.Arc.{Arc}
use Rattle.naim_loader.specs.declared.forms.Move.{Move}
use Rattle.naim_loader.specs.declared.forms.Move.TheVariants as move
use Rattle.naim_loader.specs.Calls.{ComesBack, disk_of}
use Rattle.naim_loader.specs.Moves.{Brings, EndsCompaction, EndsOffload, EndsReload, IsMoving, IsReloadingFor, LiesWith, is_reload, pid_of}
use Rattle.naim_loader.specs.Paged.{Paged, content_at, IsGood, IsTrusted}
use Rattle.naim_loader.specs.Rows.{Puts, Resets}
use Rattle.naim_loader.specs.Whole.{Standing, IsWhole}
use Rattle.naim_loader.proofs.Homes.{comes_good}
use Rattle.naim_loader.proofs.Wholes.{there, whole_moved, whole_turned}

-- the end of a move that the worker has isn't refused
held : (o : Option ℕ) (p : ℕ) (b : Bool) (x : Pool) (g : Pool → Core) (r : Refusal) → o ≡ Some p → b ≡ true
    → then_state (permit ((not (holds o p && b), NotHeld) ∷ []) x) g ≡ Err r → ⊥
held o p b x g r h e k =
    let f : not (holds o p && b) ≡ false = ap (λ z. not (holds z p && b)) h ∙ ap (λ z. not (z && b)) (number_itself p) ∙ ap not e in
    by (not (holds o p && b)) f k
  where
    by : (t : Bool) → t ≡ false → then_state (permit ((t, NotHeld) ∷ []) x) g ≡ Err r → ⊥
    by true f k = cc
    by false f k = cc

pub compact_end_taken : (s : Core) (w p : ℕ) (r : Refusal) → s.failure ≡ None → IsMoving s w p (λ st. st ≡ stage.Compacting)
    → step_of s (event.CompactEnd w p) ≡ Err r → ⊥
compact_end_taken s w p r none m h =
    let g = hand_at s.hands w in let x = m.pool in
    let h' = sym (running s (event.CompactEnd w p) none) ∙ h in
    let here = rw m.at at h' in
    held g.moved p (is_compacting x.stage) (record x { stage = stage.Compacted })
    (λ y. record s { pools = in_place p y s.pools; hands = with_hand s w (record g { moved = None }) }) r m.hand (ap is_compacting m.stage) here

pub offload_end_taken : (s : Core) (w p : ℕ) (r : Refusal) → s.failure ≡ None → IsMoving s w p (λ st. st ≡ stage.Offloading)
    → step_of s (event.OffloadEnd w p) ≡ Err r → ⊥
offload_end_taken s w p r none m h =
    let g = hand_at s.hands w in let x = m.pool in
    let h' = sym (running s (event.OffloadEnd w p) none) ∙ h in
    let here = rw m.at at h' in
    held g.moved p (is_offloading x.stage) (record x { stage = stage.Offloaded })
    (λ y. record s { pools = in_place p y s.pools; hands = with_hand s w (record g { moved = None }); disk = None }) r m.hand (ap is_offloading m.stage)
    here

pub reload_end_taken : (s : Core) (w p : ℕ) (m : Mode) (from_disk : Bool) (r : Refusal) → s.failure ≡ None
    → IsMoving s w p (λ st. st ≡ stage.Reloading m from_disk) → step_of s (event.ReloadEnd w p) ≡ Err r → ⊥
reload_end_taken s w p m from_disk r none t h =
    let g = hand_at s.hands w in let x = t.pool in
    let h' = sym (running s (event.ReloadEnd w p) none) ∙ h in
    let here = rw t.at at h' in
    held g.moved p (is_reloading x.stage) (record x { stage = Rows.reloaded x.stage })
    (λ y. record s { pools = front p y s.pools; hands = with_hand s w (record g { moved = None }); disk = if moves_by_disk x.stage then None else s.disk })
    r
    t.hand (ap is_reloading t.stage) here

not_filed : false ≡ true → ⊥
not_filed e = cc

pinned_unfiled : (m : Mode) → is_filed (Rows.pinned_for m) ≡ true → ⊥
pinned_unfiled mode.Read e = cc
pinned_unfiled (mode.Write room) e = cc

filed_recorded : (st : Stage) → is_filed st ≡ true → has_record st ≡ true
filed_recorded stage.Free e = cc
filed_recorded (stage.Read readers) e = cc
filed_recorded (stage.Written room) e = cc
filed_recorded stage.Compacted e = cc
filed_recorded stage.Offloaded e = refl
filed_recorded stage.Compacting e = cc
filed_recorded stage.Offloading e = cc
filed_recorded (stage.Reloading m from_disk) e = e

-- a record that lies apart from what was written keeps its bytes
kept_apart : (old new : Option (List ℕ)) (place other n : ℕ) (piece bytes : List ℕ) → Overwrites old new place n piece
    → (place + n ≤ other) ⊎ (other + length bytes ≤ place) → HasBytes old other bytes → HasBytes new other bytes
kept_apart old new place other n piece bytes w apart h = λ k below. elim apart [
  | inl after ↦ h k below ∙ sym (w.after (other + k) (omega arith))
  | inr before ↦ h k below ∙ sym (w.before (other + k) (omega arith))
]

by_limit : (limit other p q c d n m : ℕ) → other ≡ limit → c ≡ n → d ≡ m → (p * other + c ≤ q * other) ⊎ (q * other + d ≤ p * other)
    → (p * limit + n ≤ q * limit) ⊎ (q * limit + m ≤ p * limit)
by_limit limit other p q c d n m e f g h = subst (λ z. (p * limit + n ≤ q * limit) ⊎ (q * limit + z ≤ p * limit)) g
    (subst (λ z. (p * limit + z ≤ q * limit) ⊎ (q * limit + d ≤ p * limit)) f
    (subst (λ z. (p * z + c ≤ q * z) ⊎ (q * z + d ≤ p * z)) e h))

-- the places have one row of bytes alone
pub same_bytes : (told : Option (List ℕ)) (place : ℕ) (a b : List ℕ) → length a ≡ length b → HasBytes told place a → HasBytes told place b → a ≡ b
same_bytes told place a b l h k = ext_get_or 0 a b l (λ i below. h i below ∙ sym (k i (omega arith)))

pub same_places : (old new : Option (List ℕ)) (place : ℕ) (bytes : List ℕ) → SamePlaces old new → HasBytes old place bytes → HasBytes new place bytes
same_places old new place bytes same h = λ k below. h k below ∙ sym (same (place + k))

module _ {T B D : Type 0} (charge : T → ℕ) (spell : T → List ℕ) (is_value : T → Type 0) (bytes : D → Option (List ℕ)) (reach : D → ℕ) (honest : D → Bool) where
  abbrev Whole : ℕ → Core → List (ℕ × Entry T B) → Home D → D → Counters → Type 0
  Whole = IsWhole charge spell is_value bytes reach honest

  pub compact_end_whole : (limit w p : ℕ) (s new : Core) (v : Vec ℕ Global) (was : Lying T) (rows rows' : List (ℕ × Entry T B)) (disk : Home D) (first : D)
      (before after : Counters) → Whole limit s rows disk first before → s.failure ≡ None
      → Stepped s (event.CompactEnd w p) new before after → (put : Puts rows rows' p (lying.Packed v) was) → v.items ≡ spell put.entry.value.value
      → Whole limit new rows' disk first after
  compact_end_whole limit w p s new v was rows rows' disk first before after wh none t put spelled =
      let d = compact_end_did s new w p wh.sound none t.step in let x = d.pool in
      whole_moved charge spell is_value bytes reach honest limit s new p x (record x { stage = stage.Compacted }) put.entry (lying.Packed v) s.disk
      (event.CompactEnd w p) rows rows' disk disk first before after wh (record {
        running = none;
        pool = d.at;
        entry = put.at;
        turned = d.turned;
        step = t;
        charge_same = refl;
        length_same = refl;
        differ = put.differ;
        found = put.found;
        lies = spelled;
        filed = λ f. absurd (not_filed f);
        same = refl;
        home = wh.home none;
      })

  -- what is kept of the pool p, where it has the entry e
  pub its_standing : (limit : ℕ) (s : Core) (rows : List (ℕ × Entry T B)) (disk : Home D) (first : D) (counters : Counters) (p : ℕ) (x : Pool) (e : Entry T B)
      → Whole limit s rows disk first counters → pool_at s.pools p ≡ Some x → lookup (nat_eq p) rows ≡ Some e
      → Standing charge spell is_value limit (s.failure ≡ None) (IsGood reach honest limit first) (bytes (told disk)) p x e
  its_standing limit s rows disk first counters p x e w at is =
      let t = there charge spell is_value bytes reach honest limit s rows disk first counters p x w at in
      subst (Standing charge spell is_value limit (s.failure ≡ None) (IsGood reach honest limit first) (bytes (told disk)) p x)
      (same_Some t.entry e (sym t.at ∙ is)) t.standing

  pub reload_end_whole : (limit w p : ℕ) (s new : Core) (x : Pool) (m : Mode) (from_disk : Bool) (body : Lying T) (value : Snapshot T)
      (rows rows' : List (ℕ × Entry T B)) (disk disk' : Home D) (first : D) (before after : Counters) → Whole limit s rows disk first before → s.failure ≡ None
      → pool_at s.pools p ≡ Some x → x.stage ≡ stage.Reloading m from_disk → Stepped s (event.ReloadEnd w p) new before after
      → (put : Resets rows rows' p body value)
      → is_value value.value → charge value.value ≡ charge put.entry.value.value → length (spell value.value) ≡ length (spell put.entry.value.value)
      → LiesAs spell (p * limit) (Rows.pinned_for m) body value.value
      → is_home disk' ≡ (from_disk || is_home disk)
      → (IsGood reach honest limit first → IsGood reach honest limit (told disk') × SamePlaces (bytes (told disk)) (bytes (told disk')))
      → Whole limit new rows' disk' first after
  reload_end_whole limit w p s new x m from_disk body value rows rows' disk disk' first before after wh none at st t put is charged long lies home lent =
      let d = reload_end_did s new w p wh.sound none t.step in let z = d.pool in
      let same : z ≡ x = same_Some z x (sym d.at ∙ at) in
      let stands = its_standing limit s rows disk first before p z put.entry wh d.at put.at in
      let stage_is : z.stage ≡ stage.Reloading m from_disk = ap (λ y. y.stage) same ∙ st in
      whole_turned charge spell is_value bytes reach honest limit s new p (Some (record z { stage = Rows.reloaded z.stage }))
      (Some (record { body = body; value = value; brief = put.entry.brief })) (if moves_by_disk z.stage then None else s.disk) (event.ReloadEnd w p) rows
      rows' disk disk' first before after wh (record {
        running = none;
        turned = d.turned;
        step = t;
        differ = put.renews.differ;
        found = put.renews.found;
        here = record {
          below = stands.below;
          value = is;
          charge_is = stands.charge_is ∙ sym charged;
          length_is = stands.length_is ∙ sym long;
          lies = λ n. subst (λ y. LiesAs spell (p * limit) (Rows.reloaded y) body value.value) (sym stage_is) lies;
          filed = λ n g f. absurd (pinned_unfiled m (ap (λ y. is_filed (Rows.reloaded y)) (sym stage_is) ∙ f));
        };
        others = λ g q y r n a c f h. same_places (bytes (told disk)) (bytes (told disk')) (q * limit) r (lent g).1 h;
        home = home ∙ by from_disk ∙ ap (λ y. is_none (if moves_by_disk y then None else s.disk)) (sym stage_is);
        good = λ g. (lent g).0;
      })
    where
      by : (b : Bool) → (b || is_home disk) ≡ is_none (if b then None else s.disk)
      by true = refl
      by false = wh.home none

  pub offload_end_whole : (limit w p : ℕ) (s new : Core) (f : Filed) (was : Lying T) (rows rows' : List (ℕ × Entry T B)) (disk disk' : Home D) (first : D)
      (before after : Counters) → Whole limit s rows disk first before → s.failure ≡ None
      → Stepped s (event.OffloadEnd w p) new before after → (put : Puts rows rows' p (lying.Stored f) was)
      → f ≡ record_of (p * limit) (spell put.entry.value.value) → is_home disk' ≡ true
      → (IsGood reach honest limit first
      → IsGood reach honest limit (told disk') × Overwrites (bytes (told disk)) (bytes (told disk')) (p * limit) (length (spell put.entry.value.value))
      (spell put.entry.value.value)) → Whole limit new rows' disk' first after
  offload_end_whole limit w p s new f was rows rows' disk disk' first before after wh none t put filed home lent =
      let d = offload_end_did s new w p wh.sound none t.step in let x = d.pool in let y : Pool = record x { stage = stage.Offloaded } in
      let stands = its_standing limit s rows disk first before p x put.entry wh d.at put.at in
      whole_turned charge spell is_value bytes reach honest limit s new p (Some y) (Some (record put.entry { body = lying.Stored f })) None
      (event.OffloadEnd w p) rows rows' disk disk' first before after wh (record {
        running = none;
        turned = d.turned;
        step = t;
        differ = put.differ;
        found = put.found;
        here = record {
          below = stands.below;
          value = stands.value;
          charge_is = stands.charge_is;
          length_is = stands.length_is;
          lies = λ n. filed;
          filed = λ n g k. λ i below. sym ((lent g).1.inside i below);
        };
        others = λ g q z r n at c k h.
            (let pz : pool_at new.pools q ≡ Some z = d.turned.found q ∙ ap (λ b. cond b (Some y) (pool_at s.pools q)) n ∙ at in
            let py : pool_at new.pools p ≡ Some y = d.turned.found p ∙ ap (λ b. cond b (Some y) (pool_at s.pools p)) (number_itself p) in
            let parts = t.apart p q y z (apart_number p q n) py pz refl (filed_recorded z.stage k) in
            kept_apart (bytes (told disk)) (bytes (told disk')) (p * limit) (q * limit) (length (spell put.entry.value.value)) (spell put.entry.value.value) r
            (lent g).1 (by_limit limit new.limit p q x.c z.c _ _ (t.limit ∙ wh.limit_is) stands.length_is c parts) h);
        home = home;
        good = λ g. (lent g).0;
      })

  -- the same with what is asked of the call
  pub offload_end_at : (limit w p : ℕ) (s new : Core) (f : Filed) (was : Lying T) (d : D) (k : T) (rows rows' : List (ℕ × Entry T B)) (disk disk' : Home D)
      (first : D) (before after : Counters) → Whole limit s rows disk first before → s.failure ≡ None
      → Stepped s (event.OffloadEnd w p) new before after → (put : Puts rows rows' p (lying.Stored f) was) → k ≡ put.entry.value.value
      → f ≡ record_of (p * s.limit) (spell k) → told disk' ≡ d → is_home disk' ≡ true
      → (IsGood reach honest s.limit first → Overwrites (bytes (told disk)) (bytes d) (p * s.limit) (length (spell k)) (spell k))
      → (IsGood reach honest s.limit first → IsGood reach honest s.limit d) → Whole limit new rows' disk' first after
  offload_end_at limit w p s new f was d k rows rows' disk disk' first before after wh none t put same filed came home over good =
      let l = wh.limit_is in
      offload_end_whole limit w p s new f was rows rows' disk disk' first before after wh none t put
      (filed ∙ ap (λ n. record_of (p * n) (spell k)) l ∙ ap (λ v. record_of (p * limit) (spell v)) same) home
      (λ g.
      let trusted = subst (λ n. IsGood reach honest n first) (sym l) g in (
        subst (IsGood reach honest limit) (sym came) (subst (λ n. IsGood reach honest n d) l (good trusted)),
        subst (λ v. Overwrites (bytes (told disk)) (bytes (told disk')) (p * limit) (length (spell v)) (spell v)) same
            (subst (λ z. Overwrites (bytes (told disk)) (bytes z) (p * limit) (length (spell k)) (spell k)) (sym came)
            (subst (λ n. Overwrites (bytes (told disk)) (bytes d) (p * n) (length (spell k)) (spell k)) l (over trusted))),
      ))

module _ {T B D : Type 0} (spell : T → List ℕ) where
  pub no_compaction : (old : Paged T B D) (w : ℕ) (m : Move T D) (bytes : List ℕ) → EndsCompaction spell old w m bytes
      → ((p : ℕ) (a : Arc T Global) → m ≡ move.Compacting p a → ⊥) → ⊥
  no_compaction old w (move.Compacting p a) bytes h n = n p a refl
  no_compaction old w (move.Offloading p place b d) bytes h n = h
  no_compaction old w (move.FromBytes p b) bytes h n = h
  no_compaction old w (move.FromDisk p filed number d) bytes h n = h

module _ {T B D : Type 0} (spell : T → List ℕ) (bytes : D → Option (List ℕ)) (reach : D → ℕ) (honest : D → Bool) where
  pub no_offload : (old : Paged T B D) (w : ℕ) (m : Move T D) (f : Filed) → EndsOffload spell bytes reach honest old w m f
      → ((p place : ℕ) (b : Vec ℕ Global) (d : D) → m ≡ move.Offloading p place b d → ⊥) → ⊥
  no_offload old w (move.Compacting p a) f h n = h
  no_offload old w (move.Offloading p place b d) f h n = n p place b d refl
  no_offload old w (move.FromBytes p b) f h n = h
  no_offload old w (move.FromDisk p filed number d) f h n = h

  -- what is asked of the end of an offload, of the record at the pool's place
  pub record Filing (old : Paged T B D) (w p : ℕ) (d : D) (f : Filed) : Type 0 where
    pub moving : IsMoving old.core w p (λ st. st ≡ stage.Offloading)
    pub value : T
    pub content : content_at old p ≡ Some value
    pub filed : f ≡ record_of (p * old.core.limit) (spell value)
    pub over : IsTrusted reach honest old → Overwrites (bytes old.disk) (bytes d) (p * old.core.limit) (length (spell value)) (spell value)

  pub filing : (old : Paged T B D) (w p place : ℕ) (b : Vec ℕ Global) (d : D) (f : Filed)
      → EndsOffload spell bytes reach honest old w (move.Offloading p place b d) f → Filing old w p d f
  filing old w p place b d f h =
      let k = h.3 in record {
        moving = h.0;
        value = k.0;
        content = k.1;
        filed = h.2 ∙ ap (λ z. record_of z b.items) h.1 ∙ ap (record_of (p * old.core.limit)) k.2;
        over = λ g. subst (λ z. Overwrites (bytes old.disk) (bytes d) (p * old.core.limit) (length z) z) k.2
            (subst (λ z. Overwrites (bytes old.disk) (bytes d) z (length b.items) b.items) h.1 (h.4 g));
      }

-- what lies whole where a second share is there
lies_with : {T : Type 0} (spell : T → List ℕ) (a : Arc T Global) (b : Lying T) (r : T) → LiesWith (Some a) b r → LiesWhole spell b r
lies_with spell a (lying.Whole x) r h = h
lies_with spell a (lying.Packed v) r h = h
lies_with spell a (lying.Stored f) r h = h
lies_with spell a lying.Out r h = h

-- the mode of a reload, and how its body lies then
pub record Ends {T : Type 0} (spell : T → List ℕ) (s : Core) (w p place : ℕ) (from_disk : Bool) (b : Lying T) (r : T) : Type 0 where
  pub mode : Mode
  pub moving : IsMoving s w p (λ st. st ≡ stage.Reloading mode from_disk)
  pub lies : LiesAs spell place (Rows.pinned_for mode) b r

ends_for : {T : Type 0} (spell : T → List ℕ) (s : Core) (w p place : ℕ) (from_disk : Bool) (again : Option (Arc T Global)) (b : Lying T) (r : T)
    → IsMoving s w p (IsReloadingFor again from_disk) → LiesWith again b r → Ends spell s w p place from_disk b r
ends_for spell s w p place from_disk (Some a) b r t l = record {
  mode = mode.Read;
  moving = record { pool = t.pool; at = t.at; stage = t.stage; hand = t.hand };
  lies = lies_with spell a b r l;
}
ends_for spell s w p place from_disk None b r t l = record {
  mode = mode.Write t.stage.0;
  moving =
      record { pool = t.pool; at = t.at; stage = t.stage.1; hand = t.hand };
  lies = tt;
}

module _ {T B D : Type 0} (charge : T → ℕ) (spell : T → List ℕ) (bytes : D → Option (List ℕ)) (reach : D → ℕ) (honest : D → Bool) where
  pub reload_kind : (old : Paged T B D) (w : ℕ) (m : Move T D) (r : T) (again : Option (Arc T Global))
      → EndsReload charge spell bytes reach honest old w m r again → is_reload m ≡ true
  reload_kind old w (move.FromBytes p b) r again h = refl
  reload_kind old w (move.FromDisk p filed number d) r again h = refl
  reload_kind old w (move.Compacting p a) r again h = absurd h
  reload_kind old w (move.Offloading p place b d) r again h = absurd h

  pub reload_ends : (old : Paged T B D) (w place : ℕ) (m : Move T D) (b : Lying T) (r : T) (again : Option (Arc T Global))
      → EndsReload charge spell bytes reach honest old w m r again → LiesWith again b r → Ends spell old.core w (pid_of m) place (is_some (disk_of m)) b r
  reload_ends old w place (move.FromBytes p v) b r again h l = ends_for spell old.core w p place false again b r h.0 l
  reload_ends old w place (move.FromDisk p filed number d) b r again h l = ends_for spell old.core w p place true again b r h.0 l
  reload_ends old w place (move.Compacting p a) b r again h l = absurd h
  reload_ends old w place (move.Offloading p q v d) b r again h l = absurd h

  pub reload_was : (old : Paged T B D) (w : ℕ) (m : Move T D) (r : T) (again : Option (Arc T Global))
      → EndsReload charge spell bytes reach honest old w m r again
      → (k : T) × (content_at old (pid_of m) ≡ Some k) × Brings charge spell bytes reach honest old (pid_of m) (disk_of m) r k
  reload_was old w (move.FromBytes p b) r again h = (h.2.0, h.2.1, sym h.1 ∙ h.2.2)
  reload_was old w (move.FromDisk p filed number d) r again h = (h.3.0, h.3.1, (h.2 ∙ h.3.3, h.1 ∙ ap (λ z. z.len) h.3.2, h.4))
  reload_was old w (move.Compacting p a) r again h = absurd h
  reload_was old w (move.Offloading p q v d) r again h = absurd h

  -- the same of the parts that the call takes
  pub reload_asked : (old : Paged T B D) (w p : ℕ) (m : Move T D) (o : Option D) (b : Lying T) (v r : T) (again : Option (Arc T Global)) → p ≡ pid_of m
      → o ≡ disk_of m → v ≡ r → EndsReload charge spell bytes reach honest old w m r again → LiesWith again b r
      → (x : Mode) × IsMoving old.core w p (λ st. st ≡ stage.Reloading x (is_some o)) × LiesAs spell (p * old.core.limit) (Rows.pinned_for x) b v
  reload_asked old w p m o b v r again pe oe ve h l =
      let e = reload_ends old w (p * old.core.limit) m b r again h l in (
        e.mode,
        subst (λ z. IsMoving old.core w z (λ st. st ≡ stage.Reloading e.mode (is_some o))) (sym pe)
            (subst (λ z. IsMoving old.core w (pid_of m) (λ st. st ≡ stage.Reloading e.mode (is_some z))) (sym oe) e.moving),
        subst (λ z. LiesAs spell (p * old.core.limit) (Rows.pinned_for e.mode) b z) (sym ve) e.lies,
      )

  pub reload_had : (old : Paged T B D) (w p : ℕ) (m : Move T D) (o : Option D) (v r : T) (again : Option (Arc T Global)) → p ≡ pid_of m → o ≡ disk_of m → v ≡ r
      → EndsReload charge spell bytes reach honest old w m r again
      → (k : T) × (content_at old p ≡ Some k) × Brings charge spell bytes reach honest old p o v k
  reload_had old w p m o v r again pe oe ve h =
      let k = reload_was old w m r again h in (
        k.0,
        subst (λ z. content_at old z ≡ Some k.0) (sym pe) k.1,
        subst (λ z. Brings charge spell bytes reach honest old z o v k.0) (sym pe)
            (subst (λ z. Brings charge spell bytes reach honest old (pid_of m) z v k.0) (sym oe)
            (subst (λ z. Brings charge spell bytes reach honest old (pid_of m) (disk_of m) z k.0) (sym ve) k.2)),
      )

  -- the disk that is home after a reload is trusted as before, and tells what it told
  pub reload_lent : (old v : Paged T B D) (limit p : ℕ) (o : Option D) (d : D) (r k : T) → v ≡ old → v.core.limit ≡ limit → ComesBack reach honest old o
      → Brings charge spell bytes reach honest old p o r k → (IsGood reach honest limit v.first → IsGood reach honest limit v.disk)
      → d ≡ unwrap_or o v.disk → IsGood reach honest limit v.first → IsGood reach honest limit d × SamePlaces (bytes v.disk) (bytes d)
  reload_lent old v limit p None d r k e l c b w is g = (comes_good reach honest old v limit None d e l c w is g, λ place. ap (λ z. byte_at (bytes z) place) is)
  reload_lent old v limit p (Some x) d r k e l c b w is g =
      let trusted = subst (λ z. IsGood reach honest z.core.limit z.first) e (subst (λ n. IsGood reach honest n v.first) (sym l) g) in (
        comes_good reach honest old v limit (Some x) d e l c w is g,
        subst (λ z. SamePlaces (bytes z.disk) (bytes d)) (sym e)
            (subst (λ z. SamePlaces (bytes old.disk) (bytes z)) (sym is) (b.2 trusted).0),
      )

  -- the value that a reload brings has the old numbers
  pub reload_numbers : (is_value : T → Type 0) (old : Paged T B D) (p : ℕ) (o : Option D) (r k : T)
      → ((a b : T) → is_value a → is_value b → spell a ≡ spell b → a ≡ b) → is_value r → is_value k → Brings charge spell bytes reach honest old p o r k
      → (charge r ≡ charge k) × (length (spell r) ≡ length (spell k))
  reload_numbers is_value old p None r k law a b brings = (ap charge (law r k a b brings), ap length brings)
  reload_numbers is_value old p (Some d) r k law a b brings = (brings.0, brings.1)

  -- and is the old one, from memory or a trusted disk
  pub reload_same : (is_value : T → Type 0) (old : Paged T B D) (p : ℕ) (o : Option D) (r k : T)
      → ((a b : T) → is_value a → is_value b → spell a ≡ spell b → a ≡ b) → is_value r → is_value k
      → Brings charge spell bytes reach honest old p o r k
      → (is_some o ≡ true → IsTrusted reach honest old → HasBytes (bytes old.disk) (p * old.core.limit) (spell k))
      → (is_none o ≡ true) ⊎ IsTrusted reach honest old → r ≡ k
  reload_same is_value old p None r k law a b brings filed t = law r k a b brings
  reload_same is_value old p (Some d) r k law a b brings filed (inl t) = cc
  reload_same is_value old p (Some d) r k law a b brings filed (inr t) =
      law r k a b (same_bytes (bytes d) (p * old.core.limit) (spell r) (spell k) brings.1 (brings.2 t).1
      (same_places (bytes old.disk) (bytes d) (p * old.core.limit) (spell k) (brings.2 t).0 (filed refl t)))
