-- A round that makes room.
use Rattle.std.proofs.Common.{◌≡◌, ◌≤◌, ◌<◌, ◌+◌, ◌*◌, ◌^◌, ℕ, Bool, true, false, List, length, Option, Some, None, Result, Ok, Vec, refl, sym, ap}
use Rattle.std.proofs.Common.{subst, arith, le_trans, ◌∙◌, ◌⊎◌, inl, inr}
use Rattle.std.proofs.Math.Nat.{le_refl}
use Rattle.std.specs.Prelude.{is_none, is_some, nat_eq, IsTrue}
use Rattle.std.specs.Map.{lookup}
use Rattle.std.specs.declared.alloc.Global.{Global}
use Rattle.std.specs.declared.sync.Arc.{Arc}
use Rattle.std.proofs.lemmas.Option.{same_Some}
use Rattle.outside.specs.Faults.{Rose}
use Rattle.outside.specs.Places.{Overwrites}
use Rattle.repository.specs.Filing.{IsCountedFault, record_of}
use Rattle.repository.specs.Record.{WritesRange}
use Rattle.repository.specs.declared.filing.Filed.{Filed}
use Rattle.repository.specs.declared.filing.RepoFault.{RepoFault}
use Rattle.repository.specs.declared.filing.RepoFault.TheVariants as fault
use Rattle.naim_core.specs.Charges.{under_sum}
use Rattle.naim_core.specs.Sound.{IsSound}
use Rattle.naim_core.specs.State.{Core, is_expanded, is_written}
use Rattle.naim_core.specs.declared.event.Event.{Event}
use Rattle.naim_core.specs.declared.event.Event.TheVariants as event
use Rattle.naim_core.specs.declared.event.Failure.TheVariants as failure
use Rattle.naim_core.specs.declared.pool.Pool.{Pool}
use Rattle.naim_core.specs.declared.pool.Stage.{Stage}
use Rattle.naim_core.specs.declared.pool.Stage.TheVariants as stage
use Rattle.naim_core.specs.declared.state.Hand.{Hand}
use Rattle.naim_core.proofs.Effects.{compact_begin_did, offload_begin_did}
use Rattle.naim_loader.specs.declared.forms.Evict.{Evict}
use Rattle.naim_loader.specs.declared.forms.Evict.TheVariants as evict
use Rattle.naim_loader.specs.declared.forms.Move.{Move}
use Rattle.naim_loader.specs.declared.forms.Move.TheVariants as move
use Rattle.naim_loader.specs.Contents.{StandsFor}
use Rattle.naim_loader.specs.Calls.{Fails, brought}
use Rattle.naim_loader.specs.Moves.{AnswersEvict, EndsOffload, Offloads}
use Rattle.naim_loader.specs.Paged.{Paged, content_at, IsGood, IsTrusted, Steps}
use Rattle.naim_loader.specs.Rows.{Kept}
use Rattle.naim_loader.proofs.Evictions.{victim_there}
use Rattle.one_owner.specs.Alone.{IsAlone, IsIdle, Works, idle}
use Rattle.one_owner.specs.Causes.{RoomCause}
use Rattle.one_owner.specs.Going.{Keeps, KeepsWritten, Stops}
use Rattle.one_owner.specs.Rounds.{Begins, IsCompacting, IsOffloading, Round, Turn, forms_left, rounds_left}
use Rattle.one_owner.proofs.Events.{Acts, alone_acts, compact_begins, compact_ends, offload_begins, offload_ends, pool_acts}
use Rattle.one_owner.proofs.Frames.{fails_stop, insertions_change, keeps_itself, keeps_on, keeps_step, stays_change, written_on, written_step}
use Rattle.one_owner.proofs.Hands.{hand_is, idle_is, no_victim}
use Rattle.one_owner.proofs.Pools.{pool_there}
use Rattle.one_owner.proofs.Refusals.{offload_home}

-- rounds after one pool has another stage
rounds_act : (s new : Core) (p : ℕ) (x y : Pool) (h : Hand → Hand) (d : Option ℕ) → Acts s new p x y h d
    → rounds_left new + forms_left x.stage ≡ rounds_left s + forms_left y.stage
rounds_act s new p x y h d a = a.swap.sums (λ z. forms_left z.stage)

-- a disk that is home by the core
pub home_is : (o : Option ℕ) → is_none o ≡ true → o ≡ None
home_is None e = refl
home_is (Some w) e = cc

-- an expanded victim is free
its_free : (st : Stage) → (st ≡ stage.Free) ⊎ (st ≡ stage.Compacted) → is_expanded st ≡ true → st ≡ stage.Free
its_free st (inl e) k = e
its_free st (inr e) k = (let q : false ≡ true = sym (ap is_expanded e) ∙ k in absurd cc)

-- a disk that failed
counted_rose : (f : RepoFault) (before now : ℕ) → IsCountedFault before now f → Rose before now
counted_rose fault.Failed before now c = c
counted_rose (fault.Damaged kept found) before now c = absurd c
counted_rose fault.Memory before now c = absurd c

module _ {T B D : Type 0} (faults : D → ℕ) where
  -- the end of a compaction
  pub compacted_turn : (old new : Paged T B D) (p : ℕ) (a : Arc T Global) → IsCompacting old p a → Steps old (event.CompactEnd 0 p) new → Turn faults old new
  compacted_turn old new p a b t =
      let m = b.moves in let x = m.moving.pool in
      let act = compact_ends old.core new.core p x m.sound m.running m.moving.at t.step in
      let y : Pool = record x { stage = stage.Compacted } in
      let r = rounds_act old.core new.core p x y (λ g. record g { moved = None }) old.core.disk act in
      let w : forms_left x.stage ≡ 1 = ap forms_left m.moving.stage in
      let v : forms_left y.stage ≡ 1 = refl in
      let left : rounds_left new.core ≡ rounds_left old.core = omega arith in
      record {
        works = record {
          alone = alone_acts old.core new.core p x y (λ g. record g { moved = None }) old.core.disk (record (idle old.core) { moved = Some p }) act m.alone;
          running = act.failure ∙ m.running;
          home = ap (λ z. z.home) t.same ∙ ap is_none (act.disk_is ∙ b.disk);
        };
        keeps = keeps_step faults old new (event.CompactEnd 0 p) p x y (λ g. record g { moved = None }) old.core.disk
            (record (idle old.core) { moved = Some p }) t act m.alone;
        written = written_step faults old new p x y (λ g. record g { moved = None }) old.core.disk act (ap is_written m.moving.stage);
        left = left;
      }

  -- the end of an offload
  pub offloaded_turn : (spell : T → List ℕ) (reach : D → ℕ) (honest : D → Bool) (old new : Paged T B D) (p place : ℕ) (b : List ℕ) (d d' : D)
      → IsOffloading spell reach honest old p place b d → faults d ≤ faults d' → Offloads old new 0 p d' → Turn faults old new
  offloaded_turn spell reach honest old new p place b d d' i later t =
      let m = i.moves in let x = m.moving.pool in
      let act = offload_ends old.core new.core p x m.sound m.running m.moving.at t.event.step in
      let y : Pool = record x { stage = stage.Offloaded } in
      let r = rounds_act old.core new.core p x y (λ g. record g { moved = None }) None act in
      let w : forms_left x.stage ≡ 0 = ap forms_left m.moving.stage in
      let v : forms_left y.stage ≡ 0 = refl in
      let left : rounds_left new.core ≡ rounds_left old.core = omega arith in
      let count : faults old.disk ≤ faults new.disk = subst (λ z. faults old.disk ≤ faults z) (sym t.disk_is)
      (subst (λ z. faults z ≤ faults d') i.disk_is later) in
      record {
        works = record {
          alone = alone_acts old.core new.core p x y (λ g. record g { moved = None }) None (record (idle old.core) { moved = Some p }) act m.alone;
          running = act.failure ∙ m.running;
          home = ap (λ z. z.home) t.event.same ∙ ap is_none act.disk_is;
        };
        keeps = record {
          stays = stays_change faults old new (event.OffloadEnd 0 p) p x y (λ g. record g { moved = None }) None (record (idle old.core) { moved = Some p })
              t.event act m.alone count;
          kept = λ q. ap (λ ks. kept_in ks q) t.kept_same;
          used = act.swap.count;
          insertions = insertions_change faults old new (event.OffloadEnd 0 p) t.event;
        };
        written = written_step faults old new p x y (λ g. record g { moved = None }) None act (ap is_written m.moving.stage);
        left = left;
      }
    where
      kept_in : List (ℕ × Kept T B) → ℕ → Option (Kept T B)
      kept_in ks q = lookup (nat_eq q) ks

  -- a move that has begun
  pub record Started (old mid : Paged T B D) : Type 0 where
    pub keeps : Keeps faults old mid
    pub written : KeepsWritten old mid
    pub idles : idle mid.core ≡ idle old.core
    pub fewer : rounds_left mid.core < rounds_left old.core

  started : (old mid : Paged T B D) (wanted p : ℕ) (e : Event) (x y : Pool) (d : Option ℕ) → IsIdle old → Steps old e mid
      → Acts old.core mid.core p x y (λ g. record g { moved = Some p }) d → is_written x.stage ≡ false → forms_left y.stage < forms_left x.stage
      → Started old mid
  started old mid wanted p e x y d i t act none less =
      let r = rounds_act old.core mid.core p x y (λ g. record g { moved = Some p }) d act in
      record {
        keeps = keeps_step faults old mid e p x y (λ g. record g { moved = Some p }) d (idle old.core) t act i.alone;
        written = written_step faults old mid p x y (λ g. record g { moved = Some p }) d act none;
        idles = idle_is mid.core (record (idle old.core) { moved = Some p })
            (alone_acts old.core mid.core p x y (λ g. record g { moved = Some p }) d (idle old.core) act i.alone);
        fewer = omega arith;
      }

  -- a round whose move has ended
  pub round_of : (old mid new : Paged T B D) (wanted : ℕ) (fits : Bool) → Started old mid → fits ≡ false → Turn faults mid new
      → Round faults old new wanted fits
  round_of old mid new wanted fits s none t = record {
    works = subst (Works new) s.idles t.works;
    keeps = keeps_on faults old mid new s.keeps t.keeps;
    written = written_on faults old mid new s.written t.written;
    room = λ e. (let k : true ≡ false = sym e ∙ none in absurd cc);
    fewer = λ e. (let l = t.left in let f = s.fewer in omega arith);
  }

  -- a round in which the bytes fit
  pub round_fits : (old new : Paged T B D) (wanted : ℕ) → IsIdle old → new ≡ old → under_sum old.core.pools + wanted ≤ old.core.limit
      → Round faults old new wanted true
  round_fits old new wanted i same fits = subst (λ z. Round faults old z wanted true) (sym same) (record {
    works = i;
    keeps = keeps_itself faults old;
    written = λ q x at w. at;
    room = λ e. fits;
    fewer = λ e. absurd cc;
  })

  -- a compaction for which memory is wanting
  pub compact_stops : (old new : Paged T B D) (p : ℕ) (a : Arc T Global) → IsCompacting old p a → Fails old 0 failure.Memory new
      → Stops faults (RoomCause (faults old.disk) (faults new.disk)) old new failure.Memory
  compact_stops old new p a b t = fails_stop faults (RoomCause (faults old.disk) (faults new.disk)) old new None failure.Memory b.moves.running b.home
      (le_refl _) tt t

  -- an offload for which the disk failed
  pub offload_stops : (spell : T → List ℕ) (reach : D → ℕ) (honest : D → Bool) (old new : Paged T B D) (p place : ℕ) (b : List ℕ) (d d' : D) (f : RepoFault)
      → IsOffloading spell reach honest old p place b d → faults d ≤ faults d' → IsCountedFault (faults d) (faults d') f
      → Fails (brought old (Some d')) 0 failure.Repository new → Stops faults (RoomCause (faults old.disk) (faults new.disk)) old new failure.Repository
  offload_stops spell reach honest old new p place b d d' f i later c t =
      let count : faults old.disk ≤ faults d' = subst (λ z. faults z ≤ faults d') i.disk_is later in
      let rose : Rose (faults old.disk) (faults new.disk) = subst (λ z. Rose (faults old.disk) (faults z)) (sym (ap (λ z. z.disk) t.same))
      (subst (λ z. Rose (faults z) (faults d')) i.disk_is (counted_rose f (faults d) (faults d') c)) in
      fails_stop faults (RoomCause (faults old.disk) (faults new.disk)) old new (Some d') failure.Repository i.moves.running refl count rose t

  -- the disk of an offload comes back
  pub comes_back : (spell : T → List ℕ) (reach : D → ℕ) (honest : D → Bool) (bytes : D → Option (List ℕ)) {X E : Type 0} (r : Result X E) (old : Paged T B D)
      (p place : ℕ) (b : List ℕ) (d d' : D) → IsOffloading spell reach honest old p place b d → reach d' ≡ reach d
      → (IsTrue (honest d) → place + length b ≤ reach d → WritesRange (bytes d) (bytes d') (honest d') place r b)
      → (old.home ≡ false) × (IsTrusted reach honest old → IsGood reach honest old.core.limit d')
  comes_back spell reach honest bytes r old p place b d d' i reaches places = (
    i.out,
    λ g.
        (let good = i.good g in
        ((places good.0 (le_trans i.within good.1)).honest, subst (λ n. 131072 * old.core.limit ≤ n) (sym reaches) good.1)),
  )

  -- what the end of an offload asks
  pub offload_filed : (spell : T → List ℕ) (reach : D → ℕ) (honest : D → Bool) (bytes : D → Option (List ℕ)) (v : Vec ℕ Global) (filed f : Filed)
      (old : Paged T B D) (p place : ℕ) (d d' : D) → IsOffloading spell reach honest old p place v.items d → filed ≡ record_of place v.items
      → (IsTrue (honest d) → place + length v.items ≤ reach d → WritesRange {T = Filed} {E = RepoFault} (bytes d) (bytes d') (honest d') place (Ok f) v.items)
      → EndsOffload spell bytes reach honest old 0 (move.Offloading p place v d') filed
  offload_filed spell reach honest bytes v filed f old p place d d' i is places = (
    i.moves.moving,
    i.place_is,
    is,
    i.content,
    λ g. (let good = i.good g in subst (λ z. Overwrites (bytes z) (bytes d') place (length v.items) v.items) i.disk_is
        (places good.0 (le_trans i.within good.1)).puts),
  )

  -- rounds one after another
  pub works_on : (start l new : Paged T B D) (wanted : ℕ) (fits : Bool) → Works l (idle start.core) → Round faults l new wanted fits
      → Works new (idle start.core)
  works_on start l new wanted fits w r = subst (Works new) (idle_is l.core (idle start.core) w.alone) r.works

  module _ (charge : T → ℕ) (spell : T → List ℕ) (is_value : T → Type 0) (bytes : D → Option (List ℕ)) (reach : D → ℕ) (honest : D → Bool) where
    -- an eviction's move, as it is handed out
    pub begun : (old mid : Paged T B D) (wanted : ℕ) (m : Move T D) → IsIdle old → StandsFor charge spell is_value bytes reach honest old → IsSound mid.core
        → AnswersEvict spell old mid 0 wanted (evict.Begun m) → Begins spell reach honest mid m × Started old mid
    begun old mid wanted (move.Compacting p a) i s sound b =
        let t = b.1.1 in
        let v = victim_there old.core.pools p s.sound.one_pool b.1.0 in let x = v.pool in let y : Pool = record x { stage = stage.Compacting } in
        let d = compact_begin_did old.core mid.core 0 p wanted s.sound i.running t.step in
        let free : x.stage ≡ stage.Free = its_free x.stage v.stage (ap (λ z. is_expanded z.stage) (same_Some x d.pool (sym v.at ∙ d.at)) ∙ d.was) in
        let act = compact_begins old.core mid.core p wanted x s.sound i.running v.at t.step in
        let alone = alone_acts old.core mid.core p x y (λ g. record g { moved = Some p }) old.core.disk (idle old.core) act i.alone in
        let st = started old mid wanted p (event.CompactBegin 0 p wanted) x y old.core.disk i t act (ap is_written free)
        (let k : forms_left x.stage ≡ 2 = ap forms_left free in let k' : forms_left y.stage ≡ 1 = refl in omega arith) in
        let home = home_is old.core.disk (sym (s.home i.running) ∙ i.home) in (
          record {
            moves = record {
              alone = subst (λ h. IsAlone mid.core (record h { moved = Some p })) (sym st.idles) alone;
              running = act.failure ∙ i.running;
              sound = sound;
              moving = record {
                pool = y;
                at = pool_acts old.core mid.core p x y (λ g. record g { moved = Some p }) old.core.disk act;
                stage = refl;
                hand = ap
                    (λ h. h.moved) (hand_is mid.core (record (idle old.core) { moved = Some p }) alone);
              };
            };
            home = ap (λ z. z.home) t.same ∙ ap is_none (act.disk_is ∙ home);
            disk = act.disk_is ∙ home;
            content = ap (λ z. content_at z p) t.same ∙ b.1.2;
          },
          st,
        )
    begun old mid wanted (move.Offloading p place v d) i s sound b =
        let t = b.1.1 in
        let did = offload_begin_did old.core mid.core 0 p wanted s.sound i.running t.step in let x = did.pool in let y : Pool = record x
        { stage = stage.Offloading } in
        let act = offload_begins old.core mid.core p wanted x s.sound i.running did.at t.step in
        let alone = alone_acts old.core mid.core p x y (λ g. record g { moved = Some p }) (Some 0) (idle old.core) act i.alone in
        let st = started old mid wanted p (event.OffloadBegin 0 p wanted) x y (Some 0) i t act (ap is_written did.was.0)
        (let k : forms_left x.stage ≡ 1 = ap forms_left did.was.0 in let k' : forms_left y.stage ≡ 0 = refl in omega arith) in
        let disk : mid.disk ≡ old.disk = ap (λ z. z.disk) t.same in
        let r = b.1.5 in
        let th = pool_there charge spell is_value bytes reach honest old p r.0 s r.1 in
        let short : length v.items ≤ old.core.limit = (let a = (s.sound.forms_fit p th.0 th.1).within in let l = th.2.length_is in let k = ap length r.2
        in omega arith) in (
          record {
            moves = record {
              alone = subst (λ h. IsAlone mid.core (record h { moved = Some p })) (sym st.idles) alone;
              running = act.failure ∙ i.running;
              sound = sound;
              moving = record {
                pool = y;
                at = pool_acts old.core mid.core p x y (λ g. record g { moved = Some p }) (Some 0) act;
                stage = refl;
                hand = ap
                    (λ h. h.moved) (hand_is mid.core (record (idle old.core) { moved = Some p }) alone);
              };
            };
            out = ap (λ z. z.home) t.same ∙ ap is_none act.disk_is;
            disk_is = b.1.3 ∙ sym disk;
            place_is = b.1.2 ∙ ap (λ n. p * n) (sym act.limit);
            within = subst (λ n. place + length v.items ≤ 131072 * n) (sym act.limit) b.1.4;
            small = subst (λ n. n ≤ 2 ^ 30) (sym act.limit) s.small;
            short = subst (λ n. length v.items ≤ n) (sym act.limit) short;
            content = (r.0, ap (λ z. content_at z p) t.same ∙ r.1, r.2);
            good = λ g. subst (IsGood reach honest mid.core.limit) (sym b.1.3)
                (subst (λ n. IsGood reach honest n old.disk) (sym act.limit) (s.good (trusted g t act.limit)));
          },
          st,
        )
      where
        trusted : IsTrusted reach honest mid → Steps old (event.OffloadBegin 0 p wanted) mid → mid.core.limit ≡ old.core.limit → IsTrusted reach honest old
        trusted g t l = subst (λ n. IsGood reach honest n old.first) l (subst (IsGood reach honest mid.core.limit) (ap (λ z. z.first) t.same) g)
    begun old mid wanted (move.FromBytes p v) i s sound b = absurd b.1
    begun old mid wanted (move.FromDisk p filed number d) i s sound b = absurd b.1

    -- where nobody holds anything, room can be made
    pub some_victim : (old new : Paged T B D) (wanted : ℕ) (a : Evict T D) → IsIdle old → StandsFor charge spell is_value bytes reach honest old
        → wanted ≤ old.core.limit → AnswersEvict spell old new 0 wanted a
        → (a ≡ evict.Fits → ⊥) → ((m : Move T D) → a ≡ evict.Begun m → ⊥) → ⊥
    some_victim old new wanted (evict.Begun m) i s w b n k = k m refl
    some_victim old new wanted evict.Fits i s w b n k = n refl
    some_victim old new wanted evict.NoVictim i s w b n k = let z = no_victim old.core (idle old.core) s.sound i.alone refl b.3 in let r = b.2
        in absurd (omega arith)
    some_victim old new wanted evict.DiskOut i s w b n k = offload_home old.core b.2.0 wanted i.running
        (home_is old.core.disk (sym (s.home i.running) ∙ i.home)) b.2.2
    some_victim old new wanted evict.Stopped i s w b n k = (let e : is_some old.core.failure ≡ false = ap is_some i.running in let q : true ≡ false = sym b.kept
        ∙ e in absurd cc)
