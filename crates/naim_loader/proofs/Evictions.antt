-- The victim begins to move.
use denote.Enum.Bare.{sameb}
use Rattle.std.proofs.Common.{◌≡◌, ℕ, suc, ◌+◌, ◌*◌, ◌<◌, ◌≤◌, ◌^◌, Bool, true, false, cond, nat_eq, List, [], ◌∷◌, length, Option, Some, None, Err}
use Rattle.std.proofs.Common.{Vec, Contains, refl, sym, ap, subst, arith, ◌∙◌, ◌⊎◌, inl, inr}
use Rattle.std.specs.Prelude.{find, is_some, nat_le, not, option_map, reverse, ◌||◌}
use Rattle.std.specs.declared.alloc.Global.{Global}
use Rattle.std.specs.Cmp.{nat_eq_equiv}
use Rattle.std.specs.List.{IsDistinct}
use Rattle.std.specs.Map.{keys_of, lookup}
use Rattle.std.specs.Option.{option_map_or}
use Rattle.std.proofs.lemmas.Bool.Decides.{nat_tests}
use Rattle.std.proofs.Math.Nat.{mul-le-mul_right}
use Rattle.std.proofs.lemmas.List.Sorted.{Contains-permutation, IsPermutation-reverse, IsPermutation-sym}
use Rattle.std.proofs.lemmas.Map.Views.{lookup-from_Contains}
use Rattle.std.proofs.lemmas.Option.{same_Some}
use Rattle.naim_core.specs.Charges.{under_sum}
use Rattle.naim_core.specs.Rows
use Rattle.naim_core.specs.State.{Core, pool_at, hand_at, holds, victim, form_at, is_away, is_compacted, is_expanded, is_free, is_moving, is_offloaded, view_of}
use Rattle.naim_core.specs.Steps.{permit, then_state, in_place, with_hand, step_of}
use Rattle.naim_core.specs.declared.event.Event.TheVariants as event
use Rattle.naim_core.specs.declared.event.Refusal.{Refusal}
use Rattle.naim_core.specs.declared.event.Refusal.TheVariants.{HandFull, Moving, WrongForm, DiskOut, Fits, NotVictim}
use Rattle.naim_core.specs.declared.pool.Pool.{Pool}
use Rattle.naim_core.specs.contracts.pool.PoolForm.{the_type}
use Rattle.naim_core.specs.declared.pool.PoolForm.TheVariants as pool_form
use Rattle.naim_core.specs.declared.pool.PoolView.{PoolView}
use Rattle.naim_core.specs.declared.pool.Stage.{Stage}
use Rattle.naim_core.specs.declared.pool.Stage.TheVariants as stage
use Rattle.naim_core.proofs.Effects.{running, compact_begin_did, offload_begin_did}
use Rattle.list_laws.proofs.Entries.{number_itself}
use Rattle.naim_loader.specs.declared.counters.Counters.{Counters}
use Rattle.naim_loader.specs.declared.home.Home.{Home}
use Rattle.naim_loader.specs.declared.table.Entry.{Entry}
use Rattle.naim_loader.specs.declared.table.Lying.{Lying}
use Rattle.naim_loader.specs.declared.table.Lying.TheVariants as lying
use Rattle.naim_loader.specs.Counting.{Stepped}
use Rattle.naim_loader.specs.Forms.{LiesPacked, is_filed}
use Rattle.naim_loader.specs.Home.{told, is_home}
use Rattle.naim_loader.specs.Rows.{Puts}
use Rattle.naim_loader.specs.Whole.{IsWhole}
use Rattle.naim_loader.proofs.Wholes.{whole_moved}

found_in : {X : Type 0} (test : X → Bool) (xs : List X) (e : X) → find test xs ≡ Some e → Contains xs e × (test e ≡ true)
found_in test [] e h = cc
found_in test (x ∷ xs) e h = by (found_in test xs e) (test x) refl h
  where
    by : (find test xs ≡ Some e → Contains xs e × (test e ≡ true)) → (b : Bool) → test x ≡ b → cond b (Some x) (find test xs) ≡ Some e
        → Contains (x ∷ xs) e × (test e ≡ true)
    by more true t k = (let s : x ≡ e = same_Some x e k in ((0, omega arith, s), ap test (sym s) ∙ t))
    by more false t k = (let r = more k in ((suc r.0.0, (let b = r.0.1 in omega arith), r.0.2), r.1))

-- the last entry that passes stands at its PID
found_back : (test : ℕ × Pool → Bool) (es : List (ℕ × Pool)) (e : ℕ × Pool) → IsDistinct nat_eq (keys_of es) → find test (reverse es) ≡ Some e
    → (lookup (nat_eq e.0) es ≡ Some e.1) × (test e ≡ true)
found_back test es e d h =
    let r = found_in test (reverse es) e h in (
      lookup-from_Contains nat_eq_equiv e.0 e.1 es d (Contains-permutation (reverse es) es e (IsPermutation-sym es (reverse es) (IsPermutation-reverse es))
          r.0),
      r.1,
    )

is_free_stage : (st : Stage) → is_free st ≡ true → st ≡ stage.Free
is_free_stage stage.Free h = refl
is_free_stage (stage.Read readers) h = cc
is_free_stage (stage.Written room) h = cc
is_free_stage stage.Compacted h = cc
is_free_stage stage.Offloaded h = cc
is_free_stage stage.Compacting h = cc
is_free_stage stage.Offloading h = cc
is_free_stage (stage.Reloading m from_disk) h = cc

is_compacted_stage : (st : Stage) → is_compacted st ≡ true → st ≡ stage.Compacted
is_compacted_stage stage.Free h = cc
is_compacted_stage (stage.Read readers) h = cc
is_compacted_stage (stage.Written room) h = cc
is_compacted_stage stage.Compacted h = refl
is_compacted_stage stage.Offloaded h = cc
is_compacted_stage stage.Compacting h = cc
is_compacted_stage stage.Offloading h = cc
is_compacted_stage (stage.Reloading m from_disk) h = cc

-- the victim is there, free or compacted
pub record Victim (pools : List (ℕ × Pool)) (p : ℕ) : Type 0 where
  pub pool : Pool
  pub at : pool_at pools p ≡ Some pool
  pub stage : (pool.stage ≡ stage.Free) ⊎ (pool.stage ≡ stage.Compacted)

pub victim_there : (pools : List (ℕ × Pool)) (p : ℕ) → IsDistinct nat_eq (keys_of pools) → victim pools ≡ Some p → Victim pools p
victim_there pools p d h = first (find (λ e. is_free e.1.stage) (reverse pools)) refl h
  where
    second : (o : Option (ℕ × Pool)) → find (λ e. is_compacted e.1.stage) (reverse pools) ≡ o → option_map (λ e. e.0) o ≡ Some p → Victim pools p
    second None is k = cc
    second (Some e) is k = (let f = found_back (λ e. is_compacted e.1.stage) pools e d is in let same : e.0 ≡ p = same_Some e.0 p k in
        record { pool = e.1; at = ap (λ i. lookup (nat_eq i) pools) (sym same) ∙ f.0; stage = inr (is_compacted_stage e.1.stage f.1) })

    first : (o : Option (ℕ × Pool)) → find (λ e. is_free e.1.stage) (reverse pools) ≡ o
        → option_map_or (λ e. Some e.0) o (option_map (λ e. e.0) (find (λ e. is_compacted e.1.stage) (reverse pools))) ≡ Some p → Victim pools p
    first None is k = second (find (λ e. is_compacted e.1.stage) (reverse pools)) refl k
    first (Some e) is k = (let f = found_back (λ e. is_free e.1.stage) pools e d is in let same : e.0 ≡ p = same_Some e.0 p k in
        record { pool = e.1; at = ap (λ i. lookup (nat_eq i) pools) (sym same) ∙ f.0; stage = inl (is_free_stage e.1.stage f.1) })

-- which of the two it is, by what is told of it
pub free_victim : (pools : List (ℕ × Pool)) (p : ℕ) (v : PoolView) → (t : Victim pools p) → option_map view_of (pool_at pools p) ≡ Some v
    → sameb the_type v.form pool_form.Expanded ≡ true → t.pool.stage ≡ stage.Free
free_victim pools p v t told form = by t.pool.stage t.stage (ap (λ z. sameb the_type z.form pool_form.Expanded)
    (same_Some (view_of t.pool) v (sym (ap (option_map view_of) t.at) ∙ told)) ∙ form)
  where
    by : (st : Stage) → (st ≡ stage.Free) ⊎ (st ≡ stage.Compacted) → sameb the_type (form_at st) pool_form.Expanded ≡ true → st ≡ stage.Free
    by st (inl e) k = e
    by st (inr e) k = (let q : false ≡ true = sym (ap (λ z. sameb the_type (form_at z) pool_form.Expanded) e) ∙ k in cc)

pub packed_victim : (pools : List (ℕ × Pool)) (p : ℕ) (v : PoolView) → (t : Victim pools p) → option_map view_of (pool_at pools p) ≡ Some v
    → sameb the_type v.form pool_form.Expanded ≡ false → t.pool.stage ≡ stage.Compacted
packed_victim pools p v t told form = by t.pool.stage t.stage
    (ap (λ z. sameb the_type z.form pool_form.Expanded) (same_Some (view_of t.pool) v (sym (ap (option_map view_of) t.at) ∙ told)) ∙ form)
  where
    by : (st : Stage) → (st ≡ stage.Free) ⊎ (st ≡ stage.Compacted) → sameb the_type (form_at st) pool_form.Expanded ≡ false → st ≡ stage.Compacted
    by st (inl e) k = (let q : true ≡ false = sym (ap (λ z. sameb the_type (form_at z) pool_form.Expanded) e) ∙ k in cc)
    by st (inr e) k = e

-- a victim that is wanted moves: it is refused for the disk alone
compact_taken : (a f n : Bool) (x : Pool) (h : Pool → Core) (r : Refusal) → a ≡ false → f ≡ false → n ≡ false
    → then_state (permit ((a, HandFull) ∷ (false, Moving) ∷ (false, WrongForm) ∷ (f, Fits) ∷ (n, NotVictim) ∷ []) x) h ≡ Err r → ⊥
compact_taken true f n x h r p q t k = cc
compact_taken false true n x h r p q t k = cc
compact_taken false false true x h r p q t k = cc
compact_taken false false false x h r p q t k = cc

offload_taken : (a d f n : Bool) (x : Pool) (h : Pool → Core) (r : Refusal) → a ≡ false → f ≡ false → n ≡ false
    → then_state (permit ((a, HandFull) ∷ (false, Moving) ∷ (false, WrongForm) ∷ (d, DiskOut) ∷ (f, Fits) ∷ (n, NotVictim) ∷ []) x) h ≡ Err r → r ≡ DiskOut
offload_taken true d f n x h r p q t k = cc
offload_taken false true f n x h r p q t k = cc
offload_taken false false true n x h r p q t k = cc
offload_taken false false false true x h r p q t k = cc
offload_taken false false false false x h r p q t k = cc

not_within : (m n : ℕ) → n < m → nat_le m n ≡ false
not_within m n h = grind (arith, nat_tests)

its_victim : (o : Option ℕ) (p : ℕ) → o ≡ Some p → not (holds o p) ≡ false
its_victim o p h = ap (λ z. not (holds z p)) h ∙ ap not (number_itself p)

pub compact_begin_taken : (s : Core) (w p wanted : ℕ) (x : Pool) (r : Refusal) → s.failure ≡ None → pool_at s.pools p ≡ Some x → x.stage ≡ stage.Free
    → (hand_at s.hands w).moved ≡ None → victim s.pools ≡ Some p → s.limit < under_sum s.pools + wanted
    → step_of s (event.CompactBegin w p wanted) ≡ Err r → ⊥
compact_begin_taken s w p wanted x r none at st free v room h =
    let g = hand_at s.hands w in
    let h' = sym (running s (event.CompactBegin w p wanted) none) ∙ h in
    let here = rw at at h' in
    let row : Stage → Rows.Row = λ st. (is_some g.moved, HandFull) ∷ (is_moving st, Moving) ∷ (is_away st, WrongForm) ∷
    (nat_le (under_sum s.pools + wanted) s.limit, Fits) ∷ (not (holds (victim s.pools) p), NotVictim) ∷ [] in
    let y : Pool = record x { stage = stage.Compacting } in
    let made : Pool → Core = λ y. record s { pools = in_place p y s.pools; hands = with_hand s w (record g { moved = Some p }) } in
    compact_taken (is_some g.moved) (nat_le (under_sum s.pools + wanted) s.limit) (not (holds (victim s.pools) p)) y made r (ap is_some free)
    (not_within (under_sum s.pools + wanted) s.limit room) (its_victim (victim s.pools) p v)
    (subst (λ st. then_state (permit (row st) y) made ≡ Err r) st here)

pub offload_begin_refused : (s : Core) (w p wanted : ℕ) (x : Pool) (r : Refusal) → s.failure ≡ None → pool_at s.pools p ≡ Some x → x.stage ≡ stage.Compacted
    → (hand_at s.hands w).moved ≡ None → victim s.pools ≡ Some p → s.limit < under_sum s.pools + wanted
    → step_of s (event.OffloadBegin w p wanted) ≡ Err r → r ≡ DiskOut
offload_begin_refused s w p wanted x r none at st free v room h =
    let g = hand_at s.hands w in
    let h' = sym (running s (event.OffloadBegin w p wanted) none) ∙ h in
    let here = rw at at h' in
    let row : Stage → Rows.Row = λ st. (is_some g.moved, HandFull) ∷ (is_moving st, Moving) ∷ (is_expanded st || is_offloaded st, WrongForm) ∷
    (is_some s.disk, DiskOut) ∷ (nat_le (under_sum s.pools + wanted) s.limit, Fits) ∷ (not (holds (victim s.pools) p), NotVictim) ∷ [] in
    let y : Pool = record x { stage = stage.Offloading } in
    let made : Pool → Core = λ y. record s { pools = in_place p y s.pools; hands = with_hand s w (record g { moved = Some p }); disk = Some w } in
    offload_taken (is_some g.moved) (is_some s.disk) (nat_le (under_sum s.pools + wanted) s.limit) (not (holds (victim s.pools) p)) y made r (ap is_some free)
    (not_within (under_sum s.pools + wanted) s.limit room) (its_victim (victim s.pools) p v)
    (subst (λ st. then_state (permit (row st) y) made ≡ Err r) st here)

-- a place of a record
pub place_within : (p limit n : ℕ) → p < 131072 → n ≤ limit → p * limit + n ≤ 131072 * limit
place_within p limit n below fits = (let k : (p + 1) * limit ≤ 131072 * limit = mul-le-mul_right limit (omega arith) in omega arith)

pub place_fits : (p limit : ℕ) → p < 131072 → limit ≤ 2 ^ 30 → p * limit < 2 ^ 64
place_fits p limit below small = (let k : p * limit ≤ 131072 * limit = mul-le-mul_right limit (omega arith) in omega arith)

-- a body that lies packed is in memory packed
pub not_packed : {T : Type 0} (spell : T → List ℕ) (b : Lying T) (r : T) → LiesPacked spell b r → ((v : Vec ℕ Global) → b ≡ lying.Packed v → ⊥) → ⊥
not_packed spell (lying.Whole a) r l n = l
not_packed spell (lying.Packed v) r l n = n v refl
not_packed spell (lying.Stored f) r l n = l
not_packed spell lying.Out r l n = l

-- the compact length of a pool is that of its value's spelling
pub its_length : {T B : Type 0} (rows : List (ℕ × Entry T B)) (p c : ℕ) (e e' : Entry T B) (n : ℕ) (spell : T → List ℕ) → lookup (nat_eq p) rows ≡ Some e
    → lookup (nat_eq p) rows ≡ Some e' → c ≡ length (spell e.value.value) → n ≡ length (spell e'.value.value) → c ≡ n
its_length rows p c e e' n spell at at' len long = len ∙ ap (λ z. length (spell z.value.value)) (same_Some e e' (sym at ∙ at')) ∙ sym long

compacting_unfiled : is_filed stage.Compacting ≡ true → ⊥
compacting_unfiled e = cc

offloading_unfiled : is_filed stage.Offloading ≡ true → ⊥
offloading_unfiled e = cc

module _ {T B D : Type 0} (charge : T → ℕ) (spell : T → List ℕ) (is_value : T → Type 0) (bytes : D → Option (List ℕ)) (reach : D → ℕ) (honest : D → Bool) where
  abbrev Whole : ℕ → Core → List (ℕ × Entry T B) → Home D → D → Counters → Type 0
  Whole = IsWhole charge spell is_value bytes reach honest

  pub compact_begin_whole : (limit w p wanted : ℕ) (s new : Core) (rows rows' : List (ℕ × Entry T B)) (disk : Home D) (first : D) (before after : Counters)
      (was : Lying T) → Whole limit s rows disk first before → s.failure ≡ None
      → Stepped s (event.CompactBegin w p wanted) new before after → Puts rows rows' p lying.Out was → Whole limit new rows' disk first after
  compact_begin_whole limit w p wanted s new rows rows' disk first before after was wh none t put =
      let d = compact_begin_did s new w p wanted wh.sound none t.step in let x = d.pool in
      whole_moved charge spell is_value bytes reach honest limit s new p x (record x { stage = stage.Compacting }) put.entry lying.Out s.disk
      (event.CompactBegin w p wanted) rows rows' disk disk first before after wh (record {
        running = none;
        pool = d.at;
        entry = put.at;
        turned = d.turned;
        step = t;
        charge_same = refl;
        length_same = refl;
        differ = put.differ;
        found = put.found;
        lies = tt;
        filed = λ f. absurd (compacting_unfiled f);
        same = refl;
        home = wh.home none;
      })

  pub offload_begin_whole : (limit w p wanted : ℕ) (s new : Core) (rows rows' : List (ℕ × Entry T B)) (disk disk' : Home D) (first : D)
      (before after : Counters) (was : Lying T) → Whole limit s rows disk first before → s.failure ≡ None
      → Stepped s (event.OffloadBegin w p wanted) new before after → Puts rows rows' p lying.Out was → told disk' ≡ told disk → is_home disk' ≡ false
      → Whole limit new rows' disk' first after
  offload_begin_whole limit w p wanted s new rows rows' disk disk' first before after was wh none t put same out =
      let d = offload_begin_did s new w p wanted wh.sound none t.step in let x = d.pool in
      whole_moved charge spell is_value bytes reach honest limit s new p x (record x { stage = stage.Offloading }) put.entry lying.Out (Some w)
      (event.OffloadBegin w p wanted) rows rows' disk disk' first before after wh (record {
        running = none;
        pool = d.at;
        entry = put.at;
        turned = d.turned;
        step = t;
        charge_same = refl;
        length_same = refl;
        differ = put.differ;
        found = put.found;
        lies = tt;
        filed = λ f. absurd (offloading_unfiled f);
        same = same;
        home = out;
      })
