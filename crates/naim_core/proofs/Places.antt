-- The pools that lie in the slots, after a slot's content has changed.
use Rattle.std.proofs.Common.{◌≡◌, ℕ, true, false, cond, nat_eq, [], ◌∷◌, Some, None, refl}
use Rattle.std.proofs.Common.{sym, ap, ◌∙◌}
use Rattle.std.specs.List.{IsDistinct}
use Rattle.std.specs.Map.{keys_of, lookup, remove_entry, set_value}
use Rattle.std.proofs.lemmas.Map.Keys.{IsDistinct-tail}
use Rattle.std.proofs.lemmas.Option.{same_Some, some_pair_parts}
use Rattle.lru.specs.LruCache.{put_entries}
use Rattle.naim_core.specs.Table.{Place, Order, pools_in}
use Rattle.naim_core.specs.declared.pool.Pool.{Pool}
use Rattle.list_laws.proofs.Entries.{head_absent, same_number, number_itself, entry_found}

-- two pools of a table have different PIDs
apart : (p q : ℕ) (x y : Pool) (es : Order) → IsDistinct nat_eq (keys_of ((q, y) ∷ pools_in es)) → lookup (nat_eq p) (pools_in es) ≡ Some x → nat_eq p q ≡ false
apart p q x y es d h = (elim (nat_eq p q) as (λ b. nat_eq p q ≡ b → b ≡ false) [
  | true ↦ λ t. let same = same_number p q t in let none = head_absent q (pools_in es) d in cc
  | false ↦ λ t. refl
]) refl

-- the pool of a slot is found by its PID
pub slot_found : (i p : ℕ) (x : Pool) (es : Order) → IsDistinct nat_eq (keys_of (pools_in es)) → lookup (nat_eq i) es ≡ Some (Some (p, x))
    → lookup (nat_eq p) (pools_in es) ≡ Some x
slot_found i p x [] d h = cc
slot_found i p x ((j, None) ∷ es) d h = (elim (nat_eq i j) as (λ b. nat_eq i j ≡ b → lookup (nat_eq p) (pools_in es) ≡ Some x) [
  | true ↦ λ t. let k = rw t at h in cc
  | false ↦ λ t. slot_found i p x es d (rw t at h)
]) refl
slot_found i p x ((j, Some (q, y)) ∷ es) d h = (elim (nat_eq i j)
    as (λ b. nat_eq i j ≡ b → cond (nat_eq p q) (Some y) (lookup (nat_eq p) (pools_in es)) ≡ Some x) [
      | true ↦ λ t. let k = rw t at h in let parts = some_pair_parts q p y x (same_Some (Some (q, y)) (Some (p, x)) k) in let key = parts.0 in let same =
          parts.1
          in rw (ap (nat_eq p) key ∙ number_itself p) (ap (λ z. Some z) same)
      | false ↦ λ t. let i_h = slot_found i p x es (IsDistinct-tail nat_eq q (keys_of (pools_in es)) d) (rw t at h) in
          rw (apart p q x y es d i_h) i_h
    ]) refl

-- the other pools, where a slot with a pool goes
pub removed_pool : (i p : ℕ) (x : Pool) (es : Order) → IsDistinct nat_eq (keys_of (pools_in es)) → lookup (nat_eq i) es ≡ Some (Some (p, x))
    → pools_in (remove_entry (nat_eq i) es) ≡ remove_entry (nat_eq p) (pools_in es)
removed_pool i p x [] d h = cc
removed_pool i p x ((j, None) ∷ es) d h = (elim (nat_eq i j) as (λ b. nat_eq i j ≡ b
    → pools_in (cond b es ((j, None) ∷ remove_entry (nat_eq i) es)) ≡ remove_entry (nat_eq p) (pools_in es)) [
      | true ↦ λ t. let k = rw t at h in cc
      | false ↦ λ t. removed_pool i p x es d (rw t at h)
    ]) refl
removed_pool i p x ((j, Some (q, y)) ∷ es) d h = (elim (nat_eq i j)
    as (λ b. nat_eq i j ≡ b → pools_in (cond b es ((j, Some (q, y)) ∷ remove_entry (nat_eq i) es)) ≡ cond (nat_eq p q) (pools_in es)
    ((q, y) ∷ remove_entry (nat_eq p) (pools_in es))) [
      | true ↦ λ t. let k = rw t at h in let key = (some_pair_parts q p y x (same_Some (Some (q, y)) (Some (p, x)) k)).0
          in rw (ap (nat_eq p) key ∙ number_itself p)
      | false ↦ λ t. let d' = IsDistinct-tail nat_eq q (keys_of (pools_in es)) d in
          rw (apart p q x y es d (slot_found i p x es d' (rw t at h))) (ap (λ ps. (q, y) ∷ ps) (removed_pool i p x es d' (rw t at h)))
    ]) refl

-- the pools, where a slot with a pool has new content
pub set_pool : (i p : ℕ) (x z : Pool) (es : Order) → IsDistinct nat_eq (keys_of (pools_in es)) → lookup (nat_eq i) es ≡ Some (Some (p, x))
    → pools_in (set_value (nat_eq i) es (Some (p, z))) ≡ set_value (nat_eq p) (pools_in es) z
set_pool i p x z [] d h = cc
set_pool i p x z ((j, None) ∷ es) d h = (elim (nat_eq i j) as (λ b. nat_eq i j ≡ b
    → pools_in (cond b ((j, Some (p, z)) ∷ es) ((j, None) ∷ set_value (nat_eq i) es (Some (p, z)))) ≡ set_value (nat_eq p) (pools_in es) z) [
      | true ↦ λ t. let k = rw t at h in cc
      | false ↦ λ t. set_pool i p x z es d (rw t at h)
    ]) refl
set_pool i p x z ((j, Some (q, y)) ∷ es) d h = (elim (nat_eq i j)
    as (λ b. nat_eq i j ≡ b → pools_in (cond b ((j, Some (p, z)) ∷ es) ((j, Some (q, y)) ∷ set_value (nat_eq i) es (Some (p, z)))) ≡ cond (nat_eq p q)
    ((q, z) ∷ pools_in es) ((q, y) ∷ set_value (nat_eq p) (pools_in es) z)) [
      | true ↦ λ t. let k = rw t at h in let key = (some_pair_parts q p y x (same_Some (Some (q, y)) (Some (p, x)) k)).0
          in rw (ap (nat_eq p) key ∙ number_itself p)
          (ap (λ r. (r, z) ∷ pools_in es) (sym key))
      | false ↦ λ t. let d' = IsDistinct-tail nat_eq q (keys_of (pools_in es)) d in
          rw (apart p q x y es d (slot_found i p x es d' (rw t at h))) (ap (λ ps. (q, y) ∷ ps) (set_pool i p x z es d' (rw t at h)))
    ]) refl

-- the pools stay where an empty slot goes
pub removed_empty : (i : ℕ) (es : Order) → lookup (nat_eq i) es ≡ Some None → pools_in (remove_entry (nat_eq i) es) ≡ pools_in es
removed_empty i [] h = cc
removed_empty i ((j, None) ∷ es) h = (elim (nat_eq i j) as (λ b. nat_eq i j ≡ b → pools_in (cond b es ((j, None) ∷ remove_entry (nat_eq i) es)) ≡ pools_in es) [
  | true ↦ λ t. refl
  | false ↦ λ t. removed_empty i es (rw t at h)
]) refl
removed_empty i ((j, Some (q, y)) ∷ es) h = (elim (nat_eq i j)
    as (λ b. nat_eq i j ≡ b → pools_in (cond b es ((j, Some (q, y)) ∷ remove_entry (nat_eq i) es)) ≡ (q, y) ∷ pools_in es) [
      | true ↦ λ t. let k = rw t at h in cc
      | false ↦ λ t. ap (λ ps. (q, y) ∷ ps) (removed_empty i es (rw t at h))
    ]) refl

-- a slot that is there goes to the front with its new content
pub put_front : (i : ℕ) (old new : Place) (es : Order) (cap : ℕ) → lookup (nat_eq i) es ≡ Some old
    → put_entries nat_eq (record { entries = es; cap = cap }) i new ≡ (i, new) ∷ remove_entry (nat_eq i) es
put_front i old new es cap h = rw (entry_found i old es h)
