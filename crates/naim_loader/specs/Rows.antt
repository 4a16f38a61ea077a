-- The table of entries.
use Rattle.std.specs.Prelude.{◌≡◌, ℕ, ◌≤◌, cond, nat_eq, List, map, length, Option, Some, None, slice_get}
use Rattle.std.specs.List.{IsDistinct}
use Rattle.std.specs.Map.{keys_of, lookup}
use Rattle.std.specs.declared.snapshot.Snapshot.{Snapshot}
use Rattle.naim_loader.specs.declared.table.Entry.{Entry}
use Rattle.naim_loader.specs.declared.table.Lying.{Lying}

-- what contracts of the loader see of an entry: its value, as the last insertion or write left it, and its brief
pub record Kept (T B : Type 0) : Type 0 where
  pub value : T
  pub brief : B

abbrev pub kept_of : {T B : Type 0} → Entry T B → Kept T B
kept_of e = record { value = e.value.value; brief = e.brief }

abbrev pub kept_in : {T B : Type 0} → List (ℕ × Entry T B) → List (ℕ × Kept T B)
kept_in rows = map (λ r. (r.0, kept_of r.1)) rows

-- no PID stands twice, and the index has the row of each PID
pub record IsTable {X : Type 0} (rows : List (ℕ × X)) (index : List (Option ℕ)) (room : ℕ) : Type 0 where
  pub differ : IsDistinct nat_eq (keys_of rows)
  pub width : length index ≡ 131072
  pub missing : (p : ℕ) → slice_get index p ≡ Some None → lookup (nat_eq p) rows ≡ None
  pub found : (p i : ℕ) → slice_get index p ≡ Some (Some i) → (x : X) × (slice_get rows i ≡ Some (p, x))
  pub below : (p : ℕ) → 131072 ≤ p → lookup (nat_eq p) rows ≡ None
  pub room_fits : 4096 ≤ room

-- the body of p is another, and the old one was there; nothing else has changed
pub record Puts {T B : Type 0} (old new : List (ℕ × Entry T B)) (p : ℕ) (body was : Lying T) : Type 0 where
  pub entry : Entry T B
  pub at : lookup (nat_eq p) old ≡ Some entry
  pub was_is : entry.body ≡ was
  pub found : (q : ℕ) → lookup (nat_eq q) new ≡ cond (nat_eq p q) (Some (record entry { body = body })) (lookup (nat_eq q) old)
  pub kept : kept_in new ≡ kept_in old
  pub differ : IsDistinct nat_eq (keys_of new)

-- the entry of p is this one, or p has none, and nothing else has changed
pub record Renews {T B : Type 0} (old new : List (ℕ × Entry T B)) (p : ℕ) (entry : Option (Entry T B)) : Type 0 where
  pub found : (q : ℕ) → lookup (nat_eq q) new ≡ cond (nat_eq p q) entry (lookup (nat_eq q) old)
  pub differ : IsDistinct nat_eq (keys_of new)

-- the entry of p has that body and that value, and its brief; nothing else has changed
pub record Resets {T B : Type 0} (old new : List (ℕ × Entry T B)) (p : ℕ) (body : Lying T) (value : Snapshot T) : Type 0 where
  pub entry : Entry T B
  pub at : lookup (nat_eq p) old ≡ Some entry
  pub renews : Renews old new p (Some (record { body = body; value = value; brief = entry.brief }))
