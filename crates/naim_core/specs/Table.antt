-- How the pools lie in the table: each in a slot of the use order's cache.
use Rattle.std.specs.Prelude.{◌≡◌, ℕ, ◌+◌, ◌<◌, ◌≤◌, ◌^◌, Bool, true, false, nat_eq, List, [], ◌∷◌, length, filter_map, Option, Some, None, IsSome}
use Rattle.std.specs.Prelude.{slice_get, option_map, reverse, MatchOption, if◌then◌else◌}
use Rattle.std.specs.List.{IsDistinct, AllByRecursion}
use Rattle.std.specs.Option.{option_and_then, option_or}
use Rattle.std.specs.Map.{keys_of, lookup}
use Rattle.naim_core.specs.Charges.{under_sum, held_sum}
use Rattle.naim_core.specs.Links.{IsRing}
use Rattle.naim_core.specs.State.{is_free, is_compacted}
use Rattle.naim_core.specs.declared.pool.Pool.{Pool}
use Rattle.naim_core.specs.declared.pool.Stage.{Stage}
use Rattle.naim_core.specs.declared.pool.Stage.TheVariants as stage
use Rattle.naim_core.specs.declared.ring.Ring.{Ring}

-- a slot's content: a PID and its pool, or nothing
abbrev pub Place : Type 0
Place = Option (ℕ × Pool)

-- the cache's entries: each slot number with its content, the last used first
abbrev pub Order : Type 0
Order = List (ℕ × Place)

-- the pools in the use order
abbrev pub pools_in : Order → List (ℕ × Pool)
pools_in order = filter_map (λ entry. entry.1) order

-- the PID in the slot i
abbrev pub pid_at : Order → ℕ → Option ℕ
pid_at order i = option_and_then (λ place. option_map (λ entry. entry.0) place) (lookup (nat_eq i) order)

-- the slot of the pool p with its content, if it is there
abbrev pub IsFound : Order → ℕ → Option (ℕ × Pool) → Type 0
IsFound order p found = MatchOption found (lookup (nat_eq p) (pools_in order) ≡ None) (λ at. lookup (nat_eq at.0) order ≡ Some (Some (p, at.1)))

-- each slot stands once, and no PID stands in two
pub record IsOrder (order : Order) : Type 0 where
  pub slots_differ : IsDistinct nat_eq (keys_of order)
  pub pids_differ : IsDistinct nat_eq (keys_of (pools_in order))

-- the index has the slot of each PID below its length
pub record IsIndexed (order : Order) (index : List (Option ℕ)) : Type 0 where
  pub missing : (p : ℕ) → slice_get index p ≡ Some None → lookup (nat_eq p) (pools_in order) ≡ None
  pub found : (p i : ℕ) → slice_get index p ≡ Some (Some i) → pid_at order i ≡ Some p

-- the empty slots, each once, and as many as pools are wanting; the next one to be taken stands first
pub record IsSpare (order : Order) (stack : List ℕ) : Type 0 where
  pub empty : AllByRecursion (λ i. lookup (nat_eq i) order ≡ Some None) stack
  pub differ : IsDistinct nat_eq stack
  pub count : length (pools_in order) + length stack ≡ 4096

pub record IsTable (order : Order) (index : List (Option ℕ)) (spare : List ℕ) (room under held : ℕ) : Type 0 where
  pub slots : IsOrder order
  pub indexed : IsIndexed order index
  pub spares : IsSpare order (reverse spare)
  pub room_fits : 4096 ≤ room
  pub under_is : under ≡ under_sum (pools_in order)
  pub held_is : held ≡ held_sum (pools_in order)
  pub held_fits : held < 2 ^ 64

-- expanded, compacted, or on the way from the one to the other; a pool that is none of these has to be
-- reloaded before it can be compacted again
abbrev pub is_resident : Stage → Bool
is_resident stage.Free = true
is_resident (stage.Read readers) = true
is_resident (stage.Written room) = true
is_resident stage.Compacting = true
is_resident stage.Compacted = true
is_resident _ = false

-- whether a slot has a pool at a stage that passes
abbrev pub passes : (Stage → Bool) → Place → Bool
passes test None = false
passes test (Some (p, x)) = test x.stage

-- the slots of the pools at such stages, in the use order
abbrev pub slots_at : (Stage → Bool) → Order → List ℕ
slots_at test order = filter_map (λ entry. if passes test entry.1 then Some entry.0 else None) order

-- the free pools, or the compacted ones
abbrev pub wanted : Bool → Stage → Bool
wanted true = is_compacted
wanted false = is_free

-- the PID of a pool at a stage that passes
abbrev pub pid_if : (Stage → Bool) → Option Place → Option ℕ
pid_if test (Some (Some (p, x))) = if test x.stage then Some p else None
pid_if test _ = None

-- the PID of the first such pool in the slots
abbrev pub first_at : (Stage → Bool) → Order → List ℕ → Option ℕ
first_at test order [] = None
first_at test order (i ∷ slots) = option_or (pid_if test (lookup (nat_eq i) order)) (first_at test order slots)

-- the slots of a ring
pub record RingSlots (ring : Ring) : Type 0 where
  pub slots : List ℕ
  pub is : IsRing ring.behind.items ring.before.items slots
  pub few : length slots ≤ 4096

-- the rings of the free pools and of the residents
pub record AreRings (order : Order) (free resident : Ring) : Type 0 where
  pub free_is : IsRing free.behind.items free.before.items (slots_at is_free order)
  pub resident_is : IsRing resident.behind.items resident.before.items (slots_at is_resident order)
  pub slots_fit : (i : ℕ) → IsSome (lookup (nat_eq i) order) → i < 4096
