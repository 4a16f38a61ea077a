-- What contracts see of a loader.
use Rattle.std.specs.Prelude.{[], true, ◌≡◌, ◌≤◌, ◌*◌, ℕ, Bool, IsTrue, List, Option, Ok, nat_eq, is_none, map, option_map}
use Rattle.std.specs.Map.{lookup}
use Rattle.naim_core.specs.State.{Core, start}
use Rattle.naim_core.specs.Steps.{step_of}
use Rattle.naim_core.specs.declared.event.Event.{Event}
use Rattle.naim_loader.specs.declared.counters.Counters.{Counters}
use Rattle.naim_loader.specs.Counting.{counted, no_counts}
use Rattle.naim_loader.specs.Rows.{Kept}
use Rattle.naim_loader.specs.Trails.{Lists, no_lists}

-- The paging core's state; what is kept of each pool by PID; the disk, or, while a worker has it, how it was when
-- it was lent; whether the loader has it; the disk that the loader was made with; the peaks and counts; the lists of
-- the trail.
pub record Paged (T B D : Type 0) : Type 0 where
  pub core : Core
  pub kept : List (ℕ × Kept T B)
  pub disk : D
  pub home : Bool
  pub first : D
  pub counters : Counters
  pub trail : Lists T

-- what is kept of the pool p
abbrev pub kept_at : {T B D : Type 0} → Paged T B D → ℕ → Option (Kept T B)
kept_at l p = lookup (nat_eq p) l.kept

-- the contents: the value of the pool p
abbrev pub content_at : {T B D : Type 0} → Paged T B D → ℕ → Option T
content_at l p = option_map (λ k. k.value) (kept_at l p)

-- the contents as PIDs with values
abbrev pub contents : {T B D : Type 0} → Paged T B D → List (ℕ × T)
contents l = map (λ r. (r.0, r.1.value)) l.kept

-- the call was this event, and changed nothing else
pub record Steps {T B D : Type 0} (old : Paged T B D) (e : Event) (new : Paged T B D) : Type 0 where
  pub step : step_of old.core e ≡ Ok new.core
  pub same : new ≡ record old { core = new.core; counters = counted e old.counters new.core; home = is_none new.core.disk }

-- the call was this event, and what is kept of pools may have changed
pub record Changes {T B D : Type 0} (old : Paged T B D) (e : Event) (new : Paged T B D) : Type 0 where
  pub step : step_of old.core e ≡ Ok new.core
  pub same : new ≡ record old { core = new.core; counters = counted e old.counters new.core; home = is_none new.core.disk; kept = new.kept; disk = new.disk }

-- an honest disk that reaches all places of records
abbrev pub IsGood : {D : Type 0} → (D → ℕ) → (D → Bool) → ℕ → D → Type 0
IsGood reach honest limit d = IsTrue (honest d) × (131072 * limit ≤ reach d)

-- The loader was made with such a disk. A disk that lied once may look honest later, so that it is this that is asked.
abbrev pub IsTrusted : {T B D : Type 0} → (D → ℕ) → (D → Bool) → Paged T B D → Type 0
IsTrusted reach honest l = IsGood reach honest l.core.limit l.first

-- no pools, the disk at home
abbrev pub fresh : {T B D : Type 0} → ℕ → ℕ → D → Paged T B D
fresh limit workers d = record { core = start limit workers; kept = []; disk = d; home = true; first = d; counters = no_counts; trail = no_lists }
