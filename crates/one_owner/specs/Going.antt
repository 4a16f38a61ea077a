-- What stays over the calls of one worker alone.
use Rattle.std.specs.Prelude.{◌≡◌, ◌≤◌, ◌+◌, ℕ, length, Some, true}
use Rattle.naim_core.specs.Charges.{under_sum}
use Rattle.naim_core.specs.State.{is_written, pool_at}
use Rattle.naim_core.specs.declared.event.Failure.{Failure}
use Rattle.naim_core.specs.declared.pool.Pool.{Pool}
use Rattle.naim_core.specs.declared.state.Hand.{Hand}
use Rattle.naim_loader.specs.Paged.{Paged, kept_at}
use Rattle.one_owner.specs.Alone.{Works}

-- The limit, the number of workers, the disk that the loader was made with and the trail's programs are the same, and
-- the disk's count of faults hasn't fallen.
pub record Stays {T B D : Type 0} (faults : D → ℕ) (old new : Paged T B D) : Type 0 where
  pub limit : new.core.limit ≡ old.core.limit
  pub workers : length new.core.hands ≡ length old.core.hands
  pub first : new.first ≡ old.first
  pub programs : new.trail.programs ≡ old.trail.programs
  pub later : faults old.disk ≤ faults new.disk

-- The pools are the same, with their values and briefs; no pool came or went.
pub record Keeps {T B D : Type 0} (faults : D → ℕ) (old new : Paged T B D) : Type 0 where
  pub stays : Stays faults old new
  pub kept : (q : ℕ) → kept_at new q ≡ kept_at old q
  pub used : length new.core.pools ≡ length old.core.pools
  pub insertions : new.trail.insertions ≡ old.trail.insertions

-- The failure is kept from now on, for that cause; the disk is at home, and all pools are the same.
pub record Stops {T B D : Type 0} (faults : D → ℕ) (Cause : Failure → Type 0) (old new : Paged T B D) (f : Failure) : Type 0 where
  pub kept : new.core.failure ≡ Some f
  pub home : new.home ≡ true
  pub keeps : Keeps faults old new
  pub cause : Cause f

-- a pool that is written stays as it is, with the room of its writer
abbrev pub KeepsWritten : {T B D : Type 0} → Paged T B D → Paged T B D → Type 0
KeepsWritten old new = (q : ℕ) (x : Pool) → pool_at old.core.pools q ≡ Some x → is_written x.stage ≡ true → pool_at new.core.pools q ≡ Some x

-- worker 0 has the hand h, all pools are the same, and so many bytes fit now
pub record MakesRoom {T B D : Type 0} (faults : D → ℕ) (old new : Paged T B D) (h : Hand) (wanted : ℕ) : Type 0 where
  pub works : Works new h
  pub keeps : Keeps faults old new
  pub written : KeepsWritten old new
  pub fits : under_sum new.core.pools + wanted ≤ new.core.limit
