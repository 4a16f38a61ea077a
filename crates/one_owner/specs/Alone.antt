-- A loader that one worker has alone.
use Rattle.std.specs.Prelude.{◌≡◌, ℕ, true, false, List, ◌∷◌, Option, Some, None, option_map}
use Rattle.std.specs.List.{list_all}
use Rattle.naim_core.specs.State.{Core, empty_hand, hand_at, is_empty_hand, pool_at}
use Rattle.naim_core.specs.Steps.{take_pin}
use Rattle.naim_core.specs.declared.event.Mode.{Mode}
use Rattle.naim_core.specs.declared.state.Hand.{Hand}
use Rattle.naim_loader.specs.Paged.{Paged}

-- worker 0 has the hand h, all other hands are empty, and no wave is open
pub record IsAlone (s : Core) (h : Hand) : Type 0 where
  pub others : List Hand
  pub hands : s.hands ≡ h ∷ others
  pub free : list_all is_empty_hand others ≡ true
  pub closed : s.in_wave ≡ false

-- Worker 0 works alone with the hand h; no failure is kept, and the disk is at home.
pub record Works {T B D : Type 0} (l : Paged T B D) (h : Hand) : Type 0 where
  pub alone : IsAlone l.core h
  pub running : l.core.failure ≡ None
  pub home : l.home ≡ true

-- the hand that reads p alone
abbrev pub reading : ℕ → Hand
reading p = record empty_hand { read = Some p }

-- the hand that writes p alone
abbrev pub writing : ℕ → Hand
writing p = record empty_hand { written = Some p }

-- the hand that has p pinned in that mode, alone
abbrev pub pinned : Mode → ℕ → Hand
pinned m p = record (take_pin m p empty_hand) { moved = None }

-- no wave is open, all hands are empty, no failure is kept, the disk is at home
abbrev pub IsResting : {T B D : Type 0} → Paged T B D → Type 0
IsResting l = Works l empty_hand

-- the same, but that worker 0 reads p
abbrev pub IsReading : {T B D : Type 0} → Paged T B D → ℕ → Type 0
IsReading l p = Works l (reading p)

-- the same, but that worker 0 writes p
abbrev pub IsWriting : {T B D : Type 0} → Paged T B D → ℕ → Type 0
IsWriting l p = Works l (writing p)

-- the hand of worker 0, without what it moves
abbrev pub idle : Core → Hand
idle s = record (hand_at s.hands 0) { moved = None }

-- worker 0 works alone and moves nothing
abbrev pub IsIdle : {T B D : Type 0} → Paged T B D → Type 0
IsIdle l = Works l (idle l.core)

-- the charge of the pool p
abbrev pub charge_at : {T B D : Type 0} → Paged T B D → ℕ → Option ℕ
charge_at l p = option_map (λ x. x.e) (pool_at l.core.pools p)
