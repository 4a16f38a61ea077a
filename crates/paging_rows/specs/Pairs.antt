-- Two workers over one loader.
use Rattle.std.specs.Prelude.{◌≡◌, ℕ, zero, suc, Bool, true, false, List, [], ◌∷◌, Option, Some, None, if◌then◌else◌, ⊤}
use Rattle.std.specs.Arc.{arc_value}
use Rattle.naim_core.specs.Sound.{IsSound}
use Rattle.naim_core.specs.State.{empty_hand, holds, pool_at}
use Rattle.naim_core.specs.declared.pool.Pool.{Pool}
use Rattle.naim_core.specs.declared.pool.Stage.{Stage}
use Rattle.naim_core.specs.declared.pool.Stage.TheVariants as stage
use Rattle.naim_core.specs.declared.state.Hand.{Hand}
use Rattle.naim_loader.specs.declared.forms.ReadPin.{ReadPin}
use Rattle.naim_loader.specs.Moves.{IsMoving}
use Rattle.naim_loader.specs.Paged.{Paged, content_at}

-- the hand that reads what r says, and holds nothing else
abbrev pub grip : Option ℕ → Hand
grip r = record empty_hand { read = r }

-- of two workers w has the hand g, and the other one h
abbrev pub both : ℕ → Hand → Hand → List Hand
both zero g h = g ∷ h ∷ []
both (suc w) g h = h ∷ g ∷ []

-- Worker w has the hand g and the other one h; no failure is kept, and no wave is open.
pub record Works {T B D : Type 0} (l : Paged T B D) (w : ℕ) (g h : Hand) : Type 0 where
  pub hands : l.core.hands ≡ both w g h
  pub running : l.core.failure ≡ None
  pub closed : l.core.in_wave ≡ false

-- the pool that a pin is of
abbrev pub pool_of : {T : Type 0} → Option (ReadPin T) → Option ℕ
pool_of None = None
pool_of (Some x) = Some x.pid

-- a pin has the body that the contents have
abbrev pub HasBody : {T B D : Type 0} → Paged T B D → Option (ReadPin T) → Type 0
HasBody l None = ⊤
HasBody l (Some x) = content_at l x.pid ≡ Some (arc_value x.body)

-- between two calls worker w has the pin x and the other one y, and the disk is at home
pub record Stands {T B D : Type 0} (l : Paged T B D) (w : ℕ) (x y : Option (ReadPin T)) : Type 0 where
  pub works : Works l w (grip (pool_of x)) (grip (pool_of y))
  pub disk : l.core.disk ≡ None
  pub mine : HasBody l x
  pub others : HasBody l y

-- worker w, who reads what r says and has the pin x, moves p at such a stage, by the disk or not; the other one has the pin y
pub record Moves {T B D : Type 0} (l : Paged T B D) (w : ℕ) (x y : Option (ReadPin T)) (r : Option ℕ) (p : ℕ) (by_disk : Bool) (At : Stage → Type 0) : Type 0
  where
    pub works : Works l w (record (grip r) { moved = Some p }) (grip (pool_of y))
    pub disk : l.core.disk ≡ (if by_disk then Some w else None)
    pub home : l.home ≡ (if by_disk then false else true)
    pub sound : IsSound l.core
    pub moving : IsMoving l.core w p At
    pub mine : HasBody l x
    pub others : HasBody l y

-- worker w writes p within that room and moves nothing; the other one has the pin y, which is of another pool
pub record HoldsWrite {T B D : Type 0} (l : Paged T B D) (w : ℕ) (y : Option (ReadPin T)) (p room : ℕ) : Type 0 where
  pub works : Works l w (record empty_hand { written = Some p }) (grip (pool_of y))
  pub disk : l.core.disk ≡ None
  pub sound : IsSound l.core
  pub pool : Pool
  pub at : pool_at l.core.pools p ≡ Some pool
  pub stage : pool.stage ≡ stage.Written room
  pub others : HasBody l y
  pub apart : holds (pool_of y) p ≡ false

-- the hand whose task is p, and the one that writes it too
abbrev pub tasked : ℕ → Hand
tasked p = record empty_hand { task = Some p }

abbrev pub tasked_writer : ℕ → Hand
tasked_writer p = record empty_hand { task = Some p; written = Some p }

-- A wave whose one task is p is open: worker 0 has the hand h and the other one an empty one; these tasks are unclaimed
-- and these are done.
pub record InWave {T B D : Type 0} (l : Paged T B D) (p : ℕ) (h : Hand) (unclaimed done : List ℕ) : Type 0 where
  pub hands : l.core.hands ≡ h ∷ empty_hand ∷ []
  pub running : l.core.failure ≡ None
  pub opened : l.core.in_wave ≡ true
  pub tasks : l.core.tasks ≡ p ∷ []
  pub left : l.core.unclaimed ≡ unclaimed
  pub done_are : l.core.done ≡ done
  pub disk : l.core.disk ≡ None
  pub sound : IsSound l.core
