-- What stands for the contents, in the loader and with its workers.
use Rattle.std.specs.Prelude.{◌≡◌, ◌<◌, ◌≤◌, ◌*◌, ◌^◌, ℕ, Bool, true, false, List, length, Option, Some, None, nat_eq, is_none, ⊤}
use Rattle.std.specs.Arc.{arc_value}
use Rattle.std.specs.List.{IsDistinct}
use Rattle.std.specs.Map.{keys_of}
use Rattle.outside.specs.Places.{SamePlaces}
use Rattle.repository.specs.Filing.{record_of}
use Rattle.repository.specs.Record.{HasBytes}
use Rattle.naim_core.specs.Sound.{IsSound}
use Rattle.naim_core.specs.State.{pool_at, hand_at, is_read, is_written}
use Rattle.naim_core.specs.declared.event.Mode.{Mode}
use Rattle.naim_core.specs.declared.pool.Pool.{Pool}
use Rattle.naim_core.specs.declared.pool.Stage.{Stage}
use Rattle.naim_core.specs.declared.pool.Stage.TheVariants as stage
use Rattle.naim_core.specs.declared.state.Hand.{Hand}
use Rattle.naim_loader.specs.declared.forms.Move.{Move}
use Rattle.naim_loader.specs.declared.forms.Move.TheVariants as move
use Rattle.naim_loader.specs.declared.forms.Pin.{Pin}
use Rattle.naim_loader.specs.declared.forms.Pin.TheVariants as pin
use Rattle.naim_loader.specs.Forms.{is_filed}
use Rattle.naim_loader.specs.Paged.{Paged, content_at, contents, IsGood, IsTrusted}

module _ {T B D : Type 0} (charge : T → ℕ) (spell : T → List ℕ) (is_value : T → Type 0) (bytes : D → Option (List ℕ)) (reach : D → ℕ) (honest : D → Bool) where
  -- The pool p, x, with its value r: its numbers are the value's charge and compact length; and while no failure is
  -- kept, a trusted disk has the compact spelling at the record's place where the pool lies there or is on its way back.
  pub record StandsAt (l : Paged T B D) (p : ℕ) (x : Pool) (r : T) : Type 0 where
    pub below : p < 131072
    pub value : is_value r
    pub charge_is : x.e ≡ charge r
    pub length_is : x.c ≡ length (spell r)
    pub filed : l.core.failure ≡ None → IsTrusted reach honest l → is_filed x.stage ≡ true → HasBytes (bytes l.disk) (p * l.core.limit) (spell r)

  -- a pool is there exactly where the contents have its value
  abbrev pub HasPool : Paged T B D → ℕ → Option Pool → Option T → Type 0
  HasPool l p None None = ⊤
  HasPool l p None (Some r) = ⊥
  HasPool l p (Some x) None = ⊥
  HasPool l p (Some x) (Some r) = StandsAt l p x r

  -- The loader stands for its contents: the core is sound, each pool has its value and no other value is there; while no
  -- failure is kept, the disk is at home exactly where the core has it so; and a trusted disk is honest still.
  pub record StandsFor (l : Paged T B D) : Type 0 where
    pub small : l.core.limit ≤ 2 ^ 30
    pub sound : IsSound l.core
    pub differ : IsDistinct nat_eq (keys_of (contents l))
    pub pools : (p : ℕ) → HasPool l p (pool_at l.core.pools p) (content_at l p)
    pub home : l.core.failure ≡ None → l.home ≡ is_none l.core.disk
    pub good : IsTrusted reach honest l → IsGood reach honest l.core.limit l.disk
    pub peak : l.counters.under_peak ≤ l.core.limit

-- the worker w has p in that place of its hand, p is at such a stage, and r is what the contents have of it
pub record HoldsAt {T B D : Type 0} (l : Paged T B D) (w p : ℕ) (place : Hand → Option ℕ) (At : Stage → Type 0) (r : T) : Type 0 where
  pub hand : place (hand_at l.core.hands w) ≡ Some p
  pub pool : (x : Pool) × (pool_at l.core.pools p ≡ Some x) × At x.stage
  pub content : content_at l p ≡ Some r

-- the worker w has that pin, whose body is what the contents have
abbrev pub HasPin : {T B D : Type 0} → Paged T B D → ℕ → Pin T → Type 0
HasPin l w (pin.Read x) = HoldsAt l w x.pid (λ h. h.read) (λ st. is_read st ≡ true) (arc_value x.body)
HasPin l w (pin.Write x) = HoldsAt l w x.pid (λ h. h.written) (λ st. is_written st ≡ true) (arc_value x.body)

module _ {T B D : Type 0} (charge : T → ℕ) (spell : T → List ℕ) (bytes : D → Option (List ℕ)) (reach : D → ℕ) (honest : D → Bool) where
  -- the disk is out, and what a worker has of it is as honest as it was, with what it told when it was lent
  pub record HasDisk (l : Paged T B D) (d : D) : Type 0 where
    pub out : l.home ≡ false
    pub good : IsTrusted reach honest l → IsGood reach honest l.core.limit d
    pub same : IsTrusted reach honest l → SamePlaces (bytes l.disk) (bytes d)

  -- The worker w has that move of a pool whose value is r: its body; its compact spelling, with the place of its record
  -- and the disk; its compact spelling, for a reload from memory; or its record, of the spelling's length and SHA-256,
  -- with its charge and the disk, which has the spelling at that place if it is trusted.
  abbrev pub HasMoveOf : Paged T B D → ℕ → Move T D → T → Type 0
  HasMoveOf l w (move.Compacting p a) r = HoldsAt l w p (λ h. h.moved) (λ st. st ≡ stage.Compacting) r × (arc_value a ≡ r)
  HasMoveOf l w (move.Offloading p place b d) r = HoldsAt l w p (λ h. h.moved) (λ st. st ≡ stage.Offloading) r × (place ≡ p * l.core.limit) ×
      (b.items ≡ spell r) × HasDisk l d
  HasMoveOf l w (move.FromBytes p b) r = ((m : Mode) × HoldsAt l w p (λ h. h.moved) (λ st. st ≡ stage.Reloading m false) r) × (b.items ≡ spell r)
  HasMoveOf l w (move.FromDisk p filed number d) r =
      ((m : Mode) × HoldsAt l w p (λ h. h.moved) (λ st. st ≡ stage.Reloading m true) r) × (filed ≡ record_of (p * l.core.limit) (spell r)) × (number ≡ charge r)
      × (IsTrusted reach honest l → HasBytes (bytes d) (p * l.core.limit) (spell r)) × HasDisk l d
