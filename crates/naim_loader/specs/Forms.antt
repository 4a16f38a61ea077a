-- Where the value of a pool lies.
use Rattle.std.specs.Prelude.{◌≡◌, ℕ, Bool, true, false, List, ⊤}
use Rattle.std.specs.Arc.{arc_value}
use Rattle.repository.specs.Filing.{record_of}
use Rattle.naim_core.specs.declared.event.Form.{Form}
use Rattle.naim_core.specs.declared.event.Form.TheVariants as form
use Rattle.naim_core.specs.declared.pool.Stage.{Stage}
use Rattle.naim_core.specs.declared.pool.Stage.TheVariants as stage
use Rattle.naim_loader.specs.declared.table.Lying.{Lying}
use Rattle.naim_loader.specs.declared.table.Lying.TheVariants as lying

module _ {T : Type 0} (spell : T → List ℕ) where
  -- it lies whole
  abbrev pub LiesWhole : Lying T → T → Type 0
  LiesWhole (lying.Whole a) r = arc_value a ≡ r
  LiesWhole _ r = ⊥

  -- its compact spelling lies in memory
  abbrev pub LiesPacked : Lying T → T → Type 0
  LiesPacked (lying.Packed v) r = v.items ≡ spell r
  LiesPacked _ r = ⊥

  -- the record of its compact spelling at that place is kept
  abbrev pub LiesStored : ℕ → Lying T → T → Type 0
  LiesStored place (lying.Stored f) r = f ≡ record_of place (spell r)
  LiesStored place _ r = ⊥

  -- it lies in the form
  abbrev pub LiesIn : Form → Lying T → T → Type 0
  LiesIn form.Expanded b r = LiesWhole b r
  LiesIn form.Compacted b r = LiesPacked b r

  -- it lies as a pool at that stage does, whose record has that place; a body that is written or moved is with its worker
  abbrev pub LiesAs : ℕ → Stage → Lying T → T → Type 0
  LiesAs place stage.Free b r = LiesWhole b r
  LiesAs place (stage.Read readers) b r = LiesWhole b r
  LiesAs place (stage.Written room) b r = ⊤
  LiesAs place stage.Compacted b r = LiesPacked b r
  LiesAs place stage.Offloaded b r = LiesStored place b r
  LiesAs place stage.Compacting b r = ⊤
  LiesAs place stage.Offloading b r = ⊤
  LiesAs place (stage.Reloading m from_disk) b r = ⊤

-- a record of the pool lies whole on the disk: the pool is there, or on its way from it
abbrev pub is_filed : Stage → Bool
is_filed stage.Offloaded = true
is_filed (stage.Reloading m from_disk) = from_disk
is_filed _ = false
