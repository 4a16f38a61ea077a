-- Each event of one pool keeps the loader whole.
use Rattle.std.proofs.Common.{◌≡◌, ℕ, ◌*◌, Bool, true, List, Option, None, Result, Ok, Err, refl}
use Rattle.std.specs.Prelude.{IfOk}
use Rattle.naim_core.specs.Rows
use Rattle.naim_core.specs.State.{Core}
use Rattle.naim_core.specs.declared.event.Event.TheVariants as event
use Rattle.naim_core.specs.declared.pool.Stage.{Stage}
use Rattle.naim_core.specs.declared.pool.Stage.TheVariants as stage
use Rattle.naim_core.proofs.Effects.{is_shared, pin_read_did}
use Rattle.naim_loader.specs.declared.counters.Counters.{Counters}
use Rattle.naim_loader.specs.declared.home.Home.{Home}
use Rattle.naim_loader.specs.declared.table.Entry.{Entry}
use Rattle.naim_loader.specs.declared.table.Lying.{Lying}
use Rattle.naim_loader.specs.declared.table.Lying.TheVariants as lying
use Rattle.std.specs.declared.alloc.Global.{Global}
use Rattle.std.specs.declared.sync.Arc.{Arc}
use Rattle.naim_loader.specs.Counting.{Stepped}
use Rattle.naim_loader.specs.Forms.{LiesAs, LiesWhole, is_filed}
use Rattle.naim_loader.specs.Whole.{IsWhole}
use Rattle.naim_loader.proofs.Wholes.{whole_moved, there, found_same}

module _ {T : Type 0} (spell : T → List ℕ) where
  -- with one more reader a body lies as before
  lies_read : (place : ℕ) (st : Stage) (b : Lying T) (r : T) → is_shared st ≡ true → LiesAs spell place st b r → LiesAs spell place (Rows.with_reader st) b r
  lies_read place stage.Free b r t l = l
  lies_read place (stage.Read readers) b r t l = l
  lies_read place (stage.Written room) b r t l = cc
  lies_read place stage.Compacted b r t l = cc
  lies_read place stage.Offloaded b r t l = cc
  lies_read place stage.Compacting b r t l = cc
  lies_read place stage.Offloading b r t l = cc
  lies_read place (stage.Reloading m from_disk) b r t l = cc

  -- a pool that nobody writes lies whole
  pub lies_shared : (place : ℕ) (st : Stage) (b : Lying T) (r : T) → is_shared st ≡ true → LiesAs spell place st b r → LiesWhole spell b r
  lies_shared place stage.Free b r t l = l
  lies_shared place (stage.Read readers) b r t l = l
  lies_shared place (stage.Written room) b r t l = cc
  lies_shared place stage.Compacted b r t l = cc
  lies_shared place stage.Offloaded b r t l = cc
  lies_shared place stage.Compacting b r t l = cc
  lies_shared place stage.Offloading b r t l = cc
  lies_shared place (stage.Reloading m from_disk) b r t l = cc

-- a body that lies whole is in memory whole
pub not_other : {T : Type 0} (spell : T → List ℕ) (b : Lying T) (r : T) → LiesWhole spell b r → ((a : Arc T Global) → b ≡ lying.Whole a → ⊥) → ⊥
not_other spell (lying.Whole a) r l n = n a refl
not_other spell (lying.Packed v) r l n = l
not_other spell (lying.Stored f) r l n = l
not_other spell lying.Out r l n = l

pub if_ok_more : {A E : Type 0} (P Q : A → Type 0) (r : Result A E) → ((a : A) → P a → Q a) → IfOk r P → IfOk r Q
if_ok_more P Q (Ok a) f h = f a h
if_ok_more P Q (Err e) f h = h

read_unfiled : (st : Stage) → is_filed (Rows.with_reader st) ≡ true → ⊥
read_unfiled stage.Free e = cc
read_unfiled (stage.Read readers) e = cc
read_unfiled (stage.Written room) e = cc
read_unfiled stage.Compacted e = cc
read_unfiled stage.Offloaded e = cc
read_unfiled stage.Compacting e = cc
read_unfiled stage.Offloading e = cc
read_unfiled (stage.Reloading m from_disk) e = cc

module _ {T B D : Type 0} (charge : T → ℕ) (spell : T → List ℕ) (is_value : T → Type 0) (bytes : D → Option (List ℕ)) (reach : D → ℕ) (honest : D → Bool) where
  abbrev Whole : ℕ → Core → List (ℕ × Entry T B) → Home D → D → Counters → Type 0
  Whole = IsWhole charge spell is_value bytes reach honest

  pub pin_read_whole : (limit w p : ℕ) (s new : Core) (rows : List (ℕ × Entry T B)) (disk : Home D) (first : D) (before after : Counters)
      → Whole limit s rows disk first before → s.failure ≡ None
      → Stepped s (event.PinRead w p) new before after → Whole limit new rows disk first after
  pin_read_whole limit w p s new rows disk first before after wh none t =
      let d = pin_read_did s new w p wh.sound none t.step in let x = d.pool in
      let th = there charge spell is_value bytes reach honest limit s rows disk first before p x wh d.at in
      whole_moved charge spell is_value bytes reach honest limit s new p x (record x { stage = Rows.with_reader x.stage }) th.entry th.entry.body s.disk
      (event.PinRead w p) rows rows disk disk first before after wh (record {
        running = none;
        pool = d.at;
        entry = th.at;
        turned = d.turned;
        step = t;
        charge_same = refl;
        length_same = refl;
        differ = wh.differ;
        found = found_same charge spell is_value bytes reach honest rows p th.entry th.at;
        lies = lies_read spell (p * limit) x.stage th.entry.body th.entry.value.value d.was (th.standing.lies none);
        filed = λ f. absurd (read_unfiled x.stage f);
        same = refl;
        home = wh.home none;
      })
