-- What the tables hold, for the routines or objects from a number on.
use Rattle.std.specs.Prelude.{◌≡◌, ℕ, ◌<◌, List, length, drop, slice_index, slice_index_or, Some}
use Rattle.il_core.specs.Object.{ObjectParts}
use Rattle.il_core.specs.Routine.{RoutineParts}
use Rattle.il_core.specs.Program.{routine_at, words_of}
use Rattle.il_run.specs.declared.layout.Layout.{Layout}
use Rattle.il_run.specs.Machine.{routine_of}
use Rattle.il_run.specs.Words.{AreStarts}

-- the position of each routine, by PID
pub record HasPositions (rs : List RoutineParts) (i : ℕ) (position : List ℕ) : Type 0 where
  pub by : (q : ℕ) (r : RoutineParts) → routine_at (drop i rs) q ≡ Some r → (slice_index position q < length rs) × (routine_of rs (slice_index position q) ≡ r)

-- the words of each object, by PID
pub record HasSizes (os : List ObjectParts) (i : ℕ) (sizes : List ℕ) : Type 0 where
  pub by : (g : ℕ) → slice_index sizes g ≡ words_of (drop i os) g

-- the arrays of each routine
pub record AreLayouts (rs : List RoutineParts) (layouts : List Layout) : Type 0 where
  pub count : length layouts ≡ length rs
  pub each : (i : ℕ) (l : Layout) → i < length rs → l ≡ slice_index_or layouts i l
      → (l.sizes.items ≡ (routine_of rs i).arrays) × AreStarts l.sizes.items l.starts.items
