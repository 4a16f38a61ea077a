-- The clone table: which clone stands for which callee and constants.
use Rattle.std.specs.Prelude.{◌≡◌, ℕ, Bool, List, Some, slice_get}
use Rattle.std.specs.List.{AllByRecursion}
use Rattle.il_core.specs.declared.program.IlProgram.{IlProgram}
use Rattle.il_core.specs.declared.shape.Shape.TheVariants as shape
use Rattle.il_core.specs.Program.{shape_at}
use Rattle.il_core.specs.World.{World}
use Rattle.il_core.specs.Meaning.{act}
use Rattle.il_laws.specs.Keeping.{Stands}
use Rattle.il_laws.specs.Clone.{Fixed}

-- a row of the table: the callee, the constants, and the clone that was made for them
pub record Row : Type 0 where
  pub callee : ℕ
  pub fixed : List Fixed
  pub clone : ℕ

-- arguments that are these constants where there is one
abbrev pub HasFixed : List Fixed → List ℕ → Type 0
HasFixed fixed args = AllByRecursion (λ x. slice_get args x.param ≡ Some x.word.0) fixed

-- A row is right where callee and clone, if both stand, do the same for all arguments with the constants. It says
-- nothing of their blocks: so it stays right through every change that keeps what both do.
pub record IsRight (p : IlProgram) (row : Row) : Type 0 where
  pub by : Stands p row.callee → Stands p row.clone → (args : List ℕ) (w : World (Unit {0})) → HasFixed row.fixed args
      → act p row.callee args w ≡ act p row.clone args w

-- the clone takes the place of its callee in a call: it has as many parameters, and a value where that has one
pub record HasCalleesShape (p : IlProgram) (row : Row) : Type 0 where
  pub by : (params : ℕ) (value : Bool) → shape_at p.shapes row.callee ≡ Some (shape.Routine params value)
      → shape_at p.shapes row.clone ≡ Some (shape.Routine params value)
