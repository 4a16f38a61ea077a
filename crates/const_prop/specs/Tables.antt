-- Facts as a dense table by register.
use Rattle.std.specs.Prelude.{◌≡◌, ℕ, ◌+◌, ◌<◌, ◌≤◌, ◌||◌, Bool, false, List, Option, Some, None, length, slice_index_or, ⊤}
use Rattle.std.specs.List.{AllByRecursion}
use Rattle.il_core.specs.declared.instr.Block.{Block}
use Rattle.il_core.specs.declared.instr.End.{End}
use Rattle.il_core.specs.declared.instr.Instr.{Instr}
use Rattle.il_core.specs.declared.instr.Instr.TheVariants.{Const, Move, Conv, Bin, Get, Set, GetX, SetX, GetA, SetA, Clear, Turn, Call, GetChar, PutChar}
use Rattle.il_core.specs.declared.shape.ShapeRow.{ShapeRow}
use Rattle.il_core.specs.Routine.{RoutineParts}
use Rattle.il_core.specs.Operands.{is_named, loops_to}
use Rattle.il_core.specs.Valid.{IsRegIfSome, IsValid}
use Rattle.il_laws.specs.Facts.{Facts}

-- a routine that is valid with some shapes
abbrev pub IsValidRoutine : RoutineParts → Type 0
IsValidRoutine r = (rows : List ShapeRow) × IsValid rows r

-- the registers that an instruction names are among so many
abbrev pub NamesRegisters : ℕ → Instr → Type 0
NamesRegisters n (Const d w) = d < n
NamesRegisters n (Move d s) = (d < n) × (s < n)
NamesRegisters n (Conv d t s) = (d < n) × (s < n)
NamesRegisters n (Bin o d a b) = (d < n) × (a < n) × (b < n)
NamesRegisters n (Get d g) = d < n
NamesRegisters n (Set g s) = s < n
NamesRegisters n (GetX d g i) = (d < n) × (i < n)
NamesRegisters n (SetX g i s) = (i < n) × (s < n)
NamesRegisters n (GetA d a i) = (d < n) × (i < n)
NamesRegisters n (SetA a i s) = (i < n) × (s < n)
NamesRegisters n (Clear r c a m) = r + c ≤ n
NamesRegisters n Turn = ⊤
NamesRegisters n (Call dest p count args) = IsRegIfSome n dest × AllByRecursion (λ x. x < n) args
NamesRegisters n (GetChar d) = d < n
NamesRegisters n (PutChar d s) = (d < n) × (s < n)

-- the facts that a table has: of each of its registers the word, where it is known
abbrev pub facts_in : List (Option ℕ) → Facts
facts_in t x = slice_index_or t x None

-- a table has these facts of the first n registers
pub record Has (n : ℕ) (t : List (Option ℕ)) (fs : Facts) : Type 0 where
  pub size : length t ≡ n
  pub at : (x : ℕ) → x < n → slice_index_or t x None ≡ fs x

-- so many registers are known as 0, and the others are as they were
pub record Cleared (old new : List (Option ℕ)) (first count : ℕ) : Type 0 where
  pub size : length new ≡ length old
  pub inside : (x : ℕ) → first ≤ x → x < first + count → slice_index_or new x None ≡ Some 0
  pub before : (x : ℕ) → x < first → slice_index_or new x None ≡ slice_index_or old x None
  pub after : (x : ℕ) → first + count ≤ x → slice_index_or new x None ≡ slice_index_or old x None

-- marks by number: those of a test, of the first n numbers
pub record AreMarks (n : ℕ) (marks : List Bool) (test : ℕ → Bool) : Type 0 where
  pub size : length marks ≡ n
  pub at : (x : ℕ) → x < n → slice_index_or marks x false ≡ test x

-- what was marked, and what meets a test, is marked
abbrev pub AddsMarks : List Bool → List Bool → (ℕ → Bool) → Type 0
AddsMarks old new test = AreMarks (length old) new (λ x. slice_index_or old x false || test x)

-- the registers that blocks name are among so many
abbrev pub AreNamed : ℕ → List Block → Type 0
AreNamed n bs = AllByRecursion (λ b. AllByRecursion (NamesRegisters n) b.instrs) bs

-- whether an end goes back to a block
abbrev pub is_head : End → ℕ → Bool
is_head e x = is_named (loops_to e) x

-- so many tables, all of which are missing
pub record AreMissing (n : ℕ) (rows : List (Option (List (Option ℕ)))) : Type 0 where
  pub size : length rows ≡ n
  pub at : (t : ℕ) → slice_index_or rows t None ≡ None
