-- Which routines and programs are valid.
use Rattle.std.specs.Prelude.{◌≡◌, ◌≢◌, ℕ, ◌+◌, ◌<◌, ◌≤◌, Bool, true, false, List, [], ◌∷◌, Option, Some, None, length, codes, ⊤, Contains}
use Rattle.std.specs.List.{AllByRecursion}
use Rattle.il_core.specs.declared.instr.Block.{Block}
use Rattle.il_core.specs.declared.instr.Instr.{Instr}
use Rattle.il_core.specs.declared.instr.Instr.TheVariants.{Const, Move, Conv, Bin, Get, Set, GetX, SetX, GetA, SetA, Clear, Turn, Call, GetChar, PutChar}
use Rattle.il_core.specs.declared.instr.End.{End}
use Rattle.il_core.specs.declared.instr.End.TheVariants as ends
use Rattle.il_core.specs.declared.shape.ShapeRow.{ShapeRow}
use Rattle.il_core.specs.declared.shape.Shape.{Shape}
use Rattle.il_core.specs.declared.shape.Shape.TheVariants as shape
use Rattle.il_core.specs.Object.{ObjectParts}
use Rattle.il_core.specs.declared.program.IlProgram.{IlProgram}
use Rattle.il_core.specs.Routine.{RoutineParts}
use Rattle.il_core.specs.Program.{shape_at}
use Rattle.il_core.specs.Shapes.{IsRising}
use Rattle.il_core.specs.Limits.{IsPid, max_routines}

-- a PID names an object
abbrev pub IsObjectShape : Option Shape → Type 0
IsObjectShape (Some (shape.Object words)) = ⊤
IsObjectShape (Some (shape.Routine params value)) = ⊥
IsObjectShape None = ⊥

abbrev pub NamesObject : List ShapeRow → ℕ → Type 0
NamesObject rows pid = IsObjectShape (shape_at rows pid)

-- a PID names a routine of so many parameters, that gives a value exactly where one is wanted
abbrev pub IsRoutineShape : Option Shape → ℕ → Bool → Type 0
IsRoutineShape (Some (shape.Routine params value)) count wanted = (params ≡ count) × (value ≡ wanted)
IsRoutineShape (Some (shape.Object words)) count wanted = ⊥
IsRoutineShape None count wanted = ⊥

abbrev pub is_wanted : Option ℕ → Bool
is_wanted None = false
is_wanted (Some d) = true

-- a register, where there is one
abbrev pub IsRegIfSome : ℕ → Option ℕ → Type 0
IsRegIfSome regs None = ⊤
IsRegIfSome regs (Some d) = d < regs

-- An instruction of a routine with so many registers and arrays: the registers and arrays that it names exist, of a
-- `clear` the ranges end within them, PIDs name what is wanted, and a call fits its callee.
abbrev pub IsValidInstr : List ShapeRow → ℕ → ℕ → Instr → Type 0
IsValidInstr rows regs arrays (Const d w) = d < regs
IsValidInstr rows regs arrays (Move d s) = (d < regs) × (s < regs)
IsValidInstr rows regs arrays (Conv d t s) = (d < regs) × (s < regs)
IsValidInstr rows regs arrays (Bin o d a b) = (d < regs) × (a < regs) × (b < regs)
IsValidInstr rows regs arrays (Get d g) = (d < regs) × NamesObject rows g
IsValidInstr rows regs arrays (Set g s) = (s < regs) × NamesObject rows g
IsValidInstr rows regs arrays (GetX d g i) = (d < regs) × (i < regs) × NamesObject rows g
IsValidInstr rows regs arrays (SetX g i s) = (i < regs) × (s < regs) × NamesObject rows g
IsValidInstr rows regs arrays (GetA d a i) = (d < regs) × (i < regs) × (a < arrays)
IsValidInstr rows regs arrays (SetA a i s) = (i < regs) × (s < regs) × (a < arrays)
IsValidInstr rows regs arrays (Clear r c a m) = (r + c ≤ regs) × (a + m ≤ arrays)
IsValidInstr rows regs arrays Turn = ⊤
IsValidInstr rows regs arrays (Call dest p count args) = IsRegIfSome regs dest × AllByRecursion (λ x. x < regs) args × IsRoutineShape (shape_at rows p)
    (length args) (is_wanted dest)
IsValidInstr rows regs arrays (GetChar d) = d < regs
IsValidInstr rows regs arrays (PutChar d s) = (d < regs) × (s < regs)

-- the end of block b of so many: jumps go to later blocks, loops to this or an earlier one, and a return has a
-- register exactly where the routine gives a value
abbrev pub IsValidEnd : ℕ → Bool → ℕ → ℕ → End → Type 0
IsValidEnd regs value blocks b (ends.Jump t) = (b < t) × (t < blocks)
IsValidEnd regs value blocks b (ends.Branch r t u) = (r < regs) × ((b < t) × (t < blocks)) × ((b < u) × (u < blocks))
IsValidEnd regs value blocks b (ends.Loop t) = t ≤ b
IsValidEnd regs value blocks b (ends.Return r) = IsRegIfSome regs r × (value ≡ is_wanted r)
IsValidEnd regs value blocks b (ends.Exit r) = r < regs

-- blocks from number b on, of so many in all
abbrev pub AreValidBlocks : List ShapeRow → RoutineParts → ℕ → List Block → Type 0
AreValidBlocks rows r b [] = ⊤
AreValidBlocks rows r b (x ∷ xs) =
    AllByRecursion (IsValidInstr rows r.regs (length r.arrays)) x.instrs × IsValidEnd r.regs r.value (length r.blocks) b x.end
    × AreValidBlocks rows r (b + 1) xs

-- a valid routine, with these shapes
pub record IsValid (rows : List ShapeRow) (r : RoutineParts) : Type 0 where
  pub params : r.params ≤ r.regs
  pub blocks : AreValidBlocks rows r 0 r.blocks
  pub some_block : 0 < length r.blocks

-- the shapes are exactly those of the objects and the routines
pub record HasShapesOf (rows : List ShapeRow) (os : List ObjectParts) (rs : List RoutineParts) : Type 0 where
  pub count : length rows ≡ length os + length rs
  pub objects : AllByRecursion (λ o. shape_at rows o.pid ≡ Some (shape.Object o.words)) os
  pub routines : AllByRecursion (λ r. shape_at rows r.pid ≡ Some (shape.Routine r.params r.value)) rs

-- no two rows have one name
abbrev pub HasEachNameOnce : List ShapeRow → Type 0
HasEachNameOnce [] = ⊤
HasEachNameOnce (row ∷ rows) = AllByRecursion (λ other. other.name ≢ row.name) rows × HasEachNameOnce rows

-- a valid program
pub record IsProgram (p : IlProgram) : Type 0 where
  pub objects : IsRising (λ o. o.pid) p.objects
  pub routines : IsRising (λ r. r.pid) p.routines
  pub rows : IsRising (λ row. row.pid) p.shapes
  pub shapes : HasShapesOf p.shapes p.objects p.routines
  pub names : HasEachNameOnce p.shapes
  pub few : length p.routines ≤ max_routines
  pub pids : AllByRecursion (λ row. IsPid row.pid) p.shapes
  pub words : AllByRecursion (λ o. 0 < o.words) p.objects
  pub each : AllByRecursion (IsValid p.shapes) p.routines
  pub main : (row : ShapeRow) × Contains p.shapes row × (row.name ≡ codes "main") × (row.shape ≡ shape.Routine 0 true)
