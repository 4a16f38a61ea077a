-- A valid routine calls only routines that stand.
use Rattle.std.proofs.Common.{ℕ, ◌+◌, List, [], ◌∷◌, length}
use Rattle.std.specs.List.{AllByRecursion}
use Rattle.il_core.specs.declared.instr.Block.{Block}
use Rattle.il_core.specs.declared.instr.Instr.{Instr}
use Rattle.il_core.specs.declared.instr.Instr.TheVariants.{Const, Move, Conv, Bin, Get, Set, GetX, SetX, GetA, SetA, Clear, Turn, Call, GetChar, PutChar}
use Rattle.il_core.specs.declared.program.IlProgram.{IlProgram}
use Rattle.il_core.specs.Routine.{RoutineParts}
use Rattle.il_core.specs.Valid.{IsProgram, IsValid, IsValidInstr, AreValidBlocks, is_wanted}
use Rattle.il_core.proofs.Programs.{callee_fits}
use Rattle.il_laws.specs.Keeping.{Stands}
use Rattle.il_laws.specs.Runs.{IsCallIn, CallsIn, BlocksCallIn}

module _ (p : IlProgram) (valid : IsProgram p) where
  call_stands : (regs arrays : ℕ) (i : Instr) → IsValidInstr p.shapes regs arrays i → IsCallIn (Stands p) i
  call_stands regs arrays (Call dest x count args) h =
      let callee = callee_fits p valid x (length args) (is_wanted dest) h.2 in
      record { routine = callee.routine; is = callee.is }
  call_stands regs arrays (Const d v) h = tt
  call_stands regs arrays (Move d s) h = tt
  call_stands regs arrays (Conv d t s) h = tt
  call_stands regs arrays (Bin o d a b) h = tt
  call_stands regs arrays (Get d g) h = tt
  call_stands regs arrays (Set g s) h = tt
  call_stands regs arrays (GetX d g i) h = tt
  call_stands regs arrays (SetX g i s) h = tt
  call_stands regs arrays (GetA d a i) h = tt
  call_stands regs arrays (SetA a i s) h = tt
  call_stands regs arrays (Clear r c a m) h = tt
  call_stands regs arrays Turn h = tt
  call_stands regs arrays (GetChar d) h = tt
  call_stands regs arrays (PutChar d s) h = tt

  calls_stand : (regs arrays : ℕ) (is : List Instr) → AllByRecursion (IsValidInstr p.shapes regs arrays) is → CallsIn (Stands p) is
  calls_stand regs arrays [] h = tt
  calls_stand regs arrays (i ∷ is) h = (call_stands regs arrays i h.0, calls_stand regs arrays is h.1)

  blocks_stand : (r : RoutineParts) (b : ℕ) (xs : List Block) → AreValidBlocks p.shapes r b xs → BlocksCallIn (Stands p) xs
  blocks_stand r b [] h = tt
  blocks_stand r b (x ∷ xs) h = (calls_stand r.regs (length r.arrays) x.instrs h.0, blocks_stand r (b + 1) xs h.2)

  -- a valid routine calls only routines that stand
  pub valid_calls : (r : RoutineParts) → IsValid p.shapes r → BlocksCallIn (Stands p) r.blocks
  valid_calls r h = blocks_stand r 0 r.blocks h.blocks
