-- What a callee's copy reads: registers, local arrays and blocks that the callee has.
use Rattle.std.specs.Prelude.{ℕ, ◌+◌, ◌<◌, ◌≤◌, ⊤}
use Rattle.std.specs.List.{AllByRecursion}
use Rattle.il_core.specs.declared.instr.Block.{Block}
use Rattle.il_core.specs.declared.instr.End.{End}
use Rattle.il_core.specs.declared.instr.End.TheVariants as ends
use Rattle.il_core.specs.declared.instr.Instr.{Instr}
use Rattle.il_core.specs.declared.instr.Instr.TheVariants.{GetA, SetA, Clear}
use Rattle.il_core.specs.Limits.{max_arrays, max_registers, max_size}
use Rattle.il_core.specs.Operands.{Names}
use Rattle.il_core.specs.Valid.{IsRegIfSome}
use Rattle.il_laws.specs.Splice.{raised}
use Rattle.const_prop.specs.Tables.{NamesRegisters}
use Rattle.inliner.specs.declared.copies.Raise.{Raise}

-- the names of a callee in its caller
abbrev pub names_of : Raise → Names
names_of by = raised by.regs by.arrays by.count by.entry

-- a routine has no more blocks than this
abbrev pub few_blocks : ℕ
few_blocks = max_size

-- the local arrays that an instruction names are among the first n
abbrev pub NamesArrays : ℕ → Instr → Type 0
NamesArrays n (GetA d a i) = a < n
NamesArrays n (SetA a i s) = a < n
NamesArrays n (Clear r c a m) = a + m ≤ n
NamesArrays n _ = ⊤

-- the blocks that an end names are among the first n
abbrev pub NamesBlocks : ℕ → End → Type 0
NamesBlocks n (ends.Jump t) = t < n
NamesBlocks n (ends.Branch r t u) = (t < n) × (u < n)
NamesBlocks n (ends.Loop t) = t < n
NamesBlocks n (ends.Return r) = ⊤
NamesBlocks n (ends.Exit r) = ⊤

-- the register that an end reads is among the first n
abbrev pub ReadsRegister : ℕ → End → Type 0
ReadsRegister n (ends.Branch r t u) = r < n
ReadsRegister n (ends.Return r) = IsRegIfSome n r
ReadsRegister n (ends.Exit r) = r < n
ReadsRegister n _ = ⊤

-- an instruction, and a block, of a routine with so many registers, arrays and blocks at most
abbrev pub IsCopied : ℕ → ℕ → Instr → Type 0
IsCopied regs arrays i = NamesRegisters regs i × NamesArrays arrays i

pub record IsCopiedBlock (regs arrays blocks : ℕ) (x : Block) : Type 0 where
  pub instrs : AllByRecursion (IsCopied regs arrays) x.instrs
  pub reads : ReadsRegister regs x.end
  pub targets : NamesBlocks blocks x.end

-- what a caller's registers and local arrays raise by
pub record IsRaise (by : Raise) : Type 0 where
  pub regs : by.regs ≤ max_registers
  pub arrays : by.arrays ≤ max_arrays
