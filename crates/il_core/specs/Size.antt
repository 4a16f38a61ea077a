-- How large routines and programs are.
use Rattle.std.specs.Prelude.{ℕ, ◌+◌, ◌*◌, ◌^◌, List, length, sum_by}
use Rattle.il_core.specs.declared.instr.Block.{Block}
use Rattle.il_core.specs.declared.instr.Instr.{Instr}
use Rattle.il_core.specs.declared.instr.Instr.TheVariants.{Call}
use Rattle.il_core.specs.Routine.{RoutineParts}

-- the instructions and the end
abbrev pub block_size : Block → ℕ
block_size b = length b.instrs + 1

abbrev pub blocks_size : List Block → ℕ
blocks_size bs = sum_by block_size bs

-- instructions plus ends
abbrev pub size : RoutineParts → ℕ
size r = blocks_size r.blocks

-- the arguments of a call
abbrev pub arguments : Instr → ℕ
arguments (Call dest callee count args) = length args
arguments _ = 0

abbrev pub block_arguments : Block → ℕ
block_arguments b = sum_by arguments b.instrs

abbrev pub blocks_arguments : List Block → ℕ
blocks_arguments bs = sum_by block_arguments bs

-- the stated bytes of a routine in its expanded form
abbrev pub charge : RoutineParts → ℕ
charge r = 64 + 16 * length r.blocks + 32 * size r + 8 * blocks_arguments r.blocks + 8 * length r.arrays

-- the cost of a program: the squares of its routines' sizes
abbrev pub cost : List RoutineParts → ℕ
cost rs = sum_by (λ r. size r ^ 2) rs
