-- The registers that ends of blocks read.
use Rattle.std.specs.Prelude.{ℕ, List}
use Rattle.std.specs.List.{AllByRecursion}
use Rattle.il_core.specs.declared.instr.Block.{Block}
use Rattle.il_core.specs.declared.instr.End.{End}
use Rattle.il_core.specs.Operands.{end_source}
use Rattle.il_core.specs.Valid.{IsRegIfSome}

-- the register that an end reads is among so many
abbrev pub ReadsRegister : ℕ → End → Type 0
ReadsRegister n e = IsRegIfSome n (end_source e)

abbrev pub EndsRead : ℕ → List Block → Type 0
EndsRead n bs = AllByRecursion (λ b. ReadsRegister n b.end) bs
