-- What contracts see of a routine.
use Rattle.std.specs.Prelude.{ℕ, Bool, List}
use Rattle.il_core.specs.declared.instr.Block.{Block}

pub record RoutineParts : Type 0 where
  pub pid : ℕ
  pub params : ℕ
  pub value : Bool
  pub regs : ℕ
  pub entry : ℕ
  pub arrays : List ℕ
  pub blocks : List Block
