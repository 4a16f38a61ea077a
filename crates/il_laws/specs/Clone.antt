-- Copies of a routine for calls of which some arguments are known.
use Rattle.std.specs.Prelude.{ℕ, suc, Bool, true, false, List, [], ◌∷◌, ◌++◌, map}
use Rattle.hlo_num.specs.declared.word.Word.{Word}
use Rattle.il_core.specs.declared.instr.Block.{Block}
use Rattle.il_core.specs.declared.instr.Instr.{Instr}
use Rattle.il_core.specs.declared.instr.Instr.TheVariants.{Const}
use Rattle.il_core.specs.declared.instr.End.TheVariants as ends
use Rattle.il_core.specs.Routine.{RoutineParts}
use Rattle.il_core.specs.Operands.{retargeted_block}
use Rattle.il_laws.specs.Facts.{looped}

-- a parameter with its constant
pub record Fixed : Type 0 where
  pub param : ℕ
  pub word : Word

-- one `const` for each, in order
abbrev pub constants : List Fixed → List Instr
constants [] = []
constants (x ∷ xs) = Const x.param x.word ∷ constants xs

-- The constants stand at the start of block 0 where no `loop` goes there, and else in a new block 0 before it.
abbrev pub clone_blocks : Bool → List Fixed → List Block → List Block
clone_blocks is_looped fixed [] = []
clone_blocks true fixed (x ∷ xs) =
    record { instrs = constants fixed; end = ends.Jump 1 } ∷ map (retargeted_block suc) (x ∷ xs)
clone_blocks false fixed (x ∷ xs) = record { instrs = constants fixed ++ x.instrs; end = x.end } ∷ xs

-- A routine's clone: its copy under another PID that begins with these constants.
abbrev pub make_clone : RoutineParts → ℕ → List Fixed → RoutineParts
make_clone r pid fixed = record r { pid = pid; blocks = clone_blocks (looped r.blocks 0) fixed r.blocks }
