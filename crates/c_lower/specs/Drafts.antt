-- The draft of a routine: the code that is written so far, in which the ends of blocks name labels where a routine
-- names blocks. A label is a place of a list, which says the label's block once the block is known.
use Rattle.std.specs.Prelude.{ℕ, suc, Bool, true, false, List, [], ◌∷◌, ◌++◌, length, slice_index, slice_set}
use Rattle.il_core.specs.declared.instr.Block.{Block}
use Rattle.il_core.specs.declared.instr.Instr.{Instr}
use Rattle.il_core.specs.declared.instr.End.{End}
use Rattle.il_core.specs.declared.instr.End.TheVariants as ends
use Rattle.lower_laws.specs.Code.{Numbers}
use Rattle.lower_laws.specs.Layouts.{Outline, Layout}

-- the blocks that are finished, the instructions of the one that is open, the block of each label, and the register of
-- each local that is declared so far
pub record Draft : Type 0 where
  pub done : List Block
  pub here : List Instr
  pub targets : List ℕ
  pub locals : List ℕ

-- a draft with the numbers that stand behind it
pub record Writing : Type 0 where
  pub numbers : Numbers
  pub draft : Draft

-- behind an instruction, and behind the end of a block
unfoldable pub write : Instr → Draft → Draft
write i s = record s { here = s.here ++ i ∷ [] }

unfoldable pub finish : End → Draft → Draft
finish e s = record s { done = s.done ++ record { instrs = s.here; end = e } ∷ []; here = [] }

-- the label that comes next, and behind it, where it is known to stand at block b or where b stands in for its block
unfoldable pub next_label : Draft → ℕ
next_label s = length s.targets

unfoldable pub mark : ℕ → Draft → Draft
mark b s = record s { targets = s.targets ++ b ∷ [] }

-- label l stands at block b
unfoldable pub reach : ℕ → ℕ → Draft → Draft
reach l b s = record s { targets = slice_set s.targets l b }

-- the next local has register r
unfoldable pub declare : ℕ → Draft → Draft
declare r s = record s { locals = s.locals ++ r ∷ [] }

-- what is fixed for a function besides the registers of its locals
pub record Fixed : Type 0 where
  pub outline : Outline
  pub array : ℕ → ℕ
  pub count : ℕ → ℕ

-- the layout with these registers of locals
abbrev pub layout_with : Fixed → (ℕ → ℕ) → Layout
layout_with y register = record { outline = y.outline; register = register; array = y.array; count = y.count }

-- the layout as far as locals are declared
unfoldable pub layout_now : Fixed → Draft → Layout
layout_now y s = layout_with y (slice_index s.locals)

-- a jump to the block that begins next, where a block is open
abbrev pub begin_block : Bool → Numbers → Draft → Draft
begin_block true n s = finish (ends.Jump (next_label s)) (mark (suc n.block) s)
begin_block false n s = s

-- the end of a block that goes on in the next block where register x isn't 0, and else at label l
abbrev pub branch : ℕ → ℕ → Numbers → Draft → Draft
branch x l n s = finish (ends.Branch x (next_label s) l) (mark (suc n.block) s)
