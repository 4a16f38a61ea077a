-- What templates are made of: the code that follows a place within a routine, and the numbers that stand at a place.
use Rattle.std.specs.Prelude.{ℕ, suc, List, [], ◌∷◌, Bool, true, false}
use Rattle.hlo_num.specs.declared.word.Word.{Word}
use Rattle.il_core.specs.declared.instr.Block.{Block}
use Rattle.il_core.specs.declared.instr.Instr.{Instr}
use Rattle.il_core.specs.declared.instr.End.{End}
use Rattle.il_core.specs.declared.instr.End.TheVariants as ends

-- what is left of a routine from a place within a basic block on: the rest of that block, and the blocks behind it
pub record Code : Type 0 where
  pub here : Block
  pub later : List Block

abbrev pub blocks_of : Code → List Block
blocks_of k = k.here ∷ k.later

-- an instruction in front of code
abbrev pub put : Instr → Code → Code
put i k = record { here = record { instrs = i ∷ k.here.instrs; end = k.here.end }; later = k.later }

-- the end of a block in front of code, which then begins a block of its own
abbrev pub close : End → Code → Code
close e k = record { here = record { instrs = []; end = e }; later = blocks_of k }

-- Numbers are given in order of use: the next register; the basic block that is open, or the one that begins next where
-- none is open; the next call site; and how many instructions and ends stand before.
pub record Numbers : Type 0 where
  pub reg : ℕ
  pub block : ℕ
  pub site : ℕ
  pub size : ℕ

-- behind a new register, an instruction, the end of a block, a call site
abbrev pub past_reg : Numbers → Numbers
past_reg n = record n { reg = suc n.reg }

abbrev pub past_instr : Numbers → Numbers
past_instr n = record n { size = suc n.size }

abbrev pub past_end : Numbers → Numbers
past_end n = record n { block = suc n.block; size = suc n.size }

abbrev pub past_site : Numbers → Numbers
past_site n = record n { site = suc n.site }

-- behind an instruction that gives a new register its word
abbrev pub past_new : Numbers → Numbers
past_new n = past_instr (past_reg n)

-- a label ends a block that is open by a jump to itself, and begins a block
abbrev pub past_label : Bool → Numbers → Numbers
past_label true n = past_end n
past_label false n = n

abbrev pub label : Bool → Numbers → Code → Code
label true n k = close (ends.Jump (suc n.block)) k
label false n k = k

-- a constant in an instruction
abbrev pub word : ℕ → Word
word v = record { 0 = v }
