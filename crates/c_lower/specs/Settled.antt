-- A draft in which labels are blocks.
use Rattle.std.specs.Prelude.{ℕ}
use Rattle.il_core.specs.declared.instr.Block.{Block}
use Rattle.il_core.specs.declared.instr.End.{End}
use Rattle.il_core.specs.declared.instr.End.TheVariants as ends

-- an end with the block of each label that it names
abbrev pub settle : (ℕ → ℕ) → End → End
settle f (ends.Jump l) = ends.Jump (f l)
settle f (ends.Branch x a b) = ends.Branch x (f a) (f b)
settle f (ends.Loop l) = ends.Loop (f l)
settle f (ends.Return r) = ends.Return r
settle f (ends.Exit x) = ends.Exit x

abbrev pub settled : (ℕ → ℕ) → Block → Block
settled f b = record { instrs = b.instrs; end = settle f b.end }
