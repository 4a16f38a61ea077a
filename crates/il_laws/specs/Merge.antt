-- Blocks merged: one that ends with a jump takes in the block that it alone goes to.
use Rattle.std.specs.Prelude.{ℕ, zero, suc, ◌&&◌, Bool, true, false, List, [], ◌∷◌, ◌++◌, length, Option, Some, None, map, nat_eq, nat_le}
use Rattle.std.specs.Prelude.{if◌then◌else◌, slice_get}
use Rattle.il_core.specs.declared.instr.Block.{Block}
use Rattle.il_core.specs.declared.instr.End.{End}
use Rattle.il_core.specs.declared.instr.End.TheVariants as ends
use Rattle.il_core.specs.Routine.{RoutineParts}
use Rattle.il_laws.specs.Edges.{all_edges}
use Rattle.il_laws.specs.Renumber.{renumbered}

-- an end that block b may take over
abbrev pub may_end : ℕ → End → Bool
may_end b (ends.Loop u) = nat_le u b
may_end b _ = true

-- the instructions and the end of another block in place of a jump
abbrev pub joined : Block → Block → Block
joined x y = record { instrs = x.instrs ++ y.instrs; end = y.end }

abbrev pub set_block : List Block → ℕ → Block → List Block
set_block [] b y = []
set_block (x ∷ xs) zero y = y ∷ xs
set_block (x ∷ xs) (suc b) y = x ∷ set_block xs b y

-- all blocks but block t
abbrev pub all_but : ℕ → List Block → List Bool
all_but t [] = []
all_but zero (x ∷ xs) = false ∷ map (λ (y : Block). true) xs
all_but (suc t) (x ∷ xs) = true ∷ all_but t xs

-- the block that block b merges with, and its number
pub record NextBlock : Type 0 where
  pub number : ℕ
  pub block : Block

abbrev pub next_if : ℕ → ℕ → List Block → Option Block → Option NextBlock
next_if b t bs None = None
next_if b t bs (Some y) = if nat_eq (all_edges bs t) 1 && may_end b y.end then Some (record { number = t; block = y }) else None

abbrev pub next_at_end : ℕ → List Block → End → Option NextBlock
next_at_end b bs (ends.Jump t) = next_if b t bs (slice_get bs t)
next_at_end b bs _ = None

abbrev pub merged_with : List Block → ℕ → Block → NextBlock → List Block
merged_with bs b x next = renumbered (all_but next.number bs) (set_block bs b (joined x next.block))

-- what block b becomes in one step, and where to go on: at b again, or at the next block
pub record Merging : Type 0 where
  pub blocks : List Block
  pub at : ℕ

abbrev pub merge_next : ℕ → List Block → Block → Option NextBlock → Merging
merge_next b bs x None = record { blocks = bs; at = suc b }
merge_next b bs x (Some next) = record { blocks = merged_with bs b x next; at = b }

abbrev pub merge_step : ℕ → List Block → Option Block → Merging
merge_step b bs None = record { blocks = bs; at = suc b }
merge_step b bs (Some x) = merge_next b bs x (next_at_end b bs x.end)

-- Blocks are merged from block b upwards, while they can be. Each step goes to the next block or takes one away, so as
-- many steps as there are blocks do.
abbrev pub merge_from : ℕ → Merging → List Block
merge_from zero m = m.blocks
merge_from (suc left) m = merge_from left (merge_step m.at m.blocks (slice_get m.blocks m.at))

abbrev pub merge_blocks : RoutineParts → RoutineParts
merge_blocks r = record r { blocks = merge_from (length r.blocks) (record { blocks = r.blocks; at = 0 }) }
