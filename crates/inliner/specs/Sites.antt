-- What the block of a call becomes.
use Rattle.std.specs.Prelude.{ℕ, ◌++◌, List, [], ◌∷◌, length}
use Rattle.il_core.specs.declared.instr.Block.{Block}
use Rattle.il_core.specs.declared.instr.End.TheVariants.{Jump}
use Rattle.il_core.specs.declared.instr.Instr.{Instr}
use Rattle.il_core.specs.declared.instr.Instr.TheVariants.{Clear, Turn}
use Rattle.il_core.specs.Routine.{RoutineParts}
use Rattle.il_laws.specs.Splice.{Site, copies, entering, passed, resuming}
use Rattle.inliner.specs.declared.copies.Raise.{Raise}

-- `entering` of il_laws by its parts
abbrev pub entered : List Instr → List ℕ → RoutineParts → Raise → ℕ → Block
entered before args q by first =
    record { instrs = before ++ Turn ∷ Clear by.regs q.regs by.arrays (length q.arrays) ∷ passed by.regs args; end = Jump first }

-- the blocks that stand in the place of a site's block, in a caller with r registers and a arrays
abbrev pub site_blocks : ℕ → ℕ → Site → RoutineParts → List Block
site_blocks r a s q = entering r a s q ∷ (copies r a s q ++ resuming s (length q.blocks) ∷ [])
