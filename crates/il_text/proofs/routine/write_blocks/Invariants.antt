use Rattle.std.proofs.Common.{◌≡◌, ◌++◌, drop}
use Rattle.std.specs.Prelude.{string_bytes}
use Rattle.il_core.specs.Text.{blocks_text}
use Rattle.il_text.proofs.routine.write_blocks.Given as goal

abbrev pub invariant-loop-number : goal.invariant-loop-number
invariant-loop-number l = string_bytes l.out ++ blocks_text l.number (drop l.number l.blocks) ≡ string_bytes l.initial.out ++ blocks_text 0 l.blocks
