use Rattle.std.proofs.Common.{◌≡◌, ◌*◌, ◌≤◌, take}
use Rattle.il_core.specs.Limits.{max_parameters}
use Rattle.il_core.specs.Size.{blocks_arguments, blocks_size}
use Rattle.il_core.proofs.routine.arguments_of_blocks.Given as goal

abbrev pub invariant-loop-block : goal.invariant-loop-block
invariant-loop-block l = record {
  counted : l.arguments ≡ blocks_arguments (take l.block-index l.blocks);
  few : l.arguments ≤ max_parameters * blocks_size (take l.block-index l.blocks);
}
