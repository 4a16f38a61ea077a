use Rattle.il_laws.specs.Propagate.{propagated_block}
use Rattle.const_prop.proofs.BlockSteps.{Going}
use Rattle.const_prop.proofs.constants.propagate_blocks.Given as goal

abbrev pub invariant-loop-b : goal.invariant-loop-b
invariant-loop-b l = Going propagated_block l.fn.flow.regs l.fn.flow.params l.fn.blocks l.b l.flow l.table l.blocks
