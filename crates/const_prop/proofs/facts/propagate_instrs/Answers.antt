use Rattle.std.proofs.Common.{ap, arith, get_or}
use Rattle.il_core.specs.declared.instr.Instr.{Instr}
use Rattle.const_prop.proofs.Through.{change_step}
use Rattle.const_prop.proofs.facts.propagate_instrs.Goals as goal

pub loop-instr-preserved : goal.loop-instr-preserved
loop-instr-preserved c =
    change_step c.args.instrs.now c.args.table.now c.loop-instr.instr-index _ _ c.loop-instr.table _ c.loop-instr.instrs c.requires
    (omega (arith, c.loop-instr-test.true, c.loop-instr.invariant.count))
    (ap (λ (i : Instr). get_or c.loop-instr.instrs c.loop-instr.instr-index i) c.instr-item.is) c.propagate_instr.ensures.instr
    c.propagate_instr.ensures.facts c.loop-instr.invariant
