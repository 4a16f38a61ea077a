use Rattle.il_check.proofs.FirstBroken.{instr_broken}
use Rattle.il_check.proofs.instrs.instrs_flaw.Goals as goal

pub returns-in-Some : goal.returns-in-Some
returns-in-Some c = instr_broken c.args.shapes.now c.args.regs c.args.arrays c.args.instrs.now c.loop-instr.instr-index c.instr-item.result c.instr_flaw.result
    c.in-Some.flaw c.loop-instr-test.true c.instr-item.is c.loop-instr.invariant c.instr_flaw.ensures c.in-Some.is
