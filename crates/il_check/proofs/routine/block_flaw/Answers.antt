use Rattle.il_check.proofs.FirstBroken.{block_broken, end_told}
use Rattle.il_check.proofs.routine.block_flaw.Goals as goal

pub returns-in-Some : goal.returns-in-Some
returns-in-Some c = block_broken c.args.shapes.now c.args.r.now c.args.number c.args.block.now c.len.result c.as_slice.result.now c.instrs_flaw.result
    c.in-Some.flaw (rw (← c.r.view_is) c.len.ensures) c.as_slice.ensures (rw (← c.r.view_is) c.instrs_flaw.ensures) c.in-Some.is

pub returns-in-None : goal.returns-in-None
returns-in-None c = end_told c.args.shapes.now c.args.r.now c.args.number c.args.block.now c.len.result c.len-in-None.result c.as_slice.result.now
    c.instrs_flaw.result c.end_flaw.result (rw (← c.r.view_is) c.len.ensures) c.as_slice.ensures (rw (← c.r.view_is) c.len-in-None.ensures)
    (rw (← c.r.view_is) c.instrs_flaw.ensures) c.in-None.is (rw (← c.r.view_is) c.end_flaw.ensures)
