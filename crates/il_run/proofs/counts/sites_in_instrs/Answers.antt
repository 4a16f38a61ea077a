use Rattle.std.proofs.Common.{arith, ◌∙◌}
use Rattle.il_run.proofs.Numbers.{sites_more, sites_all}
use Rattle.il_run.proofs.counts.sites_in_instrs.Goals as goal

pub loop-instr-preserved : goal.loop-instr-preserved
loop-instr-preserved c = record {
  count = sites_more c.args.instrs.now c.loop-instr.instr-index c.instr-item.result c.loop-instr.count c.sites_at.result c.loop-instr-test.true c.instr-item.is
      c.loop-instr.invariant.count c.sites_at.ensures.count;
  few = omega (arith, c.loop-instr.invariant.few, c.sites_at.ensures.few);
}

pub returns-clause-count : goal.returns-clause-count
returns-clause-count c = c.loop-instr.invariant.count ∙ sites_all c.args.instrs.now c.loop-instr.instr-index c.loop-instr-test.false
