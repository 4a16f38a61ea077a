use Rattle.std.proofs.Common.{length, take, ap, arith, length-append}
use Rattle.il_core.specs.World.{each}
use Rattle.il_run.specs.Plain.{frame_in}
use Rattle.il_run.proofs.Entering.{argument_in, argument_more, arguments_length}
use Rattle.il_run.proofs.store.Store.enter.Goals as goal

pub reg-v-requires : goal.reg-v-requires
reg-v-requires c = omega (
  arith,
  argument_in c.args.args.now c.loop-x.x-index c.args.r.now.regs c.requires.args c.loop-x-test.true,
  ap length
      c.loop-x.invariant.regs,
  length-append c.args.self.now.regs.items
      (each (frame_in c.args.self.now c.args.r.now).regs (take c.loop-x.x-index c.args.args.now)),
)

pub loop-x-preserved : goal.loop-x-preserved
loop-x-preserved c = record {
  regs = argument_more c.args.self.now.regs.items c.loop-x.self.regs.items c.push.new.self.items c.args.args.now c.args.self.now.at_regs c.args.r.now.regs
      c.loop-x.x-index c.reg-v.result c.requires.args c.loop-x-test.true (omega arith) c.loop-x.invariant.regs (rw c.loop-x.invariant.begins at c.reg-v.ensures)
      c.in_ok-push.ensures.items;
  elements = c.loop-x.invariant.elements;
  words = c.loop-x.invariant.words;
  begins = c.loop-x.invariant.begins;
  at_regs = c.loop-x.invariant.at_regs;
  at_elements = c.loop-x.invariant.at_elements;
}

pub lengthen-requires-clause-fit : goal.lengthen-requires-clause-fit
lengthen-requires-clause-fit c = omega (
  arith,
  arguments_length c.args.self.now.regs.items c.loop-x.self.regs.items c.args.args.now
      (frame_in c.args.self.now c.args.r.now).regs c.loop-x.x-index c.loop-x-test.false c.loop-x.invariant.regs,
)
