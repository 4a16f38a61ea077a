use Rattle.std.proofs.Common.{ℕ, List, arith, ap, sym, ◌∙◌, zero-add, ◌++◌}
use Rattle.il_run.proofs.Numbers.{next_more, next_all, numbers_more, numbers_done}
use Rattle.il_run.proofs.numbering.number.Goals as goal

pub loop-instr-init : goal.loop-instr-init
loop-instr-init c = record { next = sym (zero-add c.args.first); few = omega arith; added = Rattle.std.proofs.Common.refl }

pub loop-instr-preserved : goal.loop-instr-preserved
loop-instr-preserved c = record {
  next = next_more c.args.instrs.now c.loop-instr.instr-index c.instr-item.result c.args.first c.loop-instr.next c.sites_at-next.result c.loop-instr-test.true
      c.instr-item.is c.loop-instr.invariant.next c.sites_at-next.ensures.count;
  few = omega (arith, c.loop-instr.invariant.few, c.sites_at-next.ensures.few);
  added = numbers_more c.args.instrs.now c.loop-instr.instr-index c.instr-item.result c.loop-instr.next c.sites_at-next.result c.loop-instr.numbers.items
      c.push.new.self.items _ c.loop-instr-test.true c.instr-item.is c.sites_at-next.ensures.count c.in_ok-push.ensures.items c.loop-instr.invariant.added;
}

pub returns-clause-next : goal.returns-clause-next
returns-clause-next c = c.loop-instr.invariant.next ∙ next_all c.args.instrs.now c.loop-instr.instr-index c.args.first c.loop-instr-test.false

pub returns-clause-added : goal.returns-clause-added
returns-clause-added c = numbers_done c.args.instrs.now c.loop-instr.instr-index c.loop-instr.next c.loop-instr.numbers.items _ c.loop-instr-test.false
    c.loop-instr.invariant.added
