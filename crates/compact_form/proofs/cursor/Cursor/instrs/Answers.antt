use Rattle.std.proofs.Common.{rules, ◌-◌, ◌+◌, arith}
use Rattle.il_core.specs.Limits.{max_size}
use Rattle.compact_form.specs.Reading.{read_instr}
use Rattle.compact_form.specs.Lists.{missing, one_more, within}
use Rattle.compact_form.proofs.cursor.Cursor.instrs.Goals as goal

pub items-preserved : goal.items-preserved
items-preserved c = one_more _ read_instr c.args.count (c.args.count - c.items.counter) (c.args.count - (c.items.counter + 1)) c.args.self.now.rest.now
    c.items.self.rest.now c.instr.new.self.rest.now c.items.instrs.items c.push.new.self.items _ c.items.invariant (omega arith) c.in_ok-instr.ensures.found
    c.in_ok-push.ensures.items

pub returns-in_err-instr-clause-none : goal.returns-in_err-instr-clause-none
returns-in_err-instr-clause-none c = λ is. within read_instr max_size c.args.count c.args.self.now.rest.now _ c.if-count-gt-SIZE.false
    (missing read_instr c.args.count (c.args.count - c.items.counter) (c.args.count - (c.items.counter + 1)) c.args.self.now.rest.now c.items.self.rest.now
    c.items.instrs.items c.items.invariant (omega arith) (c.in_err-instr.ensures.none (search rules)))
