use Rattle.std.proofs.Common.{ℕ, ◌-◌, ◌+◌, arith}
use Rattle.compact_form.specs.Reading.{read_number}
use Rattle.compact_form.specs.Lists.{one_more}
use Rattle.compact_form.proofs.cursor.Cursor.numbers.Goals as goal

pub items-preserved : goal.items-preserved
items-preserved c = one_more ℕ read_number c.args.count (c.args.count - c.items.counter) (c.args.count - (c.items.counter + 1)) c.args.self.now.rest.now
    c.items.self.rest.now c.number.new.self.rest.now c.items.numbers.items c.push.new.self.items _ c.items.invariant (omega arith) c.in_ok-number.ensures.found
    c.in_ok-push.ensures.items
