use Rattle.std.proofs.Common.{◌-◌}
use Rattle.compact_form.specs.Reading.{read_instr}
use Rattle.compact_form.specs.Lists.{SoFar}
use Rattle.compact_form.proofs.cursor.Cursor.instrs.Given as goal

abbrev pub invariant-items : goal.invariant-items
invariant-items l = SoFar read_instr l.fn.count (l.fn.count - l.counter) l.fn.self.rest.now l.self.rest.now l.instrs.items
