use Rattle.std.proofs.Common.{◌-◌}
use Rattle.compact_form.specs.Reading.{read_number}
use Rattle.compact_form.specs.Lists.{SoFar}
use Rattle.compact_form.proofs.cursor.Cursor.numbers.Given as goal

abbrev pub invariant-items : goal.invariant-items
invariant-items l = SoFar read_number l.fn.count (l.fn.count - l.counter) l.fn.self.rest.now l.self.rest.now l.numbers.items
