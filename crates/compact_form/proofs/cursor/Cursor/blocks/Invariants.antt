use Rattle.std.proofs.Common.{◌-◌}
use Rattle.compact_form.specs.Reading.{read_block}
use Rattle.compact_form.specs.Lists.{SoFar}
use Rattle.compact_form.proofs.cursor.Cursor.blocks.Given as goal

abbrev pub invariant-items : goal.invariant-items
invariant-items l = SoFar read_block l.fn.count (l.fn.count - l.counter) l.fn.self.rest.now l.self.rest.now l.blocks.items
