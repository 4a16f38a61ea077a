use Rattle.std.proofs.Common.{arith}
use Rattle.il_run.proofs.Words.{start_read, start_total}
use Rattle.il_run.proofs.layout.Layout.find.Goals as goal

pub overflow_add-result : goal.overflow_add-result
overflow_add-result c = omega (
  arith,
  start_read _ _ _ _ c.requires.starts (omega arith) c.index-2.ensures,
  start_total c.args.self.now.sizes.items
      c.args.array,
)
