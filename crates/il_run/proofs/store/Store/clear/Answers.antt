use Rattle.std.proofs.Common.{arith, ◌≤◌, ◌+◌, length}
use Rattle.il_run.proofs.Words.{start_read, start_total, start_rises}
use Rattle.il_run.proofs.store.Store.clear.Goals as goal

pub overflow_add-base : goal.overflow_add-base
overflow_add-base c = omega (arith, start_read _ _ _ _ c.requires.starts (omega arith) c.index-from.ensures, start_total c.args.arrays.now.sizes.items c.args.a)

pub overflow_add-base-2 : goal.overflow_add-base-2
overflow_add-base-2 c = omega (
  arith,
  start_read _ _ _ _ c.requires.starts c.requires.arrays c.index-to.ensures,
  start_total c.args.arrays.now.sizes.items
      (c.args.a + c.args.m),
)

pub zero-requires-2-clause-order : goal.zero-requires-2-clause-order
zero-requires-2-clause-order c = omega (
  arith,
  start_read _ _ _ _ c.requires.starts (omega arith) c.index-from.ensures,
  start_read _ _ _ _ c.requires.starts
      c.requires.arrays c.index-to.ensures,
  start_rises c.args.arrays.now.sizes.items c.args.a c.args.m,
)

pub zero-requires-2-clause-within : goal.zero-requires-2-clause-within
zero-requires-2-clause-within c =
    let within : c.args.self.now.at_elements + c.index-to.result.now ≤ length c.args.self.now.elements.items =
    omega (
      arith,
      start_read _ _ _ _ c.requires.starts c.requires.arrays c.index-to.ensures,
      start_total c.args.arrays.now.sizes.items
          (c.args.a + c.args.m),
    ) in
    within
