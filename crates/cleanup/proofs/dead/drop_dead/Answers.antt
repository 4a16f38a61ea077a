use Rattle.std.proofs.Common.{◌*◌, arith, length}
use Rattle.cleanup.proofs.Thinning.{blocks_wide, ends_wide}
use Rattle.cleanup.proofs.dead.drop_dead.Goals as goal

pub read_anywhere-requires-clause-named : goal.read_anywhere-requires-clause-named
read_anywhere-requires-clause-named c =
    blocks_wide c.args.regs (64 * c.div_ceil-width.result) (let h = c.div_ceil-width.ensures in omega arith) c.args.blocks.now c.requires.named

pub read_anywhere-requires-clause-ends : goal.read_anywhere-requires-clause-ends
read_anywhere-requires-clause-ends c =
    ends_wide c.args.regs (64 * c.div_ceil-width.result) (let h = c.div_ceil-width.ensures in omega arith) c.args.blocks.now c.requires.ends

pub thin_blocks-requires-clause-named : goal.thin_blocks-requires-clause-named
thin_blocks-requires-clause-named c =
    blocks_wide c.args.regs (64 * length c.as_mut_slice.result.now)
    (let h = c.div_ceil-width.ensures in let e = c.as_mut_slice.ensures.len in let s = c.in_ok-set.ensures.len in omega arith) c.args.blocks.now
    c.requires.named

pub thin_blocks-requires-clause-ends : goal.thin_blocks-requires-clause-ends
thin_blocks-requires-clause-ends c =
    ends_wide c.args.regs (64 * length c.as_mut_slice.result.now)
    (let h = c.div_ceil-width.ensures in let e = c.as_mut_slice.ensures.len in let s = c.in_ok-set.ensures.len in omega arith) c.args.blocks.now
    c.requires.ends
