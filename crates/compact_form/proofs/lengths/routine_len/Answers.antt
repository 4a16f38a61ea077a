use Rattle.std.proofs.Common.{◌∙◌, ap, arith, length}
use Rattle.compact_form.specs.Routines.{few_blocks}
use Rattle.compact_form.proofs.Written.{routine_measured}
use Rattle.compact_form.proofs.lengths.routine_len.Goals as goal

pub overflow_cast-blocks : goal.overflow_cast-blocks
overflow_cast-blocks c = omega (arith, ap length c.as_slice-blocks.ensures, few_blocks c.routine.inside.blocks, c.routine.invariant.size)

pub returns : goal.returns
returns c = routine_measured c.args.routine.now c.head_of-head.result c.as_slice-arrays.result.now c.as_slice-blocks.result.now _ _ _ _ _
    c.head_of-head.ensures.numbers (c.as_slice-arrays.ensures ∙ ap (λ r. r.arrays) c.routine.view_is)
    (c.as_slice-blocks.ensures ∙ ap (λ r. r.blocks) c.routine.view_is) c.numbers_len-2.ensures.len c.number_len.ensures.len c.numbers_len.ensures.len
    c.number_len-2.ensures.len c.blocks_len.ensures.len
