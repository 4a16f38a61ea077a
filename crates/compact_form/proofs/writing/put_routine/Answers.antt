use Rattle.std.proofs.Common.{◌≤◌, ◌∙◌, ap, sym, subst, arith, length}
use Rattle.std.proofs.lemmas.Result.{on_ok_weaker}
use Rattle.std.specs.List.{AllByRecursion}
use Rattle.il_core.specs.Limits.{max_size}
use Rattle.compact_form.specs.Routines.{few_blocks, small_blocks}
use Rattle.compact_form.proofs.Written.{routine_written}
use Rattle.compact_form.proofs.writing.put_routine.Goals as goal

pub overflow_cast-blocks : goal.overflow_cast-blocks
overflow_cast-blocks c = omega (arith, ap length c.as_slice-blocks.ensures, few_blocks c.routine.inside.blocks, c.routine.invariant.size)

pub put_blocks-requires-clause-sizes : goal.put_blocks-requires-clause-sizes
put_blocks-requires-clause-sizes c = subst (AllByRecursion (λ b. length b.instrs ≤ max_size)) (sym c.as_slice-blocks.ensures)
    (small_blocks c.routine.inside.blocks (omega (arith, c.routine.invariant.size)))

pub returns : goal.returns
returns c = on_ok_weaker c.put_blocks.result (λ e. routine_written c.args.routine.now c.args.out.now.items _ _ _ _ _ c.head_of-head.result
    c.as_slice-arrays.result.now c.as_slice-blocks.result.now (c.as_slice-arrays.ensures ∙ ap (λ r. r.arrays) c.routine.view_is)
    (c.as_slice-blocks.ensures ∙ ap (λ r. r.blocks) c.routine.view_is) c.head_of-head.ensures.numbers c.in_ok-put_numbers.ensures c.in_ok-put_number.ensures
    c.in_ok-put_numbers-2.ensures c.in_ok-put_number-2.ensures e) c.put_blocks.ensures
