use Rattle.std.proofs.Common.{◌∷◌, ◌++◌, arith, length-append, flat_map, take}
use Rattle.compact_form.specs.Numbers.{spelled}
use Rattle.compact_form.proofs.Written.{row_form, block_measured}
use Rattle.compact_form.proofs.lengths.block_len.Goals as goal

pub returns-clause-len : goal.returns-clause-len
returns-clause-len c =
    let numbers = take c.of_end-row.result.count c.of_end-row.result.numbers in
    let args = c.of_end-row.result.args.now in
    block_measured c.args.block.now c.as_slice-instrs.result.now (c.of_end-row.result.opcode ∷ (flat_map spelled numbers ++ flat_map spelled args)) _ _ _
    c.as_slice-instrs.ensures (row_form _ _ numbers args _ c.of_end-row.ensures.opcode c.of_end-row.ensures.operands) c.number_len.ensures.len
    c.instrs_len.ensures.len (omega (arith, c.row_len.ensures.len, length-append (flat_map spelled numbers) (flat_map spelled args)))
