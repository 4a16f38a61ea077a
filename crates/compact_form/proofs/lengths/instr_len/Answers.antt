use Rattle.std.proofs.Common.{ap, arith, length, length-append, flat_map, take}
use Rattle.compact_form.specs.Numbers.{spelled}
use Rattle.compact_form.proofs.Written.{row_form}
use Rattle.compact_form.proofs.lengths.instr_len.Goals as goal

pub returns-clause-len : goal.returns-clause-len
returns-clause-len c = omega (
  arith,
  c.row_len.ensures.len,
  ap length
      (row_form _ _ (take c.of_instr-row.result.count c.of_instr-row.result.numbers) c.of_instr-row.result.args.now _ c.of_instr-row.ensures.opcode
      c.of_instr-row.ensures.operands),
  length-append (flat_map spelled (take c.of_instr-row.result.count c.of_instr-row.result.numbers))
      (flat_map spelled c.of_instr-row.result.args.now),
)
