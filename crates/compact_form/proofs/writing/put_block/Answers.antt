use Rattle.std.proofs.lemmas.Result.{on_ok_weaker}
use Rattle.compact_form.proofs.Written.{row_form, block_written}
use Rattle.compact_form.proofs.writing.put_block.Goals as goal

pub returns : goal.returns
returns c = on_ok_weaker c.put_row.result (λ e. block_written c.args.block.now _ _ _ _ _ _ c.as_slice-instrs.ensures c.in_ok-put_number.ensures
    c.in_ok-put_instrs.ensures e (row_form _ _ _ _ _ c.of_end-row.ensures.opcode c.of_end-row.ensures.operands)) c.put_row.ensures
