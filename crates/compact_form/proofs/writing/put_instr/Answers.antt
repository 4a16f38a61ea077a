use Rattle.std.proofs.Common.{◌++◌, ◌∙◌, ap}
use Rattle.std.proofs.lemmas.Result.{on_ok_weaker}
use Rattle.compact_form.proofs.Written.{row_form}
use Rattle.compact_form.proofs.writing.put_instr.Goals as goal

pub returns : goal.returns
returns c = on_ok_weaker c.put_row.result (λ e. e ∙ ap (λ l. c.args.out.now.items ++ l)
    (row_form _ _ _ _ _ c.of_instr-row.ensures.opcode c.of_instr-row.ensures.operands)) c.put_row.ensures
