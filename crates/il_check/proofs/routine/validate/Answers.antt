use Rattle.std.proofs.Common.{◌∙◌, sym}
use Rattle.il_check.proofs.ValidRoutines.{tells_valid, past_start}
use Rattle.il_check.proofs.routine.validate.Goals as goal

pub returns-clause-valid : goal.returns-clause-valid
returns-clause-valid c = tells_valid c.args.shapes.now c.args.r.now c.blocks_flaw.result
    (c.blocks_flaw.ensures ∙ sym (past_start c.args.shapes.now c.args.r.now (rw (← c.r.view_is) c.if-r.false)
    (rw (← c.r.view_is) (sym c.is_empty.ensures ∙ c.if-is_empty.false))))
