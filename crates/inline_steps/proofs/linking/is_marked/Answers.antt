use Rattle.inline_steps.proofs.Marks.{mark_past, mark_read}
use Rattle.inline_steps.proofs.linking.is_marked.Goals as goal

pub returns-then-pid-marks : goal.returns-then-pid-marks
returns-then-pid-marks c = mark_read c.args.marks.now c.args.pid

pub returns-else-pid-marks : goal.returns-else-pid-marks
returns-else-pid-marks c = mark_past c.args.marks.now c.args.pid c.if-pid-marks.false
