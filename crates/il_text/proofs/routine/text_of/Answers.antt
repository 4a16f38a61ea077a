use Rattle.il_text.proofs.Lines.{name_is_text}
use Rattle.il_text.proofs.routine.text_of.Goals as goal

pub unreachable-requires : goal.unreachable-requires
unreachable-requires c = c.in-Err.ensures.cases.0 (name_is_text c.bytes.result.now c.bytes.ensures.named)
