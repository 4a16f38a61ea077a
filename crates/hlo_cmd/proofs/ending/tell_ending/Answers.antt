use Rattle.std.proofs.Common.{sym, ap}
use Rattle.hlo_cmd.specs.Messages.{ending_line}
use Rattle.hlo_cmd.proofs.Fronts.{says}
use Rattle.hlo_cmd.proofs.ending.tell_ending.Goals as goal

pub returns-in-OutOfTurns : goal.returns-in-OutOfTurns
returns-in-OutOfTurns g c = says _ _ _ _ _ _ _ (ap ending_line (sym c.in-OutOfTurns.is)) c.write_all.ensures.bytes c.write_all.ensures.cause
