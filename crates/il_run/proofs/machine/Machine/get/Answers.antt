use Rattle.il_run.proofs.Steps.{get_moves}
use Rattle.il_run.proofs.machine.Machine.get.Goals as goal

pub returns : goal.returns
returns c = get_moves _ _ c.requires.tabled _ c.requires.sound _ c.requires.next c.requires.reg
