use Rattle.std.proofs.Common.{refl}
use Rattle.il_run.proofs.Steps.{put_moves}
use Rattle.il_run.proofs.machine.Machine.put.Goals as goal

pub returns : goal.returns
returns c = put_moves _ _ c.requires.tabled _ c.requires.sound _ _ _ _ _ c.requires.next c.requires.reg c.requires.source c.reg-v.ensures refl c.set.ensures
