use Rattle.std.proofs.Common.{arith}
use Rattle.il_run.proofs.Steps.{turn_moves, turn_ends}
use Rattle.il_run.proofs.machine.Machine.take_turn.Goals as goal

pub returns-then-self-eq0 : goal.returns-then-self-eq0
returns-then-self-eq0 c = (turn_ends _ _ c.requires.tabled _ c.requires.sound c.requires.next c.if-self-eq0.true).by

pub returns : goal.returns
returns c = turn_moves _ _ c.requires.tabled _ c.requires.sound c.requires.next (omega arith)
