use Rattle.il_run.proofs.Steps.{fits, plain_else}
use Rattle.il_run.proofs.machine.Machine.execute.Goals as goal

pub get-requires-clause-reg : goal.get-requires-clause-reg
get-requires-clause-reg c = rw c.in-GetChar.is at (fits _ c.requires.valid _ c.requires.tabled _ c.requires.sound c.args.instr.now c.requires.next)

pub put-requires-clause-reg : goal.put-requires-clause-reg
put-requires-clause-reg c = (rw c.in-PutChar.is at (fits _ c.requires.valid _ c.requires.tabled _ c.requires.sound c.args.instr.now c.requires.next)).0

pub put-requires-clause-source : goal.put-requires-clause-source
put-requires-clause-source c = (rw c.in-PutChar.is at (fits _ c.requires.valid _ c.requires.tabled _ c.requires.sound c.args.instr.now c.requires.next)).1

pub unreachable-requires : goal.unreachable-requires
unreachable-requires c = c.requires.special (plain_else c.args.instr.now c.in_default.not-Turn c.in_default.not-Call c.in_default.not-GetChar
    c.in_default.not-PutChar)
