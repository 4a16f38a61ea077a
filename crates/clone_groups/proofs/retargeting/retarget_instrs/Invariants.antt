use Rattle.clone_groups.specs.Moves.{callee_in}
use Rattle.clone_groups.proofs.InPlace.{Changing}
use Rattle.clone_groups.proofs.Moving.{instrs_change}
use Rattle.clone_groups.proofs.retargeting.retarget_instrs.Given as goal

abbrev pub invariant-loop-instr : goal.invariant-loop-instr
invariant-loop-instr l = Changing (instrs_change (callee_in l.table)) l.site l.fn.instrs l.instr-index l.next l.instrs
