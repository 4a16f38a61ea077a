use Rattle.std.proofs.Common.{◌≡◌, ◌*◌, ◌≤◌, take, sum_by}
use Rattle.il_core.specs.Limits.{max_parameters}
use Rattle.il_core.specs.Size.{arguments}
use Rattle.il_core.proofs.routine.arguments_of_instrs.Given as goal

abbrev pub invariant-loop-instr : goal.invariant-loop-instr
invariant-loop-instr l = record {
  counted : l.total ≡ sum_by arguments (take l.instr-index l.instrs);
  few : l.total ≤ max_parameters * l.instr-index;
}
