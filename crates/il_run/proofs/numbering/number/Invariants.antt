use Rattle.std.proofs.Common.{◌≡◌, ◌+◌, ◌≤◌, ◌++◌, drop, take}
use Rattle.il_core.specs.Meaning.{sites_of}
use Rattle.il_run.specs.Counts.{numbers_in}
use Rattle.il_run.proofs.numbering.number.Given as goal

abbrev pub invariant-loop-instr : goal.invariant-loop-instr
invariant-loop-instr l = record {
  next : l.next ≡ sites_of (take l.instr-index l.instrs) + l.first;
  few : l.next ≤ l.first + l.instr-index;
  added : l.numbers.items ++ numbers_in l.next (drop l.instr-index l.instrs) ≡ l.fn.numbers.items ++ numbers_in l.first l.instrs;
}
