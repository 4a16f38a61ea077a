use Rattle.std.proofs.Common.{◌≡◌, ◌≤◌, take}
use Rattle.il_core.specs.Meaning.{sites_of}
use Rattle.il_run.proofs.counts.sites_in_instrs.Given as goal

abbrev pub invariant-loop-instr : goal.invariant-loop-instr
invariant-loop-instr l = record {
  count : l.count ≡ sites_of (take l.instr-index l.instrs);
  few : l.count ≤ l.instr-index;
}
