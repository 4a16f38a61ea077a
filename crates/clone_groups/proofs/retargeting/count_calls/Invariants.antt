use Rattle.std.proofs.Common.{◌≡◌, ◌+◌, ◌≤◌, drop}
use Rattle.il_core.specs.Meaning.{sites_of}
use Rattle.clone_groups.proofs.retargeting.count_calls.Given as goal

abbrev pub invariant-loop-instr : goal.invariant-loop-instr
invariant-loop-instr l = record {
  whole : l.calls + sites_of (drop l.instr-index l.instrs) ≡ sites_of l.instrs;
  few : l.calls ≤ l.instr-index;
}
