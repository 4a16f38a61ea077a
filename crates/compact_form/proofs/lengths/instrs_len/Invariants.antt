use Rattle.std.proofs.Common.{◌≡◌, ◌+◌, ◌*◌, ◌≤◌, length, drop, flat_map}
use Rattle.compact_form.specs.Compact.{instr_form}
use Rattle.compact_form.proofs.lengths.instrs_len.Given as goal

abbrev pub invariant-loop-instr : goal.invariant-loop-instr
invariant-loop-instr l = record {
  total : l.total + length (flat_map instr_form (drop l.instr-index l.instrs)) ≡ length (flat_map instr_form l.instrs);
  bound : l.total ≤ 176 * l.instr-index;
}
