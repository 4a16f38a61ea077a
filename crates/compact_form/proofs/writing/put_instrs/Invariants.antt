use Rattle.std.proofs.Common.{◌≡◌, ◌++◌, drop, flat_map}
use Rattle.compact_form.specs.Compact.{instr_form}
use Rattle.compact_form.proofs.writing.put_instrs.Given as goal

abbrev pub invariant-loop-instr : goal.invariant-loop-instr
invariant-loop-instr l = l.out.items ++ flat_map instr_form (drop l.instr-index l.instrs) ≡ l.initial.out.items ++ flat_map instr_form l.instrs
