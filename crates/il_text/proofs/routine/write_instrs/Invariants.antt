use Rattle.std.proofs.Common.{◌≡◌, ◌++◌, take}
use Rattle.std.specs.Prelude.{flat_map, string_bytes}
use Rattle.il_core.specs.Text.{indented, instr_parts}
use Rattle.il_text.proofs.routine.write_instrs.Given as goal

abbrev pub invariant-loop-instr : goal.invariant-loop-instr
invariant-loop-instr l = string_bytes l.out ≡ string_bytes l.initial.out ++ flat_map (λ i. indented (instr_parts i)) (take l.instr-index l.instrs)
