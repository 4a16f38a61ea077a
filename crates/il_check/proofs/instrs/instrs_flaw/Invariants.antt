use Rattle.std.proofs.Common.{◌≡◌, drop}
use Rattle.std.specs.Prelude.{flat_map}
use Rattle.il_check.specs.Conditions.{first_broken, instr_conditions}
use Rattle.il_check.proofs.instrs.instrs_flaw.Given as goal

abbrev pub invariant-loop-instr : goal.invariant-loop-instr
invariant-loop-instr l = first_broken (flat_map (λ i. instr_conditions l.shapes l.regs l.arrays i) (drop l.instr-index l.instrs)) ≡ first_broken
    (flat_map (λ i. instr_conditions l.shapes l.regs l.arrays i) l.instrs)
