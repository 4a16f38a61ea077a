use Rattle.std.proofs.Common.{◌≡◌, drop}
use Rattle.il_check.specs.Conditions.{first_broken, blocks_conditions}
use Rattle.il_check.proofs.routine.blocks_flaw.Given as goal

abbrev pub invariant-loop-number : goal.invariant-loop-number
invariant-loop-number l = first_broken (blocks_conditions l.shapes l.r l.number (drop l.number l.r.blocks)) ≡ first_broken
    (blocks_conditions l.shapes l.r 0 l.r.blocks)
