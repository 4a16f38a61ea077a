use Rattle.std.proofs.Common.{sym}
use Rattle.plan_laws.proofs.Sizes.{numbers_are, inlined_cost}
use Rattle.plan_laws.proofs.costs.numbers_known.Goals as goal

pub returns-clause-numbers : goal.returns-clause-numbers
returns-clause-numbers c = λ p valid cs x r e.
    let n = numbers_are p valid cs x r e in
    record { size = sym n.size; regs = sym n.regs; arrays = sym n.arrays; elements = sym n.elements }

pub returns-clause-cost : goal.returns-clause-cost
returns-clause-cost c = inlined_cost
