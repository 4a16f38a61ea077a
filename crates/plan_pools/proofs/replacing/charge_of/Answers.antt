use Rattle.std.proofs.Common.{arith}
use Rattle.compact_form.specs.Laws.{within_charge}
use Rattle.plan_pools.proofs.replacing.charge_of.Goals as goal

pub returns-clause-small : goal.returns-clause-small
returns-clause-small c = let w = within_charge c.args.body.now.routine c.charge.ensures.value in omega (arith, w.2, c.charge.ensures.charge)

pub returns-clause-form : goal.returns-clause-form
returns-clause-form c = let w = within_charge c.args.body.now.routine c.charge.ensures.value in omega (arith, w.1, c.charge.ensures.charge)
