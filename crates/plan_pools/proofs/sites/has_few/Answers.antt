use Rattle.std.proofs.Common.{arith}
use Rattle.plan_pools.proofs.Bodies.{few_callees}
use Rattle.plan_pools.proofs.sites.has_few.Goals as goal

pub returns : goal.returns
returns c = let few = few_callees c.args.r.now.blocks in omega (arith, few, c.size-size.ensures.size, c.size-size.ensures.bound)
