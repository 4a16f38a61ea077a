use Rattle.std.proofs.Common.{◌≡◌, ◌++◌, drop}
use Rattle.il_laws.specs.Sites.{callees}
use Rattle.plan_pools.proofs.sites.callees_of.Given as goal

abbrev pub invariant-loop-block : goal.invariant-loop-block
invariant-loop-block l = (l.callees.items ++ callees (drop l.block-index l.blocks)) ≡ callees l.blocks
