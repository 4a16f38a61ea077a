use Rattle.std.proofs.Common.{◌∙◌}
use Rattle.clone_groups.proofs.Members.{search_is}
use Rattle.plan_pools.proofs.pruning.is_among.Goals as goal

pub returns : goal.returns
returns c = c.is_ok.ensures.value ∙ search_is c.args.pids.now c.args.pid c.binary_search.result c.requires c.binary_search.ensures.position
