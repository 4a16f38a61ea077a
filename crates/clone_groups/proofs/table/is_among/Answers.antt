use Rattle.std.proofs.Common.{◌∙◌}
use Rattle.clone_groups.proofs.Members.{search_is}
use Rattle.clone_groups.proofs.table.is_among.Goals as goal

pub returns : goal.returns
returns c = λ rise. c.is_ok.ensures.value ∙ search_is c.args.pids.now c.args.pid c.binary_search.result rise c.binary_search.ensures.position
