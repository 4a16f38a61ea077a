use Rattle.std.proofs.Common.{◌∙◌}
use Rattle.call_graph.proofs.Reaching.{sites_as}
use Rattle.call_graph.proofs.reach.sites_at.Goals as goal

pub returns : goal.returns
returns c = λ s e. c.as_slice.ensures ∙ sites_as c.args.routines.now c.args.at c.index-routines-at.result s c.requires e
