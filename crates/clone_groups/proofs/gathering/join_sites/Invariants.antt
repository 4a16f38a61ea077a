use Rattle.std.proofs.Common.{length, map}
use Rattle.call_graph.specs.Summaries.{summary_of}
use Rattle.clone_groups.specs.Gathering.{groups_in}
use Rattle.clone_groups.proofs.Gathered.{Left}
use Rattle.clone_groups.proofs.gathering.join_sites.Given as goal

abbrev pub invariant-loop-site : goal.invariant-loop-site
invariant-loop-site l =
    Left (map summary_of l.routines) l.main l.caller.pid l.caller.sites l.left (groups_in l.fn.groups.entries) (groups_in l.groups.entries)

abbrev pub decreases-loop-site : goal.decreases-loop-site
decreases-loop-site l = length l.left
