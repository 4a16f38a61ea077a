use Rattle.std.proofs.Common.{length, map}
use Rattle.call_graph.specs.Summaries.{summary_of}
use Rattle.clone_groups.specs.Gathering.{groups_in}
use Rattle.clone_groups.proofs.Gathered.{LeftCallers}
use Rattle.clone_groups.proofs.gathering.gather.Given as goal

abbrev pub invariant-loop-caller : goal.invariant-loop-caller
invariant-loop-caller l = LeftCallers (map summary_of l.routines) l.main l.routines l.left (groups_in l.groups.entries)

abbrev pub decreases-loop-caller : goal.decreases-loop-caller
decreases-loop-caller l = length l.left
