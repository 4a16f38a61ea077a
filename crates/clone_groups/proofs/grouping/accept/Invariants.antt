use Rattle.std.proofs.Common.{map}
use Rattle.plan_laws.specs.Groups.{at_start}
use Rattle.call_graph.specs.Summaries.{summary_of}
use Rattle.clone_groups.proofs.Accepting.{Going}
use Rattle.clone_groups.proofs.grouping.accept.Given as goal

abbrev pub invariant-loop-candidate : goal.invariant-loop-candidate
invariant-loop-candidate l =
    Going (map summary_of l.routines) l.limit (at_start (map summary_of l.routines) l.next) l.yielded l.groups.items l.spent
