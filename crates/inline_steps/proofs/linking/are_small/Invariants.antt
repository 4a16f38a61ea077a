use Rattle.std.proofs.Common.{◌≡◌, drop, map}
use Rattle.std.specs.List.{list_all}
use Rattle.call_graph.specs.Summaries.{summary_of}
use Rattle.inline_steps.specs.Linking.{is_small}
use Rattle.inline_steps.proofs.linking.are_small.Given as goal

abbrev pub invariant-loop-routine : goal.invariant-loop-routine
invariant-loop-routine l = list_all is_small (map summary_of (drop l.routine-index l.routines)) ≡ list_all is_small (map summary_of l.routines)
