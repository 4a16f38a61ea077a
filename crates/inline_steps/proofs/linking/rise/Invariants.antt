use Rattle.std.proofs.Common.{◌≡◌, drop, map}
use Rattle.call_graph.specs.Summaries.{summary_of}
use Rattle.inline_steps.specs.Linking.{rise_from}
use Rattle.inline_steps.proofs.linking.rise.Given as goal

abbrev pub invariant-loop-routine : goal.invariant-loop-routine
invariant-loop-routine l = rise_from l.past (map summary_of (drop l.routine-index l.routines)) ≡ rise_from 0 (map summary_of l.routines)
