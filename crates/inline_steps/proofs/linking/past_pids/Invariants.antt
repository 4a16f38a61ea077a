use Rattle.std.proofs.Common.{◌≡◌, ◌≤◌, suc, drop}
use Rattle.std.specs.Prelude.{max, ◌^◌}
use Rattle.plan_laws.specs.Orders.{greatest}
use Rattle.call_graph.specs.declared.summary.Summary.{Summary}
use Rattle.inline_steps.proofs.linking.past_pids.Given as goal

abbrev pub invariant-loop-routine : goal.invariant-loop-routine
invariant-loop-routine l = record {
  whole : max l.past (greatest (λ (r : Summary). suc r.pid) (drop l.routine-index l.routines)) ≡ greatest (λ (r : Summary). suc r.pid) l.routines;
  few : l.past ≤ 2 ^ 32;
}
