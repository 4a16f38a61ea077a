use Rattle.std.proofs.Common.{◌≡◌, ◌+◌, ◌≤◌}
use Rattle.lock_join.specs.Worker.{HasWorked}
use Rattle.lock_join.proofs.workers.work.Given as goal

abbrev pub invariant-loop : goal.invariant-loop
invariant-loop g l = record {
  below : l.counter ≤ l.times;
  worked : HasWorked l.lock l.fn.p l.p l.note;
  amount : g.R.Job.amount l.note ≡ g.R.Job.amount l.fn.note + l.counter;
}
