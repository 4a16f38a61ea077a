use Rattle.std.proofs.Common.{◌≡◌, drop}
use Rattle.inline_budget.proofs.Raised.{IsRaising}
use Rattle.inline_budget.proofs.attempt.Attempt.raise_all.Given as goal

abbrev pub invariant-loop-caller : goal.invariant-loop-caller
invariant-loop-caller l = record {
  raising : IsRaising l.numbers l.call.callee l.call.by l.fn.self.times.items l.fn.self.handed.items l.fn.self.queue.items l.fn.self.room l.more l.callers
      l.self.times.items l.self.queue.items l.self.room (drop l.caller-index l.callers);
  handed : l.self.handed.items ≡ l.fn.self.handed.items;
}
