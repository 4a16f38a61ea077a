use Rattle.std.proofs.Common.{◌≡◌}
use Rattle.inline_budget.proofs.Giving.{IsGiving}
use Rattle.inline_budget.proofs.attempt.Attempt.give.Given as goal

abbrev pub invariant-loop-next : goal.invariant-loop-next
invariant-loop-next l = record {
  giving : IsGiving l.fn.numbers l.by l.fn.self.times.items l.fn.self.queue.items l.next l.numbers l.self.times.items l.self.handed.items;
  queue : l.self.queue.items ≡ l.fn.self.queue.items;
  room : l.self.room ≡ l.fn.self.room;
}
