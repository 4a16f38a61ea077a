use Rattle.std.proofs.Common.{◌≡◌, length}
use Rattle.inline_budget.proofs.Cleared.{IsEmptied}
use Rattle.inline_budget.proofs.attempt.Attempt.clear.Given as goal

abbrev pub invariant-loop-next : goal.invariant-loop-next
invariant-loop-next l = record {
  times : IsEmptied l.fn.self.queue.items l.next l.self.times.items;
  handed : IsEmptied l.fn.self.queue.items l.next l.self.handed.items;
  queue : l.self.queue.items ≡ l.fn.self.queue.items;
  sized : length l.self.times.items ≡ length l.fn.self.times.items;
  same : length l.self.handed.items ≡ length l.fn.self.times.items;
  room : l.self.room ≡ l.fn.self.room;
}
