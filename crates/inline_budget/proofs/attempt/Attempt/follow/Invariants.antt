use Rattle.std.proofs.Common.{◌+◌, ◌-◌, length}
use Rattle.inline_budget.proofs.Followed.{IsFollowing}
use Rattle.inline_budget.proofs.attempt.Attempt.follow.Given as goal

abbrev pub invariant-loop-next : goal.invariant-loop-next
invariant-loop-next l = IsFollowing l.numbers l.call.callee l.call.by l.callers l.fn.self.times.items l.fn.self.handed.items l.fn.self.queue.items
    l.fn.self.room l.self.times.items l.self.handed.items l.self.queue.items l.next l.self.room

abbrev pub decreases-loop-next : goal.decreases-loop-next
decreases-loop-next l = l.self.room + (length l.self.queue.items - l.next)
