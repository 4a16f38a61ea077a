use Rattle.std.proofs.Common.{arith}
use Rattle.inline_budget.proofs.Followed.{spread_taken, spread_not}
use Rattle.inline_budget.proofs.attempt.Attempt.spread.Goals as goal

pub returns-then-not-branch-clause-refused : goal.returns-then-not-branch-clause-refused
returns-then-not-branch-clause-refused c = λ f cs limit are a.
    c.in_ok-raise_all.ensures.refused c.if-not-branch.true cs c.args.call.now.caller limit 0 (omega arith) a

pub returns-clause-taken : goal.returns-clause-taken
returns-clause-taken c =
    spread_taken c.args.numbers.now c.args.call.now.caller c.args.call.now.callee c.args.call.now.by c.args.callers.now c.args.self.now.times.items
    c.args.self.now.handed.items c.args.self.now.queue.items c.args.self.now.room c.raise_all.new.self.times.items c.raise_all.new.self.handed.items
    c.raise_all.new.self.queue.items c.raise_all.new.self.room c.in_ok-raise_all.ensures.handed
    (c.in_ok-raise_all.ensures.raised c.if-not-branch.false) c.follow.result c.follow.new.self.times.items c.follow.new.self.room c.follow.ensures.taken

pub returns-clause-refused : goal.returns-clause-refused
returns-clause-refused c =
    spread_not c.args.numbers.now c.args.call.now.caller c.args.call.now.callee c.args.call.now.by c.args.callers.now c.args.self.now.times.items
    c.args.self.now.handed.items c.args.self.now.queue.items c.args.self.now.room c.raise_all.new.self.times.items c.raise_all.new.self.handed.items
    c.raise_all.new.self.queue.items c.raise_all.new.self.room c.in_ok-raise_all.ensures.handed
    (c.in_ok-raise_all.ensures.raised c.if-not-branch.false) c.follow.result c.follow.ensures.refused
