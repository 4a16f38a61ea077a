use Rattle.std.proofs.Common.{◌<◌, ℕ, subst, sym}
use Rattle.std.specs.List.{AllByRecursion}
use Rattle.inline_budget.specs.Following.{Grows}
use Rattle.inline_budget.proofs.Giving.{grows_by, grows_not, idle_grown, taken_within}
use Rattle.inline_budget.proofs.attempt.Attempt.decide.Goals as goal

pub give-requires-clause-grown : goal.give-requires-clause-grown
give-requires-clause-grown c =
    taken_within c.args.numbers.now c.args.call.now.caller c.args.call.now.callee c.args.call.now.by c.args.callers.now c.args.self.now.times.items
    c.args.self.now.handed.items c.args.self.now.queue.items c.args.self.now.room c.requires.idle c.spread.new.self.times.items c.spread.new.self.room
    (c.in_ok-spread.ensures.taken c.if-branch.true) c.requires.calls

pub returns-then-branch-clause-idle : goal.returns-then-branch-clause-idle
returns-then-branch-clause-idle c =
    idle_grown c.args.numbers.now c.args.call.now.caller c.args.call.now.callee c.args.call.now.by c.args.callers.now c.args.self.now.times.items
    c.args.self.now.handed.items c.args.self.now.queue.items c.args.self.now.room c.requires.idle c.spread.new.self.times.items c.spread.new.self.room
    (c.in_ok-spread.ensures.taken c.if-branch.true) c.requires.calls c.give.new.numbers c.give.new.self.times.items c.give.new.self.handed.items
    c.give.new.self.queue.items c.give.ensures.long c.give.ensures.numbers c.give.ensures.times c.give.ensures.handed c.give.ensures.queue
    c.give.ensures.sized c.give.ensures.same

pub returns-then-branch-clause-taken : goal.returns-then-branch-clause-taken
returns-then-branch-clause-taken c = λ _.
    subst (λ (n : ℕ). Grows c.args.numbers.now c.args.call.now.caller c.args.call.now.callee c.args.call.now.by c.args.callers.now c.args.self.now.room
    c.give.new.numbers n) (sym c.give.ensures.room)
    (grows_by c.args.numbers.now c.args.call.now.caller c.args.call.now.callee c.args.call.now.by c.args.callers.now c.args.self.now.times.items
    c.args.self.now.handed.items c.args.self.now.queue.items c.args.self.now.room c.requires.idle c.spread.new.self.times.items c.spread.new.self.room
    (c.in_ok-spread.ensures.taken c.if-branch.true) c.give.new.numbers c.in_ok-spread.ensures.ready.times c.give.ensures.long c.give.ensures.numbers)

pub clear-requires-clause-inside : goal.clear-requires-clause-inside
clear-requires-clause-inside c =
    subst (λ (n : ℕ). AllByRecursion (λ x. x < n) c.spread.new.self.queue.items) (sym c.in_ok-spread.ensures.ready.times) c.in_ok-spread.ensures.ready.inside

pub returns-clause-refused : goal.returns-clause-refused
returns-clause-refused c = λ _.
    grows_not c.args.numbers.now c.args.call.now.caller c.args.call.now.callee c.args.call.now.by c.args.callers.now c.args.self.now.times.items
    c.args.self.now.handed.items c.args.self.now.queue.items c.args.self.now.room c.requires.idle (c.in_ok-spread.ensures.refused c.if-branch.false)
