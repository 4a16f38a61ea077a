use Rattle.std.proofs.Common.{◌≡◌, ◌∙◌, arith, length}
use Rattle.inline_budget.proofs.Followed.{following_step, following_not, following_end}
use Rattle.inline_budget.proofs.attempt.Attempt.follow.Goals as goal

pub returns-then-not-branch-clause-refused : goal.returns-then-not-branch-clause-refused
returns-then-not-branch-clause-refused c =
    let s = c.loop-next.self in
    let len : c.len.result ≡ length s.queue.items = c.len.ensures ∙ s.queue.ok.0 in
    let test = c.loop-next-test.true in
    λ f. following_not c.args.numbers.now c.args.call.now.callee c.args.call.now.by c.args.callers.now c.args.self.now.times.items
    c.args.self.now.handed.items c.args.self.now.queue.items c.args.self.now.room s.times.items s.handed.items s.queue.items c.loop-next.next s.room
    c.index.result.now c.list.result.now c.loop-next.invariant (omega arith) c.index.ensures c.list.ensures
    (c.in_ok-hand_on.ensures.refused c.if-not-branch.true)

pub loop-next-preserved : goal.loop-next-preserved
loop-next-preserved c =
    let s = c.loop-next.self in
    let len : c.len.result ≡ length s.queue.items = c.len.ensures ∙ s.queue.ok.0 in
    let test = c.loop-next-test.true in
    following_step c.args.numbers.now c.args.call.now.callee c.args.call.now.by c.args.callers.now c.args.self.now.times.items
    c.args.self.now.handed.items c.args.self.now.queue.items c.args.self.now.room s.times.items s.handed.items s.queue.items c.loop-next.next s.room
    c.index.result.now c.list.result.now c.loop-next.invariant (omega arith) c.index.ensures c.list.ensures c.hand_on.new.self.times.items
    c.hand_on.new.self.handed.items c.hand_on.new.self.queue.items c.hand_on.new.self.room c.in_ok-hand_on.ensures.ready c.in_ok-hand_on.ensures.longer
    (c.in_ok-hand_on.ensures.handed c.if-not-branch.false)

pub returns-clause-taken : goal.returns-clause-taken
returns-clause-taken c =
    let s = c.loop-next.self in
    let len : c.len.result ≡ length s.queue.items = c.len.ensures ∙ s.queue.ok.0 in
    let test = c.loop-next-test.false in
    λ f. following_end c.args.numbers.now c.args.call.now.callee c.args.call.now.by c.args.callers.now c.args.self.now.times.items
    c.args.self.now.handed.items c.args.self.now.queue.items c.args.self.now.room s.times.items s.handed.items s.queue.items c.loop-next.next s.room
    c.loop-next.invariant (omega arith)
