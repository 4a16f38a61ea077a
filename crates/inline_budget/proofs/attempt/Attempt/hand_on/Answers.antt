use Rattle.std.proofs.Common.{arith}
use Rattle.inline_budget.proofs.Followed.{handed_none, handed_some, handed_not}
use Rattle.inline_budget.proofs.attempt.Attempt.hand_on.Goals as goal

pub returns-then-more-eq0-clause-handed : goal.returns-then-more-eq0-clause-handed
returns-then-more-eq0-clause-handed c =
    let at = c.requires.at in
    let times = c.requires.ready.times in
    let handed = c.requires.ready.handed in
    λ f. handed_none c.args.numbers.now c.args.call.now.callee c.args.call.now.by c.args.self.now.times.items c.args.self.now.handed.items
    c.args.self.now.queue.items c.args.self.now.room c.args.at c.index-times.result.now c.index.result.now c.args.callers.now c.index-times.ensures
    c.index.ensures (omega arith) (omega arith) c.if-more-eq0.true

pub returns-clause-handed : goal.returns-clause-handed
returns-clause-handed c =
    let at = c.requires.at in
    let times = c.requires.ready.times in
    let handed = c.requires.ready.handed in
    handed_some c.args.numbers.now c.args.call.now.callee c.args.call.now.by c.args.self.now.times.items c.args.self.now.handed.items
    c.args.self.now.queue.items c.args.self.now.room c.args.at c.index-times.result.now c.index.result.now c.args.callers.now c.index-times.ensures
    c.index.ensures (omega arith) (omega arith) c.raise_all.result c.raise_all.new.self.times.items c.raise_all.new.self.handed.items
    c.raise_all.new.self.queue.items c.raise_all.new.self.room c.if-more-eq0.false c.raise_all.ensures.handed c.raise_all.ensures.raised

pub returns-clause-refused : goal.returns-clause-refused
returns-clause-refused c =
    let at = c.requires.at in
    let times = c.requires.ready.times in
    let handed = c.requires.ready.handed in
    handed_not c.args.numbers.now c.args.call.now.callee c.args.call.now.by c.args.self.now.times.items c.args.self.now.handed.items
    c.args.self.now.queue.items c.args.self.now.room c.args.at c.index-times.result.now c.index.result.now c.args.callers.now c.index-times.ensures
    c.index.ensures (omega arith) (omega arith) c.raise_all.result c.if-more-eq0.false c.raise_all.ensures.refused
