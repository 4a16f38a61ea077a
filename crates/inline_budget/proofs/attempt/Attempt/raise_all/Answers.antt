use Rattle.std.proofs.Common.{◌∙◌, ℕ, List, [], ◌∷◌, ◌++◌, ap, refl, get_or}
use Rattle.inline_budget.proofs.Raised.{raised_here, refused_here, raised_end}
use Rattle.inline_budget.proofs.attempt.Attempt.raise_all.Goals as goal

pub returns-then-not-raise-clause-refused : goal.returns-then-not-raise-clause-refused
returns-then-not-raise-clause-refused c = λ f.
    refused_here c.args.numbers.now c.args.call.now.callee c.args.call.now.by c.requires.by c.args.self.now.times.items c.args.self.now.handed.items
    c.args.self.now.queue.items c.args.self.now.room c.args.more c.args.callers.now c.loop-caller.self.times.items c.loop-caller.self.queue.items
    c.loop-caller.self.room c.loop-caller.caller-index c.loop-caller.invariant.raising c.loop-caller-test.true c.requires.inside 0
    (c.if-not-raise.ensures.refused refl)

pub loop-caller-preserved : goal.loop-caller-preserved
loop-caller-preserved c =
    record {
      raising = raised_here c.args.numbers.now c.args.call.now.callee c.args.call.now.by c.requires.by c.args.self.now.times.items
          c.args.self.now.handed.items c.args.self.now.queue.items c.args.self.now.room c.args.more c.args.callers.now c.loop-caller.self.times.items
          c.loop-caller.self.queue.items c.loop-caller.self.room c.loop-caller.caller-index c.loop-caller.invariant.raising c.loop-caller-test.true
          c.requires.inside 0 c.raise.new.self.times.items c.push.new.self.items c.raise.new.self.room (c.if-not-raise.ensures.times refl)
          (c.in_ok-push.ensures.items ∙ ap (λ (ks : List ℕ). ks ++ get_or c.args.callers.now c.loop-caller.caller-index 0 ∷ []) c.raise.ensures.queue)
          (c.if-not-raise.ensures.room refl) c.requires.some;
      handed = c.raise.ensures.handed ∙ c.loop-caller.invariant.handed;
    }

pub returns-clause-raised : goal.returns-clause-raised
returns-clause-raised c = λ f.
    raised_end c.args.numbers.now c.args.call.now.callee c.args.call.now.by c.requires.by c.args.self.now.times.items c.args.self.now.handed.items
    c.args.self.now.queue.items c.args.self.now.room c.args.more c.args.callers.now c.loop-caller.self.times.items c.loop-caller.self.queue.items
    c.loop-caller.self.room c.loop-caller.caller-index c.loop-caller.invariant.raising c.loop-caller-test.false
