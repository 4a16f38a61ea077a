use Rattle.std.proofs.Common.{◌++◌, ap, ◌∙◌}
use Rattle.naim_core.specs.Runs.{replies_to}
use Rattle.naim_core.proofs.Replays.{state_on, replies_on, named_on}
use Rattle.naim_core.proofs.history.replay.Goals as goal

pub loop-event-preserved : goal.loop-event-preserved
loop-event-preserved c =
    let i = c.loop-event.invariant in let split = c.in-Some.ensures.steps.0 in let means = c.step-reply.ensures.means in record {
      state_is = state_on c.loop-event.state c.step-reply.new.self _ c.in-Some.event c.step-reply.result _ c.next.new.self.rest.items means split i.state_is;
      replies_are = ap (λ l. l ++ replies_to c.step-reply.new.self c.next.new.self.rest.items) c.in_ok-push.ensures.items ∙ replies_on c.loop-event.state
          c.step-reply.new.self c.in-Some.event c.step-reply.result _ c.next.new.self.rest.items c.loop-event.replies.items _ means split i.replies_are;
      named = named_on c.args.workers c.in-Some.event _ c.next.new.self.rest.items split i.named;
      sound = c.step-reply.ensures.sound;
      workers_stay = c.step-reply.ensures.workers ∙ i.workers_stay;
    }
