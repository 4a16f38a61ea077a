use Rattle.std.proofs.Common.{◌≡◌, ◌++◌, length}
use Rattle.naim_core.specs.Runs.{EachNames, state_after, replies_to}
use Rattle.naim_core.specs.Sound.{IsSound}
use Rattle.naim_core.specs.State.{start}
use Rattle.naim_core.proofs.history.replay.Given as goal

-- what is left to do leads where the whole list does
abbrev pub invariant-loop-event : goal.invariant-loop-event
invariant-loop-event l = record {
  state_is : state_after l.state l.event-iterator.rest.items ≡ state_after (start l.limit l.workers) l.fn.events.items;
  replies_are : l.replies.items ++ replies_to l.state l.event-iterator.rest.items ≡ replies_to (start l.limit l.workers) l.fn.events.items;
  named : EachNames l.workers l.event-iterator.rest.items;
  sound : IsSound l.state;
  workers_stay : length l.state.hands ≡ l.workers;
}
