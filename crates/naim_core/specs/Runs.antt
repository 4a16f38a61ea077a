-- What a list of events makes of a state, and the replies to them.
use Rattle.std.specs.Prelude.{ℕ, List, [], ◌∷◌, Result, Ok, Err}
use Rattle.naim_core.specs.State.{Core}
use Rattle.naim_core.specs.Steps.{NamesWorker, step_of}
use Rattle.naim_core.specs.declared.event.Event.{Event}
use Rattle.naim_core.specs.declared.event.Refusal.{Refusal}

-- the state after an answer of the definition: a refused event leaves the old one
abbrev pub state_of : Result Core Refusal → Core → Core
state_of (Ok s) old = s
state_of (Err r) old = old

abbrev pub reply_of : Result Core Refusal → Result (Unit {0}) Refusal
reply_of (Ok s) = Ok tt
reply_of (Err r) = Err r

-- the state after the events, each taken or refused
abbrev pub state_after : Core → List Event → Core
state_after s [] = s
state_after s (e ∷ events) = state_after (state_of (step_of s e) s) events

-- the replies to the events, in order
abbrev pub replies_to : Core → List Event → List (Result (Unit {0}) Refusal)
replies_to s [] = []
replies_to s (e ∷ events) = reply_of (step_of s e) ∷ replies_to (state_of (step_of s e) s) events

-- each worker that an event names is below their number
abbrev pub EachNames : ℕ → List Event → Type 0
EachNames workers [] = Unit {0}
EachNames workers (e ∷ events) = NamesWorker workers e × EachNames workers events
