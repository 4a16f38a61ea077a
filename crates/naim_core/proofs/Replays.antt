-- One more event of a list.
use Rattle.std.proofs.Common.{◌≡◌, ℕ, List, [], ◌∷◌, ◌++◌, Ok, Err, Result, sym, ap, subst, append_assoc, ◌∙◌}
use Rattle.naim_core.specs.Runs.{state_of, reply_of, state_after, replies_to, EachNames}
use Rattle.naim_core.specs.State.{Core}
use Rattle.naim_core.specs.Steps.{Follows, step_of}
use Rattle.naim_core.specs.declared.event.Event.{Event}
use Rattle.naim_core.specs.declared.event.Refusal.{Refusal}

one_step : (r : Result Core Refusal) (s : Core) (answer : Result (Unit {0}) Refusal) (new : Core) → Follows r s answer new
    → (state_of r s ≡ new) × (reply_of r ≡ answer)
one_step (Ok t) s answer new f = (sym f.1, sym f.0)
one_step (Err r) s answer new f = (sym f.1, sym f.0)

pub state_on : (s new final : Core) (e : Event) (answer : Result (Unit {0}) Refusal) (old rest : List Event) → Follows (step_of s e) s answer new
    → old ≡ e ∷ rest → state_after s old ≡ final → state_after new rest ≡ final
state_on s new final e answer old rest f split was = ap (λ t. state_after t rest) (sym (one_step (step_of s e) s answer new f).0) ∙ sym
    (ap (state_after s) split) ∙ was

pub replies_on : (s new : Core) (e : Event) (answer : Result (Unit {0}) Refusal) (old rest : List Event) (given all : List (Result (Unit {0}) Refusal))
    → Follows (step_of s e) s answer new → old ≡ e ∷ rest → given ++ replies_to s old ≡ all →
    (given ++ answer ∷ []) ++ replies_to new rest ≡ all
replies_on s new e answer old rest given all f split was = let one = one_step (step_of s e) s answer new f in
    append_assoc given (answer ∷ []) (replies_to new rest) ∙ ap (λ l. given ++ l)
    (ap (λ a. a ∷ replies_to new rest) (sym one.1) ∙ ap (λ t. reply_of (step_of s e) ∷ replies_to t rest) (sym one.0) ∙ sym (ap (replies_to s) split)) ∙ was

pub named_on : (workers : ℕ) (e : Event) (old rest : List Event) → old ≡ e ∷ rest → EachNames workers old → EachNames workers rest
named_on workers e old rest split n = (subst (EachNames workers) split n).1
