use Rattle.std.proofs.Common.{◌≡◌, ℕ, drop}
use Rattle.std.specs.Prelude.{nat_lt}
use Rattle.std.specs.List.{list_all}
use Rattle.clone_steps.proofs.sending.is_below.Given as goal

abbrev pub invariant-loop-caller : goal.invariant-loop-caller
invariant-loop-caller l =
    list_all (λ (m : ℕ × ℕ). nat_lt m.0 l.bound) (drop l.caller-index l.group.members)
    ≡ list_all (λ (m : ℕ × ℕ). nat_lt m.0 l.bound) l.group.members
