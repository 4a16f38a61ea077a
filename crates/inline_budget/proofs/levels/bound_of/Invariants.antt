use Rattle.std.proofs.Common.{◌≡◌, ◌≤◌, ◌^◌, drop}
use Rattle.std.specs.Prelude.{max}
use Rattle.inline_budget.specs.Calls.{calls_of}
use Rattle.inline_budget.specs.Levelling.{bound_of}
use Rattle.inline_budget.proofs.levels.bound_of.Given as goal

abbrev pub invariant-loop-call : goal.invariant-loop-call
invariant-loop-call l = record {
  whole : max l.bound (bound_of (calls_of (drop l.call-index l.calls))) ≡ bound_of (calls_of l.calls);
  few : l.bound ≤ 2 ^ 32;
}
