use Rattle.std.proofs.Common.{◌≡◌, ◌+◌, ◌-◌, [], length, map, replicate}
use Rattle.std.specs.Prelude.{sum_by}
use Rattle.inline_budget.specs.Calls.{calls_of}
use Rattle.inline_budget.specs.Levelling.{bound_of, filed}
use Rattle.inline_budget.proofs.Levelled.{IsFinding}
use Rattle.inline_budget.proofs.levels.levels_of.Given as goal

abbrev pub invariant-loop-next : goal.invariant-loop-next
invariant-loop-next l = record {
  finding : IsFinding (calls_of l.calls) l.bound l.found.levels.items l.found.left.items l.found.known.items l.next;
  lists : map (λ v. v.items) l.callers-inside.lists.items ≡ filed (replicate l.bound []) (calls_of l.calls);
  bound : l.bound ≡ bound_of (calls_of l.calls);
}

abbrev pub decreases-loop-next : goal.decreases-loop-next
decreases-loop-next l = sum_by (λ t. t) l.found.left.items + (length l.found.known.items - l.next)
