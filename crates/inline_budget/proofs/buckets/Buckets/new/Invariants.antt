use Rattle.std.proofs.Common.{◌≡◌, [], map, replicate}
use Rattle.inline_budget.proofs.buckets.Buckets.new.Given as goal

abbrev pub invariant-loop : goal.invariant-loop
invariant-loop l = map (λ v. v.items) l.lists.items ≡ replicate l.counter []
