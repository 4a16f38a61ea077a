use Rattle.std.proofs.Common.{◌≡◌, ◌+◌, ◌++◌, drop}
use Rattle.il_core.specs.World.{each}
use Rattle.inliner.proofs.copies.raised_args.Given as goal

abbrev pub invariant-loop-arg : goal.invariant-loop-arg
invariant-loop-arg l = l.raised.items ++ each (λ x. l.by + x) (drop l.arg-index l.args) ≡ each (λ x. l.by + x) l.args
