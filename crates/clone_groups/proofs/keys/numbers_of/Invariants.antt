use Rattle.std.proofs.Common.{◌≡◌, ◌++◌, drop}
use Rattle.clone_groups.specs.Keys.{numbers_of}
use Rattle.clone_groups.proofs.keys.numbers_of.Given as goal

abbrev pub invariant-loop-param : goal.invariant-loop-param
invariant-loop-param l = l.numbers.items ++ numbers_of (drop l.param-index l.fixed) ≡ numbers_of l.fixed
