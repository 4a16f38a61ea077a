use Rattle.std.proofs.Common.{◌≡◌, ◌++◌, drop}
use Rattle.il_laws.specs.Clone.{constants}
use Rattle.clone_groups.specs.Fixing.{fixed_of}
use Rattle.clone_groups.proofs.cloning.constants.Given as goal

abbrev pub invariant-loop-param : goal.invariant-loop-param
invariant-loop-param l = l.instrs.items ++ constants (fixed_of (drop l.param-index l.fixed)) ≡ constants (fixed_of l.fixed)
