use Rattle.std.proofs.Common.{◌≡◌, drop}
use Rattle.plan_laws.specs.Groups.{same_fixed}
use Rattle.clone_groups.specs.Fixing.{fixed_of}
use Rattle.clone_groups.specs.Keys.{fixed_in}
use Rattle.clone_groups.proofs.table.are_same.Given as goal

abbrev pub invariant-loop-param : goal.invariant-loop-param
invariant-loop-param l = same_fixed (fixed_in (drop l.param-index l.some)) (fixed_of l.left) ≡ same_fixed (fixed_in l.some) (fixed_of l.others)
