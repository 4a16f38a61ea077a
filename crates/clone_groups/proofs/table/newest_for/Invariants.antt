use Rattle.std.proofs.Common.{◌≡◌, length}
use Rattle.std.specs.Prelude.{reverse}
use Rattle.plan_laws.specs.Groups.{clone_in}
use Rattle.clone_groups.specs.Fixing.{fixed_of}
use Rattle.clone_groups.proofs.table.newest_for.Given as goal

abbrev pub invariant-loop-row : goal.invariant-loop-row
invariant-loop-row l = clone_in (reverse l.left) l.callee (fixed_of l.fixed) ≡ clone_in (reverse l.rows) l.callee (fixed_of l.fixed)

abbrev pub decreases-loop-row : goal.decreases-loop-row
decreases-loop-row l = length l.left
