use Rattle.std.proofs.Common.{◌≡◌, drop}
use Rattle.std.specs.List.{list_all}
use Rattle.clone_steps.specs.Sending.{is_below}
use Rattle.clone_steps.proofs.sending.are_below.Given as goal

abbrev pub invariant-loop-group : goal.invariant-loop-group
invariant-loop-group l = list_all (is_below l.bound) (drop l.group-index l.groups) ≡ list_all (is_below l.bound) l.groups
