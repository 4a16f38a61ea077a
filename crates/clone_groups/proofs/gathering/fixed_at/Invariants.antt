use Rattle.std.proofs.Common.{◌≡◌, ◌++◌, drop}
use Rattle.const_prop.specs.Sites.{words_at}
use Rattle.plan_laws.specs.Groups.{fixed_from}
use Rattle.clone_groups.specs.Keys.{fixed_in}
use Rattle.clone_groups.proofs.gathering.fixed_at.Given as goal

abbrev pub invariant-loop-is_read : goal.invariant-loop-is_read
invariant-loop-is_read l = record {
  counted : l.param ≡ l.is_read-index;
  rest : fixed_in l.fixed.items ++ fixed_from l.param (drop l.is_read-index l.reads) (words_at l.left) ≡ fixed_from 0 l.reads (words_at l.known);
}
