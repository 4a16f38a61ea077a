use Rattle.std.proofs.Common.{◌≡◌, ◌+◌, length, map, ◌++◌}
use Rattle.c_types.specs.ScopeTable.{declaration}
use Rattle.c_types.proofs.scopes.Scopes.resume.Given as goal

abbrev pub invariant-loop-entry : goal.invariant-loop-entry
invariant-loop-entry g l = record {
  depth : l.self.depth ≡ l.fn.self.depth + 1;
  declared : map declaration l.entries.items ++ l.self.declared ≡ l.fn.aside ++ l.fn.self.declared;
}

abbrev pub decreases-loop-entry : goal.decreases-loop-entry
decreases-loop-entry g l = length l.entries.items
