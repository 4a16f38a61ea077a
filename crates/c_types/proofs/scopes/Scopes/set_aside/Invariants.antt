use Rattle.std.proofs.Common.{◌≡◌, length, map, ◌++◌}
use Rattle.c_types.specs.Scopes.{inner, outer}
use Rattle.c_types.specs.ScopeTable.{declaration}
use Rattle.c_types.proofs.scopes.Scopes.set_aside.Given as goal

abbrev pub invariant-loop-entry : goal.invariant-loop-entry
invariant-loop-entry g l = record {
  depth : l.self.depth ≡ l.fn.self.depth;
  outer : outer l.fn.self.depth l.self.declared ≡ outer l.fn.self.depth l.fn.self.declared;
  inner : map declaration l.entries.items ++ inner l.fn.self.depth l.self.declared ≡ inner l.fn.self.depth l.fn.self.declared;
}

abbrev pub decreases-loop-entry : goal.decreases-loop-entry
decreases-loop-entry g l = length l.self.declared
