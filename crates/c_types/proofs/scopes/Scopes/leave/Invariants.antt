use Rattle.std.proofs.Common.{◌≡◌, length}
use Rattle.c_types.specs.Scopes.{outer}
use Rattle.c_types.proofs.scopes.Scopes.leave.Given as goal

abbrev pub invariant-loop : goal.invariant-loop
invariant-loop g l = record {
  depth : l.self.depth ≡ l.fn.self.depth;
  outer : outer l.fn.self.depth l.self.declared ≡ outer l.fn.self.depth l.fn.self.declared;
}

abbrev pub decreases-loop : goal.decreases-loop
decreases-loop g l = length l.self.declared
