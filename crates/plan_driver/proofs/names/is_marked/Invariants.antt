use Rattle.std.proofs.Common.{◌≡◌, drop, nat_eq}
use Rattle.std.specs.List.{list_any}
use Rattle.plan_driver.proofs.names.is_marked.Given as goal

abbrev pub invariant-loop-byte : goal.invariant-loop-byte
invariant-loop-byte l = list_any (nat_eq 36) (drop l.byte-index l.bytes) ≡ list_any (nat_eq 36) l.bytes
