use Rattle.std.proofs.Common.{◌≡◌, drop}
use Rattle.c_types.specs.Typing.{all_lengths}
use Rattle.c_types.proofs.checker.Checker.all_lengths.Given as goal

abbrev pub invariant-loop-a : goal.invariant-loop-a
invariant-loop-a l = all_lengths (drop l.a-index l.a-items) l.self ≡ all_lengths l.fn.self.awaited l.fn.self
