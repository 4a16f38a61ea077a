use Rattle.std.proofs.Common.{◌≡◌}
use Rattle.std.specs.Iterator.Adapters.{zip_first, zip_second}
use Rattle.std.specs.Slice.Iter.{iter_rest}
use Rattle.c_types.specs.Typing.{named_parameters}
use Rattle.c_types.proofs.Orders.{before}
use Rattle.c_types.proofs.checker.Checker.named_parameters.Given as goal

abbrev pub invariant-loop-ty : goal.invariant-loop-ty
invariant-loop-ty l = record {
  can : (goal.iterator-loop-ty).can_next l.ty-iterator;
  ends : (goal.iterator-loop-ty).is_finite l.ty-iterator;
  so_far : before l.named.items (named_parameters (iter_rest (zip_first l.ty-iterator)) (iter_rest (zip_second l.ty-iterator)) l.self) ≡ named_parameters
      l.types l.ps l.self;
}
