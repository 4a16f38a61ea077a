use Rattle.std.proofs.Common.{◌≡◌}
use Rattle.named_lock.specs.Pass.{IsPassOf, number_of, view_of, given_of}
use Rattle.named_lock.proofs.waiting.Lock+R.rest.Given as goal

abbrev pub invariant-loop : goal.invariant-loop
invariant-loop g l = record {
  can : (goal.iterator-loop g).can_next l.iterator';
  ends : (goal.iterator-loop g).is_finite l.iterator';
  pass : IsPassOf l.self l.p;
  number : number_of l.p ≡ number_of l.fn.p;
  view : view_of l.p ≡ view_of l.fn.p;
  given : given_of l.p ≡ given_of l.fn.p;
}
