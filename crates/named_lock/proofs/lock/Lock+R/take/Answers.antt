use Rattle.std.proofs.Common.{◌≡◌, sym, subst, None}
use Rattle.named_lock.specs.Known.{taken_of}
use Rattle.named_lock.specs.Pass.{IsPassOf, view_of}
use Rattle.named_lock.proofs.lock.Lock+R.take.Goals as goal

pub try_win-requires-clause-pass : goal.try_win-requires-clause-pass
try_win-requires-clause-pass g c = subst (IsPassOf c.args.self.now) (sym c.loop.invariant.same) c.requires.pass

pub try_win-requires-clause-idle : goal.try_win-requires-clause-idle
try_win-requires-clause-idle g c = subst (λ z. taken_of (view_of z) ≡ None) (sym c.loop.invariant.same) c.requires.idle
