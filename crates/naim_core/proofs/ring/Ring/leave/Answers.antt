use Rattle.std.proofs.Common.{◌++◌, subst}
use Rattle.naim_core.specs.Links.{IsRing, held}
use Rattle.naim_core.proofs.ring.Ring.leave.Goals as goal

pub returns-then-was : goal.returns-then-was
returns-then-was c = λ at. c.unlink.ensures (record {
  newer = at.newer;
  older = at.older;
  ring = subst
      (λ b. IsRing c.args.self.now.behind.items c.args.self.now.before.items (at.newer ++ held b c.args.slot at.older)) c.if-was.true at.ring;
  apart = at.apart;
  fits = at.fits;
})

pub returns-else-was : goal.returns-else-was
returns-else-was c = λ at. subst (λ b. IsRing c.args.self.now.behind.items c.args.self.now.before.items (at.newer ++ held b c.args.slot at.older))
    c.if-was.false at.ring
