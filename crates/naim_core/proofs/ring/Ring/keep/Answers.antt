use Rattle.std.proofs.Common.{◌++◌, subst}
use Rattle.naim_core.specs.Links.{IsRing, held}
use Rattle.naim_core.proofs.ring.Ring.keep.Goals as goal

pub returns-then-not-is : goal.returns-then-not-is
returns-then-not-is c = λ at. rw c.if-not-is.true (c.unlink.ensures
    (record {
      newer = at.newer;
      older = at.older;
      ring = subst (λ b. IsRing c.args.self.now.behind.items c.args.self.now.before.items
          (at.newer ++ held b c.args.slot at.older)) c.if-was.true at.ring;
      apart = at.apart;
      fits = at.fits;
    }))
