use Rattle.naim_core.proofs.ring.Ring.renew.Goals as goal

pub link-requires : goal.link-requires
link-requires c = record {
  newer = c.requires.newer;
  older = c.requires.older;
  ring = c.leave.ensures c.requires;
  apart = c.requires.apart;
  fits =
      c.requires.fits;
}

pub returns-then-is : goal.returns-then-is
returns-then-is c = λ at. rw c.if-is.true (c.link.ensures (record
    { newer = at.newer; older = at.older; ring = c.leave.ensures at; apart = at.apart; fits = at.fits }))

pub returns-else-is : goal.returns-else-is
returns-else-is c = λ at. rw c.if-is.false (c.leave.ensures at)
