use Rattle.std.proofs.Common.{arith}
use Rattle.naim_core.specs.State.{empty_hand}
use Rattle.one_owner.proofs.Hands.{some_worker}
use Rattle.one_owner.proofs.places.place.Goals as goal

pub stop-requires-clause-worker : goal.stop-requires-clause-worker
stop-requires-clause-worker g c = some_worker c.args.loader.now.core empty_hand c.requires.rests.alone

pub place_packed-requires-clause-fits : goal.place_packed-requires-clause-fits
place_packed-requires-clause-fits g c = let a = c.if-from-limit.false in let b = c.from.ensures in let d = c.compact_len-need.ensures.len in let e =
    c.limit-limit.ensures in omega arith
