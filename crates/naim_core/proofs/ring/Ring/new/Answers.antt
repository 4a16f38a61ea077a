use Rattle.std.proofs.Common.{refl}
use Rattle.naim_core.proofs.Chains.{ring_new}
use Rattle.naim_core.proofs.ring.Ring.new.Goals as goal

pub returns : goal.returns
returns c = rw (c.in_ok-behind.ensures, c.in_ok-before.ensures) (ring_new 4097 refl)
