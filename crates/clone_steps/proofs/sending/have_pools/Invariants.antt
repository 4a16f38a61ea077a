use Rattle.std.proofs.Common.{◌≡◌, drop}
use Rattle.clone_steps.specs.Sending.{have_pools}
use Rattle.clone_steps.proofs.sending.have_pools.Given as goal

abbrev pub invariant-loop-entry : goal.invariant-loop-entry
invariant-loop-entry g l = have_pools l.loader (drop l.entry-index l.callers) ≡ have_pools l.loader l.callers
