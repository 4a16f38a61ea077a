use Rattle.std.proofs.Common.{◌*◌, length}
use Rattle.std.specs.Vec.{vec_len}
use Rattle.cleanup.specs.Bits.{has}
use Rattle.cleanup.proofs.Thinning.{Thinned}
use Rattle.cleanup.proofs.live.keep_alive.Given as goal

abbrev pub invariant-loop-instr : goal.invariant-loop-instr
invariant-loop-instr l = Thinned (64 * length l.fn.set) l.fn.instrs.items (has l.fn.set) l.instrs.items l.room.items (has l.set)

abbrev pub decreases-loop-instr : goal.decreases-loop-instr
decreases-loop-instr l = vec_len l.instrs
