use Rattle.std.proofs.Common.{◌≡◌, ◌++◌}
use Rattle.std.specs.Prelude.{reverse}
use Rattle.std.specs.Vec.{vec_len}
use Rattle.cleanup.proofs.live.put_back.Given as goal

abbrev pub invariant-loop-instr : goal.invariant-loop-instr
invariant-loop-instr l = (l.instrs.items ++ reverse l.room.items) ≡ (l.fn.instrs.items ++ reverse l.fn.room.items)

abbrev pub decreases-loop-instr : goal.decreases-loop-instr
decreases-loop-instr l = vec_len l.room
