use Rattle.std.proofs.Common.{length}
use Rattle.profile.specs.Reading.{SoFar}
use Rattle.profile.proofs.reading.read_lines.Given as goal

abbrev pub invariant-lines : goal.invariant-lines
invariant-lines l = SoFar l.fn.b l.rest l.profile l.number

abbrev pub decreases-lines : goal.decreases-lines
decreases-lines l = length l.rest
