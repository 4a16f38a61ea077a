use Rattle.std.proofs.Common.{◌+◌, ◌-◌, length}
use Rattle.il_laws.specs.Renumber.{place_of}
use Rattle.cleanup.proofs.Joining.{Merges}
use Rattle.cleanup.proofs.merge.join_blocks.Given as goal

abbrev pub invariant-loop-b : goal.invariant-loop-b
invariant-loop-b l = Merges l.fn.blocks l.counts l.b l.marks l.blocks

abbrev pub decreases-loop-b : goal.decreases-loop-b
decreases-loop-b l = (length l.blocks - l.b) + place_of l.marks (length l.blocks)
