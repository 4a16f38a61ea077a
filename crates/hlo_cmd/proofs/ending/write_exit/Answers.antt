use Rattle.std.proofs.Common.{arith}
use Rattle.hlo_cmd.proofs.Fronts.{takes_line}
use Rattle.hlo_cmd.proofs.Endings.{negative_exit}
use Rattle.hlo_cmd.proofs.ending.write_exit.Goals as goal

pub returns-else-word-clause-bytes : goal.returns-else-word-clause-bytes
returns-else-word-clause-bytes g c = takes_line _ _ c.write_number-else-word.result _ _
    (negative_exit c.args.word (omega (arith, c.if-word.false)) (omega (arith, c.ranges.word.fits))) c.write_number-else-word.ensures.bytes
