use Rattle.std.proofs.Common.{arith}
use Rattle.compact_form.specs.Numbers.{spelled}
use Rattle.compact_form.specs.Spellings.{is_spelled, spelled_short}
use Rattle.compact_form.proofs.lengths.number_len.Goals as goal

pub returns-clause-len : goal.returns-clause-len
returns-clause-len c = c.len.ensures (spelled c.args.n) (is_spelled c.args.n (omega arith))

pub returns-clause-bound : goal.returns-clause-bound
returns-clause-bound c = omega (arith, c.len.ensures (spelled c.args.n) (is_spelled c.args.n (omega arith)), (spelled_short c.args.n (omega arith)).1)
