use Rattle.std.proofs.Common.{arith}
use Rattle.var_bytes.proofs.Numbers.{three_spelled, four_spelled, five_spelled, put_at_end}
use Rattle.var_bytes.proofs.put.Goals as goal

pub returns-then-fourth-eq0-clause-ok : goal.returns-then-fourth-eq0-clause-ok
returns-then-fourth-eq0-clause-ok c = put_at_end _ _ _ _ c.args.n c.extend_from_slice-then-fourth-eq0.ensures.items
    (three_spelled c.args.n _ _ c.more-then-fourth-eq0.ensures c.more-then-fourth-eq0-2.ensures (omega arith) (omega arith) (omega arith))

pub returns-then-fifth-eq0-clause-ok : goal.returns-then-fifth-eq0-clause-ok
returns-then-fifth-eq0-clause-ok c = put_at_end _ _ _ _ c.args.n c.extend_from_slice-then-fifth-eq0.ensures.items
    (four_spelled c.args.n _ _ _ c.more-then-fifth-eq0.ensures c.more-then-fifth-eq0-2.ensures c.more-then-fifth-eq0-3.ensures (omega arith) (omega arith)
    (omega arith) (omega arith))

pub returns-else-fifth-eq0-clause-ok : goal.returns-else-fifth-eq0-clause-ok
returns-else-fifth-eq0-clause-ok c = let fits = c.ranges.n.fits in put_at_end _ _ _ _ c.args.n c.extend_from_slice-else-fifth-eq0.ensures.items
    (five_spelled c.args.n _ _ _ _ c.more-else-fifth-eq0.ensures c.more-else-fifth-eq0-2.ensures c.more-else-fifth-eq0-3.ensures c.more-else-fifth-eq0-4.ensures
    (omega arith) (omega arith) (omega arith) (omega arith) (omega (arith, fits)))
