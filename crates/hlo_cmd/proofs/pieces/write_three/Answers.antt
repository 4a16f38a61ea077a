use Rattle.std.proofs.Common.{◌++◌}
use Rattle.std.proofs.lemmas.Result.{err_from_is_err_and}
use Rattle.hlo_cmd.proofs.Fronts.{first_failed, then_failed}
use Rattle.hlo_cmd.proofs.pieces.write_three.Goals as goal

pub returns-in_err-write_all-clause-bytes : goal.returns-in_err-write_all-clause-bytes
returns-in_err-write_all-clause-bytes g c =
    let h = c.in_err-write_all.ensures.bytes in
    let p = err_from_is_err_and c.from_residual.result c.from_residual.ensures.1 in rw p.1
    (first_failed _ _ h.0 c.args.a.now (c.args.b.now ++ c.args.c.now) h.1)

pub returns-in_err-write_all-2-clause-bytes : goal.returns-in_err-write_all-2-clause-bytes
returns-in_err-write_all-2-clause-bytes g c =
    let h = c.in_err-write_all-2.ensures.bytes in
    let f = first_failed _ _ h.0 c.args.b.now c.args.c.now h.1 in
    let p = err_from_is_err_and c.from_residual-in_err-write_all-2.result c.from_residual-in_err-write_all-2.ensures.1 in rw p.1
    (then_failed _ _ _ f.0 c.args.a.now (c.args.b.now ++ c.args.c.now) c.in_ok-write_all.ensures.bytes f.1)

pub returns-in_err-write_all-3-clause-bytes : goal.returns-in_err-write_all-3-clause-bytes
returns-in_err-write_all-3-clause-bytes g c =
    let h = c.in_err-write_all-3.ensures.bytes in
    let f = then_failed _ _ _ h.0 c.args.b.now c.args.c.now c.in_ok-write_all-2.ensures.bytes h.1 in
    let p = err_from_is_err_and c.from_residual-in_err-write_all-3.result c.from_residual-in_err-write_all-3.ensures.1 in rw p.1
    (then_failed _ _ _ f.0 c.args.a.now (c.args.b.now ++ c.args.c.now) c.in_ok-write_all.ensures.bytes f.1)
