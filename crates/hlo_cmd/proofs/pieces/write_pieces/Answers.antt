use Rattle.std.proofs.Common.{refl}
use Rattle.std.proofs.lemmas.Result.{err_from_is_err_and}
use Rattle.hlo_cmd.proofs.OneByOne.{next_failed}
use Rattle.hlo_cmd.proofs.pieces.write_pieces.Goals as goal

pub returns-in_err-write_all-clause-bytes : goal.returns-in_err-write_all-clause-bytes
returns-in_err-write_all-clause-bytes g c =
    let p = err_from_is_err_and c.from_residual.result c.from_residual.ensures.1 in
    rw p.1 (next_failed (λ p. p.now) c.args.pieces.now c.loop-piece.piece-index _ _ c.loop-piece-test.true refl
    _ _ _ c.loop-piece.invariant.taken c.in_err-write_all.ensures.bytes)
