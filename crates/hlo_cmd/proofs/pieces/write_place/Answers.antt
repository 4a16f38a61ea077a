use Rattle.std.proofs.Common.{refl, ◌∙◌}
use Rattle.std.proofs.lemmas.Result.{err_from_is_err_and}
use Rattle.hlo_cmd.proofs.Lines.{first_fails, next_fails, last_takes}
use Rattle.hlo_cmd.proofs.pieces.write_place.Goals as goal

pub returns-in_err-write_three-clause-bytes : goal.returns-in_err-write_three-clause-bytes
returns-in_err-write_three-clause-bytes g c =
    let p = err_from_is_err_and c.from_residual.result c.from_residual.ensures.1 in
    rw p.1 (first_fails _ _ c.args.file.now c.format-number.result.now c.args.kind.now c.args.kind.now c.args.line
    c.format-number.ensures.text refl c.in_err-write_three.ensures.bytes)

pub returns-in_err-write_three-2-clause-bytes : goal.returns-in_err-write_three-2-clause-bytes
returns-in_err-write_three-2-clause-bytes g c =
    let p = err_from_is_err_and c.from_residual-in_err-write_three-2.result c.from_residual-in_err-write_three-2.ensures.1 in
    rw p.1 (next_fails _ _ _ c.args.file.now c.as_bytes.result.now c.as_bytes-2.result.now c.args.kind.now c.args.line
    (c.as_bytes.ensures.value ∙ c.format-number.ensures.text) c.as_bytes-2.ensures.value c.in_ok-write_three.ensures.bytes c.in_err-write_three-2.ensures.bytes)

pub returns-clause-bytes : goal.returns-clause-bytes
returns-clause-bytes g c =
    last_takes _ _ _ _ c.write_all.result c.args.file.now c.as_bytes.result.now c.as_bytes-2.result.now c.args.kind.now c.args.line
    (c.as_bytes.ensures.value ∙ c.format-number.ensures.text) c.as_bytes-2.ensures.value c.in_ok-write_three.ensures.bytes
    c.in_ok-write_three-2.ensures.bytes c.write_all.ensures.bytes
