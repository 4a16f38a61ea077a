use Rattle.std.proofs.Common.{◌∙◌}
use Rattle.std.specs.Prelude.{decimal}
use Rattle.std.proofs.lemmas.Result.{err_from_is_err_and}
use Rattle.hlo_cmd.proofs.Fronts.{first_failed, takes_line, then_takes}
use Rattle.hlo_cmd.proofs.pieces.write_count.Goals as goal

pub returns-in_err-write_all-clause-bytes : goal.returns-in_err-write_all-clause-bytes
returns-in_err-write_all-clause-bytes g c =
    let h = c.in_err-write_all.ensures.bytes in
    let p = err_from_is_err_and c.from_residual.result c.from_residual.ensures.1 in
    rw p.1 (first_failed _ _ h.0 c.args.words.now (decimal c.args.number) h.1)

pub returns-clause-bytes : goal.returns-clause-bytes
returns-clause-bytes g c =
    then_takes _ _ _ c.write_all-2.result c.args.words.now (decimal c.args.number) c.in_ok-write_all.ensures.bytes
    (takes_line _ _ c.write_all-2.result _ _ (c.as_bytes.ensures.value ∙ c.format-text.ensures.text) c.write_all-2.ensures.bytes)
