use Rattle.std.proofs.Common.{ap, length}
use Rattle.cleanup.proofs.Thinning.{row_others}
use Rattle.cleanup.proofs.live.put_row.Goals as goal

pub returns-clause-others : goal.returns-clause-others
returns-clause-others c =
    λ t ne. row_others c.args.rows.now c.copy_from_slice.new.self c.args.b _ t (ap length c.copy_from_slice.ensures.after) c.requires ne
