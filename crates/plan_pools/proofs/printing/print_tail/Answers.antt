use Rattle.il_core.specs.Text.{done_text}
use Rattle.plan_pools.specs.Contents.{routine_in, rows_text}
use Rattle.plan_pools.proofs.Frames.{put_leaves}
use Rattle.plan_pools.proofs.Fronts.{first_fails, output_since, then_takes}
use Rattle.plan_pools.proofs.printing.print_tail.Goals as goal

pub returns-in-Ok-clause-bytes : goal.returns-in-Ok-clause-bytes
returns-in-Ok-clause-bytes g c = λ trusted.
    then_takes _ _ _ c.put.result (rows_text (routine_in c.args.loader.now) c.args.rows.now) done_text (c.in-Ok.ensures.bytes trusted) c.put.ensures.bytes

pub returns-in-Ok-clause-pools : goal.returns-in-Ok-clause-pools
returns-in-Ok-clause-pools g c =
    put_leaves g.D.Disk.reach g.D.Disk.honest g.D.Disk.faults c.args.loader.now c.print_rows.new.loader c.put.result c.put.ensures.fault
    c.in-Ok.ensures.pools

pub returns-in-Ok-clause-cause : goal.returns-in-Ok-clause-cause
returns-in-Ok-clause-cause g c = output_since _ _ _ c.put.result c.in-Ok.ensures.later c.put.ensures.cause

pub returns-in-Err-clause-bytes : goal.returns-in-Err-clause-bytes
returns-in-Err-clause-bytes g c = λ trusted.
    first_fails _ _ (rows_text (routine_in c.args.loader.now) c.args.rows.now) done_text (c.in-Err.ensures.bytes trusted)
