use Rattle.std.proofs.Common.{Vec, ap, subst, ℕ, ◌∙◌}
use Rattle.std.specs.declared.alloc.Global.{Global}
use Rattle.std.specs.Io.KnownBytes.{Appends}
use Rattle.plan_pools.specs.Contents.{is_routine, routine_in, row_text}
use Rattle.plan_pools.proofs.Frames.{leaves_err, put_leaves, rests_itself}
use Rattle.plan_pools.proofs.Fronts.{stopped_cause, takes_as, takes_itself, takes_none}
use Rattle.plan_pools.proofs.Rows.{row_is, row_none}
use Rattle.plan_pools.proofs.printing.print_row.Goals as goal

pub read_text-requires-clause-present : goal.read_text-requires-clause-present
read_text-requires-clause-present g c = c.requires.present (ap is_routine c.in-Routine.is)

pub returns-in-Ok-clause-bytes : goal.returns-in-Ok-clause-bytes
returns-in-Ok-clause-bytes g c = λ trusted.
    takes_as _ _ c.put.result _ _
    (c.as_slice.ensures.value ∙ c.in-Ok.ensures.text trusted ∙ row_is (routine_in c.args.loader.now) c.args.row.now _ _ c.in-Routine.is)
    c.put.ensures.bytes

pub returns-in-Ok-clause-pools : goal.returns-in-Ok-clause-pools
returns-in-Ok-clause-pools g c =
    put_leaves g.D.Disk.reach g.D.Disk.honest g.D.Disk.faults c.args.loader.now c.read_text.new.loader c.put.result c.put.ensures.fault
    c.in-Ok.ensures.pools

pub returns-in-Err-clause-bytes : goal.returns-in-Err-clause-bytes
returns-in-Err-clause-bytes g c = λ trusted. takes_none _ (row_text (routine_in c.args.loader.now) c.args.row.now)

pub returns-in-Err-clause-pools : goal.returns-in-Err-clause-pools
returns-in-Err-clause-pools g c =
    leaves_err g.D.Disk.reach g.D.Disk.honest g.D.Disk.faults (Vec ℕ Global)
    (Unit {0}) c.args.loader.now c.read_text.new.loader c.in-Err.fault c.in-Err.ensures.pools

pub returns-in-Err-clause-cause : goal.returns-in-Err-clause-cause
returns-in-Err-clause-cause g c = stopped_cause (Unit {0}) _ c.in-Err.fault c.in-Err.ensures.stopped

pub returns-in-Object-clause-bytes : goal.returns-in-Object-clause-bytes
returns-in-Object-clause-bytes g c = λ trusted.
    subst (Appends (g.O.Sink.taken c.args.out.now) (g.O.Sink.taken c.args.out.now))
    (row_none (routine_in c.args.loader.now) c.args.row.now _ c.in-Object.is) (takes_itself _)

pub returns-in-Object-clause-pools : goal.returns-in-Object-clause-pools
returns-in-Object-clause-pools g c = rests_itself g.D.Disk.reach g.D.Disk.honest g.D.Disk.faults c.args.loader.now c.requires.rests
