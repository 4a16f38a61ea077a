use Rattle.std.proofs.Common.{sym, ◌∙◌}
use Rattle.naim_core.specs.declared.event.Failure.TheVariants as failure
use Rattle.clone_steps.specs.Sending.{MayMove}
use Rattle.clone_steps.proofs.Tested.{all_present}
use Rattle.clone_steps.proofs.Turned.{failed_turns, moved_stops, moved_turns, none_absent}
use Rattle.clone_steps.proofs.sending.send_noted.Goals as goal

pub returns-then-not-have_pools-clause-err : goal.returns-then-not-have_pools-clause-err
returns-then-not-have_pools-clause-err g c = λ main.
    failed_turns g.D.Disk.reach g.D.Disk.honest g.D.Disk.faults main (MayMove c.args.callers.now) c.args.shapes.now c.args.loader.now c.stop.new.loader
    c.stop.result (failure.Unfit 0) c.requires.rests c.stop.ensures.same c.stop.ensures.failed
    (none_absent g.D.Disk.reach g.D.Disk.honest g.D.Disk.faults main c.args.callers.now c.args.shapes.now c.args.loader.now c.stop.new.loader
    (sym c.have_pools.ensures ∙ c.if-not-have_pools.true))

pub retarget_program-requires-clause-present : goal.retarget_program-requires-clause-present
retarget_program-requires-clause-present g c =
    all_present c.args.loader.now c.args.callers.now (sym c.have_pools.ensures ∙ c.if-not-have_pools.false)

pub returns-in-Ok-clause-made : goal.returns-in-Ok-clause-made
returns-in-Ok-clause-made g c = λ main.
    moved_turns g.D.Disk.reach g.D.Disk.honest g.D.Disk.faults main c.args.callers.now c.args.shapes.now c.args.loader.now c.retarget_program.new.loader
    c.note.new.loader c.requires.pools c.in-Ok.ensures.ok c.in-Ok.ensures.program (c.note.ensures.made c.args.shapes.now main)

pub returns-in-Err-clause-err : goal.returns-in-Err-clause-err
returns-in-Err-clause-err g c = λ main.
    moved_stops g.D.Disk.reach g.D.Disk.honest g.D.Disk.faults main c.args.callers.now c.args.shapes.now c.args.loader.now c.retarget_program.new.loader
    c.in-Err.failure c.in-Err.ensures.err
