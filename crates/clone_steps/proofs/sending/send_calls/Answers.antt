use Rattle.std.proofs.Common.{subst, sym, ◌∙◌}
use Rattle.one_owner.proofs.Frames.{err_so, ok_so}
use Rattle.il_core.specs.declared.program.IlProgram.{IlProgram}
use Rattle.naim_core.specs.declared.event.Failure.TheVariants as failure
use Rattle.clone_steps.specs.Sending.{MayMove, MaySend}
use Rattle.clone_steps.proofs.Callers.{may_move}
use Rattle.clone_steps.proofs.Tested.{all_below}
use Rattle.clone_steps.proofs.Turned.{failed_turns, none_past, turn_stops_so, turns_so}
use Rattle.clone_steps.proofs.sending.send_calls.Goals as goal

pub returns-then-not-are_below-clause-err : goal.returns-then-not-are_below-clause-err
returns-then-not-are_below-clause-err g c = λ main.
    failed_turns g.D.Disk.reach g.D.Disk.honest g.D.Disk.faults main (MaySend c.args.groups.now) c.args.shapes.now c.args.loader.now c.stop.new.loader
    c.stop.result (failure.Unfit 0) c.requires.rests c.stop.ensures.same c.stop.ensures.failed
    (none_past g.D.Disk.reach g.D.Disk.honest g.D.Disk.faults main c.args.groups.now c.args.shapes.now c.args.next c.args.loader.now c.requires.above
    (sym c.are_below.ensures ∙ c.if-not-are_below.true))

pub caller_moves-requires : goal.caller_moves-requires
caller_moves-requires g c = all_below c.args.next c.args.groups.now (sym c.are_below.ensures ∙ c.if-not-are_below.false)

pub returns-in-Ok-clause-made : goal.returns-in-Ok-clause-made
returns-in-Ok-clause-made g c = λ main.
    ok_so _ _ c.send_noted.result
    (λ x t. turns_so g.D.Disk.reach g.D.Disk.honest g.D.Disk.faults main (MayMove c.as_slice.result.now) (MaySend c.args.groups.now) c.args.shapes.now
    c.args.loader.now c.send_noted.new.loader
    (subst (λ ms. (p q : IlProgram) → MaySend c.args.groups.now p q → MayMove ms p q) (sym c.as_slice.ensures.value)
    (may_move c.args.groups.now c.in-Ok.callers.items c.in-Ok.ensures.rising c.in-Ok.ensures.some c.in-Ok.ensures.moves)) t)
    (c.send_noted.ensures.made main)

pub returns-in-Ok-clause-err : goal.returns-in-Ok-clause-err
returns-in-Ok-clause-err g c = λ main.
    err_so _ _ c.send_noted.result
    (λ e s. turn_stops_so g.D.Disk.reach g.D.Disk.honest g.D.Disk.faults main (MayMove c.as_slice.result.now) (MaySend c.args.groups.now)
    c.args.shapes.now c.args.loader.now c.send_noted.new.loader e
    (subst (λ ms. (p q : IlProgram) → MaySend c.args.groups.now p q → MayMove ms p q) (sym c.as_slice.ensures.value)
    (may_move c.args.groups.now c.in-Ok.callers.items c.in-Ok.ensures.rising c.in-Ok.ensures.some c.in-Ok.ensures.moves)) s)
    (c.send_noted.ensures.err main)

pub returns-in-Err-clause-err : goal.returns-in-Err-clause-err
returns-in-Err-clause-err g c = λ main.
    failed_turns g.D.Disk.reach g.D.Disk.honest g.D.Disk.faults main (MaySend c.args.groups.now) c.args.shapes.now c.args.loader.now c.stop-in-Err.new.loader
    c.stop-in-Err.result failure.Memory c.requires.rests c.stop-in-Err.ensures.same c.stop-in-Err.ensures.failed tt
