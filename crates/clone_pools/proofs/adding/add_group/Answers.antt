use Rattle.std.proofs.Common.{◌<◌, ◌+◌, ap, refl, subst, sym, ◌∙◌}
use Rattle.std.specs.List.{AllByRecursion}
use Rattle.il_laws.specs.Growing.{NewClone}
use Rattle.clone_pools.specs.Growing.{CloneNeeds, NoClone, StopsClone}
use Rattle.clone_pools.proofs.Clones.{fit_next, ready_more, state_more}
use Rattle.clone_pools.proofs.Halted.{add_stops, no_clone, told_stops}
use Rattle.clone_pools.proofs.adding.add_group.Goals as goal
use Rattle.naim_core.specs.declared.event.Failure.TheVariants as failure

pub returns-then-not-fits-clause-err : goal.returns-then-not-fits-clause-err
returns-then-not-fits-clause-err g c = λ main.
    subst (StopsClone g.D.Disk.reach g.D.Disk.honest g.D.Disk.faults main c.args.names.now c.args.group.now c.args.loader.now c.args.progress c.stop.new.loader)
    (sym c.stop.ensures.same)
    (told_stops g.D.Disk.reach g.D.Disk.honest g.D.Disk.faults
    (NoClone g.D.Disk.reach g.D.Disk.honest g.D.Disk.faults main c.args.names.now c.args.group.now c.args.loader.now c.args.progress)
    (CloneNeeds g.D.Disk.reach g.D.Disk.honest g.D.Disk.faults main c.args.names.now c.args.group.now c.args.loader.now c.args.progress)
    c.args.loader.now c.stop.new.loader c.args.progress (failure.Unfit c.args.group.now.clone) c.requires.ready.rests c.stop.ensures.failed
    (no_clone g.D.Disk.reach g.D.Disk.honest g.D.Disk.faults g.D.Disk.bytes main c.args.names.now c.args.loader.now c.args.progress c.args.group.now
    c.stands.ensures c.requires.ready (sym c.is_some.ensures ∙ c.if-is_some.false) (sym c.fits.ensures ∙ c.if-not-fits.true) c.args.group.now.clone))

pub add_clone-requires-clause-above : goal.add_clone-requires-clause-above
add_clone-requires-clause-above g c =
    subst (λ n. AllByRecursion (λ row. row.pid < n) c.args.progress.shapes)
    (sym (ap (λ (z : NewClone). z.pid) c.in-Ok.ensures.wanted
    ∙ fit_next c.args.loader.now c.args.progress.next c.args.group.now (sym c.fits.ensures ∙ c.if-not-fits.false)))
    c.requires.ready.above

pub returns-in-Ok-add_clone-clause-ready : goal.returns-in-Ok-add_clone-clause-ready
returns-in-Ok-add_clone-clause-ready g c =
    ready_more g.D.Disk.reach g.D.Disk.honest g.D.Disk.faults c.args.loader.now c.add_clone.new.loader c.args.progress
    (record { shapes = c.in-Ok-add_clone.shapes; next = c.args.progress.next + 1; made = c.noted.new.made; table = c.noted.new.table })
    c.in-Ok.wanted c.args.group.now.callee c.requires.ready
    (ap (λ (z : NewClone). z.pid) c.in-Ok.ensures.wanted
    ∙ fit_next c.args.loader.now c.args.progress.next c.args.group.now (sym c.fits.ensures ∙ c.if-not-fits.false))
    c.in-Ok.ensures.made c.in-Ok-add_clone.ensures.ok c.in-Ok-add_clone.ensures.row c.in-Ok-add_clone.ensures.pools refl

pub returns-in-Ok-add_clone-clause-state : goal.returns-in-Ok-add_clone-clause-state
returns-in-Ok-add_clone-clause-state g c = λ main t st same can h.
    state_more g.D.Disk.reach g.D.Disk.honest g.D.Disk.faults c.args.loader.now c.add_clone.new.loader c.args.progress
    (record { shapes = c.in-Ok-add_clone.shapes; next = c.args.progress.next + 1; made = c.noted.new.made; table = c.noted.new.table })
    c.in-Ok.wanted main c.args.names.now st t c.args.group.now same (sym c.is_some.ensures ∙ c.if-is_some.false)
    (fit_next c.args.loader.now c.args.progress.next c.args.group.now (sym c.fits.ensures ∙ c.if-not-fits.false)) c.requires.ready.next
    c.in-Ok.ensures.wanted c.in-Ok.ensures.made c.in-Ok.ensures.table can h c.in-Ok-add_clone.ensures.ok refl c.in-Ok-add_clone.ensures.program

pub returns-in-Err-add_clone-clause-err : goal.returns-in-Err-add_clone-clause-err
returns-in-Err-add_clone-clause-err g c = λ main.
    add_stops g.D.Disk.reach g.D.Disk.honest g.D.Disk.faults g.D.Disk.bytes main c.args.names.now c.args.loader.now c.args.progress c.args.group.now
    c.stands.ensures c.requires.ready (sym c.is_some.ensures ∙ c.if-is_some.false) c.in-Ok.wanted c.in-Ok.ensures.wanted c.add_clone.new.loader
    c.args.progress.shapes c.in-Err-add_clone.failure refl c.in-Err-add_clone.ensures.err

pub returns-in-Err-clause-err : goal.returns-in-Err-clause-err
returns-in-Err-clause-err g c = λ main.
    subst
    (StopsClone g.D.Disk.reach g.D.Disk.honest g.D.Disk.faults main c.args.names.now c.args.group.now c.args.loader.now c.args.progress
    c.stop-in-Err.new.loader)
    (sym c.stop-in-Err.ensures.same)
    (told_stops g.D.Disk.reach g.D.Disk.honest g.D.Disk.faults
    (NoClone g.D.Disk.reach g.D.Disk.honest g.D.Disk.faults main c.args.names.now c.args.group.now c.args.loader.now c.args.progress)
    (CloneNeeds g.D.Disk.reach g.D.Disk.honest g.D.Disk.faults main c.args.names.now c.args.group.now c.args.loader.now c.args.progress)
    c.args.loader.now c.stop-in-Err.new.loader c.args.progress failure.Memory c.requires.ready.rests c.stop-in-Err.ensures.failed tt)
