use Rattle.std.proofs.Common.{List, sym, subst}
use Rattle.il_core.specs.Object.{ObjectParts}
use Rattle.naim_loader.specs.Paged.{IsGood}
use Rattle.hlo_cmd.specs.Paging.{HasPlanned}
use Rattle.hlo_cmd.proofs.Fronts.{keeps_itself}
use Rattle.hlo_cmd.proofs.Stopping.{err_since, planned_told}
use Rattle.hlo_cmd.proofs.pools.print_taken.Goals as goal

pub returns-in-Ok-clause-ok : goal.returns-in-Ok-clause-ok
returns-in-Ok-clause-ok g c = λ counts tells routines.
    let s = c.args.settings.now in
    let first = c.args.paging.now.loader.first in
    let mid = c.plan_taken.new.paging in
    let has = subst (λ (os : List ObjectParts). HasPlanned tells (λ limit. IsGood g.D.Disk.reach g.D.Disk.honest limit first) s counts c.args.syms.now
    g.D.Disk.reach g.D.Disk.honest mid.loader c.in-Ok.shapes os mid.cost mid.planned) (sym c.as_slice.ensures) (c.in-Ok.ensures.ok counts tells routines) in
    c.print_planned.ensures.ok s counts tells c.args.syms.now first has

pub returns-in-Ok-clause-err : goal.returns-in-Ok-clause-err
returns-in-Ok-clause-err g c = λ counts tells shelf shelf_now routines.
    let s = c.args.settings.now in
    let l = c.args.paging.now.loader in
    let mid = c.plan_taken.new.paging in
    let has = subst (λ (os : List ObjectParts). HasPlanned tells (λ limit. IsGood g.D.Disk.reach g.D.Disk.honest limit l.first) s counts c.args.syms.now
    g.D.Disk.reach g.D.Disk.honest mid.loader c.in-Ok.shapes os mid.cost mid.planned) (sym c.as_slice.ensures) (c.in-Ok.ensures.ok counts tells routines) in
    err_since tells (λ limit. IsGood g.D.Disk.reach g.D.Disk.honest limit l.first) (g.O.Sink.taken c.args.out.now) (g.O.Sink.taken c.print_planned.new.out)
    s counts c.args.syms.now shelf shelf_now (g.O.Sink.faults c.args.out.now) (g.O.Sink.faults c.print_planned.new.out) (g.D.Disk.faults l.disk)
    (g.D.Disk.faults mid.loader.disk) (g.D.Disk.faults c.print_planned.new.paging.loader.disk) c.plan_taken.ensures.kept.later c.print_planned.result
    (c.print_planned.ensures.err s counts tells c.args.syms.now l.first shelf shelf_now has)

pub returns-in-Err-clause-err : goal.returns-in-Err-clause-err
returns-in-Err-clause-err g c = λ counts tells shelf shelf_now routines.
    let l = c.args.paging.now.loader in
    let taken = g.O.Sink.taken c.args.out.now in
    let faults = g.O.Sink.faults c.args.out.now in
    planned_told tells c.args.settings.now counts c.args.syms.now shelf shelf_now (g.D.Disk.faults l.disk) (g.D.Disk.faults c.plan_taken.new.paging.loader.disk)
    (λ limit. IsGood g.D.Disk.reach g.D.Disk.honest limit l.first) taken taken faults faults c.in-Err.refusal (keeps_itself taken)
    (c.in-Err.ensures.err counts tells routines)
