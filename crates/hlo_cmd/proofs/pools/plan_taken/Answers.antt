use Rattle.std.proofs.Common.{◌∙◌}
use Rattle.hlo_cmd.specs.Pools.{inserted}
use Rattle.hlo_cmd.proofs.Planned.{has_planned, planning_told}
use Rattle.hlo_cmd.proofs.Pooled.{have_pools}
use Rattle.hlo_cmd.proofs.pools.plan_taken.Goals as goal

pub optimise-requires-clause-pools : goal.optimise-requires-clause-pools
optimise-requires-clause-pools g c =
    let l = c.args.paging.now.loader in
    let of = c.requires.taken in
    have_pools l of.counts of.tells of.files c.in-Ok.shapes c.in-Ok.objects c.args.syms.now c.requires.ready.filled
    (c.in-Ok.ensures.program of.counts of.tells of.files (inserted l) of.routines (c.as_slice.ensures.value ∙ c.requires.ready.pids_are))

pub returns-in-Ok-optimise-clause-ok : goal.returns-in-Ok-optimise-clause-ok
returns-in-Ok-optimise-clause-ok g c = λ counts tells routines.
    let l = c.args.paging.now.loader in
    let s = c.args.settings.now in
    let frame = c.in-Ok.ensures.program counts tells s.files (inserted l) routines (c.as_slice.ensures.value ∙ c.requires.ready.pids_are) in
    has_planned g.D.Disk.reach g.D.Disk.honest g.D.Disk.faults l c.args.paging.now.pids.items c.args.paging.now.cost c.requires.ready s counts tells
    c.in-Ok.shapes c.in-Ok.objects c.args.syms.now c.main_of-main.result c.main_of-main.ensures c.requires.limit frame c.plan_is_worth.ensures
    c.requires.range c.optimise.new.loader c.in-Ok-optimise.planned.shapes c.in-Ok-optimise.planned.cost c.in-Ok-optimise.ensures.made
    (c.in-Ok-optimise.ensures.cost c.requires.range.some)

pub returns-in-Err-clause-err : goal.returns-in-Err-clause-err
returns-in-Err-clause-err g c = λ counts tells routines.
    let l = c.args.paging.now.loader in
    let s = c.args.settings.now in
    let frame = c.in-Ok.ensures.program counts tells s.files (inserted l) routines (c.as_slice.ensures.value ∙ c.requires.ready.pids_are) in
    rw c.loader_refusal.ensures
    (planning_told g.D.Disk.reach g.D.Disk.honest g.D.Disk.faults l c.args.paging.now.pids.items c.args.paging.now.cost c.requires.ready s counts tells
    c.in-Ok.shapes c.in-Ok.objects c.args.syms.now c.main_of-main.result c.main_of-main.ensures c.requires.limit frame c.in-Err.failure
    (g.D.Disk.faults l.disk) (g.D.Disk.faults c.optimise.new.loader.disk) c.in-Err.ensures.err.cause)
