use Rattle.plan_pools.proofs.Splicing.{splices_first, splices_next, splices_stop}
use Rattle.plan_pools.proofs.splices.splice_all.Goals as goal

pub loop-called-init : goal.loop-called-init
loop-called-init g c =
    splices_first g.D.Disk.reach g.D.Disk.honest g.D.Disk.faults c.args.shapes.now c.args.loader.now c.args.caller c.args.sites.items
    c.requires.rests c.requires.valid

pub loop-called-preserved : goal.loop-called-preserved
loop-called-preserved g c =
    splices_next g.D.Disk.reach g.D.Disk.honest g.D.Disk.faults c.args.shapes.now c.args.loader.now c.loop-called.loader c.args.caller c.loop-called.routine
    c.args.sites.items c.loop-called.left.items _ _ c.loop-called.invariant c.in-Some.ensures.items c.splice_in.new.loader _ c.in-Ok.ensures.ok
    c.in-Ok.ensures.valid c.in-Ok.ensures.routine

pub returns-in-Err-clause-err : goal.returns-in-Err-clause-err
returns-in-Err-clause-err g c =
    splices_stop g.D.Disk.reach g.D.Disk.honest g.D.Disk.faults c.args.shapes.now c.args.loader.now c.loop-called.loader c.args.caller c.loop-called.routine
    c.args.sites.items c.loop-called.left.items _ _ c.loop-called.invariant c.in-Some.ensures.items c.splice_in.new.loader c.in-Err.failure c.in-Err.ensures.err
