use Rattle.std.proofs.Common.{◌+◌, [], arith, drop, refl, subst}
use Rattle.std.proofs.lemmas.List.{drop_all}
use Rattle.plan_laws.specs.Plan.{add_clones}
use Rattle.clone_pools.proofs.Left.{IsLeft, at_place, groups_stop, left_next, left_none}
use Rattle.clone_pools.proofs.Trails.{grows_itself, grows_on}
use Rattle.clone_pools.proofs.adding.add_clones.Goals as goal

pub loop-group-init : goal.loop-group-init
loop-group-init g c = record {
  ready = c.requires.ready;
  grows = grows_itself g.D.Disk.faults c.args.loader.now c.args.progress.next;
  left = λ main ts st same can h. record { st = st; ts = ts; same = same; can = can; holds = h; ends = refl };
}

pub loop-group-preserved : goal.loop-group-preserved
loop-group-preserved g c =
    let place = at_place c.args.groups.now c.loop-group.group-index c.group-item.result c.loop-group-test.true c.group-item.is in
    record {
      ready = c.in-Ok.ensures.ready;
      grows = grows_on g.D.Disk.faults [] [] c.args.loader.now c.loop-group.loader c.add_group.new.loader c.args.progress.next c.loop-group.progress.next
          c.in-Ok.next.next c.loop-group.invariant.grows c.in-Ok.ensures.grows;
      left = λ main ts st same can h.
          left_next g.D.Disk.reach g.D.Disk.honest g.D.Disk.faults main c.args.names.now c.loop-group.loader c.add_group.new.loader c.loop-group.progress
          c.in-Ok.next c.group-item.result (drop (c.loop-group.group-index + 1) c.args.groups.now) (add_clones c.args.names.now ts st)
          (subst (λ gs. IsLeft g.D.Disk.reach g.D.Disk.honest g.D.Disk.faults main c.args.names.now c.loop-group.loader c.loop-group.progress gs
          (add_clones c.args.names.now ts st)) place (c.loop-group.invariant.left main ts st same can h)) (c.in-Ok.ensures.state main);
    }

pub returns-in-Err-clause-err : goal.returns-in-Err-clause-err
returns-in-Err-clause-err g c = λ main.
    let place = at_place c.args.groups.now c.loop-group.group-index c.group-item.result c.loop-group-test.true c.group-item.is in
    groups_stop g.D.Disk.reach g.D.Disk.honest g.D.Disk.faults main c.args.names.now c.args.loader.now c.loop-group.loader c.args.progress
    c.loop-group.progress c.group-item.result (drop (c.loop-group.group-index + 1) c.args.groups.now) c.args.groups.now
    (λ ts st same can h. subst (λ gs. IsLeft g.D.Disk.reach g.D.Disk.honest g.D.Disk.faults main c.args.names.now c.loop-group.loader c.loop-group.progress gs
    (add_clones c.args.names.now ts st)) place (c.loop-group.invariant.left main ts st same can h))
    c.add_group.new.loader c.in-Err.failure c.loop-group.invariant.grows (c.in-Err.ensures.err main)

pub returns-clause-ready : goal.returns-clause-ready
returns-clause-ready g c = c.loop-group.invariant.ready

pub returns-clause-grows : goal.returns-clause-grows
returns-clause-grows g c = c.loop-group.invariant.grows

pub returns-clause-state : goal.returns-clause-state
returns-clause-state g c = λ main ts st same can h.
    left_none g.D.Disk.reach g.D.Disk.honest g.D.Disk.faults main c.args.names.now c.loop-group.loader c.loop-group.progress
    (add_clones c.args.names.now ts st)
    (subst (λ gs. IsLeft g.D.Disk.reach g.D.Disk.honest g.D.Disk.faults main c.args.names.now c.loop-group.loader c.loop-group.progress gs
    (add_clones c.args.names.now ts st)) (drop_all c.loop-group.group-index c.args.groups.now (omega (arith, c.loop-group-test.false)))
    (c.loop-group.invariant.left main ts st same can h))
