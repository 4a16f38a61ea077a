use Rattle.std.proofs.Common.{◌^◌, ap, ◌∙◌}
use Rattle.hlo_cmd.proofs.Filling.{fits, one_more, pids_more, ready_now}
use Rattle.hlo_cmd.proofs.paging.PagingRoutineTaker.take.Goals as goal

pub returns-in-Ok-add_routine-clause-ok : goal.returns-in-Ok-add_routine-clause-ok
returns-in-Ok-add_routine-clause-ok g c =
    one_more g.D.Disk.faults c.args.self.now.loader c.add_routine.new.loader c.args.routine c.requires.ready.filled c.requires.apart
    c.in-Ok-add_routine.ensures.ok

pub returns-in-Ok-add_routine-clause-still : goal.returns-in-Ok-add_routine-clause-still
returns-in-Ok-add_routine-clause-still g c =
    let l = c.args.self.now.loader in
    let r = c.args.routine in
    rw (pids_more _ _ _ _ c.in-Ok.ensures.items c.routine.view_is)
    (ready_now g.D.Disk.faults l c.add_routine.new.loader r c.requires.ready.filled c.requires.apart c.in-Ok-add_routine.ensures.ok
    c.args.self.now.pids.items c.args.self.now.cost c.square.result c.requires.ready (fits _ _ _ _ c.in-Ok-add_routine.ensures.too_small)
    (c.square.ensures.value ∙ ap (λ n. n ^ 2) c.size-size.ensures.size) c.square.ensures.bound)
