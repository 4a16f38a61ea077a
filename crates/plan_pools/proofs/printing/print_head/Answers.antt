use Rattle.std.proofs.Common.{◌∙◌}
use Rattle.il_core.specs.Text.{head_text}
use Rattle.naim_core.specs.State.{empty_hand}
use Rattle.one_owner.proofs.Hands.{some_worker}
use Rattle.plan_pools.proofs.Fronts.{takes_as, takes_none}
use Rattle.plan_pools.proofs.Frames.{put_leaves, rests_itself}
use Rattle.plan_pools.proofs.printing.print_head.Goals as goal

pub stop-requires-clause-worker : goal.stop-requires-clause-worker
stop-requires-clause-worker g c = some_worker c.args.loader.now.core empty_hand c.requires.rests.alone

pub returns-in-Ok-clause-bytes : goal.returns-in-Ok-clause-bytes
returns-in-Ok-clause-bytes g c = takes_as _ _ c.put.result _ _ (c.as_slice.ensures.value ∙ c.in-Ok.ensures) c.put.ensures.bytes

pub returns-in-Ok-clause-pools : goal.returns-in-Ok-clause-pools
returns-in-Ok-clause-pools g c =
    put_leaves g.D.Disk.reach g.D.Disk.honest g.D.Disk.faults c.args.loader.now c.args.loader.now c.put.result c.put.ensures.fault
    (rests_itself g.D.Disk.reach g.D.Disk.honest g.D.Disk.faults c.args.loader.now c.requires.rests)

pub returns-in-Err-clause-bytes : goal.returns-in-Err-clause-bytes
returns-in-Err-clause-bytes g c = takes_none _ (head_text c.args.shapes.now c.args.objects.now)

pub returns-in-Err-clause-pools : goal.returns-in-Err-clause-pools
returns-in-Err-clause-pools g c = rw c.stop.ensures.stopped c.stop.ensures.pools

pub returns-in-Err-clause-cause : goal.returns-in-Err-clause-cause
returns-in-Err-clause-cause g c = rw c.stop.ensures.stopped tt
