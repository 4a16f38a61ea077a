use Rattle.std.proofs.Common.{ap, ◌∙◌}
use Rattle.il_core.specs.Text.{routine_text}
use Rattle.one_owner.specs.Alone.{reading}
use Rattle.one_owner.proofs.Hands.{some_worker}
use Rattle.plan_pools.proofs.Frames.{reads_kept, stops_room}
use Rattle.plan_pools.proofs.printing.write_text.Goals as goal

pub stop-requires-clause-worker : goal.stop-requires-clause-worker
stop-requires-clause-worker g c = some_worker c.args.loader.now.core (reading c.args.pin.pid) c.requires.reads.alone

pub returns-in-Ok-give_back-clause-pools : goal.returns-in-Ok-give_back-clause-pools
returns-in-Ok-give_back-clause-pools g c = record {
  rests = c.in-Ok-give_back.ensures.ok.rests;
  reads = reads_kept g.D.Disk.reach g.D.Disk.honest g.D.Disk.faults c.args.loader.now c.give_back.new.loader c.in-Ok-give_back.ensures.ok.keeps;
}

pub returns-in-Ok-give_back-clause-text : goal.returns-in-Ok-give_back-clause-text
returns-in-Ok-give_back-clause-text g c = c.in-Ok.ensures ∙ ap (λ b. routine_text c.args.name.now b.routine) c.deref.ensures

pub returns-in-Err-give_back-clause-pools : goal.returns-in-Err-give_back-clause-pools
returns-in-Err-give_back-clause-pools g c =
    stops_room g.D.Disk.reach g.D.Disk.honest g.D.Disk.faults c.args.loader.now c.give_back.new.loader _ c.in-Err-give_back.ensures.err

pub returns-in-Err-clause-pools : goal.returns-in-Err-clause-pools
returns-in-Err-clause-pools g c = rw c.stop.ensures.stopped c.stop.ensures.pools
