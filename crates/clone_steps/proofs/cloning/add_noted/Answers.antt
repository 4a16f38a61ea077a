use Rattle.clone_steps.proofs.States.{added_noted, added_stops}
use Rattle.clone_steps.proofs.cloning.add_noted.Goals as goal

pub returns-in-Ok-clause-ready : goal.returns-in-Ok-clause-ready
returns-in-Ok-clause-ready g c = record {
  rests = c.note.ensures.rests;
  pools = c.note.ensures.pools c.in-Ok.added.shapes c.in-Ok.ensures.ready.pools;
  above = c.in-Ok.ensures.ready.above;
  next = c.in-Ok.ensures.ready.next;
}

pub returns-in-Ok-clause-made : goal.returns-in-Ok-clause-made
returns-in-Ok-clause-made g c = λ main limit known.
    added_noted g.D.Disk.reach g.D.Disk.honest g.D.Disk.faults main limit c.args.names.now c.args.groups.now c.args.loader.now c.args.progress known
    c.add_clones.new.loader c.in-Ok.added c.note.new.loader c.in-Ok.ensures.ready c.in-Ok.ensures.grows c.in-Ok.ensures.state
    (c.note.ensures.made c.in-Ok.added.shapes main c.in-Ok.ensures.ready.pools)

pub returns-in-Err-clause-err : goal.returns-in-Err-clause-err
returns-in-Err-clause-err g c = λ main limit known.
    added_stops g.D.Disk.reach g.D.Disk.honest g.D.Disk.faults main limit c.args.names.now c.args.groups.now c.args.loader.now c.args.progress known
    c.add_clones.new.loader c.in-Err.failure (c.in-Err.ensures.err main)
