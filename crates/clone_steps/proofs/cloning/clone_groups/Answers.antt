use Rattle.clone_steps.proofs.States.{not_added, sent_made, sent_stops}
use Rattle.clone_steps.proofs.cloning.clone_groups.Goals as goal

pub send_calls-requires-clause-rests : goal.send_calls-requires-clause-rests
send_calls-requires-clause-rests g c = c.in-Ok.ensures.ready.rests

pub send_calls-requires-clause-pools : goal.send_calls-requires-clause-pools
send_calls-requires-clause-pools g c = c.in-Ok.ensures.ready.pools

pub send_calls-requires-clause-above : goal.send_calls-requires-clause-above
send_calls-requires-clause-above g c = c.in-Ok.ensures.ready.above

pub returns-in-Ok-send_calls-clause-made : goal.returns-in-Ok-send_calls-clause-made
returns-in-Ok-send_calls-clause-made g c = λ main limit known.
    sent_made g.D.Disk.reach g.D.Disk.honest g.D.Disk.faults main limit c.args.names.now c.args.groups.now c.args.loader.now c.args.progress known
    c.add_noted.new.loader c.in-Ok.added (c.in-Ok.ensures.made main limit known) c.send_calls.new.loader (c.in-Ok-send_calls.ensures.made main)

pub returns-in-Err-send_calls-clause-err : goal.returns-in-Err-send_calls-clause-err
returns-in-Err-send_calls-clause-err g c = λ main limit known.
    sent_stops g.D.Disk.reach g.D.Disk.honest g.D.Disk.faults main limit c.args.names.now c.args.groups.now c.args.loader.now c.args.progress known
    c.add_noted.new.loader c.in-Ok.added (c.in-Ok.ensures.made main limit known) c.send_calls.new.loader c.in-Err-send_calls.failure
    (c.in-Err-send_calls.ensures.err main)

pub returns-in-Err-clause-err : goal.returns-in-Err-clause-err
returns-in-Err-clause-err g c = λ main limit known.
    not_added g.D.Disk.reach g.D.Disk.honest g.D.Disk.faults main limit c.args.names.now c.args.loader.now c.args.progress c.add_noted.new.loader
    c.in-Err.failure (c.in-Err.ensures.err main limit known)
