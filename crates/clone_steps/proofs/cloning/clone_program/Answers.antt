use Rattle.std.proofs.Common.{◌∙◌}
use Rattle.one_owner.proofs.Frames.{err_so, ok_so}
use Rattle.clone_steps.proofs.States.{cloned_made, cloned_stops, not_looked, still_ready}
use Rattle.clone_steps.proofs.cloning.clone_program.Goals as goal

pub clone_groups-requires : goal.clone_groups-requires
clone_groups-requires g c = record {
  ready = still_ready g.D.Disk.reach g.D.Disk.honest g.D.Disk.faults c.args.main c.args.limit c.args.names.now c.args.loader.now
      c.accepted_groups.new.loader c.args.progress c.requires.ready c.in-Ok.ensures.seen;
}

pub returns-in-Ok-clause-made : goal.returns-in-Ok-clause-made
returns-in-Ok-clause-made g c =
    ok_so _ _ c.clone_groups.result
    (λ y made. cloned_made g.D.Disk.reach g.D.Disk.honest g.D.Disk.faults c.args.main c.args.limit c.args.names.now c.args.loader.now
    c.accepted_groups.new.loader c.args.progress c.clone_groups.new.loader y c.requires.ready c.in-Ok.ensures.seen made)
    (c.clone_groups.ensures.made c.args.main c.args.limit (λ st held. c.as_slice.ensures.value ∙ c.in-Ok.ensures.groups st held))

pub returns-in-Ok-clause-err : goal.returns-in-Ok-clause-err
returns-in-Ok-clause-err g c =
    err_so _ _ c.clone_groups.result
    (λ e s. cloned_stops g.D.Disk.reach g.D.Disk.honest g.D.Disk.faults c.args.main c.args.limit c.args.names.now c.args.loader.now
    c.accepted_groups.new.loader c.args.progress c.clone_groups.new.loader e c.requires.ready c.in-Ok.ensures.seen s)
    (c.clone_groups.ensures.err c.args.main c.args.limit (λ st held. c.as_slice.ensures.value ∙ c.in-Ok.ensures.groups st held))

pub returns-in-Err-clause-err : goal.returns-in-Err-clause-err
returns-in-Err-clause-err g c =
    not_looked g.D.Disk.reach g.D.Disk.honest g.D.Disk.faults c.args.main c.args.limit c.args.names.now c.args.loader.now c.accepted_groups.new.loader
    c.args.progress c.in-Err.failure c.in-Err.ensures.err
