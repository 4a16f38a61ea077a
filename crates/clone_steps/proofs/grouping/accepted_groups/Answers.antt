use Rattle.clone_steps.proofs.States.{groups_known}
use Rattle.clone_steps.proofs.grouping.accepted_groups.Goals as goal

pub returns-in-Ok-group-clause-groups : goal.returns-in-Ok-group-clause-groups
returns-in-Ok-group-clause-groups g c =
    groups_known g.D.Disk.reach g.D.Disk.honest g.D.Disk.faults c.args.main c.args.limit c.args.loader.now c.summarise_linked.new.loader
    c.args.progress.now c.in-Ok.graph c.in-Ok-group.groups.items c.in-Ok.ensures.ok c.in-Ok.ensures.graph _ c.summaries.ensures c.in-Ok-group.ensures

pub returns-clause-err : goal.returns-clause-err
returns-clause-err g c = c.in-Err.ensures.err c.args.main
