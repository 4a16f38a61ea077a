use Rattle.std.proofs.Common.{◌<◌}
use Rattle.list_laws.proofs.Elements.{all_of_front}
use Rattle.call_graph.specs.declared.summary.Summary.{Summary}
use Rattle.clone_groups.proofs.Noting.{below_more}
use Rattle.clone_groups.proofs.places.past_pids.Goals as goal

pub loop-routine-init : goal.loop-routine-init
loop-routine-init c = tt

pub loop-routine-preserved : goal.loop-routine-preserved
loop-routine-preserved c =
    below_more c.args.routines.now c.loop-routine.routine-index c.loop-routine.past c.above-past.result c.routine-item.result c.loop-routine.invariant
    c.above-past.ensures.kept c.above-past.ensures.above c.loop-routine-test.true c.routine-item.is

pub returns : goal.returns
returns c =
    all_of_front (λ (r : Summary). r.pid < c.loop-routine.past) c.loop-routine.routine-index c.args.routines.now c.loop-routine-test.false
    c.loop-routine.invariant
