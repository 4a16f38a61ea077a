use Rattle.std.proofs.Common.{ap, ◌∙◌}
use Rattle.std.specs.Prelude.{nat_eq}
use Rattle.call_graph.specs.Summaries.{put}
use Rattle.naim_core.specs.State.{empty_hand}
use Rattle.one_owner.proofs.Hands.{some_worker}
use Rattle.plan_pools.proofs.Seen.{memory_stops}
use Rattle.plan_pools.proofs.seeing.add_summary.Goals as goal

pub stop-requires : goal.stop-requires
stop-requires g c = record { worker = some_worker c.see.new.loader.core empty_hand c.in-Ok.ensures.ok.rests.alone }

pub returns-in-Ok-replace-clause-graph : goal.returns-in-Ok-replace-clause-graph
returns-in-Ok-replace-clause-graph g c = λ trusted r at. c.in-Ok-replace.ensures.ok ∙ ap (λ s. put s c.args.graph.now) (c.in-Ok.ensures.summary trusted r at)

pub returns-in-Err-replace-clause-err : goal.returns-in-Err-replace-clause-err
returns-in-Err-replace-clause-err g c =
    memory_stops g.D.Disk.reach g.D.Disk.honest g.D.Disk.faults c.args.shapes.now (nat_eq c.args.pid) c.args.loader.now c.see.new.loader c.stop.new.loader _
    c.in-Ok.ensures.ok c.stop.ensures.same
    c.stop.ensures.failed
