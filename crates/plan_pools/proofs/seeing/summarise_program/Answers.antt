use Rattle.std.proofs.Common.{ap, subst, sym, IsSome, ◌∙◌}
use Rattle.std.specs.List.{AllByRecursion}
use Rattle.il_laws.specs.Reach.{is_in}
use Rattle.naim_core.specs.State.{empty_hand}
use Rattle.naim_loader.specs.Paged.{kept_at}
use Rattle.one_owner.proofs.Frames.{err_so}
use Rattle.one_owner.proofs.Hands.{some_worker}
use Rattle.plan_pools.specs.Contents.{routine_pids}
use Rattle.plan_pools.specs.Seeing.{StopsSeeing}
use Rattle.plan_pools.proofs.Frames.{rests_itself}
use Rattle.plan_pools.proofs.Programs.{program_pids}
use Rattle.plan_pools.proofs.Seen.{memory_stops}
use Rattle.plan_pools.proofs.seeing.summarise_program.Goals as goal

pub summarise_all-requires-clause-present : goal.summarise_all-requires-clause-present
summarise_all-requires-clause-present g c =
    subst (AllByRecursion (λ p. IsSome (kept_at c.args.loader.now p))) (sym (c.as_slice.ensures.value ∙ c.in-Ok.ensures.pids)) c.requires.pools

pub returns-in-Ok-clause-graph : goal.returns-in-Ok-clause-graph
returns-in-Ok-clause-graph g c = λ p trusted valid shapes held.
    c.summarise_all.ensures.graph p trusted valid held
    (c.as_slice.ensures.value ∙ c.in-Ok.ensures.pids ∙ ap routine_pids (sym shapes) ∙ sym (program_pids p valid))

pub returns-in-Ok-clause-err : goal.returns-in-Ok-clause-err
returns-in-Ok-clause-err g c =
    err_so _ _ c.summarise_all.result
    (λ e h. subst (λ ps. StopsSeeing g.D.Disk.reach g.D.Disk.honest g.D.Disk.faults c.args.shapes.now (is_in ps) c.args.loader.now c.summarise_all.new.loader e)
    (c.as_slice.ensures.value ∙ c.in-Ok.ensures.pids) h)
    c.summarise_all.ensures.err

pub stop-requires : goal.stop-requires
stop-requires g c = record { worker = some_worker c.args.loader.now.core empty_hand c.requires.rests.alone }

pub returns-in-Err-clause-err : goal.returns-in-Err-clause-err
returns-in-Err-clause-err g c =
    memory_stops g.D.Disk.reach g.D.Disk.honest g.D.Disk.faults c.args.shapes.now (is_in (routine_pids c.args.shapes.now)) c.args.loader.now c.args.loader.now
    c.stop.new.loader _
    (rests_itself g.D.Disk.reach g.D.Disk.honest g.D.Disk.faults c.args.loader.now c.requires.rests) c.stop.ensures.same c.stop.ensures.failed
