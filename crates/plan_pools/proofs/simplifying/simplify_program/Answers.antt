use Rattle.std.proofs.Common.{ap, subst, sym, IsSome, nat_eq, ◌∙◌}
use Rattle.std.specs.List.{AllByRecursion, IsDistinct}
use Rattle.il_laws.specs.Reach.{is_in}
use Rattle.il_laws.specs.Simplify.{simplify}
use Rattle.naim_core.specs.State.{empty_hand}
use Rattle.naim_loader.specs.Paged.{kept_at}
use Rattle.one_owner.proofs.Frames.{err_so, ok_so}
use Rattle.one_owner.proofs.Hands.{some_worker}
use Rattle.plan_pools.specs.Contents.{routine_pids}
use Rattle.plan_pools.specs.Passes.{ChangesAll, StopsChanging}
use Rattle.plan_pools.proofs.Held.{held_simplified}
use Rattle.plan_pools.proofs.Programs.{program_pids}
use Rattle.plan_pools.proofs.Walking.{memory_stops}
use Rattle.plan_pools.proofs.simplifying.simplify_program.Goals as goal

pub simplify_all-requires-clause-present : goal.simplify_all-requires-clause-present
simplify_all-requires-clause-present g c =
    subst (AllByRecursion (λ p. IsSome (kept_at c.args.loader.now p))) (sym (c.as_slice.ensures.value ∙ c.in-Ok.ensures.pids)) c.requires.pools

pub simplify_all-requires-clause-differ : goal.simplify_all-requires-clause-differ
simplify_all-requires-clause-differ g c = subst (IsDistinct nat_eq) (sym (c.as_slice.ensures.value ∙ c.in-Ok.ensures.pids)) c.in-Ok.ensures.differ

pub returns-in-Ok-clause-ok : goal.returns-in-Ok-clause-ok
returns-in-Ok-clause-ok g c =
    ok_so _ _ c.simplify_all.result
    (λ u h. subst (λ ps. ChangesAll g.D.Disk.reach g.D.Disk.honest g.D.Disk.faults simplify ps c.args.loader.now c.simplify_all.new.loader)
    (c.as_slice.ensures.value ∙ c.in-Ok.ensures.pids) h)
    c.simplify_all.ensures.ok

pub returns-in-Ok-clause-program : goal.returns-in-Ok-clause-program
returns-in-Ok-clause-program g c = λ p trusted valid shapes held.
    ok_so _ _ c.simplify_all.result
    (λ u h. held_simplified g.D.Disk.reach g.D.Disk.honest g.D.Disk.faults c.args.loader.now c.simplify_all.new.loader p c.as_slice.result.now valid held
    (c.as_slice.ensures.value ∙ c.in-Ok.ensures.pids ∙ ap routine_pids (sym shapes) ∙ sym (program_pids p valid)) h trusted)
    c.simplify_all.ensures.ok

pub returns-in-Ok-clause-err : goal.returns-in-Ok-clause-err
returns-in-Ok-clause-err g c =
    err_so _ _ c.simplify_all.result
    (λ e h. subst
    (λ ps. StopsChanging g.D.Disk.reach g.D.Disk.honest g.D.Disk.faults simplify c.args.shapes.now (is_in ps) c.args.loader.now c.simplify_all.new.loader e)
    (c.as_slice.ensures.value ∙ c.in-Ok.ensures.pids) h)
    c.simplify_all.ensures.err

pub stop-requires : goal.stop-requires
stop-requires g c = record { worker = some_worker c.args.loader.now.core empty_hand c.requires.rests.alone }

pub returns-in-Err-clause-err : goal.returns-in-Err-clause-err
returns-in-Err-clause-err g c =
    memory_stops g.D.Disk.reach g.D.Disk.honest g.D.Disk.faults simplify c.args.shapes.now
    (is_in (routine_pids c.args.shapes.now)) c.args.loader.now c.stop.new.loader _ c.requires.rests c.stop.ensures.same
    c.stop.ensures.failed
