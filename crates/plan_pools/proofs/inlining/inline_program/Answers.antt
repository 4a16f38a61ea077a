use Rattle.std.proofs.Common.{ap, map, nat_eq, subst, sym, ◌∙◌}
use Rattle.std.specs.List.{AllByRecursion, IsDistinct}
use Rattle.naim_core.specs.State.{empty_hand}
use Rattle.one_owner.proofs.Frames.{err_so, ok_so}
use Rattle.one_owner.proofs.Hands.{some_worker}
use Rattle.inline_budget.specs.Calls.{calls_of}
use Rattle.plan_laws.specs.Levels.{height}
use Rattle.plan_pools.specs.Accepting.{is_accepted}
use Rattle.plan_pools.proofs.Called.{program_inlined, program_stops}
use Rattle.plan_pools.proofs.WaveMembers.{waves_differ}
use Rattle.plan_pools.proofs.Waves.{all_mapped}
use Rattle.plan_pools.proofs.inlining.inline_program.Goals as goal

pub inline_waves-requires-clause-differ : goal.inline_waves-requires-clause-differ
inline_waves-requires-clause-differ g c =
    all_mapped (λ w. w.items) (IsDistinct nat_eq) c.as_slice.result.now
    (subst (AllByRecursion (IsDistinct nat_eq)) (sym (ap (map (λ w. w.items)) c.as_slice.ensures.value ∙ c.in-Ok.ensures.waves))
    (waves_differ (calls_of c.args.choices.now) 1 (height (calls_of c.args.choices.now))))

pub returns-in-Ok-clause-ok : goal.returns-in-Ok-clause-ok
returns-in-Ok-clause-ok g c = ok_so _ _ c.inline_waves.result (λ u b. record { rests = b.rests; pools = b.pools }) c.inline_waves.ensures.ok

pub returns-in-Ok-clause-program : goal.returns-in-Ok-clause-program
returns-in-Ok-clause-program g c = λ p h.
    ok_so _ _ c.inline_waves.result
    (λ u b. program_inlined g.D.Disk.reach g.D.Disk.honest g.D.Disk.faults g.D.Disk.bytes c.args.shapes.now (calls_of c.args.choices.now) c.requires.acyclic
    (is_accepted c.in-Ok.plan.accepted) c.in-Ok.ensures.accepted (map (λ w. w.items) c.as_slice.result.now)
    (ap (map (λ w. w.items)) c.as_slice.ensures.value ∙ c.in-Ok.ensures.waves) c.args.loader.now c.inline_waves.new.loader c.stands.ensures b p h)
    c.inline_waves.ensures.ok

pub returns-in-Ok-clause-err : goal.returns-in-Ok-clause-err
returns-in-Ok-clause-err g c =
    err_so _ _ c.inline_waves.result
    (λ e s. program_stops g.D.Disk.reach g.D.Disk.honest g.D.Disk.faults g.D.Disk.bytes c.args.shapes.now (calls_of c.args.choices.now) c.requires.acyclic
    (is_accepted c.in-Ok.plan.accepted) c.in-Ok.ensures.accepted (map (λ w. w.items) c.as_slice.result.now)
    (ap (map (λ w. w.items)) c.as_slice.ensures.value ∙ c.in-Ok.ensures.waves) c.args.loader.now c.inline_waves.new.loader e c.stands.ensures s)
    c.inline_waves.ensures.err

pub stop-requires : goal.stop-requires
stop-requires g c = record { worker = some_worker c.args.loader.now.core empty_hand c.requires.rests.alone }
