use Rattle.std.proofs.Common.{sym, ◌∙◌}
use Rattle.naim_loader.specs.Paged.{kept_at}
use Rattle.one_owner.proofs.Frames.{err_so, ok_so}
use Rattle.plan_pools.specs.Contents.{routine_in}
use Rattle.plan_pools.proofs.Frames.{some_is}
use Rattle.plan_pools.specs.Accepting.{is_accepted, taken_in}
use Rattle.plan_pools.proofs.Growing.{grown_refused, nothing_changes, replaced, replaced_stops, still_there}
use Rattle.plan_pools.proofs.waving.inline_one.Goals as goal

pub returns-then-not-has-clause-ok : goal.returns-then-not-has-clause-ok
returns-then-not-has-clause-ok g c =
    nothing_changes g.D.Disk.reach g.D.Disk.honest g.D.Disk.faults (taken_in (is_accepted c.args.accepted.now) (routine_in c.args.loader.now)) c.args.loader.now
    c.args.pid c.requires.rests (sym c.has.ensures ∙ c.if-not-has.true)

pub grown-requires-clause-present : goal.grown-requires-clause-present
grown-requires-clause-present g c = some_is (kept_at c.args.loader.now c.args.pid) (sym c.has.ensures ∙ c.if-not-has.false)

pub replace-requires-clause-present : goal.replace-requires-clause-present
replace-requires-clause-present g c =
    still_there g.D.Disk.reach g.D.Disk.honest g.D.Disk.faults c.args.loader.now c.grown.new.loader c.args.pid c.in-Ok.ensures.ok.reads
    (some_is (kept_at c.args.loader.now c.args.pid) (sym c.has.ensures ∙ c.if-not-has.false))

pub returns-in-Ok-clause-ok : goal.returns-in-Ok-clause-ok
returns-in-Ok-clause-ok g c =
    ok_so _ _ c.replace.result
    (λ u h. replaced g.D.Disk.reach g.D.Disk.honest g.D.Disk.faults (taken_in (is_accepted c.args.accepted.now) (routine_in c.args.loader.now))
    c.args.loader.now c.grown.new.loader c.args.pid c.in-Ok.ensures.ok.reads _ c.in-Ok.ensures.routine c.replace.new.loader h)
    c.replace.ensures.ok

pub returns-in-Ok-clause-err : goal.returns-in-Ok-clause-err
returns-in-Ok-clause-err g c =
    err_so _ _ c.replace.result
    (λ e s. replaced_stops g.D.Disk.reach g.D.Disk.honest g.D.Disk.faults (taken_in (is_accepted c.args.accepted.now) (routine_in c.args.loader.now))
    c.args.loader.now c.grown.new.loader c.args.pid c.in-Ok.ensures.ok.reads _ c.in-Ok.ensures.routine _ c.replace.new.loader e
    (sym c.has.ensures ∙ c.if-not-has.false) s)
    c.replace.ensures.err

pub returns-in-Err-clause-err : goal.returns-in-Err-clause-err
returns-in-Err-clause-err g c =
    grown_refused g.D.Disk.reach g.D.Disk.honest g.D.Disk.faults c.args.shapes.now (is_accepted c.args.accepted.now) _ c.args.loader.now c.grown.new.loader
    c.args.pid c.in-Err.failure (sym c.has.ensures ∙ c.if-not-has.false) c.in-Err.ensures.err
