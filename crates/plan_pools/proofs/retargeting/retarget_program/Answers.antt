use Rattle.std.proofs.Common.{◌≡◌, ◌<◌, ap, arith, length, subst, sym, take, ◌∙◌}
use Rattle.std.proofs.Math.Seq.{take-length}
use Rattle.il_laws.specs.Reach.{is_in}
use Rattle.plan_pools.specs.Passes.{Changes}
use Rattle.plan_pools.proofs.Walking.{changes_itself, changes_next, present_next, stops_next}
use Rattle.plan_pools.specs.Retargeting.{callers_of, moved}
use Rattle.plan_pools.proofs.CallersMoved.{caller_at, callers_differ, callers_length}
use Rattle.plan_pools.proofs.Rewritten.{held_moved}
use Rattle.plan_pools.proofs.retargeting.retarget_program.Goals as goal

pub loop-entry-init : goal.loop-entry-init
loop-entry-init g c = changes_itself g.D.Disk.reach g.D.Disk.honest g.D.Disk.faults (moved c.args.callers.now) c.args.loader.now c.requires.rests

pub retarget_one-requires-clause-present : goal.retarget_one-requires-clause-present
retarget_one-requires-clause-present g c =
    let less = subst (λ n. c.loop-entry.entry-index < n) (sym (callers_length c.args.callers.now)) c.loop-entry-test.true in
    present_next g.D.Disk.reach g.D.Disk.honest g.D.Disk.faults (moved c.args.callers.now) c.args.loader.now c.loop-entry.loader (callers_of c.args.callers.now)
    c.loop-entry.entry-index c.entry-item.result.caller (callers_differ c.args.callers.now c.requires.rising) less
    (ap (λ m. m.caller) c.entry-item.is ∙ caller_at c.args.callers.now c.loop-entry.entry-index c.entry-item.result c.loop-entry-test.true)
    c.loop-entry.invariant c.requires.present

pub loop-entry-preserved : goal.loop-entry-preserved
loop-entry-preserved g c =
    let less = subst (λ n. c.loop-entry.entry-index < n) (sym (callers_length c.args.callers.now)) c.loop-entry-test.true in
    changes_next g.D.Disk.reach g.D.Disk.honest g.D.Disk.faults (moved c.args.callers.now) c.args.loader.now c.loop-entry.loader (callers_of c.args.callers.now)
    c.loop-entry.entry-index c.entry-item.result.caller (callers_differ c.args.callers.now c.requires.rising) less
    (ap (λ m. m.caller) c.entry-item.is ∙ caller_at c.args.callers.now c.loop-entry.entry-index c.entry-item.result c.loop-entry-test.true)
    c.loop-entry.invariant c.retarget_one.new.loader c.in-Ok.ensures.ok

pub returns-in-Err-clause-err : goal.returns-in-Err-clause-err
returns-in-Err-clause-err g c =
    let less = subst (λ n. c.loop-entry.entry-index < n) (sym (callers_length c.args.callers.now)) c.loop-entry-test.true in
    stops_next g.D.Disk.reach g.D.Disk.honest g.D.Disk.faults (moved c.args.callers.now) c.args.loader.now c.loop-entry.loader (callers_of c.args.callers.now)
    c.loop-entry.entry-index c.entry-item.result.caller (callers_differ c.args.callers.now c.requires.rising) less
    (ap (λ m. m.caller) c.entry-item.is ∙ caller_at c.args.callers.now c.loop-entry.entry-index c.entry-item.result c.loop-entry-test.true)
    c.loop-entry.invariant c.retarget_one.new.loader c.args.shapes.now
    c.in-Err.failure c.in-Err.ensures.err

pub returns-clause-ok : goal.returns-clause-ok
returns-clause-ok g c =
    let end : c.loop-entry.entry-index ≡ length (callers_of c.args.callers.now)
    = omega (arith, c.loop-entry.auto.entry-index-end, c.loop-entry-test.false, callers_length c.args.callers.now) in
    subst (λ ps. Changes g.D.Disk.reach g.D.Disk.honest g.D.Disk.faults (moved c.args.callers.now) (is_in ps) c.args.loader.now c.loop-entry.loader)
    (take-length (callers_of c.args.callers.now))
    (subst (λ k. Changes g.D.Disk.reach g.D.Disk.honest g.D.Disk.faults (moved c.args.callers.now)
    (is_in (take k (callers_of c.args.callers.now))) c.args.loader.now c.loop-entry.loader) end c.loop-entry.invariant)

pub returns-clause-program : goal.returns-clause-program
returns-clause-program g c = λ p trusted held.
    held_moved g.D.Disk.reach g.D.Disk.honest g.D.Disk.faults c.args.callers.now c.args.loader.now c.loop-entry.loader p held (returns-clause-ok g c) trusted
