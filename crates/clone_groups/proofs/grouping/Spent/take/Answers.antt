use Rattle.std.proofs.Common.{◌∙◌, ap, sym, arith, true, false}
use Rattle.std.specs.Prelude.{Some, None}
use Rattle.list_laws.proofs.Tests.{if_false, if_true}
use Rattle.plan_laws.specs.Groups.{Spent, clone_numbers, more_spent}
use Rattle.call_graph.specs.Summaries.{summary_of}
use Rattle.clone_groups.specs.Keys.{fixed_in}
use Rattle.clone_groups.proofs.Accepting.{fits_is, more_is, no_room, room}
use Rattle.clone_groups.proofs.grouping.Spent.take.Goals as goal

pub returns-in_default-clause-clone : goal.returns-in_default-clause-clone
returns-in_default-clause-clone c =
    sym (if_false (Some c.args.self.now.next) None (no_room c.args.self.now c.args.limit (summary_of c.args.callee.now) c.args.fixed.now
    c.in_default.ensures.none))

pub returns-in_default-clause-spent : goal.returns-in_default-clause-spent
returns-in_default-clause-spent c =
    sym (if_false (more_spent c.args.self.now (clone_numbers (summary_of c.args.callee.now) (fixed_in c.args.fixed.now))) c.args.self.now
    (no_room c.args.self.now c.args.limit (summary_of c.args.callee.now) c.args.fixed.now c.in_default.ensures.none))

pub returns-then-not-fits-clause-clone : goal.returns-then-not-fits-clause-clone
returns-then-not-fits-clause-clone c =
    sym (if_false (Some c.args.self.now.next) None
    (fits_is c.args.self.now c.args.limit (summary_of c.args.callee.now) c.args.fixed.now c.in-Some.size c.in-Some.ensures.some c.fits.result false
    c.fits.ensures
    c.if-not-fits.true))

pub returns-then-not-fits-clause-spent : goal.returns-then-not-fits-clause-spent
returns-then-not-fits-clause-spent c =
    sym (if_false (more_spent c.args.self.now (clone_numbers (summary_of c.args.callee.now) (fixed_in c.args.fixed.now))) c.args.self.now
    (fits_is c.args.self.now c.args.limit (summary_of c.args.callee.now) c.args.fixed.now c.in-Some.size c.in-Some.ensures.some c.fits.result false
    c.fits.ensures
    c.if-not-fits.true))

pub spend-requires-clause-cost : goal.spend-requires-clause-cost
spend-requires-clause-cost c =
    let r = room c.args.self.now c.args.limit (summary_of c.args.callee.now) c.args.fixed.now c.in-Some.size c.in-Some.ensures.some c.fits.result c.fits.ensures
    c.if-not-fits.false in
    let most = r.cost in
    omega (arith, c.ranges.limit)

pub spend-requires-clause-routines : goal.spend-requires-clause-routines
spend-requires-clause-routines c =
    (room c.args.self.now c.args.limit (summary_of c.args.callee.now) c.args.fixed.now c.in-Some.size c.in-Some.ensures.some c.fits.result c.fits.ensures
    c.if-not-fits.false).routines

pub spend-requires-clause-next : goal.spend-requires-clause-next
spend-requires-clause-next c =
    (room c.args.self.now c.args.limit (summary_of c.args.callee.now) c.args.fixed.now c.in-Some.size c.in-Some.ensures.some c.fits.result c.fits.ensures
    c.if-not-fits.false).next

pub returns-clause-clone : goal.returns-clause-clone
returns-clause-clone c =
    ap (λ (s : Spent). Some s.next) c.self.view_is ∙ sym (if_true (Some c.args.self.now.next) None
    (fits_is c.args.self.now c.args.limit (summary_of c.args.callee.now) c.args.fixed.now c.in-Some.size c.in-Some.ensures.some c.fits.result true
    c.fits.ensures
    c.if-not-fits.false))

pub returns-clause-spent : goal.returns-clause-spent
returns-clause-spent c =
    c.spend.ensures ∙ more_is c.args.self.now c.args.limit (summary_of c.args.callee.now) c.args.fixed.now c.in-Some.size c.in-Some.ensures.some
    ∙ sym (if_true (more_spent c.args.self.now (clone_numbers (summary_of c.args.callee.now) (fixed_in c.args.fixed.now))) c.args.self.now
    (fits_is c.args.self.now c.args.limit (summary_of c.args.callee.now) c.args.fixed.now c.in-Some.size c.in-Some.ensures.some c.fits.result true
    c.fits.ensures
    c.if-not-fits.false))
