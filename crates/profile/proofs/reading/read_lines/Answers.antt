use Rattle.std.proofs.Common.{subst}
use Rattle.profile.specs.Reading.{Takes}
use Rattle.profile.proofs.Fits.{no_more, bad_line, one_more, is_read, more_behind}
use Rattle.profile.proofs.reading.read_lines.Goals as goal

pub returns-then-is_nothing-clause-ok : goal.returns-then-is_nothing-clause-ok
returns-then-is_nothing-clause-ok c =
    is_read c.args.b.now c.lines.rest.now c.lines.profile c.lines.number c.lines.invariant c.in-Some.line.now c.in-Some.behind.now c.in-Some.ensures.found
    c.in-Some.ensures.line
    (c.is_same.ensures.yes c.if-is_same.true) (c.is_nothing.ensures.yes c.if-is_nothing.true)

pub returns-then-is_same-clause-err : goal.returns-then-is_same-clause-err
returns-then-is_same-clause-err c =
    more_behind c.args.b.now c.lines.rest.now c.lines.profile c.lines.number c.lines.invariant c.in-Some.line.now c.in-Some.behind.now c.in-Some.ensures.found
    c.in-Some.ensures.line
    (c.is_same.ensures.yes c.if-is_same.true) (c.is_nothing.ensures.no c.if-is_nothing.false) c.saturating_add.result c.saturating_add.ensures

pub returns-then-not-branch-clause-err : goal.returns-then-not-branch-clause-err
returns-then-not-branch-clause-err c =
    bad_line c.args.b.now c.lines.rest.now c.lines.profile c.lines.number c.lines.invariant c.in-Some.line.now c.in-Some.behind.now c.in-Some.ensures.found
    c.in-Some.ensures.line
    (c.is_same.ensures.no c.if-is_same.false)
    (subst (λ taken. Takes taken c.in-Some.line.now c.lines.profile c.take_line.new.profile) c.if-not-branch.true c.in_ok-take_line.ensures)

pub lines-preserved : goal.lines-preserved
lines-preserved c =
    let h = subst (λ taken. Takes taken c.in-Some.line.now c.lines.profile c.take_line.new.profile) c.if-not-branch.false c.in_ok-take_line.ensures in
    one_more c.args.b.now c.lines.rest.now c.lines.profile c.lines.number c.lines.invariant c.in-Some.line.now c.in-Some.behind.now c.in-Some.ensures.found
    c.in-Some.ensures.line
    h.0 h.1 h.2 c.take_line.new.profile h.3 c.saturating_add-number.result c.saturating_add-number.ensures

pub returns-clause-err : goal.returns-clause-err
returns-clause-err c = no_more c.args.b.now c.lines.rest.now c.lines.profile c.lines.number c.lines.invariant c.in_default.ensures.none
