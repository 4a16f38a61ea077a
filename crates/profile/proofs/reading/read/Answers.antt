use Rattle.profile.proofs.Fits.{no_first, bad_first}
use Rattle.profile.proofs.reading.read.Goals as goal

pub returns-in_default-clause-err : goal.returns-in_default-clause-err
returns-in_default-clause-err c = no_first c.args.b.now c.in_default.ensures.none

pub returns-then-not-is_same-clause-err : goal.returns-then-not-is_same-clause-err
returns-then-not-is_same-clause-err c =
    bad_first c.args.b.now c.in-Some.first.now c.in-Some.rest.now c.in-Some.ensures.found c.in-Some.ensures.line (c.is_same.ensures.no c.if-not-is_same.true)
