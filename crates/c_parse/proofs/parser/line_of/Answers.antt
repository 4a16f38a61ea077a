use Rattle.c_parse.proofs.Told.{line_before, line_behind, all_before}
use Rattle.c_parse.proofs.parser.line_of.Goals as goal

pub returns-in-Some : goal.returns-in-Some
returns-in-Some c = λ us e. line_before c.args.tokens.now us c.in-Some.first.now c.in-Some.field-0-1.now c.args.rest.now e c.in-Some.ensures.cases.0

pub returns-in-Some-split_last : goal.returns-in-Some-split_last
returns-in-Some-split_last c = λ us e. line_behind c.args.tokens.now us c.in-Some-split_last.field-0-1.now c.in-Some-split_last.last.now
    (all_before c.args.tokens.now us c.args.rest.now e c.in_default.ensures.cases) c.in-Some-split_last.ensures.cases.0
