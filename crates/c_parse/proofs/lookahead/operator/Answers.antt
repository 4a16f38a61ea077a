use Rattle.std.proofs.Common.{◌∙◌, ap, sym}
use Rattle.c_parse.specs.Classes.{kind_class, row_of}
use Rattle.c_parse.specs.Expressions.{operators}
use Rattle.c_parse.proofs.Words.{among_front}
use Rattle.c_parse.proofs.lookahead.operator.Goals as goal

pub returns-in_ok-op-in-Some-Punct-default : goal.returns-in_ok-op-in-Some-Punct-default
returns-in_ok-op-in-Some-Punct-default c = among_front (operators c.args.q) c.args.t.now c.in-Some-Punct-default.field-0-0.now c.in-Some-Punct-default.rest.now
    c.in_ok-op-in-Some-Punct-default.op c.in-Some-Punct-default.ensures.cases.0
    (ap (λ z. row_of (kind_class z) (operators c.args.q)) c.in-Some-Punct-default.t9-in-Punct-1-is ∙ sym c.binary_operator.ensures ∙
    c.in_ok-op-in-Some-Punct-default.was)
