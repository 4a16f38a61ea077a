use Rattle.std.proofs.Common.{subst}
use Rattle.c_parse.specs.Gives.{Fails}
use Rattle.c_parse.specs.ModuleParts as parts
use Rattle.c_parse.proofs.Told.{found_answers, wrong_answers, deep_answers}
use Rattle.c_parse.proofs.parser.parse.Goals as goal

pub returns-in-Ok : goal.returns-in-Ok
returns-in-Ok c = record { answers = found_answers c.args.tokens.now c.in-Ok.module c.in-Ok.ensures }

pub returns-in-Wrong : goal.returns-in-Wrong
returns-in-Wrong c = record {
  answers = wrong_answers c.args.tokens.now c.in-Wrong.rest.now c.line_of-line.result
      (subst (λ z. Fails z (parts.whole_module 256 c.args.tokens.now)) c.in-Wrong.is c.in-Err.ensures) c.line_of-line.ensures;
}

pub returns-in-Deep : goal.returns-in-Deep
returns-in-Deep c = record {
  answers = deep_answers c.args.tokens.now c.in-Deep.rest.now c.line_of-line-in-Deep.result
      (subst (λ z. Fails z (parts.whole_module 256 c.args.tokens.now)) c.in-Deep.is c.in-Err.ensures) c.line_of-line-in-Deep.ensures;
}
