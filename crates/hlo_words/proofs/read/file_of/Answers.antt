use Rattle.std.proofs.Common.{◌∙◌, ap, sym, Some, ◌∷◌, []}
use Rattle.clap.specs.Matches.{found_of}
use Rattle.hlo_words.proofs.Given.{given, not_given, as_many, only_text}
use Rattle.hlo_words.proofs.read.file_of.Goals as goal

pub returns-in_default-clause-usage : goal.returns-in_default-clause-usage
returns-in_default-clause-usage c = λ e file h. not_given (found_of c.args.matches.now) c.get_strs.result c.get_strs.ensures (file ∷ []) c.in_default.is h

pub returns-then-names-ne1-clause-usage : goal.returns-then-names-ne1-clause-usage
returns-then-names-ne1-clause-usage c = λ e file h. c.if-names-ne1.true
    (sym (as_many (found_of c.args.matches.now) c.get_strs.result c.get_strs.ensures c.in-Some.names c.in-Some.is (file ∷ []) h))

pub returns-clause-ok : goal.returns-clause-ok
returns-clause-ok c = given (found_of c.args.matches.now) c.get_strs.result c.get_strs.ensures c.in-Some.names c.in-Some.is
    ∙ ap Some (only_text c.in-Some.names.now _ c.if-names-ne1.false ∙ ap (λ t. t ∷ []) (sym c.in_ok-new.ensures))
