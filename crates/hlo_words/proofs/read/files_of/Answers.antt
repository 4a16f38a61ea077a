use Rattle.std.proofs.Common.{◌≡◌, ◌∙◌, ap, arith, sym, length, Some}
use Rattle.clap.specs.Matches.{found_of}
use Rattle.std.proofs.lemmas.Bool.{eqb-true, eqb-false}
use Rattle.hlo_words.proofs.Given.{given, given_texts, not_given, as_many}
use Rattle.hlo_words.proofs.read.files_of.Goals as goal

pub returns-in_default-clause-usage : goal.returns-in_default-clause-usage
returns-in_default-clause-usage c = λ e files h. not_given (found_of c.args.matches.now) c.get_strs.result c.get_strs.ensures files c.in_default.is h.given

pub returns-then-is_empty-clause-usage : goal.returns-then-is_empty-clause-usage
returns-then-is_empty-clause-usage c = λ e files h.
    let same = as_many (found_of c.args.matches.now) c.get_strs.result c.get_strs.ensures c.in-Some.names c.in-Some.is files h.given in
    let some = h.some in
    absurd (omega (arith, eqb-true (length c.in-Some.names.now) 0 (sym c.if-is_empty.ensures)))

pub returns-then-names-gt-MAX_FILES-clause-usage : goal.returns-then-names-gt-MAX_FILES-clause-usage
returns-then-names-gt-MAX_FILES-clause-usage c = λ e files h.
    let same = as_many (found_of c.args.matches.now) c.get_strs.result c.get_strs.ensures c.in-Some.names c.in-Some.is files h.given in
    let most = h.most in
    absurd (omega (arith, c.if-names-gt-MAX_FILES.true))

pub returns-clause-ok : goal.returns-clause-ok
returns-clause-ok c =
    let same : c.in_ok-copies.field-0 ≡ given_texts c.in-Some.names.now = c.in_ok-copies.ensures in
    let here = given (found_of c.args.matches.now) c.get_strs.result c.get_strs.ensures c.in-Some.names c.in-Some.is ∙ ap Some (sym same) in
    let long = as_many (found_of c.args.matches.now) c.get_strs.result c.get_strs.ensures c.in-Some.names c.in-Some.is c.in_ok-copies.field-0 here in
    record {
      given = here;
      some = omega (arith, eqb-false (length c.in-Some.names.now) 0 (sym c.if-is_empty.ensures));
      most = omega (arith, c.if-names-gt-MAX_FILES.false);
    }
