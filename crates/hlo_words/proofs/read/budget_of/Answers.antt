use Rattle.std.proofs.Common.{◌≡◌, ◌∙◌, ap, subst, Some, None, IfSome}
use Rattle.std.specs.Prelude.{option_map, codes}
use Rattle.clap.specs.Matches.{found_of}
use Rattle.clap.specs.Walk.{first_of, rows_of}
use Rattle.hlo_words.specs.Settings.{HasBudget}
use Rattle.hlo_words.proofs.Given.{first_given, found_value, left_out, no_value, when_none}
use Rattle.hlo_words.proofs.read.budget_of.Goals as goal

pub returns-in_default-clause-found : goal.returns-in_default-clause-found
returns-in_default-clause-found c =
    let is : first_of (codes "budget") (rows_of (found_of c.args.matches.now)) ≡ None =
    first_given (codes "budget") (found_of c.args.matches.now) _ c.get_str.ensures ∙ ap (option_map (λ s. s.now)) c.in_default.is in
    left_out (codes "budget") 100 0 1000 (rows_of (found_of c.args.matches.now)) is

pub returns-in_err-budget-clause-none : goal.returns-in_err-budget-clause-none
returns-in_err-budget-clause-none c =
    let is : first_of (codes "budget") (rows_of (found_of c.args.matches.now)) ≡ Some c.in-Some.text.now =
    first_given (codes "budget") (found_of c.args.matches.now) _ c.get_str.ensures ∙ ap (option_map (λ s. s.now)) c.in-Some.is in
    when_none _ c.from_residual.result c.number_in.result c.in_err-budget.was
    (no_value (codes "budget") 100 0 1000 (rows_of (found_of c.args.matches.now)) c.in-Some.text.now is c.number_in.result c.number_in.ensures.none)

pub returns-clause-found : goal.returns-clause-found
returns-clause-found c =
    let is : first_of (codes "budget") (rows_of (found_of c.args.matches.now)) ≡ Some c.in-Some.text.now =
    first_given (codes "budget") (found_of c.args.matches.now) _ c.get_str.ensures ∙ ap (option_map (λ s. s.now)) c.in-Some.is in
    subst (λ o. IfSome o (HasBudget (rows_of (found_of c.args.matches.now)))) c.in_ok-budget.was
    (found_value (codes "budget") 100 0 1000 (rows_of (found_of c.args.matches.now)) c.in-Some.text.now is c.number_in.result c.number_in.ensures.found)
