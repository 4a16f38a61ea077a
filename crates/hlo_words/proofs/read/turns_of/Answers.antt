use Rattle.std.proofs.Common.{◌≡◌, ◌∙◌, ap, Some, None}
use Rattle.std.specs.Prelude.{option_map, codes}
use Rattle.clap.specs.Matches.{found_of}
use Rattle.clap.specs.Walk.{first_of, rows_of}
use Rattle.hlo_words.proofs.Given.{first_given, found_value, left_out, no_value}
use Rattle.hlo_words.proofs.read.turns_of.Goals as goal

pub returns-in-Some-clause-found : goal.returns-in-Some-clause-found
returns-in-Some-clause-found c =
    let is : first_of (codes "turns") (rows_of (found_of c.args.matches.now)) ≡ Some c.in-Some.text.now =
    first_given (codes "turns") (found_of c.args.matches.now) _ c.get_str.ensures ∙ ap (option_map (λ s. s.now)) c.in-Some.is in
    found_value (codes "turns") 1000000000 0 1000000000000 (rows_of (found_of c.args.matches.now)) c.in-Some.text.now is c.number_in.result
    c.number_in.ensures.found

pub returns-in-Some-clause-none : goal.returns-in-Some-clause-none
returns-in-Some-clause-none c =
    let is : first_of (codes "turns") (rows_of (found_of c.args.matches.now)) ≡ Some c.in-Some.text.now =
    first_given (codes "turns") (found_of c.args.matches.now) _ c.get_str.ensures ∙ ap (option_map (λ s. s.now)) c.in-Some.is in
    no_value (codes "turns") 1000000000 0 1000000000000 (rows_of (found_of c.args.matches.now)) c.in-Some.text.now is c.number_in.result
    c.number_in.ensures.none

pub returns-in-None-clause-found : goal.returns-in-None-clause-found
returns-in-None-clause-found c =
    let is : first_of (codes "turns") (rows_of (found_of c.args.matches.now)) ≡ None =
    first_given (codes "turns") (found_of c.args.matches.now) _ c.get_str.ensures ∙ ap (option_map (λ s. s.now)) c.in-None.is in
    left_out (codes "turns") 1000000000 0 1000000000000 (rows_of (found_of c.args.matches.now)) is
