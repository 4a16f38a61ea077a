use Rattle.std.proofs.Common.{◌∙◌, ap, sym, Some}
use Rattle.std.specs.Prelude.{option_map, codes}
use Rattle.clap.specs.Matches.{found_of}
use Rattle.hlo_words.proofs.Given.{first_given}
use Rattle.hlo_words.proofs.read.profile_of.Goals as goal

pub returns-in_ok-new-in-Some : goal.returns-in_ok-new-in-Some
returns-in_ok-new-in-Some c =
    first_given (codes "profile") (found_of c.args.matches.now) _ c.get_str.ensures ∙ ap (option_map (λ s. s.now)) c.in-Some.is ∙ ap Some
    (sym c.in_ok-new-in-Some.ensures)

pub returns-in-None : goal.returns-in-None
returns-in-None c = first_given (codes "profile") (found_of c.args.matches.now) _ c.get_str.ensures ∙ ap (option_map (λ s. s.now)) c.in-None.is
