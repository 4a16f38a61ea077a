use Rattle.std.proofs.Common.{◌≡◌, ◌∙◌, ap, sym, Some, None}
use Rattle.std.specs.Prelude.{option_map, codes}
use Rattle.clap.specs.Matches.{found_of}
use Rattle.clap.specs.Walk.{first_of, rows_of}
use Rattle.hlo_words.specs.Settings.{is_set}
use Rattle.hlo_words.proofs.Given.{first_given}
use Rattle.hlo_words.proofs.read.has_stats.Goals as goal

pub returns-in-Some : goal.returns-in-Some
returns-in-Some c =
    let is : first_of (codes "stats") (rows_of (found_of c.args.matches.now)) ≡ Some c.in-Some.text.now =
    first_given (codes "stats") (found_of c.args.matches.now) _ c.get_str.ensures ∙ ap (option_map (λ s. s.now)) c.in-Some.is in
    c.eq.ensures ∙ sym (ap is_set is)

pub returns-in-None : goal.returns-in-None
returns-in-None c =
    let is : first_of (codes "stats") (rows_of (found_of c.args.matches.now)) ≡ None =
    first_given (codes "stats") (found_of c.args.matches.now) _ c.get_str.ensures ∙ ap (option_map (λ s. s.now)) c.in-None.is in
    sym (ap is_set is)
