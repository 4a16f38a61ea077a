use Rattle.std.proofs.Common.{◌≡◌, ◌∙◌, true, refl, ap, [], subst, map, string_bytes}
use Rattle.clap.specs.Faults.{fault_of, is_simple_and_free}
use Rattle.clap.specs.Simple.{App, app_of, is_simple, matches_of}
use Rattle.hlo_words.specs.Lines.{opt_app}
use Rattle.hlo_words.proofs.line.read_opt_line.Goals as goal

simple : is_simple opt_app ≡ true
simple = refl

free : is_simple_and_free opt_app ≡ true
free = refl

pub returns-in-Ok-clause-ok : goal.returns-in-Ok-clause-ok
returns-in-Ok-clause-ok c =
    let words = map string_bytes c.args.words.now in
    let app_is : app_of c.in_ok-opt_line.field-0 ≡ opt_app = c.in_ok-opt_line.ensures in
    record {
      taken = subst (λ (a : App). fault_of a words ≡ []) app_is (c.in-Ok.ensures.kinds (ap is_simple_and_free app_is ∙ free));
      found = (c.in-Ok.ensures.matches (ap is_simple app_is ∙ simple)).0 ∙ ap (λ a. matches_of a words) app_is;
    }
