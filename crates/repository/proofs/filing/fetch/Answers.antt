use Rattle.std.proofs.Common.{◌≡◌, ap, rules, sym, ◌∙◌}
use Rattle.std.specs.Cmp.Lexicographic.{other_text}
use Rattle.sha2.specs.Sha256.{sha256}
use Rattle.repository.specs.declared.filing.Filed.{Filed}
use Rattle.repository.proofs.Ranges.{HasBytes-unique}
use Rattle.repository.proofs.filing.fetch.Goals as goal

pub returns-then-ne-clause-filed : goal.returns-then-ne-clause-filed
returns-then-ne-clause-filed g c = λ bytes honest covers is has.
    let read = c.in_ok-v.ensures.places honest covers in
    let same : c.in_ok-v.v.items ≡ bytes = HasBytes-unique _ c.args.f.now.place _ bytes (c.in_ok-v.ensures.length ∙ ap (λ (f : Filed). f.len) is) read.gives has
    in
    let kept : c.digest-found.result ≡ c.args.f.now.digest = c.digest-found.ensures ∙ ap sha256 (c.as_slice.ensures.value ∙ same) ∙ sym
    (ap (λ (f : Filed). f.digest) is) in
    other_text c.digest-found.result c.args.f.now.digest (search rules) kept

pub returns-clause-filed : goal.returns-clause-filed
returns-clause-filed g c = λ bytes honest covers is has.
    let read = c.in_ok-v.ensures.places honest covers in
    HasBytes-unique _ c.args.f.now.place _ bytes (c.in_ok-v.ensures.length ∙ ap (λ (f : Filed). f.len) is) read.gives has
