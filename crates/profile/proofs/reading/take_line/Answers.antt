use Rattle.std.proofs.Common.{ap, ◌∙◌}
use Rattle.std.specs.Option.{option_map}
use Rattle.profile.specs.Names.{with_entry, with_site}
use Rattle.profile.specs.Texts.{Entry, Site}
use Rattle.profile.proofs.Lines.{spelled, taken_apart}
use Rattle.profile.proofs.reading.take_line.Goals as goal

pub returns-in-Some : goal.returns-in-Some
returns-in-Some c =
    let l = Entry c.in-Some.name.now c.in-Some.count in (
      l,
      (c.in-Some.ensures.named, c.in-Some.ensures.range),
      spelled c.args.line.now l c.in-Some.ensures.found,
      c.in_ok-set_entry.ensures.set ∙ ap (λ n. option_map (with_entry n c.in-Some.count) c.args.profile.now) c.in_ok-name.ensures,
    )

pub returns-in-Some-site_line : goal.returns-in-Some-site_line
returns-in-Some-site_line c =
    let s = c.in-Some-site_line in
    let l = Site s.name.now s.k s.count in (
      l,
      (s.ensures.named, s.ensures.number, s.ensures.range),
      spelled c.args.line.now l s.ensures.found,
      c.in_ok-set_site.ensures.set ∙ ap (λ n. option_map (with_site n s.k s.count) c.args.profile.now) c.in_ok-name-2.ensures,
    )

pub returns : goal.returns
returns c (Entry n k) is e = c.in_default.ensures.none n k is (taken_apart c.args.line.now (Entry n k) is e)
returns c (Site n k m) is e = c.in_default-site_line.ensures.none n k m is (taken_apart c.args.line.now (Site n k m) is e)
