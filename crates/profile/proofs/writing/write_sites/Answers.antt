use Rattle.std.proofs.Common.{get_or, take, ◌+◌}
use Rattle.std.proofs.lemmas.List.{take_more}
use Rattle.profile.specs.Texts.{Site}
use Rattle.profile.proofs.Written.{adds_site, adds_line}
use Rattle.profile.proofs.writing.write_sites.Goals as goal

pub loop-k-preserved : goal.loop-k-preserved
loop-k-preserved c =
    let i = c.loop-k.k-index in
    let sites = c.args.sites.now in
    let s = get_or sites i (0, 0) in
    adds_site c.args.name.now (take i sites) (take (i + 1) sites) s c.args.out.now.items c.loop-k.out.items c.write_site.new.out.items
    (take_more sites i (0, 0) c.loop-k-test.true) c.loop-k.invariant
    (adds_line (Site c.args.name.now s.0 s.1) c.loop-k.out.items c.write_site.new.out.items c.in_ok-write_site.ensures.line c.in_ok-write_site.ensures.bytes)
