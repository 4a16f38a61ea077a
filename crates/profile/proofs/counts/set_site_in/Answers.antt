use Rattle.std.proofs.Common.{sym, ap, ◌∙◌}
use Rattle.std.proofs.lemmas.Result.{on_ok_weaker, on_err_weaker}
use Rattle.indexmap.specs.Layout.{set_value_at}
use Rattle.profile.proofs.Setting.{known_mut, same_value, site_there}
use Rattle.profile.proofs.counts.set_site_in.Goals as goal

pub returns-in-Some-clause-set : goal.returns-in-Some-clause-set
returns-in-Some-clause-set c =
    let known = known_mut c.args.names.now.entries c.in-Some.at _ c.unwrap-tally.result c.get_index_mut.ensures.value c.unwrap-tally.ensures in
    on_ok_weaker c.set_site.result (λ h. ap (set_value_at c.args.names.now.entries c.in-Some.at) h
    ∙ site_there c.args.names.now.entries c.args.name.now c.in-Some.at c.unwrap-tally.result.now (sym c.in-Some.ensures.index) known c.args.k c.args.count)
    c.set_site.ensures.set

pub returns-in-Some-clause-kept : goal.returns-in-Some-clause-kept
returns-in-Some-clause-kept c =
    let known = known_mut c.args.names.now.entries c.in-Some.at _ c.unwrap-tally.result c.get_index_mut.ensures.value c.unwrap-tally.ensures in
    on_err_weaker c.set_site.result (λ h. ap (set_value_at c.args.names.now.entries c.in-Some.at) h ∙ same_value c.args.names.now.entries c.in-Some.at
    c.unwrap-tally.result.now known) c.set_site.ensures.kept
