use Rattle.std.proofs.Common.{sym, ap, ◌∙◌}
use Rattle.indexmap.specs.Layout.{set_value_at}
use Rattle.profile.proofs.Setting.{known_mut, entry_there}
use Rattle.profile.proofs.counts.set_entry_in.Goals as goal

pub returns-in-Some-clause-set : goal.returns-in-Some-clause-set
returns-in-Some-clause-set c =
    let known = known_mut c.args.names.now.entries c.in-Some.at _ c.unwrap-tally.result c.get_index_mut.ensures.value c.unwrap-tally.ensures in
    ap (set_value_at c.args.names.now.entries c.in-Some.at) c.set_entry.ensures
    ∙ entry_there c.args.names.now.entries c.args.name.now c.in-Some.at c.unwrap-tally.result.now (sym c.in-Some.ensures.index) known c.args.count
