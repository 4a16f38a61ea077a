use Rattle.std.proofs.Common.{◌≡◌, ◌∙◌, sym, ap}
use Rattle.std.proofs.lemmas.Result.{on_ok_weaker}
use Rattle.indexmap.specs.IndexMap.{insert_entry}
use Rattle.indexmap.specs.Layout.{set_value_at}
use Rattle.clone_groups.specs.Gathering.{Joint, groups_in, no_sites, with_site}
use Rattle.clone_groups.specs.Keys.{same_key}
use Rattle.clone_groups.proofs.Joining.{joined_new, joined_there, value_there}
use Rattle.clone_groups.proofs.gathering.join.Goals as goal

pub returns-in-Some : goal.returns-in-Some
returns-in-Some c =
    λ known. let es = c.args.groups.now.entries in
    let there = value_there es c.in-Some.at _ c.unwrap-sites.result c.get_index_mut.ensures.value c.unwrap-sites.ensures in
    on_ok_weaker c.add.result (λ h. ap (λ (j : Joint). groups_in (set_value_at es c.in-Some.at j)) h
    ∙ joined_there c.args.key c.args.caller c.args.number c.args.count known es c.in-Some.at c.unwrap-sites.result.now (sym c.in-Some.ensures.index) there)
    c.add.ensures

pub returns-in-Ok : goal.returns-in-Ok
returns-in-Ok c =
    λ known. let es = c.args.groups.now.entries in
    let inserted : c.insert.new.self.entries ≡ insert_entry same_key es c.args.key (with_site c.args.caller c.args.number c.args.count no_sites)
    = cc (c.in-Ok.ensures.entries, c.in_ok-add-in-None.ensures, c.new-sites.ensures) in
    ap groups_in inserted ∙ joined_new c.args.key c.args.caller c.args.number c.args.count known es (sym c.in-None.ensures.index)
