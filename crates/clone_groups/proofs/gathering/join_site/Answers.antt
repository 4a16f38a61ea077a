use Rattle.std.proofs.Common.{◌≡◌, ◌∙◌, List, Bool, Option, length, map, sym, ap, ap₂, arith}
use Rattle.std.proofs.lemmas.Result.{on_ok_weaker}
use Rattle.hlo_num.specs.declared.word.Word.{Word}
use Rattle.il_laws.specs.Clone.{Fixed}
use Rattle.const_prop.specs.Sites.{words_at}
use Rattle.plan_laws.specs.Groups.{fixed_from, fixed_of}
use Rattle.call_graph.specs.Summaries.{summary_of}
use Rattle.clone_groups.specs.Gathering.{groups_in, site_at}
use Rattle.clone_groups.specs.Keys.{fixed_in}
use Rattle.clone_groups.proofs.Gathered.{fixed_is, moves_here, no_candidate, small_reads, some_items}
use Rattle.clone_groups.proofs.gathering.join_site.Goals as goal

pub returns-then-not-may_call_clone : goal.returns-then-not-may_call_clone
returns-then-not-may_call_clone c =
    no_candidate (map summary_of c.args.routines.now) c.args.main c.args.caller c.args.number c.args.site.now (groups_in c.args.groups.now.entries)
    (sym (c.may_call_clone.ensures c.args.caller c.args.number) ∙ c.if-not-may_call_clone.true)

pub fixed_at-requires : goal.fixed_at-requires
fixed_at-requires c =
    let few = small_reads (map summary_of c.args.routines.now) c.args.main c.args.site.now.callee c.find.result c.in-Some.callee c.requires.few c.find.ensures
    c.in-Some.is in
    let same = ap (λ (bs : List Bool). length bs) c.as_slice.ensures in
    omega arith

pub returns : goal.returns
returns c =
    let ss = map summary_of c.args.routines.now in
    let gs = groups_in c.args.groups.now.entries in
    let fixed : fixed_in c.in_ok-fixed.fixed.items ≡ fixed_of ss (site_at c.args.caller c.args.number c.args.site.now)
    = c.in_ok-fixed.ensures
    ∙ ap₂ {A = List Bool} {B = List (Option Word)} {C = List Fixed} (λ bs ws. fixed_from 0 bs (words_at ws)) c.as_slice.ensures c.as_slice-2.ensures
    ∙ fixed_is ss c.args.main c.args.caller c.args.number c.args.site.now gs c.find.result c.in-Some.callee c.find.ensures c.in-Some.is in
    on_ok_weaker c.join.result
    (λ h. h ∙ moves_here ss c.args.main c.args.caller c.args.number c.args.site.now gs (fixed_in c.in_ok-fixed.fixed.items)
    (sym (c.may_call_clone.ensures c.args.caller c.args.number) ∙ c.if-not-may_call_clone.false)
    (some_items c.in_ok-fixed.fixed.items _ c.is_empty.result c.is_empty.ensures c.if-is_empty.false (omega (arith, c.in_ok-fixed.fixed.ok))) fixed)
    (c.join.ensures (words_at c.args.site.now.known))
