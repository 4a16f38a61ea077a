use Rattle.std.proofs.Common.{◌≤◌, List, map, length, refl, ap, sym, subst, arith}
use Rattle.il_core.specs.Limits.{max_size}
use Rattle.plan_laws.specs.Summary.{numbered}
use Rattle.call_graph.specs.Summaries.{site_of, summary_of}
use Rattle.call_graph.specs.declared.summary.Site.{Site}
use Rattle.clone_groups.specs.Gathering.{all_joined, groups_in}
use Rattle.clone_groups.proofs.Gathered.{no_sites_left, one_joined}
use Rattle.clone_groups.proofs.gathering.join_sites.Goals as goal

pub loop-site-init : goal.loop-site-init
loop-site-init c =
    let ss = map summary_of c.args.routines.now in
    let gs = groups_in c.args.groups.now.entries in
    record {
      short = subst (λ (xs : List Site). length xs ≤ max_size) (sym c.as_slice-left.ensures) c.requires.sites;
      rest = ap (λ (xs : List Site). all_joined ss c.args.main (numbered c.args.caller.now.pid 0 (map site_of xs)) gs) c.as_slice-left.ensures;
    }

pub overflow_cast-before : goal.overflow_cast-before
overflow_cast-before c =
    let most = c.loop-site.invariant.short in
    let more = c.in-Some.ensures.cases.1 in
    omega arith

pub loop-site-preserved : goal.loop-site-preserved
loop-site-preserved c =
    one_joined (map summary_of c.args.routines.now) c.args.main c.args.caller.now.pid c.args.caller.now.sites c.loop-site.left.now c.in-Some.before.now
    c.in-Some.site.now (groups_in c.args.groups.now.entries) (groups_in c.loop-site.groups.entries) (groups_in c.join_site.new.groups.entries)
    (length c.in-Some.before.now) c.in-Some.ensures.cases.0 refl c.loop-site.invariant c.in_ok-join_site.ensures

pub returns : goal.returns
returns c =
    no_sites_left (map summary_of c.args.routines.now) c.args.main c.args.caller.now.pid c.args.caller.now.sites c.loop-site.left.now
    (groups_in c.args.groups.now.entries) (groups_in c.loop-site.groups.entries) c.in_default.ensures.cases c.loop-site.invariant
