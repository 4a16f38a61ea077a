use Rattle.std.proofs.Common.{map, ap}
use Rattle.call_graph.specs.Summaries.{summary_of}
use Rattle.clone_groups.specs.Gathering.{groups_in}
use Rattle.clone_groups.proofs.Gathered.{callers_joined, few_sites, no_callers, no_groups}
use Rattle.clone_groups.proofs.gathering.gather.Goals as goal

pub loop-caller-init : goal.loop-caller-init
loop-caller-init c =
    no_groups (map summary_of c.args.routines.now) c.args.main c.args.routines.now (groups_in c.new-groups.result.entries) c.requires.few
    (ap groups_in c.new-groups.ensures.empty)

pub join_sites-requires-clause-sites : goal.join_sites-requires-clause-sites
join_sites-requires-clause-sites c =
    few_sites (map summary_of c.args.routines.now) c.args.main c.args.routines.now c.loop-caller.left.now c.in-Some.before.now c.in-Some.caller.now
    (groups_in c.loop-caller.groups.entries) c.in-Some.ensures.cases.0 c.loop-caller.invariant

pub loop-caller-preserved : goal.loop-caller-preserved
loop-caller-preserved c =
    callers_joined (map summary_of c.args.routines.now) c.args.main c.args.routines.now c.loop-caller.left.now c.in-Some.before.now c.in-Some.caller.now
    (groups_in c.loop-caller.groups.entries) (groups_in c.join_sites.new.groups.entries) c.in-Some.ensures.cases.0 c.loop-caller.invariant
    c.in_ok-join_sites.ensures

pub returns : goal.returns
returns c =
    no_callers (map summary_of c.args.routines.now) c.args.main c.args.routines.now c.loop-caller.left.now (groups_in c.loop-caller.groups.entries)
    c.in_default.ensures.cases c.loop-caller.invariant
