use Rattle.std.proofs.Common.{◌≡◌, drop}
use Rattle.call_graph.specs.Reach.{seen_all, noted_all}
use Rattle.call_graph.proofs.reach.find_callees.Given as goal

abbrev pub invariant-loop-site : goal.invariant-loop-site
invariant-loop-site l = record {
  marks : seen_all l.routines (drop l.site-index l.sites) l.marks ≡ seen_all l.routines l.sites l.fn.marks;
  found : noted_all l.routines (drop l.site-index l.sites) l.marks l.found.items ≡ noted_all l.routines l.sites l.fn.marks l.fn.found.items;
}
