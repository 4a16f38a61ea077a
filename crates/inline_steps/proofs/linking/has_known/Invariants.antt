use Rattle.std.proofs.Common.{◌≡◌, drop, map}
use Rattle.std.specs.List.{list_all}
use Rattle.il_laws.specs.Known.{KnownSite}
use Rattle.call_graph.specs.Summaries.{site_of}
use Rattle.inline_steps.specs.Linking.{mark_at}
use Rattle.inline_steps.proofs.linking.has_known.Given as goal

abbrev pub invariant-loop-site : goal.invariant-loop-site
invariant-loop-site l =
    list_all (λ (x : KnownSite). mark_at l.marks x.callee) (map site_of (drop l.site-index l.sites))
    ≡ list_all (λ (x : KnownSite). mark_at l.marks x.callee) (map site_of l.sites)
