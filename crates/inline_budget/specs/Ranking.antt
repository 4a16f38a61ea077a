-- Call sites by rank.
use Rattle.std.specs.Prelude.{[]}
use Rattle.std.specs.Ordering.{nat_cmp, ordering_then}
use Rattle.std.specs.declared.cmp.Ordering.{Ordering}
use Rattle.plan_laws.specs.Summary.{CallSite}
use Rattle.inline_budget.specs.declared.ranking.PlacedSite.{PlacedSite}

-- a site without what is known of its arguments, which the choice doesn't read
abbrev pub bare : CallSite → CallSite
bare x = record { caller = x.caller; number = x.number; site = record { callee = x.site.callee; count = x.site.count; known = [] } }

abbrev pub placed : PlacedSite → CallSite
placed s = record { caller = s.caller; number = s.number; site = record { callee = s.callee; count = s.count; known = [] } }

abbrev pub place_order : PlacedSite → PlacedSite → Ordering
place_order a b = ordering_then (nat_cmp a.caller b.caller) (nat_cmp a.number b.number)

-- by falling count, and then by caller and number
abbrev pub rank_order : PlacedSite → PlacedSite → Ordering
rank_order a b = ordering_then (nat_cmp b.count a.count) (place_order a b)
