-- What loops over summaries take from them.
use Rattle.std.proofs.Common.{◌≡◌, ℕ, zero, suc, ◌+◌, ◌<◌, ◌≤◌, List, [], ◌∷◌, map, length, drop, get_or, ap, ◌∙◌, arith}
use Rattle.std.specs.Prelude.{◌^◌}
use Rattle.std.specs.List.{AllByRecursion}
use Rattle.std.proofs.lemmas.List.{length-map}
use Rattle.std.proofs.lemmas.List.Sums.{sum_by-cons}
use Rattle.list_laws.proofs.Elements.{drop_read}
use Rattle.il_core.specs.Limits.{max_size}
use Rattle.plan_laws.specs.Summary as plan
use Rattle.plan_laws.specs.Summary.{cost_of}
use Rattle.call_graph.specs.Summaries.{site_of, summary_of}
use Rattle.call_graph.specs.declared.summary.Summary.{Summary}
use Rattle.inline_budget.specs.Linked.{IsSmall}

pub cost_next : (rs : List Summary) (i : ℕ) (r : Summary) → i < length rs → r ≡ get_or rs i r
    → cost_of (map summary_of (drop i rs)) ≡ r.size ^ 2 + cost_of (map summary_of (drop (i + 1) rs))
cost_next rs i r lt is =
    ap (λ (qs : List Summary). cost_of (map summary_of qs)) (drop_read rs i r lt is)
    ∙ sum_by-cons (λ (s : plan.Summary). s.size ^ 2) (summary_of r) (map summary_of (drop (i + 1) rs))

pub all_seen : (P : plan.Summary → Type 0) (rs : List Summary) → AllByRecursion (λ r. P (summary_of r)) rs → AllByRecursion P (map summary_of rs)
all_seen P [] h = tt
all_seen P (r ∷ rs) h = (h.0, all_seen P rs h.1)

pub small_sites : (rs : List Summary) (i : ℕ) (d : Summary) → AllByRecursion IsSmall (map summary_of rs) → i < length rs
    → length (get_or rs i d).sites ≤ max_size
small_sites [] i d h lt = absurd (omega arith)
small_sites (r ∷ rs) zero d h lt = let few = h.0.sites in let same = length-map r.sites site_of in omega arith
small_sites (r ∷ rs) (suc i) d h lt = small_sites rs i d h.1 (omega arith)
