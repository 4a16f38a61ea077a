-- Which sites are inlined: they are taken by rank, each where the accepted calls stay free of cycles, every routine stays
-- within the limits, and the cost stays within its limit.
use Rattle.std.specs.Prelude.{ℕ, ◌&&◌, not, Bool, List, [], ◌∷◌, ◌++◌, nat_eq, nat_le, nat_lt, if◌then◌else◌}
use Rattle.std.specs.List.{list_all}
use Rattle.plan_laws.specs.Orders.{less_or, sorted}
use Rattle.plan_laws.specs.Summary.{Summary, CallSite, call_sites}
use Rattle.plan_laws.specs.Numbers.{Choice, inlined_numbers, is_within, cost_after}
use Rattle.plan_laws.specs.Levels.{is_acyclic}

-- the greater count first, then the lower caller, then the lower number
abbrev pub ranks_before : CallSite → CallSite → Bool
ranks_before a b = less_or b.site.count a.site.count (less_or a.caller b.caller (nat_lt a.number b.number))

abbrev pub ranked_sites : List Summary → List CallSite
ranked_sites ss = sorted ranks_before (call_sites ss)

-- a site that may be inlined, or may call a clone: it doesn't call `main`, and its count isn't 0
abbrev pub is_candidate : ℕ → CallSite → Bool
is_candidate main x = not (nat_eq x.site.callee main) && nat_lt 0 x.site.count

-- whether these calls may be inlined together
abbrev pub may_inline : List Summary → ℕ → List Choice → Bool
may_inline ss limit cs =
    is_acyclic cs && list_all (λ s. is_within (inlined_numbers ss cs s)) ss && nat_le (cost_after ss cs) limit

abbrev pub chosen_site : CallSite → Choice
chosen_site x = record { caller = x.caller; site = x.number; callee = x.site.callee }

-- each site's decision, by the sites accepted before
abbrev pub accepted : List Summary → ℕ → ℕ → List Choice → List CallSite → List Choice
accepted ss main limit cs [] = cs
accepted ss main limit cs (x ∷ xs) =
    if is_candidate main x && may_inline ss limit (cs ++ chosen_site x ∷ []) then
    accepted ss main limit (cs ++ chosen_site x ∷ []) xs
    else accepted ss main limit cs xs

-- The inline choice.
abbrev pub choice : List Summary → ℕ → ℕ → List Choice
choice ss main limit = accepted ss main limit [] (ranked_sites ss)
