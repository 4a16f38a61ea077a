-- A routine that takes in the callees of its accepted calls.
use Rattle.std.specs.Prelude.{ℕ, suc, Bool, true, false, List, [], ◌∷◌, ◌++◌, Option, slice_index_or}
use Rattle.il_core.specs.Routine.{RoutineParts}
use Rattle.il_laws.specs.Inline.{SiteBody, inlined}
use Rattle.il_laws.specs.Sites.{callees}
use Rattle.plan_laws.specs.Inlining.{body_for}
use Rattle.plan_pools.specs.declared.sites.CalledSite.{CalledSite}

-- whether call k of the caller p is accepted, by a row for each caller
abbrev pub is_accepted : List (List Bool) → ℕ → ℕ → Bool
is_accepted rows p k = slice_index_or (slice_index_or rows p []) k false

-- a site, if it is accepted
abbrev pub site_if : Bool → ℕ → ℕ → List CalledSite
site_if true k x = record { site = k; callee = x } ∷ []
site_if false k x = []

-- the accepted ones among a routine's calls from number k on, in order
abbrev pub sites_from : (ℕ → Bool) → ℕ → List ℕ → List CalledSite
sites_from t k [] = []
sites_from t k (x ∷ xs) = site_if (t k) k x ++ sites_from t (suc k) xs

-- the bodies that go to these sites, from the last one to the first, by what stands at each callee
abbrev pub bodies_at : (ℕ → Option RoutineParts) → List CalledSite → List SiteBody
bodies_at at [] = []
bodies_at at (x ∷ xs) = bodies_at at xs ++ body_for (λ q. q) x.site (at x.callee) []

-- the accepted sites of a routine
abbrev pub sites_of : (ℕ → ℕ → Bool) → RoutineParts → List CalledSite
sites_of t r = sites_from (t r.pid) 0 (callees r.blocks)

-- the routine with what stands at the callees of its accepted calls
abbrev pub taken_in : (ℕ → ℕ → Bool) → (ℕ → Option RoutineParts) → RoutineParts → RoutineParts
taken_in t at r = inlined r (bodies_at at (sites_of t r))
