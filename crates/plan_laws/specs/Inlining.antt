-- Routines with their accepted callees spliced into them.
use Rattle.std.specs.Prelude.{ℕ, zero, suc, List, [], ◌∷◌, length, Option, Some, None, map, nat_eq, if◌then◌else◌}
use Rattle.il_core.specs.Program.{routine_at}
use Rattle.il_core.specs.Routine.{RoutineParts}
use Rattle.il_laws.specs.Inline.{SiteBody, inlined}
use Rattle.il_laws.specs.Known.{known_sites}
use Rattle.plan_laws.specs.Levels.{level}
use Rattle.plan_laws.specs.Numbers.{Choice, InlineSite, inline_sites}

abbrev pub body_for : (RoutineParts → RoutineParts) → ℕ → Option RoutineParts → List SiteBody → List SiteBody
body_for f k None rest = rest
body_for f k (Some q) rest = record { site = k; body = f q } ∷ rest

-- for each site what f makes of its callee
abbrev pub bodies : (RoutineParts → RoutineParts) → List RoutineParts → List InlineSite → List SiteBody
bodies f rs [] = []
bodies f rs (x ∷ xs) = body_for f x.site (routine_at rs x.callee) (bodies f rs xs)

abbrev pub inlined_with : (RoutineParts → RoutineParts) → List RoutineParts → List Choice → RoutineParts → RoutineParts
inlined_with f rs cs r = inlined r (bodies f rs (inline_sites cs r.pid (known_sites r)))

-- with callees inlined down to this depth
abbrev pub inlined_by : List RoutineParts → List Choice → ℕ → RoutineParts → RoutineParts
inlined_by rs cs zero r = r
inlined_by rs cs (suc n) r = inlined_with (inlined_by rs cs n) rs cs r

-- The inlined routine: at each accepted site the inlined callee, from the last site to the first.
abbrev pub inlined_routine : List RoutineParts → List Choice → RoutineParts → RoutineParts
inlined_routine rs cs r = inlined_by rs cs (suc (length cs)) r

abbrev pub inlined_routines : List RoutineParts → List Choice → List RoutineParts
inlined_routines rs cs = map (inlined_routine rs cs) rs

-- one wave: each routine of this level takes in its callees as they stand
abbrev pub wave : List Choice → ℕ → List RoutineParts → List RoutineParts
wave cs k rs = map (λ r. if nat_eq (level cs r.pid) k then inlined_with (λ q. q) rs cs r else r) rs

-- the waves of so many levels from level k on
abbrev pub by_waves : List Choice → ℕ → ℕ → List RoutineParts → List RoutineParts
by_waves cs k zero rs = rs
by_waves cs k (suc n) rs = by_waves cs (suc k) n (wave cs k rs)
