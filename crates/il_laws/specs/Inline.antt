-- A routine with callees spliced at several of its sites.
use Rattle.std.specs.Prelude.{ℕ, ◌<◌, List, [], ◌∷◌, ⊤}
use Rattle.std.specs.List.{AllByRecursion}
use Rattle.il_core.specs.Routine.{RoutineParts}
use Rattle.il_laws.specs.Splice.{splice}

-- a site, and the routine whose blocks go there
pub record SiteBody : Type 0 where
  pub site : ℕ
  pub body : RoutineParts

-- The routine with these spliced in their order. From the last site to the first each number is still that of its site,
-- since a splice leaves the sites before it where they are.
abbrev pub inlined : RoutineParts → List SiteBody → RoutineParts
inlined r [] = r
inlined r (a ∷ rest) = inlined (splice r a.site a.body) rest

-- from the last site to the first
abbrev pub IsFalling : List SiteBody → Type 0
IsFalling [] = ⊤
IsFalling (a ∷ rest) = AllByRecursion (λ b. b.site < a.site) rest × IsFalling rest
