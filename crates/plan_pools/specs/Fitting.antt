-- What can be spliced under given shapes.
use Rattle.std.specs.Prelude.{List, [], ◌∷◌, ⊤}
use Rattle.il_core.specs.Limits.{IsWithinLimits}
use Rattle.il_core.specs.Routine.{RoutineParts}
use Rattle.il_core.specs.Valid.{IsValid}
use Rattle.il_core.specs.declared.shape.ShapeRow.{ShapeRow}
use Rattle.il_laws.specs.Inline.{SiteBody}
use Rattle.il_laws.specs.Splice.{splice}

-- the body is valid with the shapes, and so is the routine with it, which is within the limits of the language
pub record FitsAt (rows : List ShapeRow) (r : RoutineParts) (a : SiteBody) : Type 0 where
  pub body : IsValid rows a.body
  pub valid : IsValid rows (splice r a.site a.body)
  pub within : IsWithinLimits (splice r a.site a.body)

-- so it is with each of these bodies, spliced in their order
abbrev pub AreFit : List ShapeRow → RoutineParts → List SiteBody → Type 0
AreFit rows r [] = ⊤
AreFit rows r (a ∷ rest) = FitsAt rows r a × AreFit rows (splice r a.site a.body) rest
