-- The arms of `?:` one after the other: both are typed, and then converted to the type that they have in common.
use Rattle.std.specs.Prelude.{ℕ}
use Rattle.c_types.specs.declared.conversion.Typed.{Typed}
use Rattle.c_types.specs.declared.nodes.Arms.{Arms}
use Rattle.c_types.specs.Conversions.{arms_type}
use Rattle.c_types.specs.ExpressionRules.{Typing, both_arms}
use Rattle.c_types.specs.Rules.{Rule, ◌>>=◌, give}

-- both arms, which begin at these lines and are typed
abbrev pub agreed : ℕ → Typed → ℕ → Typed → Rule Arms
agreed la a lb b = do
  ty ← arms_type la a.ty lb b.ty
  give (both_arms ty a b)

-- the second arm, behind the first, which begins at this line and is typed
abbrev pub behind_first : ℕ → Typed → Typing → Rule Arms
behind_first la a e = do
  b ← e.typed
  agreed la a e.line b
