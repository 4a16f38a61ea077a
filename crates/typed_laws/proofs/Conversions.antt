-- The types to which operands are converted are those that operators ask for.
use Rattle.std.proofs.Common.{refl}
use Rattle.hlo_num.specs.declared.word.Ty.{Ty}
use Rattle.hlo_num.specs.declared.word.Ty.TheVariants.{Char, UChar, Short, UShort, Int, UInt, Long, ULong}
use Rattle.hlo_num.specs.Words.{promote, usual}
use Rattle.c_tree.specs.declared.expression.UnaryOp.{UnaryOp}
use Rattle.c_tree.specs.declared.expression.UnaryOp.TheVariants.{Plus, Minus, Complement, Not}
use Rattle.c_typed.specs.declared.expression.BinaryOp.{BinaryOp}
use Rattle.c_typed.specs.declared.expression.BinaryOp.TheVariants as op
use Rattle.c_types.specs.Conversions.{common, left_type, right_type, operand_type, unary_type}
use Rattle.typed_laws.specs.WellTyped.{IsPromoted, IsUnary, is_shift, IsRight, IsWorking}

-- a promoted type is one of four
each_promoted : (P : Ty → Type 0) → P Int → P UInt → P Long → P ULong → (t : Ty) → P (promote t)
each_promoted P i u l m Char = i
each_promoted P i u l m UChar = i
each_promoted P i u l m Short = i
each_promoted P i u l m UShort = i
each_promoted P i u l m Int = i
each_promoted P i u l m UInt = u
each_promoted P i u l m Long = l
each_promoted P i u l m ULong = m

pub promoted : (t : Ty) → IsPromoted (promote t)
promoted t = each_promoted IsPromoted refl refl refl refl t

pub common_promoted : (a b : Ty) → IsPromoted (common a b)
common_promoted a b =
    each_promoted (λ x. IsPromoted (usual x (promote b)))
    (each_promoted (λ y. IsPromoted (usual Int y)) refl refl refl refl b)
    (each_promoted (λ y. IsPromoted (usual UInt y)) refl refl refl refl b)
    (each_promoted (λ y. IsPromoted (usual Long y)) refl refl refl refl b)
    (each_promoted (λ y. IsPromoted (usual ULong y)) refl refl refl refl b) a

pub unary_is : (o : UnaryOp) (t : Ty) → IsUnary o (operand_type o t) (unary_type o t)
unary_is Plus t = (promoted t, refl)
unary_is Minus t = (promoted t, refl)
unary_is Complement t = (promoted t, refl)
unary_is Not t = refl

-- an operator that works in the type of its left operand
pub record Sides (o : BinaryOp) (a b : Ty) : Type 0 where
  pub left : IsPromoted (left_type o a b)
  pub right : IsRight (is_shift o) (left_type o a b) (right_type o a b)
  pub working : IsWorking (is_shift o) a (left_type o a b)

pub sides : (o : BinaryOp) (a b : Ty) → Sides o a b
sides op.Or a b = record { left = common_promoted a b; right = refl; working = (b, refl) }
sides op.Xor a b = record { left = common_promoted a b; right = refl; working = (b, refl) }
sides op.And a b = record { left = common_promoted a b; right = refl; working = (b, refl) }
sides op.Equal a b = record { left = common_promoted a b; right = refl; working = (b, refl) }
sides op.NotEqual a b = record { left = common_promoted a b; right = refl; working = (b, refl) }
sides op.Less a b = record { left = common_promoted a b; right = refl; working = (b, refl) }
sides op.Greater a b = record { left = common_promoted a b; right = refl; working = (b, refl) }
sides op.LessEqual a b = record { left = common_promoted a b; right = refl; working = (b, refl) }
sides op.GreaterEqual a b = record { left = common_promoted a b; right = refl; working = (b, refl) }
sides op.ShiftLeft a b = record { left = promoted a; right = promoted b; working = refl }
sides op.ShiftRight a b = record { left = promoted a; right = promoted b; working = refl }
sides op.Add a b = record { left = common_promoted a b; right = refl; working = (b, refl) }
sides op.Subtract a b = record { left = common_promoted a b; right = refl; working = (b, refl) }
sides op.Multiply a b = record { left = common_promoted a b; right = refl; working = (b, refl) }
sides op.Divide a b = record { left = common_promoted a b; right = refl; working = (b, refl) }
sides op.Remainder a b = record { left = common_promoted a b; right = refl; working = (b, refl) }
