-- The types of expressions, and conversions (C90, 6.2.1). A conversion to the type that the operand has is no
-- conversion, and makes no node.
use Rattle.std.specs.Prelude.{ℕ, Bool, true, false, Option, Some, None, if◌then◌else◌}
use Rattle.hlo_num.specs.declared.word.Ty.{Ty}
use Rattle.hlo_num.specs.declared.word.Ty.TheVariants.{Int}
use Rattle.hlo_num.specs.Words.{promote, usual}
use Rattle.sym_tables.specs.Entities.{same_type}
use Rattle.c_tree.specs.declared.expression.BinaryOp.{BinaryOp as Written}
use Rattle.c_tree.specs.declared.expression.BinaryOp.TheVariants as written
use Rattle.c_tree.specs.declared.expression.UnaryOp.{UnaryOp}
use Rattle.c_tree.specs.declared.expression.UnaryOp.TheVariants as unaries
use Rattle.c_typed.specs.declared.expression.TypedExpr.{TypedExpr, roll-TypedExpr}
use Rattle.c_typed.specs.declared.expression.Place.TheOpen.{TypedExpr-F}
use Rattle.c_typed.specs.declared.expression.BinaryOp.{BinaryOp}
use Rattle.c_typed.specs.declared.expression.BinaryOp.TheVariants as op
use Rattle.c_typed.specs.declared.expression.LogicalOp.TheVariants as logical
use Rattle.c_types.specs.declared.conversion.Valued.{Valued}
use Rattle.c_types.specs.declared.conversion.Operator.{Operator}
use Rattle.c_types.specs.declared.conversion.Operator.TheVariants.{Skipping, Working}
use Rattle.c_types.specs.Rules.{Rule, give, broken}
use Rattle.c_types.specs.declared.fault.TypeKind.TheVariants as kinds

-- a value converted to a type
abbrev pub converted : Ty → Valued → TypedExpr
converted to v = if same_type v.ty to then v.expr else roll-TypedExpr (TypedExpr-F.Convert to v.expr)

-- an operator as it is written: one that may skip its right operand, or one that evaluates both
abbrev pub sorted : Written → Operator
sorted written.LogicalOr = Skipping logical.Or
sorted written.LogicalAnd = Skipping logical.And
sorted written.Or = Working op.Or
sorted written.Xor = Working op.Xor
sorted written.And = Working op.And
sorted written.Equal = Working op.Equal
sorted written.NotEqual = Working op.NotEqual
sorted written.Less = Working op.Less
sorted written.Greater = Working op.Greater
sorted written.LessEqual = Working op.LessEqual
sorted written.GreaterEqual = Working op.GreaterEqual
sorted written.ShiftLeft = Working op.ShiftLeft
sorted written.ShiftRight = Working op.ShiftRight
sorted written.Add = Working op.Add
sorted written.Subtract = Working op.Subtract
sorted written.Multiply = Working op.Multiply
sorted written.Divide = Working op.Divide
sorted written.Remainder = Working op.Remainder

abbrev pub is_shift : BinaryOp → Bool
is_shift op.ShiftLeft = true
is_shift op.ShiftRight = true
is_shift _ = false

-- the usual type of two operands, after their promotions
abbrev pub common : Ty → Ty → Ty
common a b = usual (promote a) (promote b)

-- the type to which the left operand is converted, and in which the operator works: a shift promotes each side alone
abbrev pub left_type : BinaryOp → Ty → Ty → Ty
left_type o a b = if is_shift o then promote a else common a b

-- the type to which the right operand is converted
abbrev pub right_type : BinaryOp → Ty → Ty → Ty
right_type o a b = if is_shift o then promote b else common a b

-- the type of `+e`, `-e`, `~e` and `!e`
abbrev pub unary_type : UnaryOp → Ty → Ty
unary_type unaries.Plus t = promote t
unary_type unaries.Minus t = promote t
unary_type unaries.Complement t = promote t
unary_type unaries.Not t = Int

-- the type to which the operand is converted: `!` takes it as it is
abbrev pub operand_type : UnaryOp → Ty → Ty
operand_type unaries.Plus t = promote t
operand_type unaries.Minus t = promote t
operand_type unaries.Complement t = promote t
operand_type unaries.Not t = t

-- a value is wanted of the expression that begins at this line
abbrev pub wanted : ℕ → Option Ty → Rule Ty
wanted line None = broken line kinds.VoidValue
wanted line (Some ty) = give ty

-- the type of the arms of `?:`, which begin at these lines: both are void, or none
abbrev pub arms_type : ℕ → Option Ty → ℕ → Option Ty → Rule (Option Ty)
arms_type la None lb None = give None
arms_type la None lb (Some b) = broken la kinds.VoidValue
arms_type la (Some a) lb None = broken lb kinds.VoidValue
arms_type la (Some a) lb (Some b) = give (Some (common a b))

-- an arm of `?:` of this type, converted to the type of both
abbrev pub arm : Option Ty → Option Ty → TypedExpr → TypedExpr
arm None from e = e
arm (Some to) None e = e
arm (Some to) (Some from) e = converted to (record { ty = from; expr = e })
