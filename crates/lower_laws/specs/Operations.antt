-- Loads, stores, conversions and operators: the templates of one or few instructions.
use Rattle.std.specs.Prelude.{ℕ, suc, if◌then◌else◌}
use Rattle.hlo_num.specs.declared.word.Ty.{Ty}
use Rattle.hlo_num.specs.declared.word.Op.TheVariants as op
use Rattle.hlo_num.specs.Words.{is_narrow}
use Rattle.il_core.specs.declared.instr.Instr.{Instr}
use Rattle.il_core.specs.declared.instr.Instr.TheVariants as instr
use Rattle.c_tree.specs.declared.expression.UnaryOp.{UnaryOp}
use Rattle.c_tree.specs.declared.expression.UnaryOp.TheVariants.{Plus, Minus, Complement, Not}
use Rattle.c_typed.specs.declared.expression.Variable.TheVariants as variables
use Rattle.c_typed.specs.declared.expression.Array.TheVariants as arrays
use Rattle.c_typed.specs.declared.expression.BinaryOp.{BinaryOp}
use Rattle.c_typed.specs.declared.expression.BinaryOp.TheVariants as binary
use Rattle.c_typed.specs.Operators.{by_sign}
use Rattle.c_typed.specs.Expressions.{Spot, Whole, Part}
use Rattle.lower_laws.specs.Code.{Code, put, Numbers, past_new, past_instr, word}
use Rattle.lower_laws.specs.Layouts.{Layout}

-- A spot is a place whose index, where it has one, stands in a register.

-- register d gets the word of a spot
abbrev pub load : Layout → Spot → ℕ → Instr
load y (Whole (variables.Parameter x)) d = instr.Move d x
load y (Whole (variables.Local x)) d = instr.Move d (y.register x)
load y (Whole (variables.Object g)) d = instr.Get d g
load y (Part (arrays.Local a) i) d = instr.GetA d (y.array a) i
load y (Part (arrays.Object g) i) d = instr.GetX d g i

-- a spot gets the word of register s
abbrev pub store : Layout → Spot → ℕ → Instr
store y (Whole (variables.Parameter x)) s = instr.Move x s
store y (Whole (variables.Local x)) s = instr.Move (y.register x) s
store y (Whole (variables.Object g)) s = instr.Set g s
store y (Part (arrays.Local a) i) s = instr.SetA (y.array a) i s
store y (Part (arrays.Object g) i) s = instr.SetX g i s

-- a conversion to a narrow type is an instruction, and one to another type is none
abbrev pub conv_past : Ty → Numbers → Numbers
conv_past t n = if is_narrow t then past_new n else n

abbrev pub conv_result : Ty → ℕ → Numbers → ℕ
conv_result t s n = if is_narrow t then n.reg else s

abbrev pub conv_code : Ty → ℕ → Numbers → Code → Code
conv_code t s n k = if is_narrow t then put (instr.Conv n.reg t s) k else k

-- a binary operator that works in a type, into register d; `>` and `>=` are `<` and `<=` of swapped operands
abbrev pub operation : BinaryOp → Ty → ℕ → ℕ → ℕ → Instr
operation binary.Or t d a b = instr.Bin op.Or d a b
operation binary.Xor t d a b = instr.Bin op.Xor d a b
operation binary.And t d a b = instr.Bin op.And d a b
operation binary.Equal t d a b = instr.Bin op.Eq d a b
operation binary.NotEqual t d a b = instr.Bin op.Ne d a b
operation binary.Less t d a b = instr.Bin (by_sign t op.LtS op.LtU) d a b
operation binary.Greater t d a b = instr.Bin (by_sign t op.LtS op.LtU) d b a
operation binary.LessEqual t d a b = instr.Bin (by_sign t op.LeS op.LeU) d a b
operation binary.GreaterEqual t d a b = instr.Bin (by_sign t op.LeS op.LeU) d b a
operation binary.ShiftLeft t d a b = instr.Bin op.Shl d a b
operation binary.ShiftRight t d a b = instr.Bin (by_sign t op.ShrS op.ShrU) d a b
operation binary.Add t d a b = instr.Bin (by_sign t op.AddS op.AddU) d a b
operation binary.Subtract t d a b = instr.Bin (by_sign t op.SubS op.SubU) d a b
operation binary.Multiply t d a b = instr.Bin (by_sign t op.MulS op.MulU) d a b
operation binary.Divide t d a b = instr.Bin (by_sign t op.DivS op.DivU) d a b
operation binary.Remainder t d a b = instr.Bin (by_sign t op.RemS op.RemU) d a b

-- a unary operator on the word of register x: `+e` is nothing, `-e` is 0 - e, `~e` is e xor -1, `!e` is e == 0
abbrev pub unary_past : UnaryOp → Numbers → Numbers
unary_past Plus n = n
unary_past Minus n = past_new (past_new n)
unary_past Complement n = past_new (past_new n)
unary_past Not n = past_new (past_new n)

abbrev pub unary_result : UnaryOp → ℕ → Numbers → ℕ
unary_result Plus x n = x
unary_result Minus x n = suc n.reg
unary_result Complement x n = suc n.reg
unary_result Not x n = suc n.reg

abbrev pub unary_code : UnaryOp → Ty → ℕ → Numbers → Code → Code
unary_code Plus t x n k = k
unary_code Minus t x n k = put (instr.Const n.reg (word 0)) (put (operation binary.Subtract t (suc n.reg) n.reg x) k)
unary_code Complement t x n k = put (instr.Const n.reg (word 4294967295)) (put (operation binary.Xor t (suc n.reg) x n.reg) k)
unary_code Not t x n k = put (instr.Const n.reg (word 0)) (put (operation binary.Equal t (suc n.reg) x n.reg) k)

-- the end of a compound assignment: the operator on the old word and the operand, the conversion to the spot's type,
-- and the store
abbrev pub update_past : Ty → Numbers → Numbers
update_past t n = past_instr (conv_past t (past_new n))

abbrev pub update_result : Ty → Numbers → ℕ
update_result t n = conv_result t n.reg (past_new n)

abbrev pub update_code : Layout → Ty → BinaryOp → Ty → Spot → ℕ → ℕ → Numbers → Code → Code
update_code y t o u s old x n k =
    put (operation o u n.reg old x) (conv_code t n.reg (past_new n) (put (store y s (update_result t n)) k))
