-- Constant expressions (C90, 6.4): constants, constants of enumerations and `EOF`, casts and operators, without
-- assignments, steps, calls and the comma operator. Each operand is typed, but `&&`, `||` and `?:` evaluate only what
-- decides.
use Rattle.std.specs.Prelude.{ℕ, ◌==◌, Some, Result, Ok, Err, if◌then◌else◌}
use Rattle.hlo_num.specs.declared.word.Ty.{Ty}
use Rattle.hlo_num.specs.declared.word.Ty.TheVariants.{Int}
use Rattle.hlo_num.specs.declared.word.Trap.{Trap}
use Rattle.hlo_num.specs.Words.{convert}
use Rattle.c_tree.specs.declared.expression.UnaryOp.{UnaryOp}
use Rattle.c_types.specs.declared.binding.Binding.{Binding}
use Rattle.c_types.specs.declared.binding.Binding.TheVariants as bindings
use Rattle.c_types.specs.declared.binding.Extent.TheVariants as extents
use Rattle.c_types.specs.declared.constant.Evaluated.{Evaluated}
use Rattle.c_types.specs.declared.constant.Evaluated.TheVariants.{Word, Traps}
use Rattle.c_types.specs.declared.constant.Constant.{Constant}
use Rattle.c_typed.specs.declared.expression.BinaryOp.{BinaryOp}
use Rattle.c_typed.specs.declared.expression.LogicalOp.{LogicalOp}
use Rattle.c_typed.specs.declared.expression.LogicalOp.TheVariants as logical
use Rattle.c_types.specs.declared.fault.TypeKind.TheVariants as kinds
use Rattle.c_types.specs.Conversions.{left_type}
use Rattle.c_typed.specs.Operators.{binary, unary}
use Rattle.c_typed.specs.Expressions.{is_nonzero}
use Rattle.c_types.specs.Rules.{Rule, give, broken}

abbrev pub evaluated : Evaluated → (ℕ → Evaluated) → Evaluated
evaluated (Word w) next = next w
evaluated (Traps line) next = Traps line

-- what an operator of the expression that begins at this line gives
abbrev pub operated : ℕ → Result ℕ Trap → Evaluated
operated line (Ok w) = Word w
operated line (Err trap) = Traps line

-- an operator on constants of these types. Operands are converted to promoted types, which hold each word as it is
abbrev pub binary_value : ℕ → BinaryOp → Ty → Evaluated → Ty → Evaluated → Evaluated
binary_value line o t a u b = evaluated a (λ x. evaluated b (λ y. operated line (binary o (left_type o t u) x y)))

abbrev pub truth_of : Evaluated → Evaluated
truth_of b = evaluated b (λ y. Word (is_nonzero y))

-- the right operand counts only where the left one doesn't decide
abbrev pub logical_value : LogicalOp → Evaluated → Evaluated → Evaluated
logical_value logical.And a b = evaluated a (λ x. if x == 0 then Word 0 else truth_of b)
logical_value logical.Or a b = evaluated a (λ x. if x == 0 then truth_of b else Word 1)

-- only the arm that the condition chooses counts
abbrev pub chosen_value : Evaluated → Evaluated → Evaluated → Evaluated
chosen_value c a b = evaluated c (λ x. if x == 0 then b else a)

abbrev pub cast_value : Ty → Evaluated → Evaluated
cast_value to a = evaluated a (λ x. Word (convert to x))

abbrev pub unary_value : ℕ → UnaryOp → Ty → Evaluated → Evaluated
unary_value line o t a = evaluated a (λ x. operated line (unary o t x))

-- a name in a constant expression
abbrev pub constant_name : ℕ → Binding → Rule Constant
constant_name line (bindings.Constant w) = give (record { ty = Some Int; value = Word w.0 })
constant_name line _ = broken line kinds.NotConstant

-- a subscript is never constant, and there may be no array
abbrev pub constant_element : ℕ → Binding → Rule Constant
constant_element line (bindings.Object pid internal ty fixed (extents.Array n)) = broken line kinds.NotConstant
constant_element line (bindings.Local place ty fixed (extents.Array n)) = broken line kinds.NotConstant
constant_element line _ = broken line kinds.NotObject

-- the word of a constant, if it doesn't trap
abbrev pub word_of_value : Evaluated → Rule ℕ
word_of_value (Word w) = give w
word_of_value (Traps line) = broken line kinds.ConstTrap
