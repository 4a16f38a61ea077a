-- The ranks of the code beside those of the grammar.
use Rattle.std.specs.Prelude.{Option, Some, None, List, ℕ}
use Rattle.c_tree.specs.declared.token.Token.{Token}
use Rattle.c_tree.specs.declared.expression.Expr.{Expr}
use Rattle.c_parse.specs.declared.precedence.Precedence.{Precedence}
use Rattle.c_parse.specs.declared.precedence.Precedence.TheVariants.{LogicalOr, LogicalAnd, Or, Xor, And, Equality, Relation, Shift, Sum, Product}
use Rattle.c_parse.specs.declared.precedence.Rank.TheVariants as ranks
use Rattle.c_parse.specs.Trees.{Sized, all_or_none}
use Rattle.c_parse.specs.Expressions.{Rank, Comma, Assignment, Conditional, Binary, Cast, Unary}
use Rattle.c_parse.specs.Reading.{Reply, read_made, read_optional}
use Rattle.c_parse.specs.ExpressionReaders.{expr_first, read_listing}

abbrev pub rank_of : ranks.the_data → Rank
rank_of ranks.Comma = Comma
rank_of ranks.Assignment = Assignment
rank_of ranks.Conditional = Conditional
rank_of (ranks.Binary q) = Binary q
rank_of ranks.Cast = Cast
rank_of ranks.Unary = Unary

-- the next level down
abbrev pub level_below : Precedence → Option Precedence
level_below LogicalOr = Some LogicalAnd
level_below LogicalAnd = Some Or
level_below Or = Some Xor
level_below Xor = Some And
level_below And = Some Equality
level_below Equality = Some Relation
level_below Relation = Some Shift
level_below Shift = Some Sum
level_below Sum = Some Product
level_below Product = None

abbrev pub rank_or_cast : Option Precedence → Rank
rank_or_cast (Some q) = Binary q
rank_or_cast None = Cast

-- the rank of an operator's right operand, and of its left one at the end of a chain
abbrev pub operand_rank : Precedence → Rank
operand_rank q = rank_or_cast (level_below q)

abbrev pub rank_below : Precedence → Rank
rank_below q = operand_rank q

abbrev pub read_arguments : (Rank → List Token → Reply Sized) → List Token → Reply (List Expr × ℕ)
read_arguments r = read_made all_or_none (read_optional expr_first (read_listing (r Assignment)))
