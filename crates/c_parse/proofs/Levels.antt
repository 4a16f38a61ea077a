-- The binary levels by number, the closest first, and the rules of a level as the code reads them.
use Rattle.std.proofs.Common.{ℕ, ◌≡◌, refl, List}
use Rattle.c_tree.specs.declared.token.Token.{Token}
use Rattle.c_parse.specs.declared.precedence.Precedence.{Precedence}
use Rattle.c_parse.specs.declared.precedence.Precedence.TheVariants.{LogicalOr, LogicalAnd, Or, Xor, And, Equality, Relation, Shift, Sum, Product}
use Rattle.c_parse.specs.Trees.{Sized}
use Rattle.c_parse.specs.Expressions.{Rank}
use Rattle.c_parse.specs.Reading.{Reply}
use Rattle.c_parse.specs.ExpressionReaders.{read_binary, read_level, read_rank}
use Rattle.c_parse.specs.Ranks.{operand_rank, rank_below}

abbrev pub level_of : Precedence → ℕ
level_of Product = 0
level_of Sum = 1
level_of Shift = 2
level_of Relation = 3
level_of Equality = 4
level_of And = 5
level_of Xor = 6
level_of Or = 7
level_of LogicalAnd = 8
level_of LogicalOr = 9

pub binary_is : (n : ℕ) (r : Rank → List Token → Reply Sized) (q : Precedence)
    → read_binary n r q ≡ read_level n r q (read_rank n r (rank_below q)) (r (operand_rank q))
binary_is n r LogicalOr = refl
binary_is n r LogicalAnd = refl
binary_is n r Or = refl
binary_is n r Xor = refl
binary_is n r And = refl
binary_is n r Equality = refl
binary_is n r Relation = refl
binary_is n r Shift = refl
binary_is n r Sum = refl
binary_is n r Product = refl
