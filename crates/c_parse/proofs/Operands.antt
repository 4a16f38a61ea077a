-- What stands before the steps of an expression, with casts and without, in the order of reading.
use Rattle.std.specs.Prelude.{Bool, true, false}
use Rattle.c_tree.specs.declared.token.Punct.TheVariants as p
use Rattle.c_parse.specs.Classes.{punct}
use Rattle.c_parse.specs.Languages.{Lang, sign, among, both, either, made, optional, trail}
use Rattle.c_parse.specs.Trees.{Sized, named, paren, prefix, unary}
use Rattle.c_parse.specs.Expressions.{Rank, Comma, Conditional, Cast, Unary, steps, unary_operators, identifier, constant, IsSpecifiers, IsSuffix}
use Rattle.c_parse.specs.ExpressionReaders.{Opened, Typed, Inner, opened}

module _ (G : Rank → Lang Sized) where
  abbrev pub ParenL : Lang Sized
  ParenL = made paren (both (sign (punct p.OpenParen)) (trail (G Comma) (punct p.CloseParen)))

  abbrev pub OpenedL : Lang Opened
  OpenedL = either (made Typed (both (trail (IsSpecifiers (G Conditional)) (punct p.CloseParen)) (G Cast))) (made Inner (trail (G Comma) (punct p.CloseParen)))

  abbrev pub CastOrParenL : Lang Sized
  CastOrParenL = made opened (both (sign (punct p.OpenParen)) OpenedL)

  abbrev pub PrefixedL : Lang Sized
  PrefixedL = either (made prefix (both (among steps) (G Unary)))
      (either (made unary (both (among unary_operators) (G Cast))) (either (made named (both identifier (optional (IsSuffix G)))) constant))

  abbrev pub OperandL : Bool → Lang Sized
  OperandL true = either CastOrParenL PrefixedL
  OperandL false = either ParenL PrefixedL
