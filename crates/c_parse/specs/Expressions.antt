-- The grammar of expressions and of the specifiers of types (ISO C90, 6.3 and 6.5.2). `IsExpr n r c ws`: the
-- tokens ws spell the expression c.0 of rank r, whose height c.1 is at most n. Each rule goes from the height n
-- of a node's parts to n + 1, and each rank has the ranks that bind closer.
use Rattle.std.specs.Prelude.{ℕ, zero, suc, List, [], ◌∷◌, Option, Some, None}
use Rattle.c_tree.specs.declared.token.Punct.TheVariants as p
use Rattle.c_tree.specs.declared.token.Reserved.TheVariants as w
use Rattle.c_tree.specs.declared.expression.Identifier.{Identifier}
use Rattle.c_tree.specs.declared.expression.Specifiers.{Specifiers}
use Rattle.c_tree.specs.declared.expression.Specifier.{Specifier}
use Rattle.c_tree.specs.declared.expression.Enumerator.{Enumerator}
use Rattle.c_tree.specs.declared.expression.SpecifierWord.{SpecifierWord}
use Rattle.c_tree.specs.declared.expression.SpecifierWord.TheVariants as s
use Rattle.c_tree.specs.declared.expression.Step.{Step}
use Rattle.c_tree.specs.declared.expression.Step.TheVariants.{Increment, Decrement}
use Rattle.c_tree.specs.declared.expression.UnaryOp.{UnaryOp}
use Rattle.c_tree.specs.declared.expression.UnaryOp.TheVariants as u
use Rattle.c_tree.specs.declared.expression.BinaryOp.{BinaryOp}
use Rattle.c_tree.specs.declared.expression.BinaryOp.TheVariants as o
use Rattle.c_parse.specs.declared.precedence.Precedence.{Precedence}
use Rattle.c_parse.specs.declared.precedence.Precedence.TheVariants.{LogicalOr, LogicalAnd, Or, Xor, And, Equality, Relation, Shift, Sum, Product}
use Rattle.c_parse.specs.Classes.{punct, word}
use Rattle.c_parse.specs.Languages.{Lang, picked, sign, among, both, either, made, optional, lead, trail, built}
use Rattle.c_parse.specs.Trees.{Sized, add, one, all_or_none, name_of, constant_of, Suffix, Subscript, Arguments, named, paren, postfix, prefix, unary}
use Rattle.c_parse.specs.Trees.{cast, binary, conditional, assign, comma, enumerator, Tagged, Untagged, enum, specifier_word, first_specifier}
use Rattle.c_parse.specs.Trees.{next_specifier, specifiers}

-- the ranks, the loosest first
pub data Rank : Type 0 where
  Comma : Rank
  Assignment : Rank
  Conditional : Rank
  Binary : Precedence → Rank
  Cast : Rank
  Unary : Rank
  Postfix : Rank

-- the tables of operators
abbrev pub operators : Precedence → List (ℕ × BinaryOp)
operators LogicalOr = (punct p.OrOr, o.LogicalOr) ∷ []
operators LogicalAnd = (punct p.AndAnd, o.LogicalAnd) ∷ []
operators Or = (punct p.Bar, o.Or) ∷ []
operators Xor = (punct p.Caret, o.Xor) ∷ []
operators And = (punct p.Ampersand, o.And) ∷ []
operators Equality = (punct p.EqualEqual, o.Equal) ∷ (punct p.NotEqual, o.NotEqual) ∷ []
operators Relation = (punct p.Less, o.Less) ∷ (punct p.Greater, o.Greater) ∷ (punct p.LessEqual, o.LessEqual) ∷ (punct p.GreaterEqual, o.GreaterEqual) ∷ []
operators Shift = (punct p.ShiftLeft, o.ShiftLeft) ∷ (punct p.ShiftRight, o.ShiftRight) ∷ []
operators Sum = (punct p.Plus, o.Add) ∷ (punct p.Minus, o.Subtract) ∷ []
operators Product = (punct p.Star, o.Multiply) ∷ (punct p.Slash, o.Divide) ∷ (punct p.Percent, o.Remainder) ∷ []

abbrev pub assignment_operators : List (ℕ × Option BinaryOp)
assignment_operators =
    (punct p.Equals, None) ∷ (punct p.AddAssign, Some o.Add) ∷ (punct p.SubtractAssign, Some o.Subtract) ∷ (punct p.MultiplyAssign, Some o.Multiply)
    ∷ (punct p.DivideAssign, Some o.Divide) ∷ (punct p.RemainderAssign, Some o.Remainder) ∷ (punct p.AndAssign, Some o.And) ∷ (punct p.OrAssign, Some o.Or)
    ∷ (punct p.XorAssign, Some o.Xor) ∷ (punct p.ShiftLeftAssign, Some o.ShiftLeft) ∷ (punct p.ShiftRightAssign, Some o.ShiftRight) ∷ []

abbrev pub steps : List (ℕ × Step)
steps = (punct p.Increment, Increment) ∷ (punct p.Decrement, Decrement) ∷ []

abbrev pub unary_operators : List (ℕ × UnaryOp)
unary_operators = (punct p.Plus, u.Plus) ∷ (punct p.Minus, u.Minus) ∷ (punct p.Tilde, u.Complement) ∷ (punct p.Exclamation, u.Not) ∷ []

abbrev pub specifier_words : List (ℕ × SpecifierWord)
specifier_words =
    (word w.Extern, s.Extern) ∷ (word w.Static, s.Static) ∷ (word w.Auto, s.Auto) ∷ (word w.Register, s.Register) ∷ (word w.Const, s.Const) ∷
    (word w.Void, s.Void)
    ∷ (word w.Char, s.Char) ∷ (word w.Short, s.Short) ∷ (word w.Int, s.Int) ∷ (word w.Long, s.Long) ∷ (word w.Signed, s.Signed) ∷ (word w.Unsigned, s.Unsigned)
    ∷ []

abbrev pub identifier : Lang Identifier
identifier = picked name_of

abbrev pub constant : Lang Sized
constant = picked constant_of

-- "(" L ")", "[" L "]", "{" L "}"
abbrev pub parenthesised : {A : Type 0} → Lang A → Lang A
parenthesised L = lead (punct p.OpenParen) (trail L (punct p.CloseParen))

abbrev pub bracketed : {A : Type 0} → Lang A → Lang A
bracketed L = lead (punct p.OpenBracket) (trail L (punct p.CloseBracket))

abbrev pub braced : {A : Type 0} → Lang A → Lang A
braced L = lead (punct p.OpenBrace) (trail L (punct p.CloseBrace))

-- L {"," L}, with the greatest height
abbrev pub row : {X : Type 0} → Lang (X × ℕ) → Lang (List X × ℕ)
row L = built add (made one L) (lead (punct p.Comma) L)

-- specifiers, whose values are of E
module _ (E : Lang Sized) where
  -- one = name ["=" cond]
  abbrev pub IsEnumerator : Lang (Enumerator × ℕ)
  IsEnumerator = made enumerator (both identifier (optional (lead (punct p.Equals) E)))

  -- enum = "enum" (name ["{" one {"," one} "}"] | "{" one {"," one} "}")
  abbrev pub IsEnum : Lang (Specifier × ℕ)
  IsEnum = made enum (both (sign (word w.Enum))
      (either (made (λ c. Tagged c.0 c.1) (both identifier (optional (braced (row IsEnumerator)))))
      (made Untagged (braced (row IsEnumerator)))))

  -- spec = extern | static | .. | unsigned | enum
  abbrev pub IsSpecifier : Lang (Specifier × ℕ)
  IsSpecifier = either (made specifier_word (among specifier_words)) IsEnum

  -- specs = spec {spec}
  abbrev pub IsSpecifiers : Lang (Specifiers × ℕ)
  IsSpecifiers = made specifiers (built next_specifier (made first_specifier IsSpecifier) IsSpecifier)

-- the rules at height n + 1, where G has the expressions of height n at most
module _ (G : Rank → Lang Sized) where
  -- "[" expr "]" | "(" [assign {"," assign}] ")"
  abbrev pub IsSuffix : Lang Suffix
  IsSuffix = either (made Subscript (bracketed (G Comma))) (made Arguments (parenthesised (made all_or_none (optional (row (G Assignment))))))

  -- primary = name | name "[" expr "]" | name "(" [assign {"," assign}] ")" | constant | "(" expr ")"
  abbrev pub IsPrimary : Lang Sized
  IsPrimary =
      either (made named (both identifier (optional IsSuffix)))
      (either constant
      (made paren (both (sign (punct p.OpenParen)) (trail (G Comma) (punct p.CloseParen)))))

  -- postfix = primary | postfix ("++" | "--")
  abbrev pub IsPostfix : Lang Sized
  IsPostfix = either IsPrimary (made (λ c. postfix c.0 c.1) (both (G Postfix) (among steps)))

  -- unary = postfix | ("++" | "--") unary | ("+" | "-" | "~" | "!") cast
  abbrev pub IsUnary : Lang Sized
  IsUnary = either IsPostfix (either (made prefix (both (among steps) (G Unary))) (made unary (both (among unary_operators) (G Cast))))

  -- cast = "(" specs ")" cast | unary
  abbrev pub IsCast : Lang Sized
  IsCast = either IsUnary (made cast (both (sign (punct p.OpenParen)) (both (trail (IsSpecifiers (G Conditional)) (punct p.CloseParen)) (G Cast))))

  -- a op b, where a is of precedence q
  abbrev pub joined : Precedence → Lang Sized → Lang Sized
  joined q R = made (λ c. binary c.0 c.1) (both (G (Binary q)) (both (among (operators q)) R))

  -- product = cast | product ("*" | "/" | "%") cast
  abbrev pub IsProduct : Lang Sized
  IsProduct = either IsCast (joined Product (G Cast))

  -- sum = product | sum ("+" | "-") product
  abbrev pub IsSum : Lang Sized
  IsSum = either IsProduct (joined Sum (G (Binary Product)))

  -- shift = sum | shift ("<<" | ">>") sum
  abbrev pub IsShift : Lang Sized
  IsShift = either IsSum (joined Shift (G (Binary Sum)))

  -- less = shift | less ("<" | ">" | "<=" | ">=") shift
  abbrev pub IsRelation : Lang Sized
  IsRelation = either IsShift (joined Relation (G (Binary Shift)))

  -- equal = less | equal ("==" | "!=") less
  abbrev pub IsEquality : Lang Sized
  IsEquality = either IsRelation (joined Equality (G (Binary Relation)))

  -- and = equal | and "&" equal
  abbrev pub IsAnd : Lang Sized
  IsAnd = either IsEquality (joined And (G (Binary Equality)))

  -- xor = and | xor "^" and
  abbrev pub IsXor : Lang Sized
  IsXor = either IsAnd (joined Xor (G (Binary And)))

  -- or = xor | or "|" xor
  abbrev pub IsOr : Lang Sized
  IsOr = either IsXor (joined Or (G (Binary Xor)))

  -- land = or | land "&&" or
  abbrev pub IsLogicalAnd : Lang Sized
  IsLogicalAnd = either IsOr (joined LogicalAnd (G (Binary Or)))

  -- lor = land | lor "||" land
  abbrev pub IsLogicalOr : Lang Sized
  IsLogicalOr = either IsLogicalAnd (joined LogicalOr (G (Binary LogicalAnd)))

  -- cond = lor ["?" expr ":" cond]
  abbrev pub IsConditional : Lang Sized
  IsConditional = either IsLogicalOr (made (λ c. conditional c.0 c.1)
      (both (G (Binary LogicalOr)) (both (lead (punct p.Question) (G Comma)) (lead (punct p.Colon) (G Conditional)))))

  -- assign = cond | unary asgop assign
  abbrev pub IsAssignment : Lang Sized
  IsAssignment = either IsConditional (made (λ c. assign c.0 c.1) (both (G Unary) (both (among assignment_operators) (G Assignment))))

  -- expr = assign | expr "," assign
  abbrev pub IsComma : Lang Sized
  IsComma = either IsAssignment (made (λ c. comma c.0 c.1) (both (G Comma) (lead (punct p.Comma) (G Assignment))))

  abbrev pub IsBinary : Precedence → Lang Sized
  IsBinary Product = IsProduct
  IsBinary Sum = IsSum
  IsBinary Shift = IsShift
  IsBinary Relation = IsRelation
  IsBinary Equality = IsEquality
  IsBinary And = IsAnd
  IsBinary Xor = IsXor
  IsBinary Or = IsOr
  IsBinary LogicalAnd = IsLogicalAnd
  IsBinary LogicalOr = IsLogicalOr

  abbrev pub IsRank : Rank → Lang Sized
  IsRank Comma = IsComma
  IsRank Assignment = IsAssignment
  IsRank Conditional = IsConditional
  IsRank (Binary q) = IsBinary q
  IsRank Cast = IsCast
  IsRank Unary = IsUnary
  IsRank Postfix = IsPostfix

-- the expressions of a rank whose height is at most n
abbrev pub IsExpr : ℕ → Rank → Lang Sized
IsExpr zero r = λ c ws. ⊥
IsExpr (suc n) r = IsRank (IsExpr n) r
