-- How expressions are read: the rules of the grammar from left to right. `n` is the height that the parts of a
-- node may have.
use Rattle.std.specs.Prelude.{ℕ, zero, suc, Bool, true, false, nat_eq, nat_le, if◌then◌else◌, List, [], ◌∷◌, ◌++◌}
use Rattle.c_tree.specs.declared.token.Token.{Token}
use Rattle.c_tree.specs.declared.token.Punct.TheVariants as p
use Rattle.c_tree.specs.declared.token.Reserved.TheVariants as w
use Rattle.c_tree.specs.declared.expression.Expr.{out-Expr}
use Rattle.c_tree.specs.declared.expression.Expr.TheOpen.{Expr-F}
use Rattle.c_tree.specs.declared.expression.Identifier.{Identifier}
use Rattle.c_tree.specs.declared.expression.Specifiers.{Specifiers}
use Rattle.c_tree.specs.declared.expression.Specifier.{Specifier}
use Rattle.c_tree.specs.declared.expression.Enumerator.{Enumerator}
use Rattle.c_parse.specs.declared.precedence.Precedence.{Precedence}
use Rattle.c_parse.specs.declared.precedence.Precedence.TheVariants.{LogicalOr, LogicalAnd, Or, Xor, And, Equality, Relation, Shift, Sum, Product}
use Rattle.c_parse.specs.Classes.{class, punct, word, classes, row_of}
use Rattle.c_parse.specs.Languages.{line_if, lined}
use Rattle.c_parse.specs.Trees.{Sized, add, one, all_or_none, name_of, constant_of, Suffix, Subscript, Arguments, named, paren, postfix, prefix, unary}
use Rattle.c_parse.specs.Trees.{cast, binary, conditional, assign, comma, enumerator, EnumRest, Tagged, Untagged, enum, specifier_word, first_specifier}
use Rattle.c_parse.specs.Trees.{next_specifier, specifiers}
use Rattle.c_parse.specs.Expressions.{Rank, Comma, Assignment, Conditional, Binary, Cast, Unary, Postfix, operators, assignment_operators, steps}
use Rattle.c_parse.specs.Expressions.{unary_operators, specifier_words}
use Rattle.c_parse.specs.Reading.{Reply, read_picked, read_sign, read_among, read_open, read_both, read_made, read_either, read_optional, read_lead}
use Rattle.c_parse.specs.Reading.{read_trail, read_open_lead, read_none, read_row, read_built, always}

-- what may be a part of a node whose parts have height n at most; there is nothing of height 0
abbrev pub fits : ℕ → {X : Type 0} → X × ℕ → Bool
fits n c = if nat_eq n 0 then false else nat_le c.1 n

abbrev pub postfix_layer : {A B C D : Type 0} → Expr-F A B C D → Bool
postfix_layer (Expr-F.Name x) = true
postfix_layer (Expr-F.Index a i) = true
postfix_layer (Expr-F.Call f args) = true
postfix_layer (Expr-F.Constant l v t) = true
postfix_layer (Expr-F.Paren l e) = true
postfix_layer (Expr-F.Postfix l s e) = true
postfix_layer _ = false

abbrev pub unary_layer : {A B C D : Type 0} → Expr-F A B C D → Bool
unary_layer (Expr-F.Name x) = true
unary_layer (Expr-F.Index a i) = true
unary_layer (Expr-F.Call f args) = true
unary_layer (Expr-F.Constant l v t) = true
unary_layer (Expr-F.Paren l e) = true
unary_layer (Expr-F.Postfix l s e) = true
unary_layer (Expr-F.Prefix l s e) = true
unary_layer (Expr-F.Unary l s e) = true
unary_layer _ = false

abbrev pub closed_layer : {A B C D : Type 0} → Expr-F A B C D → Bool
closed_layer (Expr-F.Conditional l c a b) = false
closed_layer _ = true

-- a postfix expression, a unary one, one that isn't `c ? a : b`
abbrev pub is_postfix : Sized → Bool
is_postfix c = postfix_layer (out-Expr c.0)

abbrev pub is_unary : Sized → Bool
is_unary c = unary_layer (out-Expr c.0)

abbrev pub is_condition : Sized → Bool
is_condition c = closed_layer (out-Expr c.0)

-- the classes that an expression begins with, and specifiers
abbrev pub expr_first : List ℕ
expr_first = 1 ∷ 2 ∷ punct p.OpenParen ∷ classes steps ++ classes unary_operators

abbrev pub specifier_first : List ℕ
specifier_first = word w.Enum ∷ classes specifier_words

abbrev pub read_identifier : List Token → Reply Identifier
read_identifier = read_picked name_of

abbrev pub read_listing : {X : Type 0} → (List Token → Reply (X × ℕ)) → List Token → Reply (List X × ℕ)
read_listing r = read_built (punct p.Comma ∷ []) add (read_made one r) (read_lead (punct p.Comma) r)

-- specifiers, whose values e reads
module _ (n : ℕ) (e : List Token → Reply Sized) where
  abbrev pub read_enumerator : List Token → Reply (Enumerator × ℕ)
  read_enumerator = read_made enumerator (read_both read_identifier (read_optional (punct p.Equals ∷ []) (read_open_lead n (punct p.Equals) e)))

  abbrev pub read_enumerators : List Token → Reply (List Enumerator × ℕ)
  read_enumerators = read_lead (punct p.OpenBrace) (read_trail (read_listing read_enumerator) (punct p.CloseBrace))

  abbrev pub read_enum_rest : List Token → Reply EnumRest
  read_enum_rest = read_either (1 ∷ []) (read_made (λ c. Tagged c.0 c.1) (read_both read_identifier (read_optional (punct p.OpenBrace ∷ []) read_enumerators)))
      (read_made Untagged read_enumerators)

  abbrev pub read_specifier : List Token → Reply (Specifier × ℕ)
  read_specifier = read_either (classes specifier_words) (read_made specifier_word (read_among specifier_words))
      (read_made enum (read_both (read_sign (word w.Enum)) read_enum_rest))

  abbrev pub read_specifiers : List Token → Reply (Specifiers × ℕ)
  read_specifiers = read_made specifiers (read_built specifier_first next_specifier (read_made first_specifier read_specifier) read_specifier)

-- what stands behind a parenthesis
pub data Opened : Type 0 where
  Typed : (Specifiers × ℕ) × Sized → Opened
  Inner : Sized → Opened

abbrev pub opened_at : ℕ → Opened → Sized
opened_at l (Typed c) = cast (l, c)
opened_at l (Inner e) = paren (l, e)

abbrev pub opened : ℕ × Opened → Sized
opened c = opened_at c.0 c.1

module _ (n : ℕ) (r : Rank → List Token → Reply Sized) where
  abbrev pub read_suffix : List Token → Reply Suffix
  read_suffix = read_either (punct p.OpenBracket ∷ []) (read_made Subscript
      (read_open_lead n (punct p.OpenBracket) (read_trail (r Comma) (punct p.CloseBracket))))
      (read_made Arguments (read_lead (punct p.OpenParen) (read_trail (read_made all_or_none (read_optional expr_first (read_listing (r Assignment))))
      (punct p.CloseParen))))

  abbrev pub read_named : List Token → Reply Sized
  read_named = read_made named (read_both read_identifier (read_optional (punct p.OpenBracket ∷ punct p.OpenParen ∷ []) read_suffix))

  abbrev pub read_inner : List Token → Reply Sized
  read_inner = read_trail (r Comma) (punct p.CloseParen)

  abbrev pub read_paren : List Token → Reply Sized
  read_paren = read_made paren (read_both (read_open n (line_if (punct p.OpenParen))) read_inner)

  abbrev pub read_opened : List Token → Reply Opened
  read_opened = read_either specifier_first (read_made Typed (read_both (read_trail (read_specifiers n (r Conditional)) (punct p.CloseParen)) (r Cast)))
      (read_made Inner read_inner)

  abbrev pub read_cast_or_paren : List Token → Reply Sized
  read_cast_or_paren = read_made opened (read_both (read_open n (line_if (punct p.OpenParen))) read_opened)

  abbrev pub read_prefixed : List Token → Reply Sized
  read_prefixed =
      read_either (classes steps) (read_made prefix (read_both (read_open n (λ t. lined t.line (row_of (class t) steps))) (r Unary)))
      (read_either (classes unary_operators) (read_made unary (read_both (read_open n (λ t. lined t.line (row_of (class t) unary_operators))) (r Cast)))
      (read_either (1 ∷ []) read_named (read_picked constant_of)))

  -- an expression up to the steps behind it, with casts or without
  abbrev pub read_operand : Bool → List Token → Reply Sized
  read_operand casts = read_either (punct p.OpenParen ∷ []) (if casts then read_cast_or_paren else read_paren) read_prefixed

  abbrev pub read_unary : Bool → List Token → Reply Sized
  read_unary casts = read_row is_postfix (fits n) (classes steps) postfix (read_operand casts) (read_among steps)

  abbrev pub read_level : Precedence → (List Token → Reply Sized) → (List Token → Reply Sized) → List Token → Reply Sized
  read_level q left right = read_row always (fits n) (classes (operators q)) binary left (read_both (read_among (operators q)) right)

  abbrev pub read_product : List Token → Reply Sized
  read_product = read_level Product (read_unary true) (r Cast)

  abbrev pub read_sum : List Token → Reply Sized
  read_sum = read_level Sum read_product (r (Binary Product))

  abbrev pub read_shift : List Token → Reply Sized
  read_shift = read_level Shift read_sum (r (Binary Sum))

  abbrev pub read_relation : List Token → Reply Sized
  read_relation = read_level Relation read_shift (r (Binary Shift))

  abbrev pub read_equality : List Token → Reply Sized
  read_equality = read_level Equality read_relation (r (Binary Relation))

  abbrev pub read_and : List Token → Reply Sized
  read_and = read_level And read_equality (r (Binary Equality))

  abbrev pub read_xor : List Token → Reply Sized
  read_xor = read_level Xor read_and (r (Binary And))

  abbrev pub read_or : List Token → Reply Sized
  read_or = read_level Or read_xor (r (Binary Xor))

  abbrev pub read_logical_and : List Token → Reply Sized
  read_logical_and = read_level LogicalAnd read_or (r (Binary Or))

  abbrev pub read_logical_or : List Token → Reply Sized
  read_logical_or = read_level LogicalOr read_logical_and (r (Binary LogicalAnd))

  abbrev pub read_conditional : List Token → Reply Sized
  read_conditional = read_row is_condition (fits n) (punct p.Question ∷ []) conditional read_logical_or
      (read_both (read_lead (punct p.Question) (r Comma)) (read_lead (punct p.Colon) (r Conditional)))

  abbrev pub read_assignment : List Token → Reply Sized
  read_assignment = read_row is_unary (fits n) (classes assignment_operators) assign read_conditional
      (read_both (read_among assignment_operators) (r Assignment))

  abbrev pub read_comma : List Token → Reply Sized
  read_comma = read_row always (fits n) (punct p.Comma ∷ []) comma read_assignment (read_lead (punct p.Comma) (r Assignment))

  abbrev pub read_binary : Precedence → List Token → Reply Sized
  read_binary Product = read_product
  read_binary Sum = read_sum
  read_binary Shift = read_shift
  read_binary Relation = read_relation
  read_binary Equality = read_equality
  read_binary And = read_and
  read_binary Xor = read_xor
  read_binary Or = read_or
  read_binary LogicalAnd = read_logical_and
  read_binary LogicalOr = read_logical_or

  -- nothing reads a postfix expression alone
  abbrev pub read_rank : Rank → List Token → Reply Sized
  read_rank Comma = read_comma
  read_rank Assignment = read_assignment
  read_rank Conditional = read_conditional
  read_rank (Binary q) = read_binary q
  read_rank Cast = read_unary true
  read_rank Unary = read_unary false
  read_rank Postfix = read_none []

abbrev pub read_expr : ℕ → Rank → List Token → Reply Sized
read_expr zero r = read_none expr_first
read_expr (suc n) r = read_rank n (read_expr n) r
