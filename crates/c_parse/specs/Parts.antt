-- The readers of expressions, one for each function of the parser, each over those that it calls; `n` is the height
-- that the parts of the node at hand may have.
use Rattle.std.specs.Prelude.{ℕ, Bool, true, false, List, [], ◌∷◌}
use Rattle.c_tree.specs.declared.token.Token.{Token}
use Rattle.c_tree.specs.declared.token.Punct.TheVariants as p
use Rattle.c_tree.specs.declared.token.Reserved.TheVariants as w
use Rattle.c_tree.specs.declared.expression.Expr.{Expr}
use Rattle.c_tree.specs.declared.expression.Specifiers.{Specifiers}
use Rattle.c_tree.specs.declared.expression.Specifier.{Specifier}
use Rattle.c_tree.specs.declared.expression.Enumerator.{Enumerator}
use Rattle.c_parse.specs.declared.precedence.Precedence.{Precedence}
use Rattle.c_parse.specs.declared.precedence.Precedence.TheVariants.{LogicalOr}
use Rattle.c_parse.specs.Classes.{class, punct, word, classes, row_of}
use Rattle.c_parse.specs.Languages.{line_if, lined}
use Rattle.c_parse.specs.Trees as trees
use Rattle.c_parse.specs.Trees.{Sized}
use Rattle.c_parse.specs.Expressions.{Rank, Comma, Assignment, Conditional, Cast, Unary, operators, assignment_operators, steps, unary_operators}
use Rattle.c_parse.specs.Expressions.{specifier_words}
use Rattle.c_parse.specs.Reading.{Reply, read_picked, read_sign, read_among, read_open, read_both, read_made, read_either, read_optional, read_lead}
use Rattle.c_parse.specs.Reading.{read_trail, read_open_lead, read_row, read_built, always}
use Rattle.c_parse.specs.ExpressionReaders.{fits, is_postfix, is_unary, is_condition, expr_first, specifier_first, read_identifier, read_expr}
use Rattle.c_parse.specs.ExpressionReaders.{read_rank, opened, Typed, Inner}
use Rattle.c_parse.specs.Ranks.{operand_rank, rank_below}

unfoldable pub whole : ℕ → Rank → List Token → Reply Sized
whole n r = read_expr n r

-- specifiers
unfoldable pub enumerator : ℕ → List Token → Reply (Enumerator × ℕ)
enumerator n = read_made trees.enumerator (read_both read_identifier
    (read_optional (punct p.Equals ∷ []) (read_open_lead n (punct p.Equals) (whole n Conditional))))

unfoldable pub enumerator_list : ℕ → List Token → Reply (List Enumerator × ℕ)
enumerator_list n = read_built (punct p.Comma ∷ []) trees.add (read_made trees.one (enumerator n)) (read_lead (punct p.Comma) (enumerator n))

unfoldable pub enumerators : ℕ → List Token → Reply (List Enumerator × ℕ)
enumerators n = read_lead (punct p.OpenBrace) (read_trail (enumerator_list n) (punct p.CloseBrace))

unfoldable pub specifier : ℕ → List Token → Reply (Specifier × ℕ)
specifier n = read_either (classes specifier_words) (read_made trees.specifier_word (read_among specifier_words))
    (read_made trees.enum (read_both (read_sign (word w.Enum))
    (read_either (1 ∷ []) (read_made (λ c. trees.Tagged c.0 c.1) (read_both read_identifier (read_optional (punct p.OpenBrace ∷ []) (enumerators n))))
    (read_made trees.Untagged (enumerators n)))))

unfoldable pub specifier_list : ℕ → List Token → Reply (ℕ × (List Specifier × ℕ))
specifier_list n = read_built specifier_first trees.next_specifier (read_made trees.first_specifier (specifier n)) (specifier n)

unfoldable pub specifiers : ℕ → List Token → Reply (Specifiers × ℕ)
specifiers n = read_made trees.specifiers (specifier_list n)

-- primary expressions and what stands before them
unfoldable pub argument_list : ℕ → List Token → Reply (List Expr × ℕ)
argument_list n = read_built (punct p.Comma ∷ []) trees.add (read_made trees.one (whole n Assignment)) (read_lead (punct p.Comma) (whole n Assignment))

unfoldable pub arguments : ℕ → List Token → Reply (List Expr × ℕ)
arguments n = read_made trees.all_or_none (read_optional expr_first (argument_list n))

unfoldable pub named : ℕ → List Token → Reply Sized
named n = read_made trees.named (read_both read_identifier (read_optional (punct p.OpenBracket ∷ punct p.OpenParen ∷ [])
    (read_either (punct p.OpenBracket ∷ []) (read_made trees.Subscript
    (read_open_lead n (punct p.OpenBracket) (read_trail (whole n Comma) (punct p.CloseBracket))))
    (read_made trees.Arguments (read_lead (punct p.OpenParen) (read_trail (arguments n) (punct p.CloseParen)))))))

unfoldable pub prefixed : ℕ → List Token → Reply Sized
prefixed n =
    read_either (classes steps) (read_made trees.prefix (read_both (read_open n (λ t. lined t.line (row_of (class t) steps))) (whole n Unary)))
    (read_either (classes unary_operators) (read_made trees.unary
    (read_both (read_open n (λ t. lined t.line (row_of (class t) unary_operators))) (whole n Cast)))
    (read_either (1 ∷ []) (named n) (read_picked trees.constant_of)))

unfoldable pub inside : ℕ → List Token → Reply Sized
inside n = read_trail (whole n Comma) (punct p.CloseParen)

unfoldable pub parenthesised : ℕ → Bool → List Token → Reply Sized
parenthesised n true = read_made opened (read_both (read_open n (line_if (punct p.OpenParen)))
    (read_either specifier_first (read_made Typed (read_both (read_trail (specifiers n) (punct p.CloseParen)) (whole n Cast))) (read_made Inner (inside n))))
parenthesised n false = read_made trees.paren (read_both (read_open n (line_if (punct p.OpenParen))) (inside n))

unfoldable pub operand : ℕ → Bool → List Token → Reply Sized
operand n casts = read_either (punct p.OpenParen ∷ []) (parenthesised n casts) (prefixed n)

unfoldable pub unary : ℕ → Bool → List Token → Reply Sized
unary n casts = read_row is_postfix (fits n) (classes steps) trees.postfix (operand n casts) (read_among steps)

-- the looser ranks
unfoldable pub below : ℕ → Precedence → List Token → Reply Sized
below n q = read_rank n (read_expr n) (rank_below q)

unfoldable pub binary : ℕ → Precedence → List Token → Reply Sized
binary n q = read_row always (fits n) (classes (operators q)) trees.binary (below n q) (read_both (read_among (operators q)) (whole n (operand_rank q)))

unfoldable pub conditional : ℕ → List Token → Reply Sized
conditional n = read_row is_condition (fits n) (punct p.Question ∷ []) trees.conditional (binary n LogicalOr)
    (read_both (read_lead (punct p.Question) (whole n Comma)) (read_lead (punct p.Colon) (whole n Conditional)))

unfoldable pub assignment : ℕ → List Token → Reply Sized
assignment n = read_row is_unary (fits n) (classes assignment_operators) trees.assign (conditional n)
    (read_both (read_among assignment_operators) (whole n Assignment))

unfoldable pub comma : ℕ → List Token → Reply Sized
comma n = read_row always (fits n) (punct p.Comma ∷ []) trees.comma (assignment n) (read_lead (punct p.Comma) (whole n Assignment))
