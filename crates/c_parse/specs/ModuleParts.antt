-- The readers of declarations, statements and modules, one for each function of the parser, each over those that it
-- calls. `n` bounds the height of each top, `k` that of the parts of the statement at hand.
use Rattle.std.specs.Prelude.{ℕ, zero, ◌-◌, false, nat_eq, if◌then◌else◌, List, [], ◌∷◌, length, Option}
use Rattle.c_tree.specs.declared.token.Token.{Token}
use Rattle.c_tree.specs.declared.token.Punct.TheVariants as p
use Rattle.c_tree.specs.declared.token.Reserved.TheVariants as w
use Rattle.c_tree.specs.declared.expression.Expr.{Expr}
use Rattle.c_tree.specs.declared.expression.Specifiers.{Specifiers}
use Rattle.c_tree.specs.declared.declaration.Module.{Module}
use Rattle.c_tree.specs.declared.declaration.Item.{Item}
use Rattle.c_tree.specs.declared.declaration.Item.TheVariants as kinds
use Rattle.c_tree.specs.declared.declaration.Declaration.{Declaration}
use Rattle.c_tree.specs.declared.declaration.Declarator.{Declarator}
use Rattle.c_tree.specs.declared.declaration.Shape.{Shape}
use Rattle.c_tree.specs.declared.declaration.Shape.TheVariants as shapes
use Rattle.c_tree.specs.declared.declaration.Parameter.{Parameter}
use Rattle.c_tree.specs.declared.declaration.Initialiser.{Initialiser}
use Rattle.c_tree.specs.declared.declaration.Initialiser.TheVariants as initialisers
use Rattle.c_tree.specs.declared.statement.Block.{Block}
use Rattle.c_tree.specs.declared.statement.Stmt.{Stmt}
use Rattle.c_parse.specs.Classes.{punct, word, look, member, classes}
use Rattle.c_parse.specs.Languages.{line_if}
use Rattle.c_parse.specs.Trees as trees
use Rattle.c_parse.specs.Trees.{snoc, single, or_none, or_plain}
use Rattle.c_parse.specs.Expressions.{Rank, Comma, Assignment, Conditional}
use Rattle.c_parse.specs.Modules.{headers}
use Rattle.c_parse.specs.Reading.{Reply, Found, Wrong, bind, read_fork, read_sign, read_among, read_open, read_both, read_made, read_either}
use Rattle.c_parse.specs.Reading.{read_absent, read_optional, read_lead, read_trail, read_rest, read_row, read_built, always}
use Rattle.c_parse.specs.ExpressionReaders.{expr_first, specifier_first, read_identifier}
use Rattle.c_parse.specs.ModuleReaders.{read_tree, read_series, first_element, next_element, is_open, is_function, shape_parameters, stmt_first}
use Rattle.c_parse.specs.ModuleReaders.{item_first, read_stmt}
use Rattle.c_parse.specs.Parts.{whole, specifiers}

unfoldable pub top_expression : ℕ → Rank → List Token → Reply Expr
top_expression n r = read_tree (whole n r)

unfoldable pub typed : ℕ → List Token → Reply Specifiers
typed n = read_tree (specifiers n)

unfoldable pub parameter : ℕ → List Token → Reply Parameter
parameter n = read_made trees.parameter (read_both (typed n) (read_optional (1 ∷ []) read_identifier))

unfoldable pub parameter_list : ℕ → List Token → Reply (List Parameter)
parameter_list n = read_built (punct p.Comma ∷ []) snoc (read_made single (parameter n)) (read_lead (punct p.Comma) (parameter n))

unfoldable pub parameters : ℕ → List Token → Reply (List Parameter)
parameters n = read_made or_none (read_optional specifier_first (parameter_list n))

unfoldable pub shape : ℕ → List Token → Reply Shape
shape n = read_made or_plain (read_optional (punct p.OpenBracket ∷ punct p.OpenParen ∷ [])
    (read_either (punct p.OpenBracket ∷ []) (read_made shapes.Array
    (read_lead (punct p.OpenBracket) (read_trail (read_optional expr_first (top_expression n Conditional)) (punct p.CloseBracket))))
    (read_made shapes.Function (read_lead (punct p.OpenParen) (read_trail (parameters n) (punct p.CloseParen))))))

unfoldable pub elements : ℕ → List Token → Reply (List Expr)
elements n = read_made (λ c. c.0) (read_row is_open always (punct p.Comma ∷ []) next_element (read_made first_element (top_expression n Assignment))
    (read_lead (punct p.Comma) (read_optional expr_first (top_expression n Assignment))))

unfoldable pub initialiser : ℕ → List Token → Reply Initialiser
initialiser n = read_either (punct p.OpenBrace ∷ []) (read_made trees.elements
    (read_both (read_sign (punct p.OpenBrace)) (read_trail (elements n) (punct p.CloseBrace)))) (read_made initialisers.Value (top_expression n Assignment))

unfoldable pub declarator : ℕ → List Token → Reply Declarator
declarator n = read_made trees.declarator (read_both (read_both read_identifier (shape n))
    (read_optional (punct p.Equals ∷ []) (read_lead (punct p.Equals) (initialiser n))))

unfoldable pub declarator_list : ℕ → List Token → Reply (List Declarator)
declarator_list n = read_built (punct p.Comma ∷ []) snoc (read_made single (declarator n)) (read_lead (punct p.Comma) (declarator n))

unfoldable pub declaration : ℕ → List Token → Reply Declaration
declaration n = read_made trees.declaration (read_both (typed n)
    (read_trail (read_made or_none (read_optional (1 ∷ []) (declarator_list n))) (punct p.Semicolon)))

-- parts of statements
unfoldable pub part : ℕ → Rank → List Token → Reply Expr
part k r = read_tree (whole k r)

unfoldable pub condition : ℕ → List Token → Reply Expr
condition k = read_lead (punct p.OpenParen) (read_trail (part k Comma) (punct p.CloseParen))

unfoldable pub optional_part : ℕ → List Token → Reply (Option Expr)
optional_part k = read_optional expr_first (part k Comma)

unfoldable pub declarations : ℕ → List Token → Reply (List Declaration)
declarations n = read_series specifier_first (declaration n)

-- statements of a height, given by those of the height below
unfoldable pub simple : ℕ → List Token → Reply Stmt
simple k =
    read_either (word w.Break ∷ []) (read_made trees.break (read_trail (read_sign (word w.Break)) (punct p.Semicolon)))
    (read_either (word w.Continue ∷ []) (read_made trees.continue (read_trail (read_sign (word w.Continue)) (punct p.Semicolon)))
    (read_either (word w.Return ∷ []) (read_made trees.return (read_both (read_sign (word w.Return)) (read_trail (optional_part k) (punct p.Semicolon))))
    (read_made trees.expression (read_trail (part k Comma) (punct p.Semicolon)))))

-- the statements of height k at most
unfoldable pub statement : ℕ → ℕ → List Token → Reply Stmt
statement n k = read_stmt n k

unfoldable pub statements : ℕ → ℕ → List Token → Reply (List Stmt)
statements n k = read_series stmt_first (statement n k)

unfoldable pub block : ℕ → ℕ → List Token → Reply Block
block n k = read_made trees.block (read_both (read_sign (punct p.OpenBrace)) (read_trail (read_both (declarations n) (statements n k)) (punct p.CloseBrace)))

-- "(" expr ")" stmt
unfoldable pub guarded : ℕ → ℕ → List Token → Reply (Expr × Stmt)
guarded n k = read_both (condition k) (statement n k)

unfoldable pub selection : ℕ → ℕ → List Token → Reply Stmt
selection n k = read_fork always (word w.Else ∷ []) (λ a b. trees.if_else (a, b)) (λ a u. trees.if_only a)
    (read_both (read_open k (line_if (word w.If))) (guarded n k)) (read_lead (word w.Else) (statement n k)) (read_absent zero)

unfoldable pub switch : ℕ → ℕ → List Token → Reply Stmt
switch n k = read_made trees.switch (read_both (read_open k (line_if (word w.Switch))) (guarded n k))

unfoldable pub while_loop : ℕ → ℕ → List Token → Reply Stmt
while_loop n k = read_made trees.while (read_both (read_open k (line_if (word w.While))) (guarded n k))

unfoldable pub do_while : ℕ → ℕ → List Token → Reply Stmt
do_while n k = read_made trees.do_while (read_both (read_open k (line_if (word w.Do)))
    (read_both (statement n k) (read_lead (word w.While) (read_trail (condition k) (punct p.Semicolon)))))

-- [expr] ";"
unfoldable pub clause : ℕ → List Token → Reply (Option Expr)
clause k = read_trail (optional_part k) (punct p.Semicolon)

-- [expr] ";" [expr] ";" [expr]
unfoldable pub clauses : ℕ → List Token → Reply (Option Expr × (Option Expr × Option Expr))
clauses k = read_both (clause k) (read_both (clause k) (optional_part k))

unfoldable pub head : ℕ → List Token → Reply (Option Expr × (Option Expr × Option Expr))
head k = read_lead (punct p.OpenParen) (read_trail (clauses k) (punct p.CloseParen))

unfoldable pub for_loop : ℕ → ℕ → List Token → Reply Stmt
for_loop n k = read_made trees.for (read_both (read_open k (line_if (word w.For))) (read_both (head k) (statement n k)))

unfoldable pub case : ℕ → ℕ → List Token → Reply Stmt
case n k = read_made trees.case (read_both (read_open k (line_if (word w.Case))) (read_both (read_trail (part k Conditional) (punct p.Colon)) (statement n k)))

unfoldable pub default : ℕ → ℕ → List Token → Reply Stmt
default n k = read_made trees.default (read_both (read_open k (line_if (word w.Default))) (read_lead (punct p.Colon) (statement n k)))

-- a statement whose parts have height k at most
unfoldable pub compound : ℕ → ℕ → List Token → Reply Stmt
compound n k =
    read_either (punct p.OpenBrace ∷ []) (read_made trees.block_statement (block n k))
    (read_either (punct p.Semicolon ∷ []) (read_made trees.empty (read_sign (punct p.Semicolon)))
    (read_either (word w.If ∷ []) (selection n k)
    (read_either (word w.Switch ∷ []) (switch n k)
    (read_either (word w.While ∷ []) (while_loop n k)
    (read_either (word w.Do ∷ []) (do_while n k)
    (read_either (word w.For ∷ []) (for_loop n k)
    (read_either (word w.Case ∷ []) (case n k)
    (read_either (word w.Default ∷ []) (default n k)
    (simple k)))))))))

-- items; what stands behind a declarator d that comes first
unfoldable pub others : ℕ → Declarator → List Token → Reply (List Declarator)
others n d ts = read_rest always always (punct p.Comma ∷ []) snoc (read_lead (punct p.Comma) (declarator n)) (length ts) (d ∷ []) ts

-- behind the specifiers s and d
unfoldable pub declares : ℕ → Specifiers → Declarator → List Token → Reply Item
declares n s d = read_made (λ ds. kinds.Declaration (trees.declaration (s, ds))) (read_trail (others n d) (punct p.Semicolon))

-- behind the specifiers s; the body of a function is at the top of a tree of its own
unfoldable pub declared : ℕ → Specifiers → List Token → Reply Item
declared n s ts = bind (declarator n ts) (λ d r. if (if is_function d then member (look r) (punct p.OpenBrace ∷ []) else false) then read_made
    (λ b. trees.function ((s, (d.name, shape_parameters d.shape)), b)) (block n (n - 1)) r else declares n s d r)

unfoldable pub item : ℕ → List Token → Reply Item
item n = read_either (classes headers) (read_made trees.include (read_among headers))
    (λ ts. bind (typed n ts) (λ s r. read_either (punct p.Semicolon ∷ [])
    (read_made (λ l. kinds.Declaration (trees.declaration (s, []))) (read_sign (punct p.Semicolon))) (declared n s) r))

unfoldable pub items : ℕ → List Token → Reply (List Item)
items n = read_series item_first (item n)

-- a module, and nothing behind it
unfoldable pub whole_module : ℕ → List Token → Reply Module
whole_module n ts = bind (items n ts) (λ is r. if nat_eq (look r) 0 then Found (trees.module_of is) r else Wrong r)
