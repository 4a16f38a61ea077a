-- How declarations, statements and modules are read. `n` bounds the height of each top, `k` that of the parts of
-- the statement at hand.
use Rattle.std.specs.Prelude.{ℕ, zero, suc, Bool, true, false, nat_eq, if◌then◌else◌, List, [], ◌∷◌, ◌++◌, Option, Some, None}
use Rattle.c_tree.specs.declared.token.Token.{Token}
use Rattle.c_tree.specs.declared.token.Punct.TheVariants as p
use Rattle.c_tree.specs.declared.token.Reserved.TheVariants as w
use Rattle.c_tree.specs.declared.expression.Expr.{Expr}
use Rattle.c_tree.specs.declared.expression.Specifiers.{Specifiers}
use Rattle.c_tree.specs.declared.declaration.Module.{Module}
use Rattle.c_tree.specs.declared.declaration.Item.{Item}
use Rattle.c_tree.specs.declared.declaration.Item.TheVariants as items
use Rattle.c_tree.specs.declared.declaration.Declaration.{Declaration}
use Rattle.c_tree.specs.declared.declaration.Declarator.{Declarator}
use Rattle.c_tree.specs.declared.declaration.Shape.{Shape}
use Rattle.c_tree.specs.declared.declaration.Shape.TheVariants as shapes
use Rattle.c_tree.specs.declared.declaration.Parameter.{Parameter}
use Rattle.c_tree.specs.declared.declaration.Initialiser.{Initialiser}
use Rattle.c_tree.specs.declared.declaration.Initialiser.TheVariants as initialisers
use Rattle.c_tree.specs.declared.statement.Block.{Block}
use Rattle.c_tree.specs.declared.statement.Stmt.{Stmt}
use Rattle.c_parse.specs.Classes.{punct, word, classes, look}
use Rattle.c_parse.specs.Languages.{line_if}
use Rattle.c_parse.specs.Trees.{snoc, single, or_none, or_plain, declarator, elements, parameter, declaration, function, include, module_of, block}
use Rattle.c_parse.specs.Trees.{block_statement, empty, expression, if_only, if_else, switch, while, do_while, for, case, default, break, continue}
use Rattle.c_parse.specs.Trees.{return}
use Rattle.c_parse.specs.Expressions.{Comma, Assignment, Conditional}
use Rattle.c_parse.specs.Modules.{headers}
use Rattle.c_parse.specs.Reading.{Reply, Found, Wrong, bind, read_sign, read_among, read_open, read_both, read_made, read_either, read_absent}
use Rattle.c_parse.specs.Reading.{read_optional, read_lead, read_trail, read_none, read_fork, read_row, read_built, always}
use Rattle.c_parse.specs.ExpressionReaders.{expr_first, specifier_first, read_identifier, read_specifiers, read_expr}

abbrev pub read_tree : {A : Type 0} → (List Token → Reply (A × ℕ)) → List Token → Reply A
read_tree r = read_made (λ c. c.0) r

abbrev pub read_series : {A : Type 0} → List ℕ → (List Token → Reply A) → List Token → Reply (List A)
read_series ks r = read_built ks snoc (read_absent []) r

abbrev pub read_listed : {A : Type 0} → (List Token → Reply A) → List Token → Reply (List A)
read_listed r = read_built (punct p.Comma ∷ []) snoc (read_made single r) (read_lead (punct p.Comma) r)

-- the elements so far, and whether one more may follow a comma
abbrev pub first_element : Expr → List Expr × Bool
first_element e = (e ∷ [], true)

abbrev pub next_element : List Expr × Bool → Option Expr → List Expr × Bool
next_element c None = (c.0, false)
next_element c (Some e) = (c.0 ++ e ∷ [], true)

abbrev pub is_open : List Expr × Bool → Bool
is_open c = c.1

abbrev pub plain_function : Shape → Option Initialiser → Bool
plain_function (shapes.Function ps) None = true
plain_function _ _ = false

-- what a function's name and parameters are
abbrev pub is_function : Declarator → Bool
is_function d = plain_function d.shape d.initialiser

abbrev pub shape_parameters : Shape → List Parameter
shape_parameters (shapes.Function ps) = ps
shape_parameters _ = []

-- what stands behind the specifiers of an item
pub data Rest : Type 0 where
  Declares : List Declarator → Rest
  Defines : Declarator → Block → Rest

abbrev pub item_with : Specifiers → Rest → Item
item_with s (Declares ds) = items.Declaration (declaration (s, ds))
item_with s (Defines d b) = function ((s, (d.name, shape_parameters d.shape)), b)

abbrev pub item_of : Specifiers × Rest → Item
item_of c = item_with c.0 c.1

module _ (n : ℕ) where
  abbrev pub read_typed : List Token → Reply Specifiers
  read_typed = read_tree (read_specifiers n (read_expr n Conditional))

  abbrev pub read_parameter : List Token → Reply Parameter
  read_parameter = read_made parameter (read_both read_typed (read_optional (1 ∷ []) read_identifier))

  abbrev pub read_parameters : List Token → Reply (List Parameter)
  read_parameters = read_made or_none (read_optional specifier_first (read_listed read_parameter))

  abbrev pub read_length : List Token → Reply (Option Expr)
  read_length = read_optional expr_first (read_tree (read_expr n Conditional))

  abbrev pub read_shape : List Token → Reply Shape
  read_shape = read_either (punct p.OpenBracket ∷ []) (read_made shapes.Array (read_lead (punct p.OpenBracket) (read_trail read_length (punct p.CloseBracket))))
      (read_made shapes.Function (read_lead (punct p.OpenParen) (read_trail read_parameters (punct p.CloseParen))))

  abbrev pub read_element : List Token → Reply Expr
  read_element = read_tree (read_expr n Assignment)

  abbrev pub read_elements : List Token → Reply (List Expr)
  read_elements = read_made (λ c. c.0) (read_row is_open always (punct p.Comma ∷ []) next_element (read_made first_element read_element)
      (read_lead (punct p.Comma) (read_optional expr_first read_element)))

  abbrev pub read_initialiser : List Token → Reply Initialiser
  read_initialiser = read_either (punct p.OpenBrace ∷ []) (read_made elements
      (read_both (read_sign (punct p.OpenBrace)) (read_trail read_elements (punct p.CloseBrace)))) (read_made initialisers.Value read_element)

  abbrev pub read_declarator : List Token → Reply Declarator
  read_declarator = read_made declarator (read_both (read_both read_identifier
      (read_made or_plain (read_optional (punct p.OpenBracket ∷ punct p.OpenParen ∷ []) read_shape)))
      (read_optional (punct p.Equals ∷ []) (read_lead (punct p.Equals) read_initialiser)))

  abbrev pub read_declaration : List Token → Reply Declaration
  read_declaration = read_made declaration (read_both read_typed
      (read_trail (read_made or_none (read_optional (1 ∷ []) (read_listed read_declarator))) (punct p.Semicolon)))

-- the classes that a statement begins with
abbrev pub stmt_first : List ℕ
stmt_first =
    punct p.OpenBrace ∷ punct p.Semicolon ∷ word w.If ∷ word w.Switch ∷ word w.While ∷ word w.Do ∷ word w.For ∷ word w.Case ∷ word w.Default
    ∷ word w.Break ∷ word w.Continue ∷ word w.Return ∷ expr_first

-- e reads expressions, c those of a case label, d declarations and s statements
module _ (k : ℕ) (e c : List Token → Reply Expr) (d : List Token → Reply Declaration) (s : List Token → Reply Stmt) where
  abbrev pub read_block_over : List Token → Reply Block
  read_block_over = read_made block (read_both (read_sign (punct p.OpenBrace))
      (read_trail (read_both (read_series specifier_first d) (read_series stmt_first s)) (punct p.CloseBrace)))

  abbrev pub read_condition : List Token → Reply Expr
  read_condition = read_lead (punct p.OpenParen) (read_trail e (punct p.CloseParen))

  abbrev pub read_guarded : List Token → Reply (Expr × Stmt)
  read_guarded = read_both read_condition s

  abbrev pub read_keyword : {A : Type 0} → ℕ → (List Token → Reply A) → List Token → Reply (ℕ × A)
  read_keyword j r = read_both (read_open k (line_if j)) r

  abbrev pub read_if : List Token → Reply Stmt
  read_if = read_fork always (word w.Else ∷ []) (λ a b. if_else (a, b)) (λ a u. if_only a) (read_keyword (word w.If) read_guarded) (read_lead (word w.Else) s)
      (read_absent zero)

  abbrev pub read_part : List Token → Reply (Option Expr)
  read_part = read_optional expr_first e

  abbrev pub read_head : List Token → Reply (Option Expr × (Option Expr × Option Expr))
  read_head = read_both (read_trail read_part (punct p.Semicolon)) (read_both (read_trail read_part (punct p.Semicolon)) read_part)

  abbrev pub read_stmt_over : List Token → Reply Stmt
  read_stmt_over =
      read_either (punct p.OpenBrace ∷ []) (read_made block_statement read_block_over)
      (read_either (punct p.Semicolon ∷ []) (read_made empty (read_sign (punct p.Semicolon)))
      (read_either (word w.If ∷ []) read_if
      (read_either (word w.Switch ∷ []) (read_made switch (read_keyword (word w.Switch) read_guarded))
      (read_either (word w.While ∷ []) (read_made while (read_keyword (word w.While) read_guarded))
      (read_either (word w.Do ∷ []) (read_made do_while (read_keyword (word w.Do)
      (read_both s (read_lead (word w.While) (read_trail read_condition (punct p.Semicolon))))))
      (read_either (word w.For ∷ []) (read_made for (read_keyword (word w.For)
      (read_both (read_lead (punct p.OpenParen) (read_trail read_head (punct p.CloseParen))) s)))
      (read_either (word w.Case ∷ []) (read_made case (read_keyword (word w.Case) (read_both (read_trail c (punct p.Colon)) s)))
      (read_either (word w.Default ∷ []) (read_made default (read_keyword (word w.Default) (read_lead (punct p.Colon) s)))
      (read_either (word w.Break ∷ []) (read_made break (read_trail (read_sign (word w.Break)) (punct p.Semicolon)))
      (read_either (word w.Continue ∷ []) (read_made continue (read_trail (read_sign (word w.Continue)) (punct p.Semicolon)))
      (read_either (word w.Return ∷ []) (read_made return (read_both (read_sign (word w.Return)) (read_trail read_part (punct p.Semicolon))))
      (read_made expression (read_trail e (punct p.Semicolon))))))))))))))

abbrev pub read_stmt : ℕ → ℕ → List Token → Reply Stmt
read_stmt n zero = read_none stmt_first
read_stmt n (suc k) = read_stmt_over k (read_tree (read_expr k Comma)) (read_tree (read_expr k Conditional)) (read_declaration n) (read_stmt n k)

abbrev pub read_block : ℕ → ℕ → List Token → Reply Block
read_block n zero = read_none (punct p.OpenBrace ∷ [])
read_block n (suc k) = read_block_over k (read_tree (read_expr k Comma)) (read_tree (read_expr k Conditional)) (read_declaration n) (read_stmt n k)

abbrev pub item_first : List ℕ
item_first = classes headers ++ specifier_first

module _ (n : ℕ) where
  abbrev pub read_others : List Token → Reply (List Declarator)
  read_others = read_trail (read_built (punct p.Comma ∷ []) snoc (read_absent []) (read_lead (punct p.Comma) (read_declarator n))) (punct p.Semicolon)

  abbrev pub read_declared : List Token → Reply Rest
  read_declared = read_fork is_function (punct p.OpenBrace ∷ []) Defines (λ d ds. Declares (d ∷ ds)) (read_declarator n) (read_block n n) read_others

  abbrev pub read_item_rest : List Token → Reply Rest
  read_item_rest = read_either (punct p.Semicolon ∷ []) (read_made (λ l. Declares []) (read_sign (punct p.Semicolon))) read_declared

  abbrev pub read_item : List Token → Reply Item
  read_item = read_either (classes headers) (read_made include (read_among headers)) (read_made item_of (read_both (read_typed n) read_item_rest))

  abbrev pub read_module : List Token → Reply Module
  read_module = read_made module_of (read_series item_first read_item)

  -- a module, and nothing behind it
  abbrev pub read_whole : List Token → Reply Module
  read_whole ts = bind (read_module ts) (λ m r. if nat_eq (look r) 0 then Found m r else Wrong r)
