-- The grammar of declarations, statements and modules (ISO C90, 6.5 to 6.7). In each definition n bounds the
-- height of every statement and expression; lengths, values of enumerations, initialisers and the bodies of
-- functions are each at the top of a tree of their own.
use Rattle.std.specs.Prelude.{ℕ, zero, suc, List, [], ◌∷◌, Option}
use Rattle.c_tree.specs.declared.token.Header.{Header}
use Rattle.c_tree.specs.declared.token.Header.TheVariants.{Stdio, Stdlib}
use Rattle.c_tree.specs.declared.token.Punct.TheVariants as p
use Rattle.c_tree.specs.declared.token.Reserved.TheVariants as w
use Rattle.c_tree.specs.declared.expression.Expr.{Expr}
use Rattle.c_tree.specs.declared.expression.Specifiers.{Specifiers}
use Rattle.c_tree.specs.declared.declaration.Module.{Module}
use Rattle.c_tree.specs.declared.declaration.Item.{Item}
use Rattle.c_tree.specs.declared.declaration.Item.TheVariants as items
use Rattle.c_tree.specs.declared.declaration.Declaration.{Declaration}
use Rattle.c_tree.specs.declared.declaration.Declarator.{Declarator}
use Rattle.c_tree.specs.declared.declaration.Shape.{Shape}
use Rattle.c_tree.specs.declared.declaration.Shape.TheVariants as shapes
use Rattle.c_tree.specs.declared.declaration.Parameter.{Parameter}
use Rattle.c_tree.specs.declared.declaration.Initialiser.{Initialiser}
use Rattle.c_tree.specs.declared.declaration.Initialiser.TheVariants as initialisers
use Rattle.c_tree.specs.declared.statement.Block.{Block}
use Rattle.c_tree.specs.declared.statement.Stmt.{Stmt}
use Rattle.c_parse.specs.Classes.{punct, word, header}
use Rattle.c_parse.specs.Languages.{Lang, sign, among, both, either, made, such, absent, optional, lead, trail, built}
use Rattle.c_parse.specs.Trees.{snoc, single, or_none, or_plain, declarator, elements, parameter, declaration, function, include, module_of, block}
use Rattle.c_parse.specs.Trees.{block_statement, empty, expression, if_only, if_else, switch, while, do_while, for, case, default, break, continue}
use Rattle.c_parse.specs.Trees.{return, closed}
use Rattle.c_parse.specs.Expressions.{Comma, Assignment, Conditional, identifier, parenthesised, bracketed, IsSpecifiers, IsExpr}

-- {L}; L {"," L}
abbrev pub series : {A : Type 0} → Lang A → Lang (List A)
series L = built snoc (absent []) L

abbrev pub listed : {A : Type 0} → Lang A → Lang (List A)
listed L = built snoc (made single L) (lead (punct p.Comma) L)

-- a tree without its height
abbrev pub tree : {A : Type 0} → Lang (A × ℕ) → Lang A
tree L = made (λ c. c.0) L

abbrev pub headers : List (ℕ × Header)
headers = (header Stdio, Stdio) ∷ (header Stdlib, Stdlib) ∷ []

module _ (n : ℕ) where
  abbrev pub IsTyped : Lang Specifiers
  IsTyped = tree (IsSpecifiers (IsExpr n Conditional))

  -- param = specs [name]
  abbrev pub IsParameter : Lang Parameter
  IsParameter = made parameter (both IsTyped (optional identifier))

  -- params = [param {"," param}]
  abbrev pub IsParameters : Lang (List Parameter)
  IsParameters = made or_none (optional (listed IsParameter))

  -- "[" [cond] "]" | "(" params ")"
  abbrev pub IsShape : Lang Shape
  IsShape = either (made shapes.Array (bracketed (optional (tree (IsExpr n Conditional))))) (made shapes.Function (parenthesised IsParameters))

  -- assign {"," assign} [","]
  abbrev pub IsElements : Lang (List Expr)
  IsElements = made (λ c. c.0) (both (listed (tree (IsExpr n Assignment))) (optional (sign (punct p.Comma))))

  -- init = assign | "{" assign {"," assign} [","] "}"
  abbrev pub IsInitialiser : Lang Initialiser
  IsInitialiser =
      either (made elements (both (sign (punct p.OpenBrace)) (trail IsElements (punct p.CloseBrace))))
      (made initialisers.Value (tree (IsExpr n Assignment)))

  -- decl = name ["[" [cond] "]" | "(" params ")"] ["=" init]
  abbrev pub IsDeclarator : Lang Declarator
  IsDeclarator = made declarator (both (both identifier (made or_plain (optional IsShape))) (optional (lead (punct p.Equals) IsInitialiser)))

  -- specs [decl {"," decl}] ";"
  abbrev pub IsDeclaration : Lang Declaration
  IsDeclaration = made declaration (both IsTyped (trail (made or_none (optional (listed IsDeclarator))) (punct p.Semicolon)))

-- the rules of statements at height n + 1, where E has the expressions, D the declarations, and S the statements
-- of height n at most
module _ (E : Lang Expr) (D : Lang Declaration) (S : Lang Stmt) where
  -- block = "{" {specs [decl {"," decl}] ";"} {stmt} "}"
  abbrev pub IsBlockOver : Lang Block
  IsBlockOver = made block (both (sign (punct p.OpenBrace)) (trail (both (series D) (series S)) (punct p.CloseBrace)))

  -- "(" expr ")" stmt
  abbrev pub IsGuarded : Lang (Expr × Stmt)
  IsGuarded = both (parenthesised E) S

  -- "if" "(" expr ")" stmt
  abbrev pub IsIf : Lang (ℕ × (Expr × Stmt))
  IsIf = both (sign (word w.If)) IsGuarded

  -- [expr] ";" [expr] ";" [expr]
  abbrev pub IsHead : Lang (Option Expr × (Option Expr × Option Expr))
  IsHead = both (trail (optional E) (punct p.Semicolon)) (both (trail (optional E) (punct p.Semicolon)) (optional E))

  -- stmt = block | ";" | "if" "(" expr ")" stmt ["else" stmt] | "switch" "(" expr ")" stmt | "while" "(" expr ")" stmt
  --      | "do" stmt "while" "(" expr ")" ";" | "for" "(" [expr] ";" [expr] ";" [expr] ")" stmt
  --      | "case" cond ":" stmt | "default" ":" stmt | "break" ";" | "continue" ";" | "return" [expr] ";" | expr ";"
  -- What stands before an `else` doesn't end with an `if` that the `else` could join.
  abbrev pub IsStmtOver : Lang Expr → Lang Stmt
  IsStmtOver C =
      either (made block_statement IsBlockOver)
      (either (made empty (sign (punct p.Semicolon)))
      (either (either (made if_only IsIf) (made if_else (both (such (λ c. closed c.1.1) IsIf) (lead (word w.Else) S))))
      (either (made switch (both (sign (word w.Switch)) IsGuarded))
      (either (made while (both (sign (word w.While)) IsGuarded))
      (either (made do_while (both (sign (word w.Do)) (both S (lead (word w.While) (trail (parenthesised E) (punct p.Semicolon))))))
      (either (made for (both (sign (word w.For)) (both (parenthesised IsHead) S)))
      (either (made case (both (sign (word w.Case)) (both (trail C (punct p.Colon)) S)))
      (either (made default (both (sign (word w.Default)) (lead (punct p.Colon) S)))
      (either (made break (trail (sign (word w.Break)) (punct p.Semicolon)))
      (either (made continue (trail (sign (word w.Continue)) (punct p.Semicolon)))
      (either (made return (both (sign (word w.Return)) (trail (optional E) (punct p.Semicolon))))
      (made expression (trail E (punct p.Semicolon))))))))))))))

-- the statements of height k at most, and the blocks that bodies are; n bounds the tops in their declarations
abbrev pub IsStmt : ℕ → ℕ → Lang Stmt
IsStmt n zero = λ s ws. ⊥
IsStmt n (suc k) = IsStmtOver (tree (IsExpr k Comma)) (IsDeclaration n) (IsStmt n k) (tree (IsExpr k Conditional))

abbrev pub IsBlock : ℕ → ℕ → Lang Block
IsBlock n zero = λ b ws. ⊥
IsBlock n (suc k) = IsBlockOver (tree (IsExpr k Comma)) (IsDeclaration n) (IsStmt n k)

-- item = include | specs [decl {"," decl}] ";" | specs name "(" params ")" block
abbrev pub IsItem : ℕ → Lang Item
IsItem n =
    either (made include (among headers))
    (either (made items.Declaration (IsDeclaration n))
    (made function (both (both (IsTyped n) (both identifier (parenthesised (IsParameters n)))) (IsBlock n n))))

-- module = {item}
abbrev pub IsModule : ℕ → Lang Module
IsModule n = made module_of (series (IsItem n))
