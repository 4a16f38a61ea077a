-- The grammar at small lists of tokens.
use Rattle.std.proofs.Common.{ℕ, ◌≡◌, ◌+◌, ◌<◌, refl, ap, subst, Bool, true, false, [], ◌∷◌, length, length-append, take, arith}
use Rattle.c_tree.specs.declared.token.Token.{Token}
use Rattle.c_tree.specs.declared.token.TokenKind.TheVariants as kinds
use Rattle.c_tree.specs.declared.token.Punct.TheVariants as p
use Rattle.c_tree.specs.declared.token.Reserved.TheVariants as w
use Rattle.c_tree.specs.declared.expression.BinaryOp.TheVariants.{Subtract}
use Rattle.c_tree.specs.declared.expression.Expr as X
use Rattle.c_tree.specs.declared.expression.Expr.TheOpen.{Expr-F}
use Rattle.c_tree.specs.declared.statement.Stmt.{Stmt}
use Rattle.hlo_num.specs.declared.word.Word.{Word}
use Rattle.hlo_num.specs.declared.word.Ty.TheVariants.{Int}
use Rattle.c_parse.specs.declared.precedence.Precedence.TheVariants.{Sum}
use Rattle.c_parse.specs.Classes.{punct, member}
use Rattle.c_parse.specs.Trees.{Sized, node, binary, if_only, if_else, empty}
use Rattle.c_parse.specs.Expressions.{Binary, IsExpr}
use Rattle.c_parse.specs.Modules.{IsStmt}
use Rattle.c_parse.specs.Promise.{Continues}
use Rattle.c_parse.specs.Reading.{Found}
use Rattle.c_parse.specs.ExpressionReaders.{read_expr}
use Rattle.c_parse.specs.ModuleReaders.{read_stmt}
use Rattle.c_parse.proofs.Words.{token, mark, reserved}
use Rattle.c_parse.proofs.Ranks.{reads_expr}
use Rattle.c_parse.proofs.StatementRules.{behind_of}
use Rattle.c_parse.proofs.ModuleRules.{reads_stmt}
use Rattle.c_parse.proofs.Whole.{read_wrong}

abbrev word : ℕ → Word
word n = record { 0 = n }

abbrev number : ℕ → Token
number n = token (kinds.Constant (word n) Int)

abbrev leaf : ℕ → Sized
leaf n = node (Expr-F.Constant 0 (word n) Int) 0

abbrev minus : Sized → Sized → Sized
minus a b = binary a ((Subtract, 0), b)

-- 7 - 2 - 1 is (7 - 2) - 1 and nothing else
grouped_left : (e : Sized) → IsExpr 3 (Binary Sum) e (number 7 ∷ mark p.Minus ∷ number 2 ∷ mark p.Minus ∷ number 1 ∷ [])
    → minus (minus (leaf 7) (leaf 2)) (leaf 1) ≡ e
unfolding X.out-Expr denote.Hole.Carrier.out X.roll-Expr denote.Hole.Carrier.roll
grouped_left e l =
    let h : read_expr 3 (Binary Sum) (number 7 ∷ mark p.Minus ∷ number 2 ∷ mark p.Minus ∷ number 1 ∷ mark p.Semicolon ∷ []) ≡ Found e (mark p.Semicolon ∷ []) =
    (reads_expr 3 5 (omega arith) (Binary Sum) tt).complete e _ (mark p.Semicolon ∷ []) l refl in
    let q : Found (minus (minus (leaf 7) (leaf 2)) (leaf 1)) (mark p.Semicolon ∷ []) ≡ Found e (mark p.Semicolon ∷ []) = h in
    cc

-- if (1) if (2) ; else ; gives the else to the second if
brace_behind : (b : Bool) → member (punct p.CloseBrace) (behind_of b) ≡ true
brace_behind true = refl
brace_behind false = refl

nearest_else : (s : Stmt) → IsStmt 3 3 s (reserved w.If ∷ mark p.OpenParen ∷ number 1 ∷ mark p.CloseParen ∷ reserved w.If ∷ mark p.OpenParen ∷ number 2 ∷ mark
    p.CloseParen ∷ mark p.Semicolon ∷ reserved w.Else ∷ mark p.Semicolon ∷ []) → if_only (0, ((leaf 1).0, if_else ((0, ((leaf 2).0, empty 0)), empty 0))) ≡ s
unfolding X.out-Expr denote.Hole.Carrier.out X.roll-Expr denote.Hole.Carrier.roll
nearest_else s l =
    let h : read_stmt 3 3 (reserved w.If ∷ mark p.OpenParen ∷ number 1 ∷ mark p.CloseParen ∷ reserved w.If ∷ mark p.OpenParen ∷ number 2 ∷ mark p.CloseParen ∷
    mark p.Semicolon ∷ reserved w.Else ∷ mark p.Semicolon ∷ mark p.CloseBrace ∷ []) ≡ Found s (mark p.CloseBrace ∷ []) =
    (reads_stmt 3 6 (omega arith) refl 3 6 (omega arith)).complete s _ (mark p.CloseBrace ∷ []) l (brace_behind _) in
    let q : Found (if_only (0, ((leaf 1).0, if_else ((0, ((leaf 2).0, empty 0)), empty 0)))) (mark p.CloseBrace ∷ []) ≡ Found s (mark p.CloseBrace ∷ []) = h in
    cc

-- no module begins with int *
no_pointer : Continues (reserved w.Int ∷ mark p.Star ∷ []) → ⊥
no_pointer c =
    let f = read_wrong (reserved w.Int ∷ mark p.Star ∷ []) (mark p.Star ∷ []) refl in
    let one : length f.0 ≡ 1 = omega (arith, ap length f.1, length-append f.0 (mark p.Star ∷ [])) in
    subst (λ n. n < 2 → Continues (take (n + 1) (reserved w.Int ∷ mark p.Star ∷ [])) → ⊥) one f.2.cause.0 (omega arith) c
