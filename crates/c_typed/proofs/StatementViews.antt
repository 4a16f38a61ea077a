-- The tree of each form of statement.
use Rattle.std.proofs.Common.{◌≡◌, ℕ, List, sym, ap, ◌∙◌}
use Rattle.std.specs.Prelude.{Option, map}
use Rattle.c_typed.specs.declared.expression.TypedExpr.{TypedExpr}
use Rattle.c_typed.specs.declared.statement.Section.{Section}
use Rattle.c_typed.specs.declared.statement.TypedStmt.{TypedStmt}
use Rattle.c_typed.specs.declared.statement.TypedStmt.TheVariants as forms
use Rattle.c_typed.specs.declared.statement.TypedStmt.TheOpen.{TypedStmt-F}
use Rattle.c_typed.specs.declared.statement.TypedStmt.TheFolds.{fold-roll-TypedStmt, fold_out-Section}
use Rattle.c_typed.specs.Trees as tree
use Rattle.c_typed.specs.Views.{expr_of, optional_of, sequence_from, sections_from, section_layer, stmt_layer, stmt_of, section_of}

pub tree-Block : (ss : List TypedStmt) → stmt_of (forms.Block ss) ≡ sequence_from (map stmt_of ss)
tree-Block ss = ap stmt_of (sym (forms.rolls-Block ss)) ∙ fold-roll-TypedStmt tree.Stmt (tree.Sections → tree.Sections) stmt_layer section_layer
    (TypedStmt-F.Block ss)

pub tree-Declaration : (x : ℕ) (e : Option TypedExpr) → stmt_of (forms.Declaration x e) ≡ tree.Declaration x (optional_of e)
tree-Declaration x e = ap stmt_of (sym (forms.rolls-Declaration x e)) ∙ fold-roll-TypedStmt tree.Stmt (tree.Sections → tree.Sections) stmt_layer section_layer
    (TypedStmt-F.Declaration x e)

pub tree-Empty : stmt_of forms.Empty ≡ tree.Empty
tree-Empty = ap stmt_of (sym forms.rolls-Empty) ∙ fold-roll-TypedStmt tree.Stmt (tree.Sections → tree.Sections) stmt_layer section_layer TypedStmt-F.Empty

pub tree-Expression : (e : TypedExpr) → stmt_of (forms.Expression e) ≡ tree.Expression (expr_of e)
tree-Expression e = ap stmt_of (sym (forms.rolls-Expression e)) ∙ fold-roll-TypedStmt tree.Stmt (tree.Sections → tree.Sections) stmt_layer section_layer
    (TypedStmt-F.Expression e)

pub tree-If : (e : TypedExpr) (s : TypedStmt) → stmt_of (forms.If e s) ≡ tree.If (expr_of e) (stmt_of s)
tree-If e s = ap stmt_of (sym (forms.rolls-If e s)) ∙ fold-roll-TypedStmt tree.Stmt (tree.Sections → tree.Sections) stmt_layer section_layer
    (TypedStmt-F.If e s)

pub tree-IfElse : (e : TypedExpr) (s t : TypedStmt) → stmt_of (forms.IfElse e s t) ≡ tree.IfElse (expr_of e) (stmt_of s) (stmt_of t)
tree-IfElse e s t = ap stmt_of (sym (forms.rolls-IfElse e s t)) ∙ fold-roll-TypedStmt tree.Stmt (tree.Sections → tree.Sections) stmt_layer section_layer
    (TypedStmt-F.IfElse e s t)

pub tree-Switch : (e : TypedExpr) (ss : List Section) → stmt_of (forms.Switch e ss) ≡ tree.Switch (expr_of e) (sections_from (map section_of ss))
tree-Switch e ss = ap stmt_of (sym (forms.rolls-Switch e ss)) ∙ fold-roll-TypedStmt tree.Stmt (tree.Sections → tree.Sections) stmt_layer section_layer
    (TypedStmt-F.Switch e ss)

pub tree-While : (e : TypedExpr) (s : TypedStmt) → stmt_of (forms.While e s) ≡ tree.While (expr_of e) (stmt_of s)
tree-While e s = ap stmt_of (sym (forms.rolls-While e s)) ∙ fold-roll-TypedStmt tree.Stmt (tree.Sections → tree.Sections) stmt_layer section_layer
    (TypedStmt-F.While e s)

pub tree-Do : (s : TypedStmt) (e : TypedExpr) → stmt_of (forms.Do s e) ≡ tree.Do (stmt_of s) (expr_of e)
tree-Do s e = ap stmt_of (sym (forms.rolls-Do s e)) ∙ fold-roll-TypedStmt tree.Stmt (tree.Sections → tree.Sections) stmt_layer section_layer
    (TypedStmt-F.Do s e)

pub tree-For : (a b c : Option TypedExpr) (s : TypedStmt) → stmt_of (forms.For a b c s) ≡ tree.For (optional_of a) (optional_of b) (optional_of c) (stmt_of s)
tree-For a b c s = ap stmt_of (sym (forms.rolls-For a b c s)) ∙ fold-roll-TypedStmt tree.Stmt (tree.Sections → tree.Sections) stmt_layer section_layer
    (TypedStmt-F.For a b c s)

pub tree-Break : stmt_of forms.Break ≡ tree.Break
tree-Break = ap stmt_of (sym forms.rolls-Break) ∙ fold-roll-TypedStmt tree.Stmt (tree.Sections → tree.Sections) stmt_layer section_layer TypedStmt-F.Break

pub tree-Continue : stmt_of forms.Continue ≡ tree.Continue
tree-Continue = ap stmt_of (sym forms.rolls-Continue) ∙ fold-roll-TypedStmt tree.Stmt (tree.Sections → tree.Sections) stmt_layer section_layer
    TypedStmt-F.Continue

pub tree-Return : (e : Option TypedExpr) → stmt_of (forms.Return e) ≡ tree.Return (optional_of e)
tree-Return e = ap stmt_of (sym (forms.rolls-Return e)) ∙ fold-roll-TypedStmt tree.Stmt (tree.Sections → tree.Sections) stmt_layer section_layer
    (TypedStmt-F.Return e)

pub tree-Section : (s : Section) → section_of s ≡ (λ rest. tree.Section s.labels (stmt_of s.body) rest)
tree-Section s = fold_out-Section tree.Stmt (tree.Sections → tree.Sections) stmt_layer section_layer s
