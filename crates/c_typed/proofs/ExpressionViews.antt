-- The tree of each form of expression.
use Rattle.std.proofs.Common.{◌≡◌, ℕ, List, sym, ap, ◌∙◌}
use Rattle.std.specs.Prelude.{Option, map}
use Rattle.hlo_num.specs.declared.word.Ty.{Ty}
use Rattle.hlo_num.specs.declared.word.Word.{Word}
use Rattle.c_tree.specs.declared.expression.Step.{Step}
use Rattle.c_tree.specs.declared.expression.UnaryOp.{UnaryOp}
use Rattle.c_typed.specs.declared.expression.Variable.{Variable}
use Rattle.c_typed.specs.declared.expression.Array.{Array}
use Rattle.c_typed.specs.declared.expression.BinaryOp.{BinaryOp}
use Rattle.c_typed.specs.declared.expression.LogicalOp.{LogicalOp}
use Rattle.c_typed.specs.declared.expression.Place.{Place}
use Rattle.c_typed.specs.declared.expression.Place.TheVariants as places
use Rattle.c_typed.specs.declared.expression.Place.TheOpen.{TypedExpr-F, Place-F}
use Rattle.c_typed.specs.declared.expression.Place.TheFolds.{fold-roll-Place, fold-roll-TypedExpr}
use Rattle.c_typed.specs.declared.expression.TypedExpr.{TypedExpr}
use Rattle.c_typed.specs.declared.expression.TypedExpr.TheVariants as forms
use Rattle.c_typed.specs.Trees as tree
use Rattle.c_typed.specs.Views.{arguments_from, place_layer, expr_layer, place_of, expr_of}

pub tree-Variable : (x : Variable) → place_of (places.Variable x) ≡ tree.Scalar x
tree-Variable x = ap place_of (sym (places.rolls-Variable x)) ∙ fold-roll-Place tree.Place tree.Expr place_layer expr_layer (Place-F.Variable x)

pub tree-Element : (a : Array) (i : TypedExpr) → place_of (places.Element a i) ≡ tree.Element a (expr_of i)
tree-Element a i = ap place_of (sym (places.rolls-Element a i)) ∙ fold-roll-Place tree.Place tree.Expr place_layer expr_layer (Place-F.Element a i)

pub tree-Constant : (t : Ty) (w : Word) → expr_of (forms.Constant t w) ≡ tree.Constant t w.0
tree-Constant t w = ap expr_of (sym (forms.rolls-Constant t w)) ∙ fold-roll-TypedExpr tree.Place tree.Expr place_layer expr_layer (TypedExpr-F.Constant t w)

pub tree-Read : (t : Ty) (p : Place) → expr_of (forms.Read t p) ≡ tree.Read t (place_of p)
tree-Read t p = ap expr_of (sym (forms.rolls-Read t p)) ∙ fold-roll-TypedExpr tree.Place tree.Expr place_layer expr_layer (TypedExpr-F.Read t p)

pub tree-Convert : (t : Ty) (e : TypedExpr) → expr_of (forms.Convert t e) ≡ tree.Convert t (expr_of e)
tree-Convert t e = ap expr_of (sym (forms.rolls-Convert t e)) ∙ fold-roll-TypedExpr tree.Place tree.Expr place_layer expr_layer (TypedExpr-F.Convert t e)

pub tree-Discard : (e : TypedExpr) → expr_of (forms.Discard e) ≡ tree.Discard (expr_of e)
tree-Discard e = ap expr_of (sym (forms.rolls-Discard e)) ∙ fold-roll-TypedExpr tree.Place tree.Expr place_layer expr_layer (TypedExpr-F.Discard e)

pub tree-Unary : (t : Ty) (o : UnaryOp) (e : TypedExpr) → expr_of (forms.Unary t o e) ≡ tree.Unary t o (expr_of e)
tree-Unary t o e = ap expr_of (sym (forms.rolls-Unary t o e)) ∙ fold-roll-TypedExpr tree.Place tree.Expr place_layer expr_layer (TypedExpr-F.Unary t o e)

pub tree-Binary : (t : Ty) (o : BinaryOp) (a b : TypedExpr) → expr_of (forms.Binary t o a b) ≡ tree.Binary t o (expr_of a) (expr_of b)
tree-Binary t o a b = ap expr_of (sym (forms.rolls-Binary t o a b)) ∙ fold-roll-TypedExpr tree.Place tree.Expr place_layer expr_layer
    (TypedExpr-F.Binary t o a b)

pub tree-Logical : (o : LogicalOp) (a b : TypedExpr) → expr_of (forms.Logical o a b) ≡ tree.Logical o (expr_of a) (expr_of b)
tree-Logical o a b = ap expr_of (sym (forms.rolls-Logical o a b)) ∙ fold-roll-TypedExpr tree.Place tree.Expr place_layer expr_layer (TypedExpr-F.Logical o a b)

pub tree-Conditional : (t : Option Ty) (c a b : TypedExpr) → expr_of (forms.Conditional t c a b) ≡ tree.Conditional t (expr_of c) (expr_of a) (expr_of b)
tree-Conditional t c a b = ap expr_of (sym (forms.rolls-Conditional t c a b)) ∙ fold-roll-TypedExpr tree.Place tree.Expr place_layer expr_layer
    (TypedExpr-F.Conditional t c a b)

pub tree-Comma : (t : Option Ty) (a b : TypedExpr) → expr_of (forms.Comma t a b) ≡ tree.Comma t (expr_of a) (expr_of b)
tree-Comma t a b = ap expr_of (sym (forms.rolls-Comma t a b)) ∙ fold-roll-TypedExpr tree.Place tree.Expr place_layer expr_layer (TypedExpr-F.Comma t a b)

pub tree-Assign : (t : Ty) (p : Place) (e : TypedExpr) → expr_of (forms.Assign t p e) ≡ tree.Assign t (place_of p) (expr_of e)
tree-Assign t p e = ap expr_of (sym (forms.rolls-Assign t p e)) ∙ fold-roll-TypedExpr tree.Place tree.Expr place_layer expr_layer (TypedExpr-F.Assign t p e)

pub tree-Compound : (t : Ty) (o : BinaryOp) (u : Ty) (p : Place) (e : TypedExpr)
    → expr_of (forms.Compound t o u p e) ≡ tree.Compound t o u (place_of p) (expr_of e)
tree-Compound t o u p e = ap expr_of (sym (forms.rolls-Compound t o u p e)) ∙ fold-roll-TypedExpr tree.Place tree.Expr place_layer expr_layer
    (TypedExpr-F.Compound t o u p e)

pub tree-Prefix : (t : Ty) (d : Step) (p : Place) → expr_of (forms.Prefix t d p) ≡ tree.Prefix t d (place_of p)
tree-Prefix t d p = ap expr_of (sym (forms.rolls-Prefix t d p)) ∙ fold-roll-TypedExpr tree.Place tree.Expr place_layer expr_layer (TypedExpr-F.Prefix t d p)

pub tree-Postfix : (t : Ty) (d : Step) (p : Place) → expr_of (forms.Postfix t d p) ≡ tree.Postfix t d (place_of p)
tree-Postfix t d p = ap expr_of (sym (forms.rolls-Postfix t d p)) ∙ fold-roll-TypedExpr tree.Place tree.Expr place_layer expr_layer (TypedExpr-F.Postfix t d p)

pub tree-Call : (t : Option Ty) (f : ℕ) (es : List TypedExpr) → expr_of (forms.Call t f es) ≡ tree.Call t f (arguments_from (map expr_of es))
tree-Call t f es = ap expr_of (sym (forms.rolls-Call t f es)) ∙ fold-roll-TypedExpr tree.Place tree.Expr place_layer expr_layer (TypedExpr-F.Call t f es)

pub tree-GetChar : expr_of forms.GetChar ≡ tree.GetChar
tree-GetChar = ap expr_of (sym forms.rolls-GetChar) ∙ fold-roll-TypedExpr tree.Place tree.Expr place_layer expr_layer TypedExpr-F.GetChar

pub tree-PutChar : (e : TypedExpr) → expr_of (forms.PutChar e) ≡ tree.PutChar (expr_of e)
tree-PutChar e = ap expr_of (sym (forms.rolls-PutChar e)) ∙ fold-roll-TypedExpr tree.Place tree.Expr place_layer expr_layer (TypedExpr-F.PutChar e)

pub tree-Exit : (e : TypedExpr) → expr_of (forms.Exit e) ≡ tree.Exit (expr_of e)
tree-Exit e = ap expr_of (sym (forms.rolls-Exit e)) ∙ fold-roll-TypedExpr tree.Place tree.Expr place_layer expr_layer (TypedExpr-F.Exit e)
