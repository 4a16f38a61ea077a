-- The line of an expression or a specifier: that of its first token.
use Rattle.std.specs.Prelude.{ℕ}
use Rattle.c_tree.specs.declared.expression.Specifier.{Specifier, out-Specifier}
use Rattle.c_tree.specs.declared.expression.Expr.{Expr, out-Expr}
use Rattle.c_tree.specs.declared.expression.Expr.TheOpen.{Expr-F, Specifier-F}

abbrev pub layer_line : {A B C D : Type 0} → Expr-F A B C D → ℕ
layer_line (Expr-F.Name x) = x.line
layer_line (Expr-F.Index a i) = a.line
layer_line (Expr-F.Call f args) = f.line
layer_line (Expr-F.Constant l v t) = l
layer_line (Expr-F.Paren l e) = l
layer_line (Expr-F.Postfix l s e) = l
layer_line (Expr-F.Prefix l s e) = l
layer_line (Expr-F.Unary l o e) = l
layer_line (Expr-F.Cast l s e) = l
layer_line (Expr-F.Binary l o a b) = l
layer_line (Expr-F.Conditional l c a b) = l
layer_line (Expr-F.Assign l o a b) = l
layer_line (Expr-F.Comma l a b) = l

abbrev pub line_of : Expr → ℕ
line_of e = layer_line (out-Expr e)

abbrev pub specifier_layer_line : {A B C D : Type 0} → Specifier-F A B C D → ℕ
specifier_layer_line (Specifier-F.Word l w) = l
specifier_layer_line (Specifier-F.EnumTag l t) = l
specifier_layer_line (Specifier-F.Enum l t es) = l

abbrev pub specifier_line : Specifier → ℕ
specifier_line s = specifier_layer_line (out-Specifier s)
