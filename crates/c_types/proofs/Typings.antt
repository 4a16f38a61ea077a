-- What a call is typed as, and the end of the loop over its arguments.
use Rattle.std.proofs.Common.{◌≡◌, ℕ, ℤ, ◌≤◌, List, [], ◌∷◌, map, length, drop, sym, ap, ◌∙◌, subst}
use Rattle.std.proofs.lemmas.List.{append-nil, nil_from_length, at_drop_all}
use Rattle.hlo_num.specs.declared.word.Ty.{Ty}
use Rattle.c_tree.specs.declared.expression.Expr.{Expr}
use Rattle.c_tree.specs.declared.expression.Expr.TheVariants as forms
use Rattle.c_tree.specs.declared.expression.Expr.TheOpen.{Expr-F}
use Rattle.c_tree.specs.declared.expression.Expr.TheFolds.{fold-roll-Expr}
use Rattle.c_tree.specs.declared.expression.Identifier.{Identifier}
use Rattle.c_typed.specs.declared.expression.TypedExpr.{TypedExpr}
use Rattle.c_types.specs.declared.specifiers.Part.{Part}
use Rattle.c_types.specs.declared.specifiers.Site.{Site}
use Rattle.c_types.specs.declared.specifiers.Specified.{Specified}
use Rattle.c_types.specs.ExpressionRules as rules
use Rattle.c_types.specs.Names.{find}
use Rattle.c_types.specs.Rules.{Here, Gives, Rule, ◌>>=◌}
use Rattle.c_types.proofs.Orders.{before}

-- a call, by the rules of its arguments
pub typing_call : (f : Identifier) (es : List Expr) → (rules.typing (forms.Call f es)).typed ≡ (find f >>= λ b. rules.call f.line b (map rules.typing es))
typing_call f es = ap (λ e. (rules.typing e).typed) (sym (forms.rolls-Call f es)) ∙ ap (λ t. t.typed)
    (fold-roll-Expr rules.Typing (Rule Part) (ℤ → Rule ℤ) (Site → Rule Specified) rules.expression rules.specifier rules.enumeration_constant rules.specifiers
    (Expr-F.Call f es))

-- nothing behind the last type
pub no_types_left : (xs : List TypedExpr) (ps : List Ty) (es : List rules.Typing) (h : Here) → length ps ≡ 0 → before xs (rules.arguments ps es h) ≡ Gives xs h
no_types_left xs ps es h e = subst (λ l. before xs (rules.arguments l es h) ≡ Gives xs h) (sym (nil_from_length ps e)) (ap (λ l. Gives l h) (append-nil xs))

no_arguments : (xs : List TypedExpr) (ps : List Ty) (h : Here) → before xs (rules.arguments ps [] h) ≡ Gives xs h
no_arguments xs [] h = ap (λ l. Gives l h) (append-nil xs)
no_arguments xs (p ∷ ps) h = ap (λ l. Gives l h) (append-nil xs)

-- nothing behind the last argument
pub no_arguments_left : (xs : List TypedExpr) (ps : List Ty) (es : List Expr) (i : ℕ) (h : Here) → length es ≤ i
    → before xs (rules.arguments ps (map rules.typing (drop i es)) h) ≡ Gives xs h
no_arguments_left xs ps es i h le = at_drop_all (λ r. before xs (rules.arguments ps (map rules.typing r) h)) es i le ∙ no_arguments xs ps h
