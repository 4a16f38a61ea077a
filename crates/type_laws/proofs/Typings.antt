-- Every expression and every specifier keeps what rules keep, by induction on the trees.
use Rattle.std.proofs.Common.{ℤ, List, [], ◌∷◌, map, Option, Some, None, sym, subst}
use Rattle.c_tree.specs.declared.expression.Identifier.{Identifier}
use Rattle.c_tree.specs.declared.expression.Expr.{Expr, roll-Expr, map-Expr}
use Rattle.c_tree.specs.declared.expression.Specifier.{Specifier, roll-Specifier, map-Specifier}
use Rattle.c_tree.specs.declared.expression.Enumerator.{Enumerator, roll-Enumerator, map-Enumerator}
use Rattle.c_tree.specs.declared.expression.Specifiers.{Specifiers, roll-Specifiers, map-Specifiers}
use Rattle.c_tree.specs.declared.expression.Expr.TheOpen.{Expr-F, Specifier-F, Specifiers-F, Enumerator-F}
use Rattle.c_tree.specs.declared.expression.Expr.TheFolds.{ind-Expr, ind-Specifiers, fold-roll-Expr, fold-roll-Specifier, fold-roll-Enumerator}
use Rattle.c_tree.specs.declared.expression.Expr.TheFolds.{fold-roll-Specifiers}
use Rattle.c_types.specs.declared.specifiers.Part.{Part}
use Rattle.c_types.specs.declared.specifiers.Site.{Site}
use Rattle.c_types.specs.declared.specifiers.Specified.{Specified}
use Rattle.c_types.specs.ExpressionRules as rules
use Rattle.c_types.specs.ExpressionRules.{Typing}
use Rattle.c_types.specs.Rules.{Here, Rule}
use Rattle.lower_laws.specs.Bound.{Scope}
use Rattle.type_laws.proofs.Expressions.{AreKept, AllKept, Parts, IsValueKept, AllCounted, SpecifierParts, expression_keeps, specifier_keeps}
use Rattle.type_laws.proofs.Expressions.{enumeration_constant_keeps, specifiers_keep}
use Rattle.type_laws.proofs.Keeping.{Keeps, Any, AllKeep}

module _ (s : Scope) (o : Here) where
  abbrev Good : Expr → Type 0
  Good e = AreKept s o (rules.typing e)

  abbrev GoodPart : Specifier → Type 0
  GoodPart p = Keeps s o Any (rules.reading p)

  abbrev GoodNumber : Enumerator → Type 0
  GoodNumber e = (next : ℤ) → Keeps s o Any (rules.enumerating e next)

  abbrev GoodSites : Specifiers → Type 0
  GoodSites x = (site : Site) → Keeps s o Any (rules.specifying x site)

  -- ## One layer

  expr_by : (x : Expr-F Expr Specifier Enumerator Specifiers)
      → Parts s o (map-Expr Expr Specifier Enumerator Specifiers Typing (Rule Part) (ℤ → Rule ℤ)
      (Site → Rule Specified) rules.typing rules.reading rules.enumerating rules.specifying x) → Good (roll-Expr x)
  expr_by x ok =
      subst (λ t. AreKept s o t)
      (sym (fold-roll-Expr Typing (Rule Part) (ℤ → Rule ℤ)
      (Site → Rule Specified) rules.expression rules.specifier rules.enumeration_constant rules.specifiers x))
      (expression_keeps s o _ ok)

  part_by : (x : Specifier-F Expr Specifier Enumerator Specifiers)
      → SpecifierParts s o (map-Specifier Expr Specifier Enumerator Specifiers Typing (Rule Part) (ℤ → Rule ℤ)
      (Site → Rule Specified) rules.typing rules.reading rules.enumerating rules.specifying x) → GoodPart (roll-Specifier x)
  part_by x ok =
      subst (λ (r : Rule Part). Keeps s o Any r)
      (sym (fold-roll-Specifier Typing (Rule Part) (ℤ → Rule ℤ)
      (Site → Rule Specified) rules.expression rules.specifier rules.enumeration_constant rules.specifiers x))
      (specifier_keeps s o _ ok)

  number_by : (x : Enumerator-F Expr Specifier Enumerator Specifiers)
      → IsValueKept s o (map-Enumerator Expr Specifier Enumerator Specifiers Typing (Rule Part) (ℤ → Rule ℤ)
      (Site → Rule Specified) rules.typing rules.reading rules.enumerating rules.specifying x).value → GoodNumber (roll-Enumerator x)
  number_by x ok =
      subst (λ (r : ℤ → Rule ℤ). (next : ℤ) → Keeps s o Any (r next))
      (sym (fold-roll-Enumerator Typing (Rule Part) (ℤ → Rule ℤ)
      (Site → Rule Specified) rules.expression rules.specifier rules.enumeration_constant rules.specifiers x))
      (enumeration_constant_keeps s o (map-Enumerator Expr Specifier Enumerator Specifiers Typing (Rule Part) (ℤ → Rule ℤ)
      (Site → Rule Specified) rules.typing rules.reading rules.enumerating rules.specifying x) ok)

  sites_by : (x : Specifiers-F Expr Specifier Enumerator Specifiers)
      → AllKeep s o Any (map-Specifiers Expr Specifier Enumerator Specifiers Typing (Rule Part) (ℤ → Rule ℤ)
      (Site → Rule Specified) rules.typing rules.reading rules.enumerating rules.specifying x).items → GoodSites (roll-Specifiers x)
  sites_by x ok =
      subst (λ (r : Site → Rule Specified). (site : Site) → Keeps s o Any (r site))
      (sym (fold-roll-Specifiers Typing (Rule Part) (ℤ → Rule ℤ)
      (Site → Rule Specified) rules.expression rules.specifier rules.enumeration_constant rules.specifiers x))
      (specifiers_keep s o (map-Specifiers Expr Specifier Enumerator Specifiers Typing (Rule Part) (ℤ → Rule ℤ)
      (Site → Rule Specified) rules.typing rules.reading rules.enumerating rules.specifying x) ok)

  -- ## A layer whose parts are good

  abbrev E : Type 0
  E = (e : Expr) × Good e

  abbrev P : Type 0
  P = (p : Specifier) × GoodPart p

  abbrev N : Type 0
  N = (e : Enumerator) × GoodNumber e

  abbrev S : Type 0
  S = (x : Specifiers) × GoodSites x

  all_typings : (es : List E) → AllKept s o (map rules.typing (map (λ e. e.0) es))
  all_typings [] = tt
  all_typings (e ∷ es) = (e.1, all_typings es)

  all_parts : (ps : List P) → AllKeep s o Any (map rules.reading (map (λ p. p.0) ps))
  all_parts [] = tt
  all_parts (p ∷ ps) = (p.1, all_parts ps)

  all_numbers : (ns : List N) → AllCounted s o (map rules.enumerating (map (λ n. n.0) ns))
  all_numbers [] = tt
  all_numbers (n ∷ ns) = (n.1, all_numbers ns)

  expr_step : (y : Expr-F E P N S) → Good (roll-Expr (map-Expr E P N S Expr Specifier Enumerator Specifiers (λ e. e.0) (λ e. e.0) (λ e. e.0) (λ e. e.0) y))
  expr_step (Expr-F.Name x) = expr_by (Expr-F.Name x) tt
  expr_step (Expr-F.Index a i) = expr_by (Expr-F.Index a i.0) i.1
  expr_step (Expr-F.Call f es) = expr_by (Expr-F.Call f (map (λ e. e.0) es)) (all_typings es)
  expr_step (Expr-F.Constant l v ty) = expr_by (Expr-F.Constant l v ty) tt
  expr_step (Expr-F.Paren l e) = expr_by (Expr-F.Paren l e.0) e.1
  expr_step (Expr-F.Postfix l d e) = expr_by (Expr-F.Postfix l d e.0) e.1
  expr_step (Expr-F.Prefix l d e) = expr_by (Expr-F.Prefix l d e.0) e.1
  expr_step (Expr-F.Unary l u e) = expr_by (Expr-F.Unary l u e.0) e.1
  expr_step (Expr-F.Cast l r e) = expr_by (Expr-F.Cast l r.0 e.0) (r.1, e.1)
  expr_step (Expr-F.Binary l q a b) = expr_by (Expr-F.Binary l q a.0 b.0) (a.1, b.1)
  expr_step (Expr-F.Conditional l c a b) = expr_by (Expr-F.Conditional l c.0 a.0 b.0) (c.1, (a.1, b.1))
  expr_step (Expr-F.Assign l q a b) = expr_by (Expr-F.Assign l q a.0 b.0) (a.1, b.1)
  expr_step (Expr-F.Comma l a b) = expr_by (Expr-F.Comma l a.0 b.0) (a.1, b.1)

  part_step : (y : Specifier-F E P N S) → GoodPart (roll-Specifier (map-Specifier E P N S Expr Specifier Enumerator Specifiers (λ e. e.0) (λ e. e.0)
      (λ e. e.0) (λ e. e.0) y))
  part_step (Specifier-F.Word l w) = part_by (Specifier-F.Word l w) tt
  part_step (Specifier-F.EnumTag l x) = part_by (Specifier-F.EnumTag l x) tt
  part_step (Specifier-F.Enum l x es) = part_by (Specifier-F.Enum l x (map (λ e. e.0) es)) (all_numbers es)

  number_of : (name : Identifier) (v : Option E) → GoodNumber (roll-Enumerator
      (map-Enumerator E P N S Expr Specifier Enumerator Specifiers (λ e. e.0) (λ e. e.0) (λ e. e.0) (λ e. e.0) (record { name = name; value = v })))
  number_of name None = number_by (record { name = name; value = None }) tt
  number_of name (Some e) = number_by (record { name = name; value = Some e.0 }) e.1

  number_step : (y : Enumerator-F E P N S) → GoodNumber (roll-Enumerator
      (map-Enumerator E P N S Expr Specifier Enumerator Specifiers (λ e. e.0) (λ e. e.0) (λ e. e.0) (λ e. e.0) y))
  number_step y = number_of y.name y.value

  sites_step : (y : Specifiers-F E P N S) → GoodSites (roll-Specifiers
      (map-Specifiers E P N S Expr Specifier Enumerator Specifiers (λ e. e.0) (λ e. e.0) (λ e. e.0) (λ e. e.0) y))
  sites_step y = sites_by (record { line = y.line; items = map (λ p. p.0) y.items }) (all_parts y.items)

  -- ## The trees

  pub typing_keeps : (e : Expr) → AreKept s o (rules.typing e)
  typing_keeps e =
      ind-Expr Good GoodPart GoodNumber GoodSites
      (λ x y is. subst (λ z. Good (roll-Expr z)) is (expr_step y))
      (λ x y is. subst (λ z. GoodPart (roll-Specifier z)) is (part_step y))
      (λ x y is. subst (λ z. GoodNumber (roll-Enumerator z)) is (number_step y))
      (λ x y is. subst (λ z. GoodSites (roll-Specifiers z)) is (sites_step y))
      e

  pub specifying_keeps : (x : Specifiers) (site : Site) → Keeps s o Any (rules.specifying x site)
  specifying_keeps x =
      ind-Specifiers Good GoodPart GoodNumber GoodSites
      (λ x y is. subst (λ z. Good (roll-Expr z)) is (expr_step y))
      (λ x y is. subst (λ z. GoodPart (roll-Specifier z)) is (part_step y))
      (λ x y is. subst (λ z. GoodNumber (roll-Enumerator z)) is (number_step y))
      (λ x y is. subst (λ z. GoodSites (roll-Specifiers z)) is (sites_step y))
      x
