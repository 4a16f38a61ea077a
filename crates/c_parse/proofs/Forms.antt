-- Which rules an expression of a form can come from, and the rules of a rank as a first form that grows.
use Rattle.std.proofs.Common.{ℕ, zero, suc, ◌≡◌, refl, sym, ◌∙◌, ap, subst, Bool, true, false, List, inl, inr, Option, Some, None}
use Rattle.c_tree.specs.declared.token.Token.{Token}
use Rattle.c_tree.specs.declared.token.TokenKind.{TokenKind}
use Rattle.c_tree.specs.declared.token.TokenKind.TheVariants as kinds
use Rattle.c_tree.specs.declared.token.Punct.TheVariants as p
use Rattle.c_tree.specs.declared.expression.Expr.{Expr, out-roll-Expr}
use Rattle.c_tree.specs.declared.expression.Expr.TheOpen.{Expr-F}
use Rattle.c_tree.specs.declared.expression.Specifiers.{Specifiers}
use Rattle.c_tree.specs.declared.expression.Specifier.{Specifier}
use Rattle.c_tree.specs.declared.expression.Enumerator.{Enumerator}
use Rattle.c_parse.specs.declared.precedence.Precedence.{Precedence}
use Rattle.c_parse.specs.declared.precedence.Precedence.TheVariants.{LogicalOr, LogicalAnd, Or, Xor, And, Equality, Relation, Shift, Sum, Product}
use Rattle.c_parse.specs.Classes.{punct}
use Rattle.c_parse.specs.Languages.{Lang, sign, among, both, either, made, such, trail}
use Rattle.c_parse.specs.Trees.{Sized, node, kind_constant, Suffix, Subscript, Arguments, named, paren, postfix, prefix, unary, cast, binary}
use Rattle.c_parse.specs.Expressions.{Rank, Conditional, Binary, Cast, Unary, Postfix, steps, IsSpecifiers, IsPrimary, IsPostfix, IsUnary, IsCast}
use Rattle.c_parse.specs.Expressions.{joined, IsProduct, IsSum, IsShift, IsRelation, IsEquality, IsAnd, IsXor, IsOr, IsLogicalAnd, IsLogicalOr}
use Rattle.c_parse.specs.Expressions.{IsConditional, IsAssignment, IsRank, IsExpr}
use Rattle.c_parse.specs.ExpressionReaders.{postfix_layer, unary_layer, closed_layer, is_postfix, is_unary, is_condition, Typed, Inner, opened}
use Rattle.c_parse.proofs.Maps.{Each, Any, each_any, each_made, each_either}
use Rattle.c_parse.proofs.Operands.{ParenL, CastOrParenL, PrefixedL, OperandL}

-- the tests on a node
pub postfix_node : (x : Expr-F Expr Specifier Enumerator Specifiers) (h : ℕ) → is_postfix (node x h) ≡ postfix_layer x
postfix_node x h = ap postfix_layer (out-roll-Expr x)

pub unary_node : (x : Expr-F Expr Specifier Enumerator Specifiers) (h : ℕ) → is_unary (node x h) ≡ unary_layer x
unary_node x h = ap unary_layer (out-roll-Expr x)

pub condition_node : (x : Expr-F Expr Specifier Enumerator Specifiers) (h : ℕ) → is_condition (node x h) ≡ closed_layer x
condition_node x h = ap closed_layer (out-roll-Expr x)

abbrev True : (Sized → Bool) → Sized → Type 0
True test c = test c ≡ true

some_is : {A : Type 0} (P : A → Type 0) (d c : A) → Some d ≡ Some c → P d → P c
some_is P d c e h = let q : d ≡ c = cc in subst P q h

postfix_named : (c : _ × Option Suffix) → is_postfix (named c) ≡ true
postfix_named (x, None) = postfix_node (Expr-F.Name x) 0
postfix_named (x, Some (Subscript e)) = postfix_node (Expr-F.Index x e.0) e.1
postfix_named (x, Some (Arguments es)) = postfix_node (Expr-F.Call x es.0) es.1

postfix_constant : (l : ℕ) (k : TokenKind) (c : Sized) → kind_constant l k ≡ Some c → is_postfix c ≡ true
postfix_constant l (kinds.Include h) c e = absurd cc
postfix_constant l (kinds.Name x) c e = absurd cc
postfix_constant l (kinds.Word r) c e = absurd cc
postfix_constant l (kinds.Punct q) c e = absurd cc
postfix_constant l (kinds.Constant v ty) c e = some_is (True is_postfix) _ c e (postfix_node (Expr-F.Constant l v ty) 0)

unary_named : (c : _ × Option Suffix) → is_unary (named c) ≡ true
unary_named (x, None) = unary_node (Expr-F.Name x) 0
unary_named (x, Some (Subscript e)) = unary_node (Expr-F.Index x e.0) e.1
unary_named (x, Some (Arguments es)) = unary_node (Expr-F.Call x es.0) es.1

unary_constant : (l : ℕ) (k : TokenKind) (c : Sized) → kind_constant l k ≡ Some c → is_unary c ≡ true
unary_constant l (kinds.Include h) c e = absurd cc
unary_constant l (kinds.Name x) c e = absurd cc
unary_constant l (kinds.Word r) c e = absurd cc
unary_constant l (kinds.Punct q) c e = absurd cc
unary_constant l (kinds.Constant v ty) c e = some_is (True is_unary) _ c e (unary_node (Expr-F.Constant l v ty) 0)

condition_named : (c : _ × Option Suffix) → is_condition (named c) ≡ true
condition_named (x, None) = condition_node (Expr-F.Name x) 0
condition_named (x, Some (Subscript e)) = condition_node (Expr-F.Index x e.0) e.1
condition_named (x, Some (Arguments es)) = condition_node (Expr-F.Call x es.0) es.1

condition_constant : (l : ℕ) (k : TokenKind) (c : Sized) → kind_constant l k ≡ Some c → is_condition c ≡ true
condition_constant l (kinds.Include h) c e = absurd cc
condition_constant l (kinds.Name x) c e = absurd cc
condition_constant l (kinds.Word r) c e = absurd cc
condition_constant l (kinds.Punct q) c e = absurd cc
condition_constant l (kinds.Constant v ty) c e = some_is (True is_condition) _ c e (condition_node (Expr-F.Constant l v ty) 0)

module _ (G : Rank → Lang Sized) where
  postfix_primary : Each (True is_postfix) (IsPrimary G)
  postfix_primary = each_either (True is_postfix) (each_made Any (True is_postfix) named (λ c h. postfix_named c) (each_any _))
      (each_either (True is_postfix) (λ c ws l. postfix_constant l.0.line l.0.kind c l.2)
      (each_made Any (True is_postfix) paren (λ c h. postfix_node (Expr-F.Paren c.0 c.1.0) c.1.1) (each_any _)))

  pub postfix_postfix : Each (True is_postfix) (IsPostfix G)
  postfix_postfix = each_either (True is_postfix) postfix_primary
      (each_made Any (True is_postfix) (λ c. postfix c.0 c.1) (λ c h. postfix_node _ c.0.1) (each_any _))

  unary_primary : Each (True is_unary) (IsPrimary G)
  unary_primary = each_either (True is_unary) (each_made Any (True is_unary) named (λ c h. unary_named c) (each_any _))
      (each_either (True is_unary) (λ c ws l. unary_constant l.0.line l.0.kind c l.2)
      (each_made Any (True is_unary) paren (λ c h. unary_node (Expr-F.Paren c.0 c.1.0) c.1.1) (each_any _)))

  pub unary_postfix : Each (True is_unary) (IsPostfix G)
  unary_postfix = each_either (True is_unary) unary_primary (each_made Any (True is_unary) (λ c. postfix c.0 c.1) (λ c h. unary_node _ c.0.1) (each_any _))

  condition_primary : Each (True is_condition) (IsPrimary G)
  condition_primary = each_either (True is_condition) (each_made Any (True is_condition) named (λ c h. condition_named c) (each_any _))
      (each_either (True is_condition) (λ c ws l. condition_constant l.0.line l.0.kind c l.2)
      (each_made Any (True is_condition) paren (λ c h. condition_node (Expr-F.Paren c.0 c.1.0) c.1.1) (each_any _)))

  pub condition_postfix : Each (True is_condition) (IsPostfix G)
  condition_postfix = each_either (True is_condition) condition_primary
      (each_made Any (True is_condition) (λ c. postfix c.0 c.1) (λ c h. condition_node _ c.0.1) (each_any _))

  pub unary_unary : Each (True is_unary) (IsUnary G)
  unary_unary = each_either (True is_unary) unary_postfix (each_either (True is_unary)
      (each_made Any (True is_unary) prefix (λ c h. unary_node (Expr-F.Prefix c.0.1 c.0.0 c.1.0) c.1.1) (each_any _))
      (each_made Any (True is_unary) unary (λ c h. unary_node (Expr-F.Unary c.0.1 c.0.0 c.1.0) c.1.1) (each_any _)))

  pub condition_unary : Each (True is_condition) (IsUnary G)
  condition_unary = each_either (True is_condition) condition_postfix (each_either (True is_condition)
      (each_made Any (True is_condition) prefix (λ c h. condition_node (Expr-F.Prefix c.0.1 c.0.0 c.1.0) c.1.1) (each_any _))
      (each_made Any (True is_condition) unary (λ c h. condition_node (Expr-F.Unary c.0.1 c.0.0 c.1.0) c.1.1) (each_any _)))

  condition_cast : Each (True is_condition) (IsCast G)
  condition_cast = each_either (True is_condition) condition_unary
      (each_made Any (True is_condition) cast (λ c h. condition_node (Expr-F.Cast c.0 c.1.0.0 c.1.1.0) 0) (each_any _))

  condition_level : (q : Precedence) (R L : Lang Sized) → Each (True is_condition) L → Each (True is_condition) (either L (joined G q R))
  condition_level q R L m = each_either (True is_condition) m (each_made Any (True is_condition) (λ c. binary c.0 c.1) (λ c h. condition_node _ 0) (each_any _))

  condition_product : Each (True is_condition) (IsProduct G)
  condition_product = condition_level Product (G Cast) (IsCast G) condition_cast

  condition_sum : Each (True is_condition) (IsSum G)
  condition_sum = condition_level Sum (G (Binary Product)) (IsProduct G) condition_product

  condition_shift : Each (True is_condition) (IsShift G)
  condition_shift = condition_level Shift (G (Binary Sum)) (IsSum G) condition_sum

  condition_relation : Each (True is_condition) (IsRelation G)
  condition_relation = condition_level Relation (G (Binary Shift)) (IsShift G) condition_shift

  condition_equality : Each (True is_condition) (IsEquality G)
  condition_equality = condition_level Equality (G (Binary Relation)) (IsRelation G) condition_relation

  condition_and : Each (True is_condition) (IsAnd G)
  condition_and = condition_level And (G (Binary Equality)) (IsEquality G) condition_equality

  condition_xor : Each (True is_condition) (IsXor G)
  condition_xor = condition_level Xor (G (Binary And)) (IsAnd G) condition_and

  condition_or : Each (True is_condition) (IsOr G)
  condition_or = condition_level Or (G (Binary Xor)) (IsXor G) condition_xor

  condition_logical_and : Each (True is_condition) (IsLogicalAnd G)
  condition_logical_and = condition_level LogicalAnd (G (Binary Or)) (IsOr G) condition_or

  pub condition_logical_or : Each (True is_condition) (IsLogicalOr G)
  condition_logical_or = condition_level LogicalOr (G (Binary LogicalAnd)) (IsLogicalAnd G) condition_logical_and

  -- of a rank, what passes the test is of the rank below
  only_postfix : (c : Sized) (ws : List Token) → IsUnary G c ws → is_postfix c ≡ true → IsPostfix G c ws
  only_postfix c ws (inl l) h = l
  only_postfix c ws (inr (inl (d, e, l))) h = absurd (let x : false ≡ true = sym (ap is_postfix e ∙ postfix_node (Expr-F.Prefix d.0.1 d.0.0 d.1.0) d.1.1) ∙ h
      in cc)
  only_postfix c ws (inr (inr (d, e, l))) h = absurd (let x : false ≡ true = sym (ap is_postfix e ∙ postfix_node (Expr-F.Unary d.0.1 d.0.0 d.1.0) d.1.1) ∙ h
      in cc)

  only_postfix_cast : (c : Sized) (ws : List Token) → IsCast G c ws → is_postfix c ≡ true → IsPostfix G c ws
  only_postfix_cast c ws (inl l) h = only_postfix c ws l h
  only_postfix_cast c ws (inr (d, e, l)) h = absurd (let x : false ≡ true = sym (ap is_postfix e ∙ postfix_node (Expr-F.Cast d.0 d.1.0.0 d.1.1.0) 0) ∙ h in cc)

  pub only_condition : (c : Sized) (ws : List Token) → IsConditional G c ws → is_condition c ≡ true → IsLogicalOr G c ws
  only_condition c ws (inl l) h = l
  only_condition c ws (inr (d, e, l)) h = absurd (let x : false ≡ true = sym (ap is_condition e ∙ condition_node _ 0) ∙ h in cc)

  only_cast : (c : Sized) (ws : List Token) → IsCast G c ws → is_unary c ≡ true → IsUnary G c ws
  only_cast c ws (inl l) h = l
  only_cast c ws (inr (d, e, l)) h = absurd (let x : false ≡ true = sym (ap is_unary e ∙ unary_node (Expr-F.Cast d.0 d.1.0.0 d.1.1.0) 0) ∙ h in cc)

  only_level : (q : Precedence) (R L : Lang Sized) → ((c : Sized) (ws : List Token) → L c ws → is_unary c ≡ true → IsUnary G c ws)
      → (c : Sized) (ws : List Token) → either L (joined G q R) c ws → is_unary c ≡ true → IsUnary G c ws
  only_level q R L f c ws (inl l) h = f c ws l h
  only_level q R L f c ws (inr (d, e, l)) h = absurd (let x : false ≡ true = sym (ap is_unary e ∙ unary_node _ 0) ∙ h in cc)

  only_product : (c : Sized) (ws : List Token) → IsProduct G c ws → is_unary c ≡ true → IsUnary G c ws
  only_product = only_level Product (G Cast) (IsCast G) only_cast

  only_sum : (c : Sized) (ws : List Token) → IsSum G c ws → is_unary c ≡ true → IsUnary G c ws
  only_sum = only_level Sum (G (Binary Product)) (IsProduct G) only_product

  only_shift : (c : Sized) (ws : List Token) → IsShift G c ws → is_unary c ≡ true → IsUnary G c ws
  only_shift = only_level Shift (G (Binary Sum)) (IsSum G) only_sum

  only_relation : (c : Sized) (ws : List Token) → IsRelation G c ws → is_unary c ≡ true → IsUnary G c ws
  only_relation = only_level Relation (G (Binary Shift)) (IsShift G) only_shift

  only_equality : (c : Sized) (ws : List Token) → IsEquality G c ws → is_unary c ≡ true → IsUnary G c ws
  only_equality = only_level Equality (G (Binary Relation)) (IsRelation G) only_relation

  only_and : (c : Sized) (ws : List Token) → IsAnd G c ws → is_unary c ≡ true → IsUnary G c ws
  only_and = only_level And (G (Binary Equality)) (IsEquality G) only_equality

  only_xor : (c : Sized) (ws : List Token) → IsXor G c ws → is_unary c ≡ true → IsUnary G c ws
  only_xor = only_level Xor (G (Binary And)) (IsAnd G) only_and

  only_or : (c : Sized) (ws : List Token) → IsOr G c ws → is_unary c ≡ true → IsUnary G c ws
  only_or = only_level Or (G (Binary Xor)) (IsXor G) only_xor

  only_logical_and : (c : Sized) (ws : List Token) → IsLogicalAnd G c ws → is_unary c ≡ true → IsUnary G c ws
  only_logical_and = only_level LogicalAnd (G (Binary Or)) (IsOr G) only_or

  only_logical_or : (c : Sized) (ws : List Token) → IsLogicalOr G c ws → is_unary c ≡ true → IsUnary G c ws
  only_logical_or = only_level LogicalOr (G (Binary LogicalAnd)) (IsLogicalAnd G) only_logical_and

  pub only_assignment : (c : Sized) (ws : List Token) → IsAssignment G c ws → is_unary c ≡ true → IsUnary G c ws
  only_assignment c ws (inl (inl l)) h = only_logical_or c ws l h
  only_assignment c ws (inl (inr (d, e, l))) h = absurd (let x : false ≡ true = sym (ap is_unary e ∙ unary_node _ 0) ∙ h in cc)
  only_assignment c ws (inr (d, e, l)) h = absurd (let x : false ≡ true = sym (ap is_unary e ∙ unary_node _ 0) ∙ h in cc)

  -- a unary expression is one of each looser rank
  pub unary_logical_or : (c : Sized) (ws : List Token) → IsUnary G c ws → IsLogicalOr G c ws
  unary_logical_or c ws l = inl (inl (inl (inl (inl (inl (inl (inl (inl (inl (inl l))))))))))

  abbrev pub Low : Bool → Rank
  Low true = Cast
  Low false = Unary

  abbrev pub Stepped : Lang Sized → Lang Sized
  Stepped L = made (λ d. postfix d.0 d.1) (both (such is_postfix L) (among steps))

  prefixed_unary : (c : Sized) (us : List Token) → PrefixedL G c us → IsUnary G c us
  prefixed_unary c us (inl l) = inr (inl l)
  prefixed_unary c us (inr (inl l)) = inr (inr l)
  prefixed_unary c us (inr (inr (inl l))) = inl (inl (inl l))
  prefixed_unary c us (inr (inr (inr l))) = inl (inl (inr (inl l)))

  opened_cast : (c : Sized) (us : List Token) → CastOrParenL G c us → IsCast G c us
  opened_cast c us ((l, o), e, (us1, us2, e2, s, inl (d, e3, k))) = inr ((l, d), e ∙ ap (λ z. opened (l, z)) e3, (us1, us2, e2, s, k))
  opened_cast c us ((l, o), e, (us1, us2, e2, s, inr (d, e3, k))) = inl (inl (inl (inr (inr ((l, d), e ∙ ap (λ z. opened (l, z)) e3, (us1, us2, e2, s, k))))))

  cast_opened : (c : Sized) (us : List Token)
      → made cast (both (sign (punct p.OpenParen)) (both (trail (IsSpecifiers (G Conditional)) (punct p.CloseParen)) (G Cast))) c us → CastOrParenL G c us
  cast_opened c us (d, e, (us1, us2, e2, s, k)) = ((d.0, Typed d.1), e, (us1, us2, e2, s, inl (d.1, refl, k)))

  paren_opened : (c : Sized) (us : List Token) → ParenL G c us → CastOrParenL G c us
  paren_opened c us (d, e, (us1, us2, e2, s, k)) = ((d.0, Inner d.1), e, (us1, us2, e2, s, inr (d.1, refl, k)))

  operand_into : (b : Bool) (c : Sized) (us : List Token) → OperandL G b c us → IsRank G (Low b) c us
  operand_into true c us (inl l) = opened_cast c us l
  operand_into true c us (inr l) = inl (prefixed_unary c us l)
  operand_into false c us (inl l) = inl (inl (inr (inr l)))
  operand_into false c us (inr l) = prefixed_unary c us l

  primary_operand : (b : Bool) (c : Sized) (us : List Token) → IsPrimary G c us → OperandL G b c us
  primary_operand true c us (inl l) = inr (inr (inr (inl l)))
  primary_operand true c us (inr (inl l)) = inr (inr (inr (inr l)))
  primary_operand true c us (inr (inr l)) = inl (paren_opened c us l)
  primary_operand false c us (inl l) = inr (inr (inr (inl l)))
  primary_operand false c us (inr (inl l)) = inr (inr (inr (inr l)))
  primary_operand false c us (inr (inr l)) = inl l

  prefix_operand : (b : Bool) (c : Sized) (us : List Token) → PrefixedL G c us → OperandL G b c us
  prefix_operand true c us l = inr l
  prefix_operand false c us l = inr l

  unary_out : (b : Bool) (up : (c : Sized) (us : List Token) → G Postfix c us → such is_postfix (G (Low b)) c us) (c : Sized) (us : List Token) → IsUnary G c us
      → either (OperandL G b) (Stepped (G (Low b))) c us
  unary_out b up c us (inl (inl l)) = inl (primary_operand b c us l)
  unary_out b up c us (inl (inr (d, e, (us1, us2, e2, k, s)))) = inr (d, e, (us1, us2, e2, up d.0 us1 k, s))
  unary_out b up c us (inr (inl l)) = inl (prefix_operand b c us (inl l))
  unary_out b up c us (inr (inr l)) = inl (prefix_operand b c us (inr (inl l)))

  pub rank_out : (b : Bool) (up : (c : Sized) (us : List Token) → G Postfix c us → such is_postfix (G (Low b)) c us) (c : Sized) (us : List Token)
      → IsRank G (Low b) c us → either (OperandL G b) (Stepped (G (Low b))) c us
  rank_out true up c us (inl l) = unary_out true up c us l
  rank_out true up c us (inr l) = inl (inl (cast_opened c us l))
  rank_out false up c us l = unary_out false up c us l

  pub rank_into : (b : Bool) (down : (c : Sized) (us : List Token) → such is_postfix (G (Low b)) c us → G Postfix c us) (c : Sized) (us : List Token)
      → either (OperandL G b) (Stepped (G (Low b))) c us → IsRank G (Low b) c us
  rank_into b down c us (inl l) = operand_into b c us l
  rank_into true down c us (inr (d, e, (us1, us2, e2, k, s))) = inl (inl (inr (d, e, (us1, us2, e2, down d.0 us1 k, s))))
  rank_into false down c us (inr (d, e, (us1, us2, e2, k, s))) = inl (inr (d, e, (us1, us2, e2, down d.0 us1 k, s)))

abbrev pub unary_rank : Bool → Rank
unary_rank true = Cast
unary_rank false = Unary

empty : (r : Rank) (c : Sized) (us : List Token) → IsExpr zero r c us → ⊥
empty r c us l = l

pub postfix_up : (n : ℕ) (b : Bool) (c : Sized) (us : List Token) → IsExpr n Postfix c us → such is_postfix (IsExpr n (unary_rank b)) c us
postfix_up zero b c us l = absurd l
postfix_up (suc n) true c us l = (postfix_postfix (IsExpr n) c us l, inl (inl l))
postfix_up (suc n) false c us l = (postfix_postfix (IsExpr n) c us l, inl l)

pub postfix_down : (n : ℕ) (b : Bool) (c : Sized) (us : List Token) → such is_postfix (IsExpr n (unary_rank b)) c us → IsExpr n Postfix c us
postfix_down zero b c us l = absurd l.1
postfix_down (suc n) true c us l = only_postfix_cast (IsExpr n) c us l.1 l.0
postfix_down (suc n) false c us l = only_postfix (IsExpr n) c us l.1 l.0
