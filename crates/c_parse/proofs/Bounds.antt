-- Heights are at least 1 and within the index; what is low enough is spelled with a lower index.
use Rattle.std.proofs.Common.{ℕ, zero, suc, ◌≡◌, ◌+◌, ◌≤◌, max, subst, List, Option, Some, None, arith}
use Rattle.c_tree.specs.declared.token.Token.{Token}
use Rattle.c_tree.specs.declared.token.TokenKind.TheVariants as kinds
use Rattle.c_tree.specs.declared.token.TokenKind.{TokenKind}
use Rattle.c_tree.specs.declared.token.Punct.TheVariants as p
use Rattle.c_tree.specs.declared.token.Reserved.TheVariants as w
use Rattle.c_tree.specs.declared.expression.Enumerator.{Enumerator}
use Rattle.c_tree.specs.declared.expression.Expr.{Expr}
use Rattle.c_parse.specs.declared.precedence.Precedence.{Precedence}
use Rattle.c_parse.specs.declared.precedence.Precedence.TheVariants.{LogicalOr, LogicalAnd, Or, Xor, And, Equality, Relation, Shift, Sum, Product}
use Rattle.c_parse.specs.Classes.{punct, word}
use Rattle.c_parse.specs.Languages.{Lang, sign, among, either, lead, trail}
use Rattle.c_parse.specs.Trees.{Sized, add, one, all_or_none, kind_constant, Suffix, Subscript, Arguments, named, paren, postfix, prefix, unary, cast}
use Rattle.c_parse.specs.Trees.{binary, conditional, assign, comma, enumerator, EnumRest, Tagged, Untagged, enum, specifier_word, first_specifier}
use Rattle.c_parse.specs.Trees.{next_specifier, specifiers}
use Rattle.c_parse.specs.Expressions.{Rank, Comma, Assignment, Conditional, Binary, Cast, Unary, Postfix, operators, assignment_operators, steps}
use Rattle.c_parse.specs.Expressions.{unary_operators, specifier_words, identifier, braced, row, IsEnumerator, IsSpecifier, IsSpecifiers, IsPrimary}
use Rattle.c_parse.specs.Expressions.{IsPostfix, IsUnary, IsCast, joined, IsProduct, IsSum, IsShift, IsRelation, IsEquality, IsAnd, IsXor, IsOr}
use Rattle.c_parse.specs.Expressions.{IsLogicalAnd, IsLogicalOr, IsConditional, IsAssignment, IsComma, IsRank, IsExpr}
use Rattle.c_parse.proofs.Maps.{On, Each, Any, Opt, each_any, each_made, each_both, each_either, each_optional, each_lead, each_trail, each_built}
use Rattle.c_parse.proofs.Heights.{Low, rest_height, suffix_height, on_rank}

pub each_row : {X : Type 0} (n : ℕ) {L : Lang (X × ℕ)} → Each (Low n) L → Each (Low n) (row L)
each_row n m = each_built (Low n) (Low n) add (λ a b h k. omega (arith, h, k)) (each_made (Low n) (Low n) one (λ a h. h) m)
    (each_lead (Low n) (punct p.Comma) m)

each_inside : {A : Type 0} (P : A → Type 0) (j k : ℕ) {L : Lang A} → Each P L → Each P (lead j (trail L k))
each_inside P j k m = each_lead P j (each_trail P k m)

module _ (n : ℕ) {E : Lang Sized} (f : Each (Low n) E) where
  enumerator_caps : (c : _ × Option Sized) → Unit {0} × Opt (Low n) c.1 → (enumerator c).1 ≤ n
  enumerator_caps (x, None) h = omega arith
  enumerator_caps (x, Some e) h = h.1

  rest_caps : (c : ℕ × EnumRest) → Unit {0} × (rest_height c.1 ≤ n) → (enum c).1 ≤ n
  rest_caps (l, Tagged x None) h = h.1
  rest_caps (l, Tagged x (Some es)) h = h.1
  rest_caps (l, Untagged es) h = h.1

  tag_caps : (c : _ × Option (List Enumerator × ℕ)) → Unit {0} × Opt (Low n) c.1 → rest_height (Tagged c.0 c.1) ≤ n
  tag_caps (x, None) h = omega arith
  tag_caps (x, Some es) h = h.1

  each_enumerators : Each (Low n) (braced (row (IsEnumerator E)))
  each_enumerators = each_inside (Low n) (punct p.OpenBrace) (punct p.CloseBrace) (each_row n
      (each_made (λ c. Unit {0} × Opt (Low n) c.1) (Low n) enumerator enumerator_caps
      (each_both Any (Opt (Low n)) (each_any identifier) (each_optional (Low n) (each_lead (Low n) (punct p.Equals) f)))))

  each_specifier : Each (Low n) (IsSpecifier E)
  each_specifier = each_either (Low n) (each_made Any (Low n) specifier_word (λ c h. omega arith) (each_any (among specifier_words)))
      (each_made (λ c. Unit {0} × (rest_height c.1 ≤ n)) (Low n) enum rest_caps
      (each_both Any (λ r. rest_height r ≤ n) (each_any (sign (word w.Enum)))
      (each_either (λ r. rest_height r ≤ n)
      (each_made (λ c. Unit {0} × Opt (Low n) c.1) (λ r. rest_height r ≤ n) (λ c. Tagged c.0 c.1) tag_caps
      (each_both Any (Opt (Low n)) (each_any identifier) (each_optional (Low n) each_enumerators)))
      (each_made (Low n) (λ r. rest_height r ≤ n) Untagged (λ c h. h) each_enumerators))))

  pub each_specifiers : Each (Low n) (IsSpecifiers E)
  each_specifiers = each_made (λ c. c.1.1 ≤ n) (Low n) specifiers (λ c h. h)
      (each_built (λ c. c.1.1 ≤ n) (Low n) next_specifier (λ a b h k. omega (arith, h, k))
      (each_made (Low n) (λ c. c.1.1 ≤ n) first_specifier (λ c h. h) each_specifier) each_specifier)

abbrev pub Fine : ℕ → Sized → Type 0
Fine n c = (1 ≤ c.1) × (c.1 ≤ suc n)

module _ (n : ℕ) {G : Rank → Lang Sized} (f : (r : Rank) → Each (Low n) (G r)) where
  node_fine : (h : ℕ) → h ≤ n → (1 ≤ h + 1) × (h + 1 ≤ suc n)
  node_fine h e = (omega arith, omega (arith, e))

  pair_fine : (a b : ℕ) → a ≤ n → b ≤ n → (1 ≤ max a b + 1) × (max a b + 1 ≤ suc n)
  pair_fine a b h k = (omega arith, omega (arith, h, k))

  named_fine : (c : _ × Option Suffix) → Unit {0} × Opt (λ s. suffix_height s ≤ n) c.1 → Fine n (named c)
  named_fine (x, None) h = (omega arith, omega arith)
  named_fine (x, Some (Subscript e)) h = node_fine e.1 h.1
  named_fine (x, Some (Arguments es)) h = node_fine es.1 h.1

  all_fine : (x : Option (List Expr × ℕ)) → Opt (Low n) x → (all_or_none x).1 ≤ n
  all_fine None h = omega arith
  all_fine (Some c) h = h

  some_fine : (d c : Sized) → Some d ≡ Some c → Fine n d → Fine n c
  some_fine d c e h = let q : d ≡ c = cc in subst (Fine n) q h

  constant_fine : (t : Token) (k : TokenKind) (c : Sized) → kind_constant t.line k ≡ Some c → Fine n c
  constant_fine t (kinds.Include h) c e = absurd cc
  constant_fine t (kinds.Name x) c e = absurd cc
  constant_fine t (kinds.Word r) c e = absurd cc
  constant_fine t (kinds.Punct q) c e = absurd cc
  constant_fine t (kinds.Constant v ty) c e = some_fine _ c e (omega arith, omega arith)

  each_primary : Each (Fine n) (IsPrimary G)
  each_primary =
      each_either (Fine n) (each_made (λ c. Unit {0} × Opt (λ s. suffix_height s ≤ n) c.1) (Fine n) named named_fine
      (each_both Any (Opt (λ s. suffix_height s ≤ n)) (each_any identifier)
      (each_optional (λ s. suffix_height s ≤ n) (each_either (λ s. suffix_height s ≤ n)
      (each_made (Low n) (λ s. suffix_height s ≤ n) Subscript (λ c h. h) (each_inside (Low n) (punct p.OpenBracket) (punct p.CloseBracket) (f Comma)))
      (each_made (Low n) (λ s. suffix_height s ≤ n) Arguments (λ c h. h) (each_inside (Low n) (punct p.OpenParen) (punct p.CloseParen)
      (each_made (Opt (Low n)) (Low n) all_or_none all_fine (each_optional (Low n) (each_row n (f Assignment))))))))))
      (each_either (Fine n) (λ c ws l. constant_fine l.0 l.0.kind c l.2)
      (each_made (λ c. Unit {0} × (c.1.1 ≤ n)) (Fine n) paren (λ c h. node_fine c.1.1 h.1)
      (each_both Any (Low n) (each_any (sign (punct p.OpenParen))) (each_trail (Low n) (punct p.CloseParen) (f Comma)))))

  each_postfix : Each (Fine n) (IsPostfix G)
  each_postfix = each_either (Fine n) each_primary
      (each_made (λ c. (c.0.1 ≤ n) × Unit {0}) (Fine n) (λ c. postfix c.0 c.1) (λ c h. node_fine c.0.1 h.0)
      (each_both (Low n) Any (f Postfix) (each_any (among steps))))

  each_unary : Each (Fine n) (IsUnary G)
  each_unary = each_either (Fine n) each_postfix (each_either (Fine n)
      (each_made (λ c. Unit {0} × (c.1.1 ≤ n)) (Fine n) prefix (λ c h. node_fine c.1.1 h.1) (each_both Any (Low n) (each_any (among steps)) (f Unary)))
      (each_made (λ c. Unit {0} × (c.1.1 ≤ n)) (Fine n) unary (λ c h. node_fine c.1.1 h.1) (each_both Any (Low n) (each_any (among unary_operators)) (f Cast))))

  each_cast : Each (Fine n) (IsCast G)
  each_cast = each_either (Fine n) each_unary
      (each_made (λ c. Unit {0} × (Low n c.1.0 × Low n c.1.1)) (Fine n) cast (λ c h. pair_fine c.1.0.1 c.1.1.1 h.1.0 h.1.1)
      (each_both Any (λ d. Low n d.0 × Low n d.1) (each_any (sign (punct p.OpenParen)))
      (each_both (Low n) (Low n) (each_trail (Low n) (punct p.CloseParen) (each_specifiers n (f Conditional))) (f Cast))))

  each_level : (q : Precedence) (r : Rank) {L : Lang Sized} → Each (Fine n) L → Each (Fine n) (either L (joined G q (G r)))
  each_level q r m = each_either (Fine n) m
      (each_made (λ c. Low n c.0 × (Unit {0} × Low n c.1.1)) (Fine n) (λ c. binary c.0 c.1) (λ c h. pair_fine c.0.1 c.1.1.1 h.0 h.1.1)
      (each_both (Low n) (λ d. Unit {0} × Low n d.1) (f (Binary q)) (each_both Any (Low n) (each_any (among (operators q))) (f r))))

  each_product : Each (Fine n) (IsProduct G)
  each_product = each_level Product Cast each_cast

  each_sum : Each (Fine n) (IsSum G)
  each_sum = each_level Sum (Binary Product) each_product

  each_shift : Each (Fine n) (IsShift G)
  each_shift = each_level Shift (Binary Sum) each_sum

  each_relation : Each (Fine n) (IsRelation G)
  each_relation = each_level Relation (Binary Shift) each_shift

  each_equality : Each (Fine n) (IsEquality G)
  each_equality = each_level Equality (Binary Relation) each_relation

  each_and : Each (Fine n) (IsAnd G)
  each_and = each_level And (Binary Equality) each_equality

  each_xor : Each (Fine n) (IsXor G)
  each_xor = each_level Xor (Binary And) each_and

  each_or : Each (Fine n) (IsOr G)
  each_or = each_level Or (Binary Xor) each_xor

  each_logical_and : Each (Fine n) (IsLogicalAnd G)
  each_logical_and = each_level LogicalAnd (Binary Or) each_or

  each_logical_or : Each (Fine n) (IsLogicalOr G)
  each_logical_or = each_level LogicalOr (Binary LogicalAnd) each_logical_and

  each_conditional : Each (Fine n) (IsConditional G)
  each_conditional = each_either (Fine n) each_logical_or
      (each_made (λ c. Low n c.0 × (Low n c.1.0 × Low n c.1.1)) (Fine n) (λ c. conditional c.0 c.1) (λ c h. (omega arith, omega (arith, h.0, h.1.0, h.1.1)))
      (each_both (Low n) (λ d. Low n d.0 × Low n d.1) (f (Binary LogicalOr))
      (each_both (Low n) (Low n) (each_lead (Low n) (punct p.Question) (f Comma)) (each_lead (Low n) (punct p.Colon) (f Conditional)))))

  each_assignment : Each (Fine n) (IsAssignment G)
  each_assignment = each_either (Fine n) each_conditional
      (each_made (λ c. Low n c.0 × (Unit {0} × Low n c.1.1)) (Fine n) (λ c. assign c.0 c.1) (λ c h. pair_fine c.0.1 c.1.1.1 h.0 h.1.1)
      (each_both (Low n) (λ d. Unit {0} × Low n d.1) (f Unary) (each_both Any (Low n) (each_any (among assignment_operators)) (f Assignment))))

  each_comma : Each (Fine n) (IsComma G)
  each_comma = each_either (Fine n) each_assignment
      (each_made (λ c. Low n c.0 × Low n c.1) (Fine n) (λ c. comma c.0 c.1) (λ c h. pair_fine c.0.1 c.1.1 h.0 h.1)
      (each_both (Low n) (Low n) (f Comma) (each_lead (Low n) (punct p.Comma) (f Assignment))))

  pub each_rank : (r : Rank) → Each (Fine n) (IsRank G r)
  each_rank Comma = each_comma
  each_rank Assignment = each_assignment
  each_rank Conditional = each_conditional
  each_rank (Binary Product) = each_product
  each_rank (Binary Sum) = each_sum
  each_rank (Binary Shift) = each_shift
  each_rank (Binary Relation) = each_relation
  each_rank (Binary Equality) = each_equality
  each_rank (Binary And) = each_and
  each_rank (Binary Xor) = each_xor
  each_rank (Binary Or) = each_or
  each_rank (Binary LogicalAnd) = each_logical_and
  each_rank (Binary LogicalOr) = each_logical_or
  each_rank Cast = each_cast
  each_rank Unary = each_unary
  each_rank Postfix = each_postfix

pub bounded : (n : ℕ) (r : Rank) → Each (Low n) (IsExpr n r)
bounded zero r c ws l = absurd l
bounded (suc n) r c ws l = (each_rank n (bounded n) r c ws l).1

pub lowers : (n : ℕ) (r : Rank) → On (Low n) (IsExpr (suc n) r) (IsExpr n r)
lowers zero r c ws l h = let f = each_rank zero (bounded zero) r c ws l in absurd (omega (arith, f.0, h))
lowers (suc n) r c ws l h = on_rank n (lowers n) r c ws l h

pub higher : (n m : ℕ) → n ≤ m → (r : Rank) (c : Sized) (ws : List Token) → IsExpr n r c ws → IsExpr m r c ws
higher zero m le r c ws l = absurd l
higher (suc n) zero le r c ws l = absurd (omega (arith, le))
higher (suc n) (suc m) le r c ws l = on_rank c.1 (λ q a us k h. higher n m (omega (arith, le)) q a us k) r c ws l (omega arith)
