-- What the index of the grammar of expressions has to do with heights.
use Rattle.std.proofs.Common.{ℕ, suc, ◌+◌, ◌≤◌, max, Bool, true, false, List, Option, Some, None, arith}
use Rattle.c_tree.specs.declared.token.Punct.TheVariants as p
use Rattle.c_tree.specs.declared.token.Reserved.TheVariants as w
use Rattle.c_tree.specs.declared.expression.Enumerator.{Enumerator}
use Rattle.c_parse.specs.declared.precedence.Precedence.{Precedence}
use Rattle.c_parse.specs.declared.precedence.Precedence.TheVariants.{LogicalOr, LogicalAnd, Or, Xor, And, Equality, Relation, Shift, Sum, Product}
use Rattle.c_parse.specs.Classes.{punct, word}
use Rattle.c_parse.specs.Languages.{Lang, sign, among, both, either, made, optional, lead, trail}
use Rattle.c_parse.specs.Trees.{Sized, add, one, all_or_none, Suffix, Subscript, Arguments, named, paren, postfix, prefix, unary, cast, binary}
use Rattle.c_parse.specs.Trees.{conditional, assign, comma, enumerator, EnumRest, Tagged, Untagged, enum, specifier_word, first_specifier}
use Rattle.c_parse.specs.Trees.{next_specifier, specifiers}
use Rattle.c_parse.specs.Expressions.{Rank, Comma, Assignment, Conditional, Binary, Cast, Unary, Postfix, operators, assignment_operators, steps}
use Rattle.c_parse.specs.Expressions.{unary_operators, specifier_words, identifier, constant, braced, row, IsEnumerator, IsSpecifier, IsSpecifiers}
use Rattle.c_parse.specs.Expressions.{IsSuffix, IsPrimary, IsPostfix, IsUnary, IsCast, joined, IsProduct, IsSum, IsShift, IsRelation, IsEquality, IsAnd}
use Rattle.c_parse.specs.Expressions.{IsXor, IsOr, IsLogicalAnd, IsLogicalOr, IsConditional, IsAssignment, IsComma, IsRank}
use Rattle.c_parse.specs.ExpressionReaders.{Opened, Typed, Inner, opened}
use Rattle.c_parse.proofs.Operands.{ParenL, CastOrParenL, PrefixedL, OperandL}
use Rattle.c_parse.proofs.Maps.{On, Any, Opt, on_same, on_made, on_both, on_either, on_optional, on_lead, on_trail, on_built}

-- a height of at most n
abbrev pub Low : ℕ → {X : Type 0} → X × ℕ → Type 0
Low n c = c.1 ≤ n

abbrev pub rest_height : EnumRest → ℕ
rest_height (Tagged x None) = 0
rest_height (Tagged x (Some es)) = es.1
rest_height (Untagged es) = es.1

abbrev pub suffix_height : Suffix → ℕ
suffix_height (Subscript e) = e.1
suffix_height (Arguments es) = es.1

abbrev opened_height : Opened → ℕ
opened_height (Typed c) = max c.0.1 c.1.1
opened_height (Inner e) = e.1

add_parts : {X : Type 0} (n : ℕ) (a : List X × ℕ) (b : X × ℕ) → max a.1 b.1 ≤ n → (a.1 ≤ n) × (b.1 ≤ n)
add_parts n a b h = (omega (arith, h), omega (arith, h))

all_low : {X : Type 0} (n : ℕ) (x : Option (List X × ℕ)) → (all_or_none x).1 ≤ n → Opt (Low n) x
all_low n None h = tt
all_low n (Some c) h = h

on_row : {X : Type 0} (n : ℕ) {L M : Lang (X × ℕ)} → On (Low n) L M → On (Low n) (row L) (row M)
on_row n m = on_built (Low n) (Low n) add (λ a b h. add_parts n a b h) (on_made (Low n) (Low n) one (λ a h. h) m) (on_lead (Low n) (punct p.Comma) m)

on_inside : {A : Type 0} (P : A → Type 0) (j k : ℕ) {L M : Lang A} → On P L M → On P (lead j (trail L k)) (lead j (trail M k))
on_inside P j k m = on_lead P j (on_trail P k m)

-- what has no values is the same for all values
module _ (n : ℕ) {E F : Lang Sized} (f : On (Low n) E F) where
  enumerator_low : (c : _ × Option Sized) → (enumerator c).1 ≤ n → Opt (Low n) c.1
  enumerator_low (x, None) h = tt
  enumerator_low (x, Some e) h = h

  rest_low : (c : ℕ × EnumRest) → (enum c).1 ≤ n → rest_height c.1 ≤ n
  rest_low (l, Tagged x None) h = h
  rest_low (l, Tagged x (Some es)) h = h
  rest_low (l, Untagged es) h = h

  tag_low : (c : _ × Option (List Enumerator × ℕ)) → rest_height (Tagged c.0 c.1) ≤ n → Opt (Low n) c.1
  tag_low (x, None) h = tt
  tag_low (x, Some es) h = h

  on_enumerators : On (Low n) (braced (row (IsEnumerator E))) (braced (row (IsEnumerator F)))
  on_enumerators = on_inside (Low n) (punct p.OpenBrace) (punct p.CloseBrace) (on_row n
      (on_made (λ c. Opt (Low n) c.1) (Low n) enumerator enumerator_low
      (on_both Any (Opt (Low n)) (λ c. Opt (Low n) c.1) (λ c h. tt) (λ c h. h) (on_same Any identifier)
      (on_optional (Low n) (on_lead (Low n) (punct p.Equals) f)))))

  on_specifier : On (Low n) (IsSpecifier E) (IsSpecifier F)
  on_specifier = on_either (Low n) (on_same (Low n) (made specifier_word (among specifier_words)))
      (on_made (λ c. rest_height c.1 ≤ n) (Low n) enum rest_low
      (on_both Any (λ r. rest_height r ≤ n) (λ c. rest_height c.1 ≤ n) (λ c h. tt) (λ c h. h) (on_same Any (sign (word w.Enum)))
      (on_either (λ r. rest_height r ≤ n)
      (on_made (λ c. Opt (Low n) c.1) (λ r. rest_height r ≤ n) (λ c. Tagged c.0 c.1) tag_low
      (on_both Any (Opt (Low n)) (λ c. Opt (Low n) c.1) (λ c h. tt) (λ c h. h) (on_same Any identifier) (on_optional (Low n) on_enumerators)))
      (on_made (Low n) (λ r. rest_height r ≤ n) Untagged (λ c h. h) on_enumerators))))

  pub on_specifiers : On (Low n) (IsSpecifiers E) (IsSpecifiers F)
  on_specifiers = on_made (λ c. c.1.1 ≤ n) (Low n) specifiers (λ c h. h)
      (on_built (λ c. c.1.1 ≤ n) (Low n) next_specifier (λ a b h. add_parts n a.1 b h)
      (on_made (Low n) (λ c. c.1.1 ≤ n) first_specifier (λ c h. h) on_specifier) on_specifier)

-- an expression of parts in G has its parts in H, where all of G of height n at most is in H
module _ (n : ℕ) {G H : Rank → Lang Sized} (f : (r : Rank) → On (Low n) (G r) (H r)) where
  under : (h : ℕ) → h + 1 ≤ suc n → h ≤ n
  under h e = omega (arith, e)

  under_left : (a b : ℕ) → max a b + 1 ≤ suc n → a ≤ n
  under_left a b e = omega (arith, e)

  under_right : (a b : ℕ) → max a b + 1 ≤ suc n → b ≤ n
  under_right a b e = omega (arith, e)

  named_low : (c : _ × Option Suffix) → (named c).1 ≤ suc n → Opt (λ s. suffix_height s ≤ n) c.1
  named_low (x, None) h = tt
  named_low (x, Some (Subscript e)) h = under e.1 h
  named_low (x, Some (Arguments es)) h = under es.1 h

  pub on_named : On (Low (suc n)) (made named (both identifier (optional (IsSuffix G)))) (made named (both identifier (optional (IsSuffix H))))
  on_named =
      on_made (λ c. Opt (λ s. suffix_height s ≤ n) c.1) (Low (suc n)) named named_low
      (on_both Any (Opt (λ s. suffix_height s ≤ n)) (λ c. Opt (λ s. suffix_height s ≤ n) c.1) (λ c h. tt) (λ c h. h) (on_same Any identifier)
      (on_optional (λ s. suffix_height s ≤ n) (on_either (λ s. suffix_height s ≤ n)
      (on_made (Low n) (λ s. suffix_height s ≤ n) Subscript (λ c h. h) (on_inside (Low n) (punct p.OpenBracket) (punct p.CloseBracket) (f Comma)))
      (on_made (Low n) (λ s. suffix_height s ≤ n) Arguments (λ c h. h) (on_inside (Low n) (punct p.OpenParen) (punct p.CloseParen)
      (on_made (Opt (Low n)) (Low n) all_or_none (all_low n) (on_optional (Low n) (on_row n (f Assignment)))))))))

  on_inner : On (Low n) (trail (G Comma) (punct p.CloseParen)) (trail (H Comma) (punct p.CloseParen))
  on_inner = on_trail (Low n) (punct p.CloseParen) (f Comma)

  on_paren : On (Low (suc n)) (ParenL G) (ParenL H)
  on_paren = on_made (λ c. c.1.1 ≤ n) (Low (suc n)) paren (λ c h. under c.1.1 h)
      (on_both Any (Low n) (λ c. c.1.1 ≤ n) (λ c h. tt) (λ c h. h) (on_same Any (sign (punct p.OpenParen))) on_inner)

  on_primary : On (Low (suc n)) (IsPrimary G) (IsPrimary H)
  on_primary = on_either (Low (suc n)) on_named (on_either (Low (suc n)) (on_same (Low (suc n)) constant) on_paren)

  on_postfix : On (Low (suc n)) (IsPostfix G) (IsPostfix H)
  on_postfix = on_either (Low (suc n)) on_primary
      (on_made (λ c. c.0.1 ≤ n) (Low (suc n)) (λ c. postfix c.0 c.1) (λ c h. under c.0.1 h)
      (on_both (Low n) Any (λ c. c.0.1 ≤ n) (λ c h. h) (λ c h. tt) (f Postfix) (on_same Any (among steps))))

  on_prefix : On (Low (suc n)) (made prefix (both (among steps) (G Unary))) (made prefix (both (among steps) (H Unary)))
  on_prefix = on_made (λ c. c.1.1 ≤ n) (Low (suc n)) prefix (λ c h. under c.1.1 h)
      (on_both Any (Low n) (λ c. c.1.1 ≤ n) (λ c h. tt) (λ c h. h) (on_same Any (among steps)) (f Unary))

  on_sign : On (Low (suc n)) (made unary (both (among unary_operators) (G Cast))) (made unary (both (among unary_operators) (H Cast)))
  on_sign = on_made (λ c. c.1.1 ≤ n) (Low (suc n)) unary (λ c h. under c.1.1 h)
      (on_both Any (Low n) (λ c. c.1.1 ≤ n) (λ c h. tt) (λ c h. h) (on_same Any (among unary_operators)) (f Cast))

  on_unary : On (Low (suc n)) (IsUnary G) (IsUnary H)
  on_unary = on_either (Low (suc n)) on_postfix (on_either (Low (suc n)) on_prefix on_sign)

  on_cast : On (Low (suc n)) (IsCast G) (IsCast H)
  on_cast = on_either (Low (suc n)) on_unary
      (on_made (λ c. Low n c.1.0 × Low n c.1.1) (Low (suc n)) cast (λ c h. (under_left c.1.0.1 c.1.1.1 h, under_right c.1.0.1 c.1.1.1 h))
      (on_both Any (λ d. Low n d.0 × Low n d.1) (λ c. Low n c.1.0 × Low n c.1.1) (λ c h. tt) (λ c h. h) (on_same Any (sign (punct p.OpenParen)))
      (on_both (Low n) (Low n) (λ d. Low n d.0 × Low n d.1) (λ c h. h.0) (λ c h. h.1) (on_trail (Low n) (punct p.CloseParen) (on_specifiers n (f Conditional)))
      (f Cast))))

  opened_low : (c : ℕ × Opened) → (opened c).1 ≤ suc n → opened_height c.1 ≤ n
  opened_low (l, Typed c) h = under (max c.0.1 c.1.1) h
  opened_low (l, Inner e) h = under e.1 h

  on_opened : On (Low (suc n)) (CastOrParenL G) (CastOrParenL H)
  on_opened = on_made (λ c. opened_height c.1 ≤ n) (Low (suc n)) opened opened_low
      (on_both Any (λ o. opened_height o ≤ n) (λ c. opened_height c.1 ≤ n) (λ c h. tt) (λ c h. h) (on_same Any (sign (punct p.OpenParen)))
      (on_either (λ o. opened_height o ≤ n)
      (on_made (λ d. Low n d.0 × Low n d.1) (λ o. opened_height o ≤ n) Typed (λ c h. (omega (arith, h), omega (arith, h)))
      (on_both (Low n) (Low n) (λ d. Low n d.0 × Low n d.1) (λ c h. h.0) (λ c h. h.1) (on_trail (Low n) (punct p.CloseParen) (on_specifiers n (f Conditional)))
      (f Cast)))
      (on_made (Low n) (λ o. opened_height o ≤ n) Inner (λ c h. h) on_inner)))

  on_prefixed : On (Low (suc n)) (PrefixedL G) (PrefixedL H)
  on_prefixed = on_either (Low (suc n)) on_prefix (on_either (Low (suc n)) on_sign (on_either (Low (suc n)) on_named (on_same (Low (suc n)) constant)))

  pub on_operand : (b : Bool) → On (Low (suc n)) (OperandL G b) (OperandL H b)
  on_operand true = on_either (Low (suc n)) on_opened on_prefixed
  on_operand false = on_either (Low (suc n)) on_paren on_prefixed

  on_joined : (q : Precedence) (r : Rank) → On (Low (suc n)) (joined G q (G r)) (joined H q (H r))
  on_joined q r = on_made (λ c. Low n c.0 × Low n c.1.1) (Low (suc n)) (λ c. binary c.0 c.1) (λ c h. (under_left c.0.1 c.1.1.1 h, under_right c.0.1 c.1.1.1 h))
      (on_both (Low n) (λ d. Low n d.1) (λ c. Low n c.0 × Low n c.1.1) (λ c h. h.0) (λ c h. h.1) (f (Binary q))
      (on_both Any (Low n) (λ d. Low n d.1) (λ c h. tt) (λ c h. h) (on_same Any (among (operators q))) (f r)))

  on_level : (q : Precedence) (r : Rank) {L M : Lang Sized} → On (Low (suc n)) L M
      → On (Low (suc n)) (either L (joined G q (G r))) (either M (joined H q (H r)))
  on_level q r m = on_either (Low (suc n)) m (on_joined q r)

  on_product : On (Low (suc n)) (IsProduct G) (IsProduct H)
  on_product = on_level Product Cast on_cast

  on_sum : On (Low (suc n)) (IsSum G) (IsSum H)
  on_sum = on_level Sum (Binary Product) on_product

  on_shift : On (Low (suc n)) (IsShift G) (IsShift H)
  on_shift = on_level Shift (Binary Sum) on_sum

  on_relation : On (Low (suc n)) (IsRelation G) (IsRelation H)
  on_relation = on_level Relation (Binary Shift) on_shift

  on_equality : On (Low (suc n)) (IsEquality G) (IsEquality H)
  on_equality = on_level Equality (Binary Relation) on_relation

  on_and : On (Low (suc n)) (IsAnd G) (IsAnd H)
  on_and = on_level And (Binary Equality) on_equality

  on_xor : On (Low (suc n)) (IsXor G) (IsXor H)
  on_xor = on_level Xor (Binary And) on_and

  on_or : On (Low (suc n)) (IsOr G) (IsOr H)
  on_or = on_level Or (Binary Xor) on_xor

  on_logical_and : On (Low (suc n)) (IsLogicalAnd G) (IsLogicalAnd H)
  on_logical_and = on_level LogicalAnd (Binary Or) on_or

  on_logical_or : On (Low (suc n)) (IsLogicalOr G) (IsLogicalOr H)
  on_logical_or = on_level LogicalOr (Binary LogicalAnd) on_logical_and

  on_conditional : On (Low (suc n)) (IsConditional G) (IsConditional H)
  on_conditional = on_either (Low (suc n)) on_logical_or
      (on_made (λ c. Low n c.0 × (Low n c.1.0 × Low n c.1.1)) (Low (suc n)) (λ c. conditional c.0 c.1)
      (λ c h. (omega (arith, h), (omega (arith, h), omega (arith, h))))
      (on_both (Low n) (λ d. Low n d.0 × Low n d.1) (λ c. Low n c.0 × (Low n c.1.0 × Low n c.1.1)) (λ c h. h.0) (λ c h. h.1) (f (Binary LogicalOr))
      (on_both (Low n) (Low n) (λ d. Low n d.0 × Low n d.1) (λ c h. h.0) (λ c h. h.1) (on_lead (Low n) (punct p.Question) (f Comma))
      (on_lead (Low n) (punct p.Colon) (f Conditional)))))

  on_assignment : On (Low (suc n)) (IsAssignment G) (IsAssignment H)
  on_assignment = on_either (Low (suc n)) on_conditional
      (on_made (λ c. Low n c.0 × Low n c.1.1) (Low (suc n)) (λ c. assign c.0 c.1) (λ c h. (under_left c.0.1 c.1.1.1 h, under_right c.0.1 c.1.1.1 h))
      (on_both (Low n) (λ d. Low n d.1) (λ c. Low n c.0 × Low n c.1.1) (λ c h. h.0) (λ c h. h.1) (f Unary)
      (on_both Any (Low n) (λ d. Low n d.1) (λ c h. tt) (λ c h. h) (on_same Any (among assignment_operators)) (f Assignment))))

  on_comma : On (Low (suc n)) (IsComma G) (IsComma H)
  on_comma = on_either (Low (suc n)) on_assignment
      (on_made (λ c. Low n c.0 × Low n c.1) (Low (suc n)) (λ c. comma c.0 c.1) (λ c h. (under_left c.0.1 c.1.1 h, under_right c.0.1 c.1.1 h))
      (on_both (Low n) (Low n) (λ c. Low n c.0 × Low n c.1) (λ c h. h.0) (λ c h. h.1) (f Comma) (on_lead (Low n) (punct p.Comma) (f Assignment))))

  pub on_rank : (r : Rank) → On (Low (suc n)) (IsRank G r) (IsRank H r)
  on_rank Comma = on_comma
  on_rank Assignment = on_assignment
  on_rank Conditional = on_conditional
  on_rank (Binary Product) = on_product
  on_rank (Binary Sum) = on_sum
  on_rank (Binary Shift) = on_shift
  on_rank (Binary Relation) = on_relation
  on_rank (Binary Equality) = on_equality
  on_rank (Binary And) = on_and
  on_rank (Binary Xor) = on_xor
  on_rank (Binary Or) = on_or
  on_rank (Binary LogicalAnd) = on_logical_and
  on_rank (Binary LogicalOr) = on_logical_or
  on_rank Cast = on_cast
  on_rank Unary = on_unary
  on_rank Postfix = on_postfix
