-- The rules of expressions are read.
use Rattle.std.proofs.Common.{ℕ, zero, suc, ◌≡◌, ◌<◌, ◌≤◌, refl, sym, ◌∙◌, ap, subst, Bool, true, false, nat_eq, if◌then◌else◌, List, [], ◌∷◌, ◌++◌}
use Rattle.std.proofs.Common.{append-nil, inl, inr, None, arith, length}
use Rattle.std.proofs.lemmas.Bool.{ne_eqb}
use Rattle.hlo_num.specs.declared.word.Ty.TheVariants.{Int}
use Rattle.c_tree.specs.declared.token.Token.{Token}
use Rattle.c_tree.specs.declared.token.TokenKind.TheVariants as kinds
use Rattle.c_tree.specs.declared.token.Punct.TheVariants as p
use Rattle.c_tree.specs.declared.token.Reserved.TheVariants as w
use Rattle.c_tree.specs.declared.expression.Expr.{Expr}
use Rattle.c_tree.specs.declared.expression.Expr.TheOpen.{Expr-F}
use Rattle.c_tree.specs.declared.expression.Specifiers.{Specifiers}
use Rattle.c_tree.specs.declared.expression.SpecifierWord.TheVariants as s
use Rattle.c_tree.specs.declared.expression.Step.{Step}
use Rattle.c_parse.specs.declared.precedence.Precedence.TheVariants.{LogicalOr, LogicalAnd, Or, Xor, And, Equality, Relation, Shift, Sum, Product}
use Rattle.c_parse.specs.Classes.{class, punct, word, look, member, row_of, classes}
use Rattle.c_parse.specs.Languages.{Lang, line_if, lined, sign, among, both, either, made, such, optional, lead, trail}
use Rattle.c_parse.specs.Trees.{Sized, node, add, one, all_or_none, name_of, constant_of, Subscript, Arguments, named, paren, postfix, prefix, unary}
use Rattle.c_parse.specs.Trees.{binary, conditional, assign, comma, enumerator, EnumRest, Tagged, Untagged, enum, specifier_word, first_specifier}
use Rattle.c_parse.specs.Trees.{next_specifier, specifiers}
use Rattle.c_parse.specs.Expressions.{Rank, Comma, Assignment, Conditional, Binary, Cast, Unary, Postfix, operators, assignment_operators, steps}
use Rattle.c_parse.specs.Expressions.{unary_operators, specifier_words, identifier, braced, row, IsEnumerator, IsSpecifier, IsSpecifiers, IsSuffix}
use Rattle.c_parse.specs.Expressions.{IsPostfix, IsUnary, IsLogicalOr, IsRank, IsExpr}
use Rattle.c_parse.specs.Reading.{Reply, Found, Wrong, Deep, bind, read_rest, read_row, read_both, read_among, read_lead, read_open, read_open_lead}
use Rattle.c_parse.specs.Reading.{read_made, read_trail, read_optional, always}
use Rattle.c_parse.specs.ExpressionReaders.{fits, is_postfix, is_unary, is_condition, Opened, Typed, Inner, opened, expr_first, specifier_first}
use Rattle.c_parse.specs.ExpressionReaders.{read_listing, read_enumerator, read_enumerators, read_enum_rest, read_specifier, read_specifiers}
use Rattle.c_parse.specs.ExpressionReaders.{read_suffix, read_named, read_inner, read_paren, read_opened, read_cast_or_paren, read_prefixed}
use Rattle.c_parse.specs.ExpressionReaders.{read_operand, read_unary, read_product, read_sum, read_shift, read_relation, read_equality, read_and}
use Rattle.c_parse.specs.ExpressionReaders.{read_xor, read_or, read_logical_and, read_logical_or, read_conditional, read_assignment, read_comma}
use Rattle.c_parse.specs.ExpressionReaders.{read_rank, read_expr}
use Rattle.c_parse.proofs.Members.{subset, if_true, if_false, member-subset, among_exact, sign_exact}
use Rattle.c_parse.proofs.Readers.{some_front, Outcome, wrong, deep, Agree, Reads, reads_as, refuses, reads_opened, reads_made, reads_both, reads_either}
use Rattle.c_parse.proofs.Rows.{Grown, reads_row, reads_built}
use Rattle.c_parse.proofs.Words.{subset_self, subset_left, subset_right, token, mark, reserved, Some_of, some_sign, reads_sign, reads_among, from_table}
use Rattle.c_parse.proofs.Words.{from_sign, reads_identifier, reads_constant, reads_lead, reads_trail, reads_optional, reads_listed, some_listed}
use Rattle.c_parse.proofs.Numbers.{constant_exact, name_exact}
use Rattle.c_parse.proofs.Operands.{ParenL, OpenedL, CastOrParenL, PrefixedL, OperandL}
use Rattle.c_parse.proofs.Heights.{on_operand}
use Rattle.c_parse.proofs.Bounds.{bounded, lowers, higher}
use Rattle.c_parse.proofs.Chains.{le_fits, fits_mono, grown_chain, chain_grown}
use Rattle.c_parse.proofs.Forms.{postfix_node, unary_rank, postfix_up, postfix_down, rank_out, rank_into, unary_logical_or}

-- what may stand behind an expression of each rank
abbrev pub after_comma : List ℕ
after_comma = punct p.CloseParen ∷ punct p.CloseBracket ∷ punct p.Semicolon ∷ punct p.Colon ∷ []

abbrev pub after_assignment : List ℕ
after_assignment = punct p.Comma ∷ punct p.CloseBrace ∷ after_comma

abbrev pub after_conditional : List ℕ
after_conditional = classes assignment_operators ++ after_assignment

abbrev pub after_logical_or : List ℕ
after_logical_or = punct p.Question ∷ after_conditional

abbrev pub after_logical_and : List ℕ
after_logical_and = classes (operators LogicalOr) ++ after_logical_or

abbrev pub after_or : List ℕ
after_or = classes (operators LogicalAnd) ++ after_logical_and

abbrev pub after_xor : List ℕ
after_xor = classes (operators Or) ++ after_or

abbrev pub after_and : List ℕ
after_and = classes (operators Xor) ++ after_xor

abbrev pub after_equality : List ℕ
after_equality = classes (operators And) ++ after_and

abbrev pub after_relation : List ℕ
after_relation = classes (operators Equality) ++ after_equality

abbrev pub after_shift : List ℕ
after_shift = classes (operators Relation) ++ after_relation

abbrev pub after_sum : List ℕ
after_sum = classes (operators Shift) ++ after_shift

abbrev pub after_product : List ℕ
after_product = classes (operators Sum) ++ after_sum

abbrev pub after_cast : List ℕ
after_cast = classes (operators Product) ++ after_product

abbrev pub after_operand : List ℕ
after_operand = classes steps ++ after_cast

abbrev pub after : Rank → List ℕ
after Comma = after_comma
after Assignment = after_assignment
after Conditional = after_conditional
after (Binary Product) = after_product
after (Binary Sum) = after_sum
after (Binary Shift) = after_shift
after (Binary Relation) = after_relation
after (Binary Equality) = after_equality
after (Binary And) = after_and
after (Binary Xor) = after_xor
after (Binary Or) = after_or
after (Binary LogicalAnd) = after_logical_and
after (Binary LogicalOr) = after_logical_or
after Cast = after_cast
after Unary = after_cast
after Postfix = []

abbrev pub IsRead : Rank → Type 0
IsRead Postfix = ⊥
IsRead Comma = Unit {0}
IsRead Assignment = Unit {0}
IsRead Conditional = Unit {0}
IsRead (Binary q) = Unit {0}
IsRead Cast = Unit {0}
IsRead Unary = Unit {0}

-- there is an expression of each rank
abbrev one_token : Token
one_token = token (kinds.Constant (record { 0 = 0 }) Int)

abbrev leaf : Sized
leaf = node (Expr-F.Constant 0 (record { 0 = 0 }) Int) 0

leaf_postfix : (G : Rank → Lang Sized) → IsPostfix G leaf (one_token ∷ [])
leaf_postfix G = inl (inr (inl (one_token, refl, refl)))

leaf_or : (G : Rank → Lang Sized) → IsLogicalOr G leaf (one_token ∷ [])
leaf_or G = unary_logical_or G leaf (one_token ∷ []) (inl (leaf_postfix G))

leaf_rank : (G : Rank → Lang Sized) (r : Rank) → IsRank G r leaf (one_token ∷ [])
leaf_rank G Comma = inl (inl (inl (leaf_or G)))
leaf_rank G Assignment = inl (inl (leaf_or G))
leaf_rank G Conditional = inl (leaf_or G)
leaf_rank G (Binary LogicalOr) = leaf_or G
leaf_rank G (Binary LogicalAnd) = inl (inl (inl (inl (inl (inl (inl (inl (inl (inl (inl (leaf_postfix G)))))))))))
leaf_rank G (Binary Or) = inl (inl (inl (inl (inl (inl (inl (inl (inl (inl (leaf_postfix G))))))))))
leaf_rank G (Binary Xor) = inl (inl (inl (inl (inl (inl (inl (inl (inl (leaf_postfix G)))))))))
leaf_rank G (Binary And) = inl (inl (inl (inl (inl (inl (inl (inl (leaf_postfix G))))))))
leaf_rank G (Binary Equality) = inl (inl (inl (inl (inl (inl (inl (leaf_postfix G)))))))
leaf_rank G (Binary Relation) = inl (inl (inl (inl (inl (inl (leaf_postfix G))))))
leaf_rank G (Binary Shift) = inl (inl (inl (inl (inl (leaf_postfix G)))))
leaf_rank G (Binary Sum) = inl (inl (inl (inl (leaf_postfix G))))
leaf_rank G (Binary Product) = inl (inl (inl (leaf_postfix G)))
leaf_rank G Cast = inl (inl (leaf_postfix G))
leaf_rank G Unary = inl (leaf_postfix G)
leaf_rank G Postfix = leaf_postfix G

pub any_expr : (n : ℕ) (r : Rank) → nat_eq n 0 ≡ false → Some_of (IsExpr n r)
any_expr zero r h = absurd (let x : true ≡ false = h in cc)
any_expr (suc n) r h = (leaf, one_token ∷ [], leaf_rank (IsExpr n) r)

pub none_expr : (n : ℕ) (r : Rank) → n ≡ 0 → (c : Sized) (us : List Token) → IsExpr n r c us → ⊥
none_expr n r e c us l = subst (λ k. IsExpr k r c us) e l

pub not_zero : (n : ℕ) → (n ≡ 0 → ⊥) → nat_eq n 0 ≡ false
not_zero n h = ne_eqb n 0 h

pub above_zero : (n m : ℕ) → n < m → nat_eq m 0 ≡ false
above_zero n m lt = ne_eqb m 0 (λ e. omega (arith, e, lt))

abbrev pub after_specifiers : List ℕ
after_specifiers = 1 ∷ punct p.Semicolon ∷ punct p.CloseParen ∷ punct p.Comma ∷ []

abbrev after_specifier : List ℕ
after_specifier = specifier_first ++ after_specifiers

pub some_specifiers : (E : Lang Sized) → Some_of (IsSpecifiers E)
some_specifiers E =
    let x = specifier_word (s.Int, 0) in (
      specifiers (first_specifier x),
      reserved w.Int ∷ [],
      (
        first_specifier x,
        refl,
        ((first_specifier x, []), refl, (reserved w.Int ∷ [], [], refl, (x, refl, inl ((s.Int, 0), refl, (reserved w.Int, refl, refl))), refl)),
      ),
    )

-- specifiers, where E has the values of height n at most
module _ (n m : ℕ) (pos : nat_eq m 0 ≡ false) {E F : Lang Sized} {e f : List Token → Reply Sized} (R : Reads E F e f expr_first (λ _. after_conditional))
    (none : n ≡ 0 → (c : Sized) (us : List Token) → E c us → ⊥) (any : (n ≡ 0 → ⊥) → Some_of E) where
  reads_value : Reads (lead (punct p.Equals) E) (lead (punct p.Equals) F) (read_open_lead n (punct p.Equals) e) (read_open_lead m (punct p.Equals) f)
      (punct p.Equals ∷ []) (λ _. after_conditional)
  reads_value = reads_made (reads_opened (line_if (punct p.Equals)) (punct p.Equals ∷ []) (sign_exact (punct p.Equals)) refl n m (λ z. R) R.some none any pos
      (mark p.Equals) refl) (λ c. c.1) (λ _. after_conditional) (λ c k h. h)

  pub reads_enumerator : Reads (IsEnumerator E) (IsEnumerator F) (read_enumerator n e) (read_enumerator m f) (1 ∷ [])
      (λ _. punct p.Comma ∷ punct p.CloseBrace ∷ [])
  reads_enumerator = reads_made (reads_both (reads_identifier (λ _. punct p.Equals ∷ punct p.Comma ∷ punct p.CloseBrace ∷ []))
      (reads_optional reads_value (punct p.Equals ∷ []) (punct p.Comma ∷ punct p.CloseBrace ∷ []) refl refl (λ a. refl))
      (λ a us l. (None, [], inr (refl, refl))) (λ a. refl))
      enumerator (λ _. punct p.Comma ∷ punct p.CloseBrace ∷ []) (λ c k h. h)

  some_name : Some_of identifier
  some_name = (record { name = []; line = 0 }, token (kinds.Name []) ∷ [], (token (kinds.Name []), refl, refl))

  some_enumerator : Some_of (IsEnumerator E)
  some_enumerator = (
    enumerator (some_name.0, None),
    some_name.1,
    ((some_name.0, None), refl, (some_name.1, [], sym (append-nil some_name.1), some_name.2, inr (refl, refl))),
  )

  -- a sample of what stands behind
  closing : List Token
  closing = mark p.CloseBrace ∷ []

  reads_enumerators : (after : List ℕ)
      → Reads (braced (row (IsEnumerator E))) (braced (row (IsEnumerator F))) (read_enumerators n e) (read_enumerators m f) (punct p.OpenBrace ∷ [])
      (λ _. after)
  unfolding closing
  reads_enumerators after = reads_lead (reads_trail (reads_listed reads_enumerator one add (punct p.CloseBrace ∷ []) (mark p.CloseBrace ∷ []) some_enumerator
      (λ a. refl) refl refl refl) (mark p.CloseBrace) refl after (λ a. refl)) (mark p.OpenBrace) refl
      (let x = some_listed one add some_enumerator in (
        x.0,
        x.1 ++ mark p.CloseBrace ∷ [],
        ((x.0, 0), refl, (x.1, mark p.CloseBrace ∷ [], refl, x.2, (mark p.CloseBrace, refl, refl))),
      ))

  abbrev EnumRestL : Lang Sized → Lang EnumRest
  EnumRestL E = either (made (λ c. Tagged c.0 c.1) (both identifier (optional (braced (row (IsEnumerator E)))))) (made Untagged (braced (row (IsEnumerator E))))

  reads_enum_rest : Reads (EnumRestL E) (EnumRestL F) (read_enum_rest n e) (read_enum_rest m f) (1 ∷ punct p.OpenBrace ∷ []) (λ _. after_specifier)
  reads_enum_rest = reads_either
      (reads_made (reads_both (reads_identifier (λ _. punct p.OpenBrace ∷ after_specifier))
      (reads_optional (reads_enumerators after_specifier) (punct p.OpenBrace ∷ []) after_specifier refl refl (λ a. subset_self after_specifier))
      (λ a us l. (None, [], inr (refl, refl))) (λ a. subset_self (punct p.OpenBrace ∷ after_specifier))) (λ c. Tagged c.0 c.1) (λ _. after_specifier)
      (λ c k h. h))
      (reads_made (reads_enumerators after_specifier) Untagged (λ _. after_specifier) (λ c k h. h)) (1 ∷ []) refl refl

  some_rest : Some_of (EnumRestL E)
  some_rest = (
    Tagged some_name.0 None,
    some_name.1,
    inl (
      (some_name.0, None),
      refl,
      (some_name.1, [], sym (append-nil some_name.1), some_name.2, inr (refl, refl)),
    ),
  )

  pub reads_specifier : Reads (IsSpecifier E) (IsSpecifier F) (read_specifier n e) (read_specifier m f) (classes specifier_words ++ word w.Enum ∷ [])
      (λ _. after_specifier)
  reads_specifier = reads_either (reads_made (reads_among specifier_words refl (reserved w.Int) refl (λ _. after_specifier)) specifier_word
      (λ _. after_specifier) (λ c k h. h))
      (reads_made (reads_both (reads_sign (reserved w.Enum) refl (λ _. 1 ∷ punct p.OpenBrace ∷ [])) reads_enum_rest (λ a us l. some_rest) (λ a. refl)) enum
      (λ _. after_specifier) (λ c k h. h)) (classes specifier_words) refl refl

  pub reads_specifiers : Reads (IsSpecifiers E) (IsSpecifiers F) (read_specifiers n e) (read_specifiers m f) (classes specifier_words ++ word w.Enum ∷ [])
      (λ _. after_specifiers)
  reads_specifiers = reads_made (reads_built (reads_made reads_specifier first_specifier (λ _. after_specifier) (λ c k h. h)) reads_specifier specifier_first
      next_specifier after_specifiers (mark p.Semicolon ∷ []) refl
      (λ a. subset_left specifier_first after_specifiers) (λ a. subset_right specifier_first after_specifiers)
      (λ a. subset_left specifier_first after_specifiers) (λ a. subset_right specifier_first after_specifiers) refl refl (λ a. refl) refl)
      specifiers (λ _. after_specifiers) (λ c k h. h)

-- a reader that refuses everything, as there is nothing of height 0
pub reads_nothing : {A : Type 0} (L V : Lang A) (r q : List Token → Reply A) (ks : List ℕ) (follow : A → List ℕ) → ((a : A) (us : List Token) → L a us → ⊥)
    → ((ts : List Token) → member (look ts) ks ≡ true → r ts ≡ Deep ts) → ((ts : List Token) → member (look ts) ks ≡ false → r ts ≡ Wrong ts)
    → ((ts : List Token) → member (look ts) ks ≡ false → q ts ≡ Wrong ts)
    → member 0 ks ≡ false → ((t : Token) → member (class t) ks ≡ true → (c : A) × (ws : List Token) × V c (t ∷ ws)) → Some_of V → Reads L V r q ks follow
reads_nothing L V r q ks follow none deeps wrongs shut no_end starts some = record {
  complete = λ a us s l h. absurd (none a us l);
  outcome = λ ts. go ts (member (look ts) ks) refl;
  opens = λ a us s l h. absurd (none a us l);
  wider = λ a us l. absurd (none a us l);
  some = some;
  agrees = λ ts. same ts (member (look ts) ks) refl;
}
  where
    go : (ts : List Token) (b : Bool) → member (look ts) ks ≡ b → Outcome L V r ts (r ts)
    go [] true h = absurd (let x : true ≡ false = sym h ∙ no_end in cc)
    go (t ∷ ts) true h = let x = starts t h in subst (Outcome L V r (t ∷ ts)) (sym (deeps (t ∷ ts) h))
        (deep [] t ts refl (inl refl) x.0 x.1 x.2 (λ s e. deeps s (ap (λ z. member z ks) e ∙ h)))
    go ts false h = subst (Outcome L V r ts) (sym (wrongs ts h)) (wrong [] ts refl (inl refl) (λ s e. wrongs s (ap (λ z. member z ks) e ∙ h)))

    same : (ts : List Token) (b : Bool) → member (look ts) ks ≡ b → Agree (r ts) (q ts)
    same ts true h = inr (ts, deeps ts h)
    same ts false h = inl (wrongs ts h ∙ sym (shut ts h))

pub outside_of : (k : ℕ) (xs ys : List ℕ) → subset xs ys ≡ true → member k ys ≡ false → member k xs ≡ false
outside_of k xs ys s h = go (member k xs) refl
  where
    go : (b : Bool) → member k xs ≡ b → member k xs ≡ false
    go false e = e
    go true e = absurd (let x : true ≡ false = sym (member-subset k xs ys s e) ∙ h in cc)

-- what begins no expression is refused
module _ (n : ℕ) (r : Rank → List Token → Reply Sized) (ts : List Token) (h : member (look ts) expr_first ≡ false) where
  shut_prefixed : read_prefixed n r ts ≡ Wrong ts
  shut_prefixed =
      if_false _ _ (outside_of (look ts) (classes steps) expr_first refl h)
      ∙ if_false _ _ (outside_of (look ts) (classes unary_operators) expr_first refl h)
      ∙ if_false _ _ (outside_of (look ts) (1 ∷ []) expr_first refl h)
      ∙ refuses constant_of (2 ∷ []) constant_exact refl ts (outside_of (look ts) (2 ∷ []) expr_first refl h)

  shut_unary : (b : Bool) → read_unary n r b ts ≡ Wrong ts
  shut_unary b = ap (λ z. bind z (λ a s. read_rest is_postfix (fits n) (classes steps) postfix (read_among steps) (length s) a s))
      (if_false _ _ (outside_of (look ts) (punct p.OpenParen ∷ []) expr_first refl h) ∙ shut_prefixed)

  shut_row : {A B : Type 0} (test fit : A → Bool) (ks : List ℕ) (g : A → B → A) (left : List Token → Reply A) (t : List Token → Reply B) → left ts ≡ Wrong ts
      → read_row test fit ks g left t ts ≡ Wrong ts
  shut_row test fit ks g left t e = ap (λ z. bind z (λ a s. read_rest test fit ks g t (length s) a s)) e

  shut_product : read_product n r ts ≡ Wrong ts
  shut_product = shut_row always (fits n) (classes (operators Product)) binary (read_unary n r true) (read_both (read_among (operators Product)) (r Cast))
      (shut_unary true)

  shut_sum : read_sum n r ts ≡ Wrong ts
  shut_sum = shut_row always (fits n) (classes (operators Sum)) binary (read_product n r) (read_both (read_among (operators Sum)) (r (Binary Product)))
      shut_product

  shut_shift : read_shift n r ts ≡ Wrong ts
  shut_shift = shut_row always (fits n) (classes (operators Shift)) binary (read_sum n r) (read_both (read_among (operators Shift)) (r (Binary Sum))) shut_sum

  shut_relation : read_relation n r ts ≡ Wrong ts
  shut_relation = shut_row always (fits n) (classes (operators Relation)) binary (read_shift n r)
      (read_both (read_among (operators Relation)) (r (Binary Shift))) shut_shift

  shut_equality : read_equality n r ts ≡ Wrong ts
  shut_equality = shut_row always (fits n) (classes (operators Equality)) binary (read_relation n r)
      (read_both (read_among (operators Equality)) (r (Binary Relation))) shut_relation

  shut_and : read_and n r ts ≡ Wrong ts
  shut_and = shut_row always (fits n) (classes (operators And)) binary (read_equality n r) (read_both (read_among (operators And)) (r (Binary Equality)))
      shut_equality

  shut_xor : read_xor n r ts ≡ Wrong ts
  shut_xor = shut_row always (fits n) (classes (operators Xor)) binary (read_and n r) (read_both (read_among (operators Xor)) (r (Binary And))) shut_and

  shut_or : read_or n r ts ≡ Wrong ts
  shut_or = shut_row always (fits n) (classes (operators Or)) binary (read_xor n r) (read_both (read_among (operators Or)) (r (Binary Xor))) shut_xor

  shut_logical_and : read_logical_and n r ts ≡ Wrong ts
  shut_logical_and = shut_row always (fits n) (classes (operators LogicalAnd)) binary (read_or n r)
      (read_both (read_among (operators LogicalAnd)) (r (Binary Or))) shut_or

  shut_logical_or : read_logical_or n r ts ≡ Wrong ts
  shut_logical_or = shut_row always (fits n) (classes (operators LogicalOr)) binary (read_logical_and n r)
      (read_both (read_among (operators LogicalOr)) (r (Binary LogicalAnd))) shut_logical_and

  shut_conditional : read_conditional n r ts ≡ Wrong ts
  shut_conditional = shut_row is_condition (fits n) (punct p.Question ∷ []) conditional (read_logical_or n r)
      (read_both (read_lead (punct p.Question) (r Comma)) (read_lead (punct p.Colon) (r Conditional))) shut_logical_or

  shut_assignment : read_assignment n r ts ≡ Wrong ts
  shut_assignment = shut_row is_unary (fits n) (classes assignment_operators) assign (read_conditional n r)
      (read_both (read_among assignment_operators) (r Assignment)) shut_conditional

  shut_comma : read_comma n r ts ≡ Wrong ts
  shut_comma = shut_row always (fits n) (punct p.Comma ∷ []) comma (read_assignment n r) (read_lead (punct p.Comma) (r Assignment)) shut_assignment

  shut_rank : (q : Rank) → IsRead q → read_rank n r q ts ≡ Wrong ts
  shut_rank Comma i = shut_comma
  shut_rank Assignment i = shut_assignment
  shut_rank Conditional i = shut_conditional
  shut_rank (Binary Product) i = shut_product
  shut_rank (Binary Sum) i = shut_sum
  shut_rank (Binary Shift) i = shut_shift
  shut_rank (Binary Relation) i = shut_relation
  shut_rank (Binary Equality) i = shut_equality
  shut_rank (Binary And) i = shut_and
  shut_rank (Binary Xor) i = shut_xor
  shut_rank (Binary Or) i = shut_or
  shut_rank (Binary LogicalAnd) i = shut_logical_and
  shut_rank (Binary LogicalOr) i = shut_logical_or
  shut_rank Cast i = shut_unary true
  shut_rank Unary i = shut_unary false
  shut_rank Postfix i = absurd i

pub shut_expr : (m : ℕ) (q : Rank) → IsRead q → (ts : List Token) → member (look ts) expr_first ≡ false → read_expr m q ts ≡ Wrong ts
shut_expr zero q i ts h = if_false _ _ h
shut_expr (suc m) q i ts h = shut_rank m (read_expr m) ts h q i

-- a unary expression is one of each rank that is read
up_rank : (G : Rank → Lang Sized) (r : Rank) → IsRead r → (c : Sized) (ws : List Token) → IsUnary G c ws → IsRank G r c ws
up_rank G Comma i c ws l = inl (inl (inl (unary_logical_or G c ws l)))
up_rank G Assignment i c ws l = inl (inl (unary_logical_or G c ws l))
up_rank G Conditional i c ws l = inl (unary_logical_or G c ws l)
up_rank G (Binary Product) i c ws l = inl (inl l)
up_rank G (Binary Sum) i c ws l = inl (inl (inl l))
up_rank G (Binary Shift) i c ws l = inl (inl (inl (inl l)))
up_rank G (Binary Relation) i c ws l = inl (inl (inl (inl (inl l))))
up_rank G (Binary Equality) i c ws l = inl (inl (inl (inl (inl (inl l)))))
up_rank G (Binary And) i c ws l = inl (inl (inl (inl (inl (inl (inl l))))))
up_rank G (Binary Xor) i c ws l = inl (inl (inl (inl (inl (inl (inl (inl l)))))))
up_rank G (Binary Or) i c ws l = inl (inl (inl (inl (inl (inl (inl (inl (inl l))))))))
up_rank G (Binary LogicalAnd) i c ws l = inl (inl (inl (inl (inl (inl (inl (inl (inl (inl l)))))))))
up_rank G (Binary LogicalOr) i c ws l = inl (inl (inl (inl (inl (inl (inl (inl (inl (inl (inl l))))))))))
up_rank G Cast i c ws l = inl l
up_rank G Unary i c ws l = l
up_rank G Postfix i c ws l = absurd i

pub outside_append : (k : ℕ) (xs ys : List ℕ) → member k xs ≡ false → member k ys ≡ false → member k (xs ++ ys) ≡ false
outside_append k [] ys a b = b
outside_append k (x ∷ xs) ys a b = go (nat_eq k x) a (outside_append k xs ys)
  where
    go : (z : Bool) → (if z then true else member k xs) ≡ false → (member k xs ≡ false → member k ys ≡ false → member k (xs ++ ys) ≡ false)
        → (if z then true else member k (xs ++ ys)) ≡ false
    go true a ih = a
    go false a ih = ih a b

-- an expression of height 2 at most begins with each token that may begin one
begun_unary : (k : ℕ) (t : Token) → member (class t) expr_first ≡ true → (c : Sized) × (ws : List Token) × IsUnary (IsExpr (suc k)) c (t ∷ ws)
begun_unary k t h = go (member (class t) (1 ∷ [])) refl (member (class t) (2 ∷ [])) refl (member (class t) (punct p.OpenParen ∷ [])) refl
    (member (class t) (classes steps)) refl (member (class t) (classes unary_operators)) refl
  where
    go : (a : Bool) → member (class t) (1 ∷ []) ≡ a → (b : Bool) → member (class t) (2 ∷ []) ≡ b → (c : Bool) → member (class t) (punct p.OpenParen ∷ []) ≡ c
        → (d : Bool) → member (class t) (classes steps) ≡ d → (e : Bool) → member (class t) (classes unary_operators) ≡ e
        → (c : Sized) × (ws : List Token) × IsUnary (IsExpr (suc k)) c (t ∷ ws)
    go true a b hb c hc d hd e he = let x = some_front (name_of t) (sym (name_exact t) ∙ a)
        in (named (x.0, None), [], inl (inl (inl ((x.0, None), refl, (t ∷ [], [], refl, (t, refl, x.1), inr (refl, refl))))))
    go false a true hb c hc d hd e he = let x = some_front (constant_of t) (sym (constant_exact t) ∙ hb) in (x.0, [], inl (inl (inr (inl (t, refl, x.1)))))
    go false a false hb true hc d hd e he = let x = from_sign (punct p.OpenParen) t hc
        in (
          paren (x.0, leaf),
          one_token ∷ mark p.CloseParen ∷ [],
          inl
              (inl (inr (inr (
                (x.0, leaf),
                refl,
                (
                  t ∷ [],
                  one_token ∷ mark p.CloseParen ∷ [],
                  refl,
                  x.1,
                  ((leaf, 0), refl, (one_token ∷ [], mark p.CloseParen ∷ [], refl, leaf_rank (IsExpr k) Comma, (mark p.CloseParen, refl, refl))),
                ),
              )))),
        )
    go false a false hb false hc true hd e he = let x = from_table steps t hd
        in (prefix (x.0, leaf), one_token ∷ [], inr (inl ((x.0, leaf), refl, (t ∷ [], one_token ∷ [], refl, x.1, leaf_rank (IsExpr k) Unary))))
    go false a false hb false hc false hd true he = let x = from_table unary_operators t he
        in (unary (x.0, leaf), one_token ∷ [], inr (inr ((x.0, leaf), refl, (t ∷ [], one_token ∷ [], refl, x.1, leaf_rank (IsExpr k) Cast))))
    go false a false hb false hc false hd false he = absurd (none_of (class t) a hb hc hd he h)
      where
        none_of : (j : ℕ) → member j (1 ∷ []) ≡ false → member j (2 ∷ []) ≡ false → member j (punct p.OpenParen ∷ []) ≡ false → member j (classes steps) ≡ false
            → member j (classes unary_operators) ≡ false → member j expr_first ≡ true → ⊥
        none_of j a b c d e f = let x : true ≡ false = sym f ∙ outside_append j (1 ∷ []) (2 ∷ punct p.OpenParen ∷ classes steps ++ classes unary_operators) a
            (outside_append j (2 ∷ []) (punct p.OpenParen ∷ classes steps ++ classes unary_operators) b
            (outside_append j (punct p.OpenParen ∷ []) (classes steps ++ classes unary_operators) c
            (outside_append j (classes steps) (classes unary_operators) d e))) in cc

pub begun_expr : (m : ℕ) → 1 < m → (r : Rank) → IsRead r → (t : Token) → member (class t) expr_first ≡ true
    → (c : Sized) × (ws : List Token) × IsExpr m r c (t ∷ ws)
begun_expr zero lt r i t h = absurd (omega (arith, lt))
begun_expr (suc zero) lt r i t h = absurd (omega (arith, lt))
begun_expr (suc (suc k)) lt r i t h = let x = begun_unary k t h in (x.0, x.1, up_rank (IsExpr (suc k)) r i x.0 (t ∷ x.1) x.2)

-- a list of expressions
abbrev Listed : ℕ → Lang (List Expr × ℕ)
Listed n = row (IsExpr n Assignment)

one_listed : {L : Lang Sized} (c : Sized) (us : List Token) → L c us → row L (one c) us
one_listed c us l = ((one c, []), refl, (us, [], sym (append-nil us), (c, refl, l), refl))

pub reads_list : (n m : ℕ) → suc n < m
    → Reads (IsExpr n Assignment) (IsExpr m Assignment) (read_expr n Assignment) (read_expr m Assignment) expr_first (λ _. after_assignment)
    → Reads (Listed n) (Listed m) (read_listing (read_expr n Assignment)) (read_listing (read_expr m Assignment)) expr_first
    (λ _. punct p.CloseParen ∷ punct p.CloseBrace ∷ [])
reads_list zero m lt R = reads_nothing (Listed zero) (Listed m) (read_listing (read_expr zero Assignment)) (read_listing (read_expr m Assignment)) expr_first
    (λ _. punct p.CloseParen ∷ punct p.CloseBrace ∷ [])
    (λ a us l. l.2.3.2)
    (λ ts h. ap list_on (if_true _ _ h)) (λ ts h. ap list_on (if_false _ _ h)) (λ ts h. ap (bound m) (shut_expr m Assignment tt ts h)) refl
    (λ t h. let x = begun_expr m lt Assignment tt t h in (one x.0, x.1, one_listed x.0 (t ∷ x.1) x.2))
    (let x = R.some in (one x.0, x.1, one_listed x.0 x.1 x.2))
  where
    bound : (k : ℕ) → Reply Sized → Reply (List Expr × ℕ)
    bound k x = bind (bind x (λ a r. Found (one a) r)) (λ a r. read_rest always always (punct p.Comma ∷ []) add
        (read_lead (punct p.Comma) (read_expr k Assignment)) (length r) a r)

    list_on : Reply Sized → Reply (List Expr × ℕ)
    list_on x = bind (bind x (λ a r. Found (one a) r)) (λ a r. read_rest always always (punct p.Comma ∷ []) add
        (read_lead (punct p.Comma) (read_expr zero Assignment)) (length r) a r)
reads_list (suc n) m lt R = reads_listed R one add (punct p.CloseParen ∷ punct p.CloseBrace ∷ []) (mark p.CloseParen ∷ [])
    (any_expr (suc n) Assignment (not_zero (suc n) (λ e. omega (arith, e)))) (λ a. refl) refl refl refl

follow_of : Bool → List ℕ
follow_of b = if b then after_operand else after_cast

-- only a postfix expression may have a step behind it
operand_follow : Sized → List ℕ
operand_follow c = follow_of (is_postfix c)

opened_follow : Opened → List ℕ
opened_follow (Typed d) = after_cast
opened_follow (Inner e) = after_operand

within_operand : (b : Bool) (k : ℕ) → member k (follow_of b) ≡ true → member k after_operand ≡ true
unfolding follow_of
within_operand true k h = h
within_operand false k h = member-subset k after_cast after_operand (subset_right (classes steps) after_cast) h

cast_within : (b : Bool) → subset after_cast (follow_of b) ≡ true
unfolding follow_of
cast_within true = subset_right (classes steps) after_cast
cast_within false = subset_self after_cast

steps_within : (b : Bool) → b ≡ true → subset (classes steps) (follow_of b) ≡ true
unfolding follow_of
steps_within true e = subset_left (classes steps) after_cast
steps_within false e = absurd cc

no_step : (b : Bool) → b ≡ false → (k : ℕ) → member k (follow_of b) ≡ true → member k after_cast ≡ true
unfolding follow_of
no_step true e k h = absurd cc
no_step false e k h = h

unary_in : (k : ℕ) (b : Bool) (c : Sized) (us : List Token)
    → either (OperandL (IsExpr k) b) (made (λ d. postfix d.0 d.1) (both (such is_postfix (IsExpr k (unary_rank b))) (among steps))) c us
    → IsExpr (suc k) (unary_rank b) c us
unary_in k true c us l = rank_into (IsExpr k) true (postfix_down k true) c us l
unary_in k false c us l = rank_into (IsExpr k) false (postfix_down k false) c us l

unary_fro : (k : ℕ) (b : Bool) (c : Sized) (us : List Token) → IsExpr (suc k) (unary_rank b) c us
    → either (OperandL (IsExpr k) b) (made (λ d. postfix d.0 d.1) (both (such is_postfix (IsExpr k (unary_rank b))) (among steps))) c us
unary_fro k true c us l = rank_out (IsExpr k) true (postfix_up k true) c us l
unary_fro k false c us l = rank_out (IsExpr k) false (postfix_up k false) c us l

-- expressions at height n + 1, against those at m + 1, where R has those at n
module _ (n m : ℕ) (lt : suc n < m) (R : (r : Rank) → IsRead r → Reads (IsExpr n r) (IsExpr m r) (read_expr n r) (read_expr m r) expr_first (λ _. after r))
  where
    pos : nat_eq m 0 ≡ false
    pos = above_zero (suc n) m lt

    none : (r : Rank) → n ≡ 0 → (c : Sized) (us : List Token) → IsExpr n r c us → ⊥
    none r e c us l = none_expr n r e c us l

    any : (r : Rank) → (n ≡ 0 → ⊥) → Some_of (IsExpr n r)
    any r h = any_expr n r (not_zero n h)

    abbrev open_sign : {A : Type 0} → Lang A → ℕ → Lang (ℕ × A)
    open_sign L k = both (sign k) L

    -- what stands before a closing sign
    trailed : {A : Type 0} {L : Lang A} (q : Token) → Some_of L → Some_of (trail L (class q))
    trailed q x = let y = some_sign q in (x.0, x.1 ++ y.1, ((x.0, y.0), refl, (x.1, y.1, refl, x.2, y.2)))

    none_trailed : (r : Rank) (k : ℕ) → n ≡ 0 → (c : Sized) (us : List Token) → trail (IsExpr n r) k c us → ⊥
    none_trailed r k e c us l = none r e l.0.0 l.2.0 l.2.3

    -- "[" expr "]"
    reads_subscript : Reads (lead (punct p.OpenBracket) (trail (IsExpr n Comma) (punct p.CloseBracket)))
        (lead (punct p.OpenBracket) (trail (IsExpr m Comma) (punct p.CloseBracket)))
        (read_open_lead n (punct p.OpenBracket) (read_trail (read_expr n Comma) (punct p.CloseBracket)))
        (read_open_lead m (punct p.OpenBracket) (read_trail (read_expr m Comma) (punct p.CloseBracket))) (punct p.OpenBracket ∷ []) (λ _. after_operand)
    reads_subscript = reads_made (reads_opened (line_if (punct p.OpenBracket)) (punct p.OpenBracket ∷ []) (sign_exact (punct p.OpenBracket)) refl n m
        (λ z. reads_trail (R Comma tt) (mark p.CloseBracket) refl after_operand (λ a. refl)) (trailed (mark p.CloseBracket) (R Comma tt).some)
        (none_trailed Comma (punct p.CloseBracket)) (λ h. trailed (mark p.CloseBracket) (any Comma h)) pos (mark p.OpenBracket) refl) (λ c. c.1)
        (λ _. after_operand) (λ c k h. h)

    -- "(" [assign {"," assign}] ")"
    some_none : {X : Type 0} {L : Lang (List X × ℕ)} → Some_of (made all_or_none (optional L))
    some_none = (([], 0), [], (None, refl, inr (refl, refl)))

    reads_arguments : Reads (lead (punct p.OpenParen) (trail (made all_or_none (optional (row (IsExpr n Assignment)))) (punct p.CloseParen)))
        (lead (punct p.OpenParen) (trail (made all_or_none (optional (row (IsExpr m Assignment)))) (punct p.CloseParen)))
        (read_lead (punct p.OpenParen) (read_trail (read_made all_or_none (read_optional expr_first (read_listing (read_expr n Assignment))))
        (punct p.CloseParen))) (read_lead (punct p.OpenParen) (read_trail
        (read_made all_or_none (read_optional expr_first (read_listing (read_expr m Assignment)))) (punct p.CloseParen)))
        (punct p.OpenParen ∷ []) (λ _. after_operand)
    reads_arguments = reads_lead (reads_trail (reads_made (reads_optional (reads_list n m lt (R Assignment tt)) expr_first (punct p.CloseParen ∷ []) refl refl
        (λ a. refl)) all_or_none (λ _. punct p.CloseParen ∷ []) (λ c k h. h)) (mark p.CloseParen) refl after_operand (λ a. refl)) (mark p.OpenParen) refl
        (trailed (mark p.CloseParen) some_none)

    reads_suffix : Reads (IsSuffix (IsExpr n)) (IsSuffix (IsExpr m)) (read_suffix n (read_expr n)) (read_suffix m (read_expr m))
        (punct p.OpenBracket ∷ punct p.OpenParen ∷ []) (λ _. after_operand)
    reads_suffix = reads_either (reads_made reads_subscript Subscript (λ _. after_operand) (λ c k h. h))
        (reads_made reads_arguments Arguments (λ _. after_operand) (λ c k h. h)) (punct p.OpenBracket ∷ []) refl refl

    abbrev NamedL : (Rank → Lang Sized) → Lang Sized
    NamedL G = made named (both identifier (optional (IsSuffix G)))

    reads_named : Reads (NamedL (IsExpr n)) (NamedL (IsExpr m)) (read_named n (read_expr n)) (read_named m (read_expr m)) (1 ∷ []) operand_follow
    unfolding operand_follow
    reads_named = reads_made (reads_both (reads_identifier (λ _. punct p.OpenBracket ∷ punct p.OpenParen ∷ after_operand))
        (reads_optional reads_suffix (punct p.OpenBracket ∷ punct p.OpenParen ∷ []) after_operand refl refl (λ a. subset_self after_operand))
        (λ a us l. (None, [], inr (refl, refl))) (λ a. subset_self (punct p.OpenBracket ∷ punct p.OpenParen ∷ after_operand))) named operand_follow
        (λ c k h. within_operand (is_postfix (named c)) k h)

    reads_inner : Reads (trail (IsExpr n Comma) (punct p.CloseParen)) (trail (IsExpr m Comma) (punct p.CloseParen)) (read_inner n (read_expr n))
        (read_inner m (read_expr m)) expr_first (λ _. after_operand)
    reads_inner = reads_trail (R Comma tt) (mark p.CloseParen) refl after_operand (λ a. refl)

    reads_paren : Reads (ParenL (IsExpr n)) (ParenL (IsExpr m)) (read_paren n (read_expr n)) (read_paren m (read_expr m)) (punct p.OpenParen ∷ [])
        operand_follow
    unfolding operand_follow
    reads_paren = reads_made (reads_opened (line_if (punct p.OpenParen)) (punct p.OpenParen ∷ []) (sign_exact (punct p.OpenParen)) refl n m (λ z. reads_inner)
        (trailed (mark p.CloseParen) (R Comma tt).some) (none_trailed Comma (punct p.CloseParen)) (λ h. trailed (mark p.CloseParen) (any Comma h)) pos
        (mark p.OpenParen) refl)
        paren operand_follow (λ c k h. within_operand (is_postfix (paren c)) k h)

    abbrev TypedL : (Rank → Lang Sized) → Lang ((Specifiers × ℕ) × Sized)
    TypedL G = both (trail (IsSpecifiers (G Conditional)) (punct p.CloseParen)) (G Cast)

    some_typed : (k : ℕ) → Some_of (IsExpr k Cast) → Some_of (TypedL (IsExpr k))
    some_typed k x = let y = trailed (mark p.CloseParen) (some_specifiers (IsExpr k Conditional)) in ((y.0, x.0), y.1 ++ x.1, (y.1, x.1, refl, y.2, x.2))

    reads_typed : nat_eq n 0 ≡ false
        → Reads (TypedL (IsExpr n)) (TypedL (IsExpr m)) (read_both (read_trail (read_specifiers n (read_expr n Conditional)) (punct p.CloseParen))
        (read_expr n Cast)) (read_both (read_trail (read_specifiers m (read_expr m Conditional)) (punct p.CloseParen)) (read_expr m Cast))
        (classes specifier_words ++ word w.Enum ∷ []) (λ _. after_cast)
    reads_typed z = reads_both (reads_trail (reads_specifiers n m pos (R Conditional tt) (none Conditional) (any Conditional)) (mark p.CloseParen) refl
        expr_first
        (λ a. refl)) (R Cast tt) (λ a us l. any_expr n Cast z) (λ a. refl)

    reads_inside : nat_eq n 0 ≡ false
        → Reads (OpenedL (IsExpr n)) (OpenedL (IsExpr m)) (read_opened n (read_expr n)) (read_opened m (read_expr m))
        (classes specifier_words ++ word w.Enum ∷ expr_first) opened_follow
    unfolding opened_follow
    reads_inside z = reads_either (reads_made (reads_typed z) Typed opened_follow (λ c k h. h)) (reads_made reads_inner Inner opened_follow (λ c k h. h))
        specifier_first refl refl

    opened_none : n ≡ 0 → (o : Opened) (us : List Token) → OpenedL (IsExpr n) o us → ⊥
    opened_none e o us (inl l) = none Cast e l.0.1 l.2.1 l.2.4
    opened_none e o us (inr l) = none_trailed Comma (punct p.CloseParen) e l.0 us l.2

    some_inside : (k : ℕ) → Some_of (IsExpr k Comma) → Some_of (OpenedL (IsExpr k))
    some_inside k x = let y = trailed (mark p.CloseParen) x in (Inner y.0, y.1, inr (y.0, refl, y.2))

    opened_steps : (c : ℕ × Opened) (k : ℕ) → member k (operand_follow (opened c)) ≡ true → member k (opened_follow c.1) ≡ true
    unfolding operand_follow opened_follow
    opened_steps (l, Typed d) k h = no_step (is_postfix (opened (l, Typed d))) (postfix_node (Expr-F.Cast l d.0.0 d.1.0) 0) k h
    opened_steps (l, Inner e) k h = within_operand (is_postfix (opened (l, Inner e))) k h

    reads_cast_or_paren : Reads (CastOrParenL (IsExpr n)) (CastOrParenL (IsExpr m)) (read_cast_or_paren n (read_expr n)) (read_cast_or_paren m (read_expr m))
        (punct p.OpenParen ∷ []) operand_follow
    reads_cast_or_paren = reads_made (reads_opened (line_if (punct p.OpenParen)) (punct p.OpenParen ∷ []) (sign_exact (punct p.OpenParen)) refl n m reads_inside
        (some_inside m (R Comma tt).some) opened_none (λ h. some_inside n (any Comma h)) pos (mark p.OpenParen) refl)
        opened operand_follow opened_steps

    abbrev PrefixL : (Rank → Lang Sized) → Lang Sized
    PrefixL G = made prefix (both (among steps) (G Unary))

    abbrev SignedL : (Rank → Lang Sized) → Lang Sized
    SignedL G = made unary (both (among unary_operators) (G Cast))

    reads_prefix : Reads (PrefixL (IsExpr n)) (PrefixL (IsExpr m))
        (read_made prefix (read_both (read_open n (λ t. lined t.line (row_of (class t) steps))) (read_expr n Unary)))
        (read_made prefix (read_both (read_open m (λ t. lined t.line (row_of (class t) steps))) (read_expr m Unary))) (classes steps) operand_follow
    unfolding operand_follow
    reads_prefix = reads_made (reads_opened (λ t. lined t.line (row_of (class t) steps)) (classes steps) (among_exact steps) refl n m (λ z. R Unary tt)
        (R Unary tt).some (none Unary) (any Unary) pos (mark p.Increment) refl)
        prefix operand_follow (λ c k h. no_step (is_postfix (prefix c)) (postfix_node (Expr-F.Prefix c.0.1 c.0.0 c.1.0) 0) k h)

    reads_signed : Reads (SignedL (IsExpr n)) (SignedL (IsExpr m))
        (read_made unary (read_both (read_open n (λ t. lined t.line (row_of (class t) unary_operators))) (read_expr n Cast)))
        (read_made unary (read_both (read_open m (λ t. lined t.line (row_of (class t) unary_operators))) (read_expr m Cast))) (classes unary_operators)
        operand_follow
    unfolding operand_follow
    reads_signed = reads_made (reads_opened (λ t. lined t.line (row_of (class t) unary_operators)) (classes unary_operators) (among_exact unary_operators) refl
        n
        m (λ z. R Cast tt) (R Cast tt).some (none Cast) (any Cast) pos (mark p.Plus) refl)
        unary operand_follow (λ c k h. no_step (is_postfix (unary c)) (postfix_node (Expr-F.Unary c.0.1 c.0.0 c.1.0) 0) k h)

    reads_prefixed : Reads (PrefixedL (IsExpr n)) (PrefixedL (IsExpr m)) (read_prefixed n (read_expr n)) (read_prefixed m (read_expr m))
        (classes steps ++ classes unary_operators ++ 1 ∷ 2 ∷ []) operand_follow
    reads_prefixed = reads_either reads_prefix (reads_either reads_signed (reads_either reads_named (reads_constant operand_follow) (1 ∷ []) refl refl)
        (classes unary_operators) refl refl) (classes steps) refl refl

    reads_operand : (b : Bool) → Reads (OperandL (IsExpr n) b) (OperandL (IsExpr m) b) (read_operand n (read_expr n) b) (read_operand m (read_expr m) b)
        (punct p.OpenParen ∷ classes steps ++ classes unary_operators ++ 1 ∷ 2 ∷ []) operand_follow
    reads_operand true = reads_either reads_cast_or_paren reads_prefixed (punct p.OpenParen ∷ []) refl refl
    reads_operand false = reads_either reads_paren reads_prefixed (punct p.OpenParen ∷ []) refl refl

    -- what is grown from parts that fit is never too high for m
    pub low_enough : {X : Type 0} (c : X × ℕ) → c.1 ≤ suc n → fits m c ≡ true
    low_enough c h = le_fits m c (omega (arith, lt)) (omega (arith, h, lt))

    pub mono : {X : Type 0} (c : X × ℕ) → fits n c ≡ true → fits m c ≡ true
    mono c h = fits_mono n m c (omega (arith, lt)) h

    abbrev StepL : Lang (Step × ℕ)
    StepL = among steps

    abbrev GrownUnary : Bool → ℕ → Lang Sized
    GrownUnary b k = Grown (OperandL (IsExpr k) b) StepL is_postfix (fits k) postfix

    unary_to : (b : Bool) (k : ℕ) (c : Sized) (us : List Token) → GrownUnary b k c us → IsExpr (suc k) (unary_rank b) c us
    unary_to b k c us l = grown_chain (λ j. IsExpr j (unary_rank b)) (λ j. OperandL (IsExpr j) b) (λ j. StepL) is_postfix postfix
        (λ c us l. none_expr 0 (unary_rank b) refl c us l)
        (λ j c us l. unary_in j b c us l) (λ j c us l. unary_fro j b c us l) (λ j c us l h. lowers j (unary_rank b) c us l h)
        (λ j c us l. bounded j (unary_rank b) c us l)
        (λ j c us l. on_operand c.1 (λ r d vs x h. higher j (suc j) (omega arith) r d vs x) b c us l (omega arith)) (λ j d us l. l) k c us l

    unary_from : (b : Bool) (k : ℕ) (c : Sized) (us : List Token) → IsExpr (suc k) (unary_rank b) c us → GrownUnary b k c us
    unary_from b k c us l = chain_grown (λ j. IsExpr j (unary_rank b)) (λ j. OperandL (IsExpr j) b) (λ j. StepL) is_postfix postfix
        (λ c us l. none_expr 0 (unary_rank b) refl c us l)
        (λ j c us l. unary_in j b c us l) (λ j c us l. unary_fro j b c us l) (λ j c us l h. lowers j (unary_rank b) c us l h)
        (λ j c us l. bounded j (unary_rank b) c us l)
        (λ j c us l. on_operand c.1 (λ r d vs x h. higher j (suc j) (omega arith) r d vs x) b c us l (omega arith)) (λ j d us l. l) k c us l

    pub reads_unary : (b : Bool) → Reads (IsExpr (suc n) (unary_rank b)) (IsExpr (suc m) (unary_rank b)) (read_unary n (read_expr n) b)
        (read_unary m (read_expr m) b) (punct p.OpenParen ∷ classes steps ++ classes unary_operators ++ 1 ∷ 2 ∷ []) (λ _. after_cast)
    unfolding operand_follow
    reads_unary b = reads_as (unary_to b n) (unary_from b n) (unary_to b m)
        (reads_row (reads_operand b) is_postfix (fits n) (fits m) (λ a f. reads_among steps refl (mark p.Increment) refl (λ _. after_operand)) (classes steps)
        postfix after_cast (mark p.CloseParen ∷ []) refl
        (λ a t. steps_within (is_postfix a) t) (λ a. cast_within (is_postfix a)) (λ a b t. subset_left (classes steps) after_cast)
        (λ b. subset_right (classes steps) after_cast) refl refl (λ b. refl) refl
        mono (λ a us l. low_enough a (bounded (suc n) (unary_rank b) a us (unary_to b n a us l))) (λ a f u h. let x = from_table steps u h in (x.0, [], x.1)))
