-- The rules of declarations are read.
use Rattle.std.proofs.Common.{ℕ, suc, ◌≡◌, ◌<◌, refl, sym, ◌∙◌, ap, subst, Bool, true, false, nat_eq, if◌then◌else◌, List, [], ◌∷◌, ◌++◌, append-nil}
use Rattle.std.proofs.Common.{inl, inr, Option, Some, None}
use Rattle.c_tree.specs.declared.token.Token.{Token}
use Rattle.c_tree.specs.declared.token.TokenKind.TheVariants as kinds
use Rattle.c_tree.specs.declared.token.Punct.TheVariants as p
use Rattle.c_tree.specs.declared.token.Reserved.TheVariants as w
use Rattle.c_tree.specs.declared.expression.Expr.{Expr}
use Rattle.c_tree.specs.declared.expression.Identifier.{Identifier}
use Rattle.c_tree.specs.declared.declaration.Declarator.{Declarator}
use Rattle.c_tree.specs.declared.declaration.Shape.{Shape}
use Rattle.c_tree.specs.declared.declaration.Initialiser.{Initialiser}
use Rattle.c_tree.specs.declared.declaration.Shape.TheVariants as shapes
use Rattle.c_tree.specs.declared.declaration.Initialiser.TheVariants as initialisers
use Rattle.c_parse.specs.Classes.{class, punct, word, member, classes}
use Rattle.c_parse.specs.Languages.{Lang, sign, both, made, optional, lead, trail}
use Rattle.c_parse.specs.Trees.{snoc, single, or_none, or_plain, declarator, elements, parameter, declaration}
use Rattle.c_parse.specs.Expressions.{Rank, Assignment, Conditional, specifier_words, identifier, IsExpr}
use Rattle.c_parse.specs.Modules.{listed, tree, IsTyped, IsParameter, IsParameters, IsShape, IsElements, IsInitialiser, IsDeclarator, IsDeclaration}
use Rattle.c_parse.specs.Reading.{read_optional, read_made, read_lead, read_row, always}
use Rattle.c_parse.specs.ExpressionReaders.{expr_first, specifier_first, read_expr}
use Rattle.c_parse.specs.ModuleReaders.{read_tree, first_element, next_element, is_open, read_typed, read_parameter, read_parameters, read_shape}
use Rattle.c_parse.specs.ModuleReaders.{read_element, read_elements, read_initialiser, read_declarator, read_declaration, is_function}
use Rattle.c_parse.proofs.Members.{subset, member-subset}
use Rattle.c_parse.proofs.Readers.{Reads, reads_as, reads_made, reads_both, reads_either, reads_absent_by}
use Rattle.c_parse.proofs.Rows.{Grown, start, more, reads_row, grown_built, built_grown}
use Rattle.c_parse.proofs.Words.{token, mark, Some_of, some_sign, reads_sign, reads_identifier, reads_lead, reads_trail, reads_optional, reads_listed}
use Rattle.c_parse.proofs.Words.{some_listed}
use Rattle.c_parse.proofs.ExpressionRules.{after_assignment, after_conditional, after_specifiers, after, any_expr, none_expr, above_zero, not_zero}
use Rattle.c_parse.proofs.ExpressionRules.{reads_specifiers, some_specifiers}
use Rattle.c_parse.proofs.Ranks.{reads_expr}

pub some_identifier : Some_of identifier
some_identifier = (record { name = []; line = 0 }, token (kinds.Name []) ∷ [], (token (kinds.Name []), refl, refl))

pub some_absent : {A : Type 0} {L : Lang A} → Some_of (optional L)
some_absent = (None, [], inr (refl, refl))

pub trailed : {A : Type 0} {L : Lang A} (q : Token) → Some_of L → Some_of (trail L (class q))
trailed q x = let y = some_sign q in (x.0, x.1 ++ y.1, ((x.0, y.0), refl, (x.1, y.1, refl, x.2, y.2)))

pub led_by : {A : Type 0} {L : Lang A} (q : Token) → Some_of L → Some_of (lead (class q) L)
led_by q x = let y = some_sign q in (x.0, y.1 ++ x.1, ((y.0, x.0), refl, (y.1, x.1, refl, y.2, x.2)))

pub pair_of : {A B : Type 0} {L : Lang A} {M : Lang B} → Some_of L → Some_of M → Some_of (both L M)
pair_of x y = ((x.0, y.0), x.1 ++ y.1, (x.1, y.1, refl, x.2, y.2))

pub made_of : {A B : Type 0} (f : A → B) {L : Lang A} → Some_of L → Some_of (made f L)
made_of f x = (f x.0, x.1, (x.0, refl, x.2))

-- elements with a comma behind the last one or without
module _ (A : Lang Expr) where
  abbrev GrownElements : List Expr × Bool → List Token → Type 0
  GrownElements = Grown (made first_element A) (lead (punct p.Comma) (optional A)) is_open always next_element

  abbrev ElementsL : Lang (List Expr)
  ElementsL = made (λ c. c.0) (both (listed A) (optional (sign (punct p.Comma))))

  one_more : (xs : List Expr) (e : Expr) (us vs : List Token) → listed A xs us → lead (punct p.Comma) A e vs → listed A (xs ++ e ∷ []) (us ++ vs)
  one_more xs e us vs l m = grown_built (made single A) (lead (punct p.Comma) A) snoc (xs ++ e ∷ []) (us ++ vs)
      (more xs e us vs (built_grown (made single A) (lead (punct p.Comma) A) snoc xs us l) refl refl m)

  lead_some : (e : Expr) (vs : List Token) → lead (punct p.Comma) (optional A) (Some e) vs → lead (punct p.Comma) A e vs
  lead_some e vs ((l, x), eq, (us1, us2, e2, s, inl (d, e3, k))) = let same : d ≡ e = (let h : Some d ≡ Some e = sym e3 ∙ sym eq in cc)
      in ((l, e), refl, (us1, us2, e2, s, subst (λ z. A z us2) same k))
  lead_some e vs ((l, x), eq, (us1, us2, e2, s, inr k)) = absurd (let h : Some e ≡ None = eq ∙ k.0 in cc)

  lead_none : (vs : List Token) → lead (punct p.Comma) (optional A) None vs → (l : ℕ) × sign (punct p.Comma) l vs
  lead_none vs ((l, x), eq, (us1, us2, e2, s, inl (d, e3, k))) = absurd (let h : None ≡ Some d = eq ∙ e3 in cc)
  lead_none vs ((l, x), eq, (us1, us2, e2, s, inr k)) = (l, subst (sign (punct p.Comma) l) (sym (e2 ∙ ap (λ z. us1 ++ z) k.1 ∙ append-nil us1)) s)

  open_listed : (c : List Expr × Bool) (us : List Token) → GrownElements c us → c.1 ≡ true → listed A c.0 us
  open_listed c us (start a vs (e, eq, l)) h = subst (λ z. listed A z us) (sym (ap (λ z. z.0) eq))
      ((e ∷ [], []), refl, (us, [], sym (append-nil us), (e, refl, l), refl))
  open_listed c us (more d None us1 vs g e1 e2 l) h = absurd (let x : false ≡ true = h in cc)
  open_listed c us (more d (Some e) us1 vs g e1 e2 l) h = one_more d.0 e us1 vs (open_listed d us1 g e1) (lead_some e vs l)

  pub elements_to : (c : List Expr × Bool) (us : List Token) → GrownElements c us → ElementsL c.0 us
  elements_to c us (start a vs l) = (
    (c.0, None),
    refl,
    (
      us,
      [],
      sym (append-nil us),
      open_listed c us (start a vs l)
          (let k : c ≡ first_element l.0 = l.1 in ap (λ z. z.1) k),
      inr (refl, refl),
    ),
  )
  elements_to c us (more d None us1 vs g e1 e2 l) = let s = lead_none vs l
      in ((d.0, Some s.0), refl, (us1, vs, refl, open_listed d us1 g e1, inl (s.0, refl, s.1)))
  elements_to c us (more d (Some e) us1 vs g e1 e2 l) = (
    (d.0 ++ e ∷ [], None),
    refl,
    (us1 ++ vs, [], sym (append-nil (us1 ++ vs)), one_more d.0 e us1 vs (open_listed d us1 g e1) (lead_some e vs l), inr (refl, refl)),
  )

  listed_open : (xs : List Expr) (us : List Token) → Grown (made single A) (lead (punct p.Comma) A) always always snoc xs us → GrownElements (xs, true) us
  listed_open xs us (start a vs (e, eq, l)) = subst (λ z. GrownElements (z, true) us) (sym eq) (start (first_element e) us (e, refl, l))
  listed_open xs us (more ys e us1 vs g e1 e2 (d, eq, (vs1, vs2, e3, s, l))) = more (ys, true) (Some e) us1 vs (listed_open ys us1 g) refl refl
      ((d.0, Some d.1), ap Some eq, (vs1, vs2, e3, s, inl (d.1, refl, l)))

  elements_from : (xs : List Expr) (us : List Token) → ElementsL xs us → (o : Bool) × GrownElements (xs, o) us
  elements_from xs us (c, eq, (us1, us2, e2, l, inr k)) = (
    true,
    subst (λ z. GrownElements (z, true) us) (sym eq)
        (subst (GrownElements (c.0, true)) (sym (e2 ∙ ap (λ z. us1 ++ z) k.1 ∙ append-nil us1))
        (listed_open c.0 us1 (built_grown (made single A) (lead (punct p.Comma) A) snoc c.0 us1 l))),
  )
  elements_from xs us (c, eq, (us1, us2, e2, l, inl (n, e3, s))) = (
    false,
    subst (λ z. GrownElements (z, false) us) (sym eq) (subst (GrownElements (c.0, false)) (sym e2)
        (more (c.0, true) None us1 us2 (listed_open c.0 us1 (built_grown (made single A) (lead (punct p.Comma) A) snoc c.0 us1 l)) refl refl
        ((n, None), refl, (us2, [], sym (append-nil us2), s, inr (refl, refl))))),
  )

-- behind a function's name and parameters a body may stand
abbrev pub declarator_follow : Declarator → List ℕ
declarator_follow d = if is_function d then punct p.OpenBrace ∷ punct p.Comma ∷ punct p.Semicolon ∷ [] else punct p.Comma ∷ punct p.Semicolon ∷ []

pub comma_or_end : (b : Bool) → subset (punct p.Comma ∷ punct p.Semicolon ∷ [])
    (if b then punct p.OpenBrace ∷ punct p.Comma ∷ punct p.Semicolon ∷ [] else punct p.Comma ∷ punct p.Semicolon ∷ []) ≡ true
comma_or_end true = refl
comma_or_end false = refl

opened_end : (d : Declarator) → subset (punct p.Comma ∷ punct p.Semicolon ∷ []) (declarator_follow d) ≡ true
opened_end d = comma_or_end (is_function d)

-- at heights n and m of the tops
module _ (n m : ℕ) (lt : suc n < m) (some : nat_eq n 0 ≡ false) where
  E : (r : Rank) → Some_of (IsExpr n r)
  E r = any_expr n r some

  pub reads_typed : Reads (IsTyped n) (IsTyped m) (read_typed n) (read_typed m) (classes specifier_words ++ word w.Enum ∷ []) (λ _. after_specifiers)
  reads_typed = reads_made (reads_specifiers n m (above_zero (suc n) m lt) (reads_expr n m lt Conditional tt) (none_expr n Conditional)
      (λ h. any_expr n Conditional (not_zero n h))) (λ c. c.0) (λ _. after_specifiers) (λ c k h. h)

  pub some_typed : Some_of (IsTyped n)
  some_typed = made_of (λ c. c.0) (some_specifiers (IsExpr n Conditional))

  after_parameter : List ℕ
  after_parameter = punct p.Comma ∷ punct p.CloseParen ∷ []

  reads_parameter : Reads (IsParameter n) (IsParameter m) (read_parameter n) (read_parameter m) (classes specifier_words ++ word w.Enum ∷ [])
      (λ _. after_parameter)
  unfolding after_parameter
  reads_parameter = reads_made (reads_both reads_typed (reads_optional (reads_identifier (λ _. punct p.Comma ∷ punct p.CloseParen ∷ [])) (1 ∷ [])
      (punct p.Comma ∷ punct p.CloseParen ∷ []) refl refl (λ a. refl)) (λ a us l. some_absent) (λ a. refl)) parameter (λ _. after_parameter) (λ c k h. h)

  some_parameter : Some_of (IsParameter n)
  some_parameter = made_of parameter (pair_of some_typed some_absent)

  pub reads_parameters : Reads (IsParameters n) (IsParameters m) (read_parameters n) (read_parameters m)
      ((classes specifier_words ++ word w.Enum ∷ []) ++ punct p.CloseParen ∷ []) (λ _. punct p.CloseParen ∷ [])
  unfolding after_parameter
  reads_parameters = reads_made (reads_optional (reads_listed reads_parameter single snoc (punct p.CloseParen ∷ []) (mark p.CloseParen ∷ []) some_parameter
      (λ a. refl) refl refl refl) specifier_first (punct p.CloseParen ∷ []) refl refl (λ a. refl)) or_none (λ _. punct p.CloseParen ∷ []) (λ c k h. h)

  pub some_parameters : Some_of (IsParameters n)
  some_parameters = made_of or_none some_absent

  abbrev after_declarator : List ℕ
  after_declarator = punct p.Comma ∷ punct p.Semicolon ∷ punct p.OpenBrace ∷ []

  abbrev after_shape : List ℕ
  after_shape = punct p.Equals ∷ after_declarator

  reads_array : Reads (tree (IsExpr n Conditional)) (tree (IsExpr m Conditional)) (read_tree (read_expr n Conditional)) (read_tree (read_expr m Conditional))
      expr_first (λ _. after_conditional)
  reads_array = reads_made (reads_expr n m lt Conditional tt) (λ c. c.0) (λ _. after_conditional) (λ c k h. h)

  reads_shape : Reads (IsShape n) (IsShape m) (read_shape n) (read_shape m) (punct p.OpenBracket ∷ punct p.OpenParen ∷ []) (λ _. after_shape)
  reads_shape = reads_either
      (reads_made (reads_lead (reads_trail (reads_optional reads_array expr_first (punct p.CloseBracket ∷ []) refl refl (λ a. refl)) (mark p.CloseBracket) refl
      after_shape (λ a. refl)) (mark p.OpenBracket) refl (trailed (mark p.CloseBracket) some_absent)) shapes.Array (λ _. after_shape) (λ c k h. h))
      (reads_made (reads_lead (reads_trail reads_parameters (mark p.CloseParen) refl after_shape (λ a. refl)) (mark p.OpenParen) refl
      (trailed (mark p.CloseParen) some_parameters)) shapes.Function (λ _. after_shape) (λ c k h. h))
      (punct p.OpenBracket ∷ []) refl refl

  -- an expression that is an initialiser, or an element of one
  reads_element : Reads (tree (IsExpr n Assignment)) (tree (IsExpr m Assignment)) (read_element n) (read_element m) expr_first (λ _. after_assignment)
  reads_element = reads_made (reads_expr n m lt Assignment tt) (λ c. c.0) (λ _. after_assignment) (λ c k h. h)

  some_element : Some_of (tree (IsExpr n Assignment))
  some_element = made_of (λ c. c.0) (E Assignment)

  brace : List ℕ
  brace = punct p.CloseBrace ∷ []

  reads_grown : Reads (GrownElements (tree (IsExpr n Assignment))) (GrownElements (tree (IsExpr m Assignment)))
      (read_row is_open always (punct p.Comma ∷ []) next_element (read_made first_element (read_element n))
      (read_lead (punct p.Comma) (read_optional expr_first (read_element n))))
      (read_row is_open always (punct p.Comma ∷ []) next_element (read_made first_element (read_element m))
      (read_lead (punct p.Comma) (read_optional expr_first (read_element m)))) expr_first (λ _. punct p.CloseBrace ∷ [])
  reads_grown = reads_row (reads_made reads_element first_element (λ _. after_assignment) (λ c k h. h)) is_open always always
      (λ a f. reads_lead (reads_optional reads_element expr_first (punct p.Comma ∷ punct p.CloseBrace ∷ []) refl refl (λ a. refl)) (mark p.Comma) refl
      some_absent)
      (punct p.Comma ∷ []) next_element (punct p.CloseBrace ∷ []) (mark p.CloseBrace ∷ []) refl (λ a t. refl) (λ a. refl) (λ a b t. refl) (λ b. refl) refl refl
      (λ b. refl) refl (λ a h. h) (λ a us l. refl) (λ a h u k. absurd (let x : true ≡ false = h in cc))

  elements_shape : (k : ℕ) (xs : List Expr) (us : List Token) → made (λ c. c.0) (GrownElements (tree (IsExpr k Assignment))) xs us → IsElements k xs us
  elements_shape k xs us (c, e, l) = subst (λ z. IsElements k z us) (sym e) (elements_to (tree (IsExpr k Assignment)) c us l)

  shape_elements : (k : ℕ) (xs : List Expr) (us : List Token) → IsElements k xs us → made (λ c. c.0) (GrownElements (tree (IsExpr k Assignment))) xs us
  shape_elements k xs us l = let x = elements_from (tree (IsExpr k Assignment)) xs us l in ((xs, x.0), refl, x.1)

  reads_elements : Reads (IsElements n) (IsElements m) (read_elements n) (read_elements m) expr_first (λ _. punct p.CloseBrace ∷ [])
  reads_elements = reads_as (elements_shape n) (shape_elements n) (elements_shape m)
      (reads_made reads_grown (λ c. c.0) (λ _. punct p.CloseBrace ∷ []) (λ c k h. h))

  some_elements : Some_of (IsElements n)
  some_elements = let x = pair_of (some_listed single snoc some_element) some_absent in (x.0.0, x.1, (x.0, refl, x.2))

  abbrev after_initialiser : List ℕ
  after_initialiser = punct p.Comma ∷ punct p.Semicolon ∷ []

  reads_initialiser : Reads (IsInitialiser n) (IsInitialiser m) (read_initialiser n) (read_initialiser m) (punct p.OpenBrace ∷ expr_first)
      (λ _. after_initialiser)
  reads_initialiser = reads_either
      (reads_made (reads_both (reads_sign (mark p.OpenBrace) refl (λ _. expr_first))
      (reads_trail reads_elements (mark p.CloseBrace) refl after_initialiser (λ a. refl)) (λ a us l. trailed (mark p.CloseBrace) some_elements) (λ a. refl))
      elements (λ _. after_initialiser) (λ c k h. h))
      (reads_made reads_element initialisers.Value (λ _. after_initialiser) (λ c k h. member-subset k after_initialiser after_assignment refl h))
      (punct p.OpenBrace ∷ []) refl refl

  some_initialiser : Some_of (IsInitialiser n)
  some_initialiser = let x = made_of initialisers.Value some_element in (x.0, x.1, inr x.2)

  initialised : Option Initialiser → List ℕ
  initialised None = after_declarator
  initialised (Some i) = after_initialiser

  not_function : (c : (Identifier × Shape) × Option Initialiser) (k : ℕ) → member k (declarator_follow (declarator c)) ≡ true
      → member k (initialised c.1) ≡ true
  unfolding initialised
  not_function ((x, s), None) k h = go (is_function (declarator ((x, s), None))) h
    where
      go : (b : Bool) → member k (if b then punct p.OpenBrace ∷ punct p.Comma ∷ punct p.Semicolon ∷ [] else punct p.Comma ∷ punct p.Semicolon ∷ []) ≡ true
          → member k (punct p.Comma ∷ punct p.Semicolon ∷ punct p.OpenBrace ∷ []) ≡ true
      go true h = member-subset k (punct p.OpenBrace ∷ punct p.Comma ∷ punct p.Semicolon ∷ []) (punct p.Comma ∷ punct p.Semicolon ∷ punct p.OpenBrace ∷ []) refl
          h
      go false h = member-subset k (punct p.Comma ∷ punct p.Semicolon ∷ []) (punct p.Comma ∷ punct p.Semicolon ∷ punct p.OpenBrace ∷ []) refl h
  not_function ((x, shapes.Plain), Some i) k h = h
  not_function ((x, shapes.Array l), Some i) k h = h
  not_function ((x, shapes.Function ps), Some i) k h = h

  reads_beginning : Reads (optional (lead (punct p.Equals) (IsInitialiser n))) (optional (lead (punct p.Equals) (IsInitialiser m)))
      (read_optional (punct p.Equals ∷ []) (read_lead (punct p.Equals) (read_initialiser n)))
      (read_optional (punct p.Equals ∷ []) (read_lead (punct p.Equals) (read_initialiser m))) (punct p.Equals ∷ after_declarator) initialised
  unfolding initialised
  reads_beginning = reads_either (reads_made (reads_lead reads_initialiser (mark p.Equals) refl some_initialiser) Some initialised (λ a k h. h))
      (reads_absent_by None initialised) (punct p.Equals ∷ []) refl refl

  pub reads_declarator : Reads (IsDeclarator n) (IsDeclarator m) (read_declarator n) (read_declarator m) (1 ∷ []) declarator_follow
  reads_declarator = reads_made (reads_both (reads_both (reads_identifier (λ _. punct p.OpenBracket ∷ punct p.OpenParen ∷ after_shape))
      (reads_made (reads_optional reads_shape (punct p.OpenBracket ∷ punct p.OpenParen ∷ []) after_shape refl refl (λ a. refl)) or_plain (λ _. after_shape)
      (λ c k h. h)) (λ a us l. made_of or_plain some_absent) (λ a. refl))
      reads_beginning (λ a us l. some_absent) (λ a. refl)) declarator declarator_follow not_function

  pub some_declarator : Some_of (IsDeclarator n)
  some_declarator = made_of declarator (pair_of (pair_of some_identifier (made_of or_plain some_absent)) some_absent)

  pub reads_declaration : (after : List ℕ)
      → Reads (IsDeclaration n) (IsDeclaration m) (read_declaration n) (read_declaration m) (classes specifier_words ++ word w.Enum ∷ []) (λ _. after)
  reads_declaration after = reads_made (reads_both reads_typed
      (reads_trail (reads_made (reads_optional (reads_listed reads_declarator single snoc (punct p.Semicolon ∷ []) (mark p.Semicolon ∷ []) some_declarator
      (λ a. opened_end a) refl refl refl) (1 ∷ []) (punct p.Semicolon ∷ []) refl refl (λ a. refl)) or_none (λ _. punct p.Semicolon ∷ []) (λ c k h. h))
      (mark p.Semicolon) refl after (λ a. refl))
      (λ a us l. trailed (mark p.Semicolon) (made_of or_none some_absent)) (λ a. refl)) declaration (λ _. after) (λ c k h. h)

  pub some_declaration : Some_of (IsDeclaration n)
  some_declaration = made_of declaration (pair_of some_typed (trailed (mark p.Semicolon) (made_of or_none some_absent)))
