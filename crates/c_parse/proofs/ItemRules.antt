-- Items and modules are read.
use Rattle.std.proofs.Common.{ℕ, zero, suc, ◌≡◌, ◌<◌, refl, sym, ◌∙◌, ap, subst, Bool, true, false, nat_eq, if◌then◌else◌, List, [], ◌∷◌, ◌++◌}
use Rattle.std.proofs.Common.{append_assoc, append-nil, inl, inr, Option, Some, None, arith}
use Rattle.c_tree.specs.declared.token.Token.{Token}
use Rattle.c_tree.specs.declared.token.Punct.TheVariants as p
use Rattle.c_tree.specs.declared.token.Reserved.TheVariants as w
use Rattle.c_tree.specs.declared.token.Header.TheVariants.{Stdio}
use Rattle.c_tree.specs.declared.token.TokenKind.TheVariants as kinds
use Rattle.c_tree.specs.declared.expression.Identifier.{Identifier}
use Rattle.c_tree.specs.declared.declaration.Item.{Item}
use Rattle.c_tree.specs.declared.declaration.Item.TheVariants as items
use Rattle.c_tree.specs.declared.declaration.Declarator.{Declarator}
use Rattle.c_tree.specs.declared.declaration.Shape.{Shape}
use Rattle.c_tree.specs.declared.declaration.Shape.TheVariants as shapes
use Rattle.c_tree.specs.declared.declaration.Parameter.{Parameter}
use Rattle.c_tree.specs.declared.declaration.Initialiser.{Initialiser}
use Rattle.c_parse.specs.Classes.{punct, word, member, classes}
use Rattle.c_parse.specs.Languages.{Lang, sign, among, both, either, made, such, absent, optional, lead, trail, built, many, from_left}
use Rattle.c_parse.specs.Trees.{snoc, or_none, or_plain, declarator, declaration, include, module_of}
use Rattle.c_parse.specs.Expressions.{specifier_words, identifier, parenthesised}
use Rattle.c_parse.specs.Modules.{listed, headers, IsTyped, IsParameters, IsShape, IsInitialiser, IsDeclarator, IsStmt, IsBlock, IsItem, IsModule}
use Rattle.c_parse.specs.ModuleReaders.{Rest, Declares, Defines, item_with, item_of, is_function, plain_function, shape_parameters, read_block}
use Rattle.c_parse.specs.ModuleReaders.{read_others, read_declared, read_item_rest, read_item, item_first, read_module}
use Rattle.c_parse.proofs.Members.{subset, if_true, member-subset}
use Rattle.c_parse.proofs.Readers.{Reads, reads_as, reads_made, reads_both, reads_either, reads_absent}
use Rattle.c_parse.proofs.Rows.{reads_built}
use Rattle.c_parse.proofs.Forks.{reads_fork}
use Rattle.c_parse.proofs.Words.{token, mark, Some_of, reads_sign, reads_among, reads_lead, reads_trail}
use Rattle.c_parse.proofs.DeclarationRules.{trailed, declarator_follow, comma_or_end, reads_typed, reads_declarator, some_declarator}
use Rattle.c_parse.proofs.StatementRules.{reads_block_over, reads_series}
use Rattle.c_parse.proofs.ModuleRules.{reads_stmt, some_stmt, stmt_good, Good}
use Rattle.c_parse.proofs.StatementRules.{each_found}

pub reads_block : (n m : ℕ) → suc n < m → nat_eq n 0 ≡ false → (k j : ℕ) → suc (suc k) < j → nat_eq k 0 ≡ false → (after : List ℕ)
    → Reads (IsBlock n k) (IsBlock m j) (read_block n k) (read_block m j) (punct p.OpenBrace ∷ []) (λ _. after)
reads_block n m lt some zero j lk pos after = absurd (let x : true ≡ false = pos in cc)
reads_block n m lt some (suc k) zero lk pos after = absurd (omega (arith, lk))
reads_block n m lt some (suc k) (suc j) lk pos after = reads_block_over n m lt some k j (omega (arith, lk)) (reads_stmt n m lt some k j (omega (arith, lk)))
    (λ e s us l. subst (λ z. IsStmt n z s us) e l) (some_stmt n k) (λ ts s r h. each_found (λ s r. Good s r) _ s r h (stmt_good n k ts)) after

-- what a function's name and parameters are spelled by
module _ (n : ℕ) where
  abbrev HeadL : Lang (Identifier × List Parameter)
  HeadL = both identifier (parenthesised (IsParameters n))

  no_function : (s : Shape) (i : Initialiser) → plain_function s (Some i) ≡ true → ⊥
  no_function shapes.Plain i h = let x : false ≡ true = h in cc
  no_function (shapes.Array l) i h = let x : false ≡ true = h in cc
  no_function (shapes.Function ps) i h = let x : false ≡ true = h in cc

  declared_function : (d : Declarator) (us : List Token) → IsDeclarator n d us → is_function d ≡ true → HeadL (d.name, shape_parameters d.shape) us
  declared_function d us (((x, s), i), e, (us1, us2, e2, (vs1, vs2, e3, id, (o, e4, q)), init)) h = go i init (subst (λ z. is_function z ≡ true) e h)
    where
      shaped : (o : Option Shape) → s ≡ or_plain o → optional (IsShape n) o vs2 → plain_function s None ≡ true
          → both identifier (parenthesised (IsParameters n)) (x, shape_parameters s) us1
      shaped o e4 (inl (sh, e5, inl (l, e6, arr))) h = absurd (let k : false ≡ true = subst (λ z. plain_function z None ≡ true) (e4 ∙ ap or_plain e5 ∙ e6) h
          in cc)
      shaped o e4 (inl (sh, e5, inr (ps, e6, par))) h = (
        vs1,
        vs2,
        e3,
        id,
        subst (λ z. parenthesised (IsParameters n) (shape_parameters z) vs2)
            (sym (e4 ∙ ap or_plain e5 ∙ e6)) par,
      )
      shaped o e4 (inr k) h = absurd (let k2 : false ≡ true = subst (λ z. plain_function z None ≡ true) (e4 ∙ ap or_plain k.0) h in cc)

      go : (i : Option Initialiser) → optional (lead (punct p.Equals) (IsInitialiser n)) i us2 → is_function (declarator ((x, s), i)) ≡ true
          → HeadL (d.name, shape_parameters d.shape) us
      go (Some j) init h = absurd (no_function s j h)
      go None (inl (j, e5, l)) h = absurd (let k : None ≡ Some j = e5 in cc)
      go None (inr k) h = subst (λ z. HeadL (z.name, shape_parameters z.shape) us) (sym e)
          (subst (HeadL (x, shape_parameters s)) (sym (e2 ∙ ap (λ z. us1 ++ z) k.1 ∙ append-nil us1)) (shaped o e4 q h))

  function_declared : (c : Identifier × List Parameter) (us : List Token) → HeadL c us
      → such is_function (IsDeclarator n) (declarator ((c.0, shapes.Function c.1), None)) us
  function_declared c us (us1, us2, e, id, par) = (
    refl,
    (
      ((c.0, shapes.Function c.1), None),
      refl,
      (
        us,
        [],
        sym (append-nil us),
        (us1, us2, e, id, (Some (shapes.Function c.1), refl, inl (shapes.Function c.1, refl, inr (c.1, refl, par)))),
        inr
            (refl, refl),
      ),
    ),
  )

  -- an item as it is read: what stands behind the specifiers decides
  abbrev OthersL : Lang (List Declarator)
  OthersL = trail (built snoc (absent []) (lead (punct p.Comma) (IsDeclarator n))) (punct p.Semicolon)

  abbrev DeclaredL : Lang Rest
  DeclaredL = either (made (λ c. Defines c.0 c.1) (both (such is_function (IsDeclarator n)) (IsBlock n n)))
      (made (λ c. Declares (c.0 ∷ c.1)) (both (IsDeclarator n) OthersL))

  abbrev RestL : Lang Rest
  RestL = either (made (λ l. Declares []) (sign (punct p.Semicolon))) DeclaredL

  abbrev ItemL : Lang Item
  ItemL = either (made include (among headers)) (made item_of (both (IsTyped n) RestL))

cons_snoc : {A : Type 0} (d : A) (xs ys : List A) → d ∷ from_left snoc xs ys ≡ from_left snoc (d ∷ xs) ys
cons_snoc d xs [] = refl
cons_snoc d xs (y ∷ ys) = cons_snoc d (xs ++ y ∷ []) ys

module _ (n : ℕ) where
  others_listed : (d : Declarator) (ds : List Declarator) (us vs : List Token) → IsDeclarator n d us
      → built snoc (absent []) (lead (punct p.Comma) (IsDeclarator n)) ds vs → listed (IsDeclarator n) (d ∷ ds) (us ++ vs)
  others_listed d ds us vs l ((x, ys), e, (vs1, vs2, e2, a, m)) = (
    (d ∷ [], ys),
    ap (λ z. d ∷ z) (e ∙ ap (λ z. from_left snoc z ys) a.0) ∙ cons_snoc d [] ys,
    (us, vs, refl, (d, refl, l), subst (many (lead (punct p.Comma) (IsDeclarator n)) ys) (sym (e2 ∙ ap (λ z. z ++ vs2) a.1)) m),
  )

  listed_others : (ds : List Declarator) (us : List Token) → listed (IsDeclarator n) ds us
      → (d : Declarator) × (es : List Declarator) × (us1 : List Token) × (us2 : List Token) × (ds ≡ d ∷ es) × (us ≡ us1 ++ us2) × IsDeclarator n d us1 × built
      snoc (absent []) (lead (punct p.Comma) (IsDeclarator n)) es us2
  listed_others ds us ((x, ys), e, (us1, us2, e2, (d, e3, l), m)) = (
    d,
    from_left snoc [] ys,
    us1,
    us2,
    e ∙ ap (λ z. from_left snoc z ys) e3 ∙ sym (cons_snoc d [] ys),
    e2,
    l,
    (([], ys), refl, ([], us2, refl, (refl, refl), m)),
  )

  item_to : (i : Item) (us : List Token) → ItemL n i us → IsItem n i us
  item_to i us (inl l) = inl l
  item_to i us (inr ((s, r), e, (us1, us2, e2, t, inl (l, e3, k)))) = inr
      (inl (
        declaration (s, []),
        e ∙ ap (item_with s) e3,
        (
          (s, []),
          refl,
          (us1, us2, e2, t, (([], l), refl, (([]), us2, refl, (None, refl, inr (refl, refl)), k))),
        ),
      ))
  item_to i us (inr ((s, r), e, (us1, us2, e2, t, inr (inl ((d, b), e3, (vs1, vs2, e4, fd, bl)))))) = inr
      (inr (
        (((s, (d.name, shape_parameters d.shape)), b)),
        e ∙ ap (item_with s) e3,
        (us1 ++ vs1, vs2, e2 ∙ ap (λ z. us1 ++ z) e4 ∙ sym (append_assoc us1 vs1 vs2), (us1, vs1, refl, t, declared_function n d vs1 fd.1 fd.0), bl),
      ))
  item_to i us (inr ((s, r), e, (us1, us2, e2, t, inr (inr ((d, ds), e3, (vs1, vs2, e4, ld, ((es, sc), e5, (ws1, ws2, e6, bo, sg)))))))) =
      inr (inl (
        declaration (s, d ∷ es),
        e ∙ ap (item_with s) (e3 ∙ ap (λ z. Declares (d ∷ z)) e5),
        (
          (s, d ∷ es),
          refl,
          (
            us1,
            us2,
            e2,
            t,
            (
              (d ∷ es, sc),
              refl,
              (
                vs1 ++ ws1,
                ws2,
                e4 ∙ ap (λ z. vs1 ++ z) e6 ∙ sym (append_assoc vs1 ws1 ws2),
                (Some (d ∷ es), refl, inl (d ∷ es, refl, others_listed d es vs1 ws1 ld bo)),
                sg,
              ),
            ),
          ),
        ),
      ))

  item_from : (i : Item) (us : List Token) → IsItem n i us → ItemL n i us
  item_from i us (inl l) = inl l
  item_from i us (inr (inr ((((s, h), b)), e, (us12, vs2, e2, (us1, vs1, e3, t, hd), bl)))) = inr (
    (s, Defines (declarator ((h.0, shapes.Function h.1), None)) b),
    e,
    (
      us1,
      vs1 ++ vs2,
      e2 ∙ ap (λ z. z ++ vs2) e3 ∙ append_assoc us1 vs1 vs2,
      t,
      inr
          (inl ((declarator ((h.0, shapes.Function h.1), None), b), refl, (vs1, vs2, refl, function_declared n h vs1 hd, bl))),
    ),
  )
  item_from i us (inr (inl (d, e, ((s, ds), e2, (us1, us2, e3, t, ((xs, sc), e4, (vs1, vs2, e5, (o, e6, l), sg))))))) = go o e6 l
    where
      whole : i ≡ items.Declaration (declaration (s, xs))
      whole = e ∙ ap items.Declaration (e2 ∙ ap (λ z. declaration (s, z)) e4)

      go : (o : Option (List Declarator)) → xs ≡ or_none o → optional (listed (IsDeclarator n)) o vs1 → ItemL n i us
      go o e6 (inr k) = inr (
        (s, Declares []),
        whole ∙ ap (λ z. items.Declaration (declaration (s, z))) (e6 ∙ ap or_none k.0),
        (us1, us2, e3, t, inl (sc, refl, subst (sign (punct p.Semicolon) sc) (sym (e5 ∙ ap (λ z. z ++ vs2) k.1)) sg)),
      )
      go o e6 (inl (ys, e7, ls)) =
          let x = listed_others ys vs1 ls in
          inr (
            (s, Declares (x.0 ∷ x.1)),
            whole ∙ ap (λ z. items.Declaration (declaration (s, z))) (e6 ∙ ap or_none e7 ∙ x.4),
            (
              us1,
              us2,
              e3,
              t,
              inr (inr (
                (x.0, x.1),
                refl,
                (
                  x.2,
                  x.3 ++ vs2,
                  e5 ∙ ap (λ z. z ++ vs2) x.5 ∙ append_assoc x.2 x.3 vs2,
                  x.6,
                  ((x.1, sc), refl, (x.3, vs2, refl, x.7, sg)),
                ),
              )),
            ),
          )

-- what may stand behind an item: another one, or the end
abbrev after_item : List ℕ
after_item = item_first ++ 0 ∷ []

-- at heights n and m
module _ (n m : ℕ) (lt : suc (suc n) < m) (pos : nat_eq n 0 ≡ false) where
  less : suc n < m
  less = omega (arith, lt)

  opens_body : (b : Bool) → b ≡ true
      → subset (punct p.OpenBrace ∷ []) (if b then punct p.OpenBrace ∷ punct p.Comma ∷ punct p.Semicolon ∷ [] else punct p.Comma ∷ punct p.Semicolon ∷ []) ≡
      true
  opens_body true h = refl
  opens_body false h = absurd cc

  goes_on : (d : Declarator) → subset (punct p.Comma ∷ punct p.Semicolon ∷ []) (declarator_follow d) ≡ true
  goes_on d = comma_or_end (is_function d)

  opens_on : (d : Declarator) → is_function d ≡ true → subset (punct p.OpenBrace ∷ []) (declarator_follow d) ≡ true
  opens_on d h = opens_body (is_function d) h

  one_comma : (d : Declarator) → subset (punct p.Comma ∷ []) (declarator_follow d) ≡ true
  one_comma d = subset_part (goes_on d)
    where
      subset_part : subset (punct p.Comma ∷ punct p.Semicolon ∷ []) (declarator_follow d) ≡ true → subset (punct p.Comma ∷ []) (declarator_follow d) ≡ true
      subset_part h = if_true _ _ (member-subset (punct p.Comma) (punct p.Comma ∷ punct p.Semicolon ∷ []) (declarator_follow d) h refl)

  one_end : (d : Declarator) → subset (punct p.Semicolon ∷ []) (declarator_follow d) ≡ true
  one_end d = if_true _ _ (member-subset (punct p.Semicolon) (punct p.Comma ∷ punct p.Semicolon ∷ []) (declarator_follow d) (goes_on d) refl)

  ends_in : (d : Declarator) → member (punct p.Semicolon) (declarator_follow d) ≡ true
  ends_in d = member-subset (punct p.Semicolon) (punct p.Comma ∷ punct p.Semicolon ∷ []) (declarator_follow d) (goes_on d) refl

  reads_others : Reads (OthersL n) (OthersL m) (read_others n) (read_others m) (punct p.Comma ∷ punct p.Semicolon ∷ []) (λ _. after_item)
  reads_others = reads_trail (reads_built (reads_absent [] (punct p.Comma ∷ punct p.Semicolon ∷ []))
      (reads_lead (reads_declarator n m less pos) (mark p.Comma) refl (some_declarator n m less pos)) (punct p.Comma ∷ []) snoc (punct p.Semicolon ∷ [])
      (mark p.Semicolon ∷ []) refl (λ a. refl) (λ a. refl) one_comma one_end refl refl ends_in refl)
      (mark p.Semicolon) refl after_item (λ a. refl)

  some_others : Some_of (OthersL n)
  some_others = trailed (mark p.Semicolon) ([], [], (([], []), refl, ([], [], refl, (refl, refl), refl)))

  reads_declared : Reads (DeclaredL n) (DeclaredL m) (read_declared n) (read_declared m) (1 ∷ []) (λ _. after_item)
  reads_declared = reads_fork (reads_declarator n m less pos) (λ a us l. reads_block n m less pos n m lt pos after_item) reads_others is_function is_function
      (punct p.OpenBrace ∷ []) Defines (λ d ds. Declares (d ∷ ds)) (λ _. after_item)
      refl refl opens_on goes_on (λ a b k h. h) (λ a c k h. h) (λ a h. h) (λ ts a r h t o. t) (λ a us l. some_others)

  reads_rest : Reads (RestL n) (RestL m) (read_item_rest n) (read_item_rest m) (punct p.Semicolon ∷ 1 ∷ []) (λ _. after_item)
  reads_rest = reads_either (reads_made (reads_sign (mark p.Semicolon) refl (λ _. after_item)) (λ l. Declares []) (λ _. after_item) (λ a k h. h)) reads_declared
      (punct p.Semicolon ∷ []) refl refl

  reads_item : Reads (IsItem n) (IsItem m) (read_item n) (read_item m) (classes headers ++ classes specifier_words ++ word w.Enum ∷ []) (λ _. after_item)
  reads_item = reads_as (item_to n) (item_from n) (item_to m)
      (reads_either (reads_made (reads_among headers refl (token (kinds.Include Stdio)) refl (λ _. after_item)) include (λ _. after_item) (λ a k h. h))
      (reads_made (reads_both (reads_typed n m less pos) reads_rest
      (λ a us l. (Declares [], mark p.Semicolon ∷ [], inl (0, refl, (mark p.Semicolon, refl, refl)))) (λ a. refl)) item_of (λ _. after_item) (λ a k h. h))
      (classes headers) refl refl)

  pub reads_module : Reads (IsModule n) (IsModule m) (read_module n) (read_module m) (item_first ++ 0 ∷ []) (λ _. 0 ∷ [])
  reads_module = reads_made (reads_series reads_item item_first (0 ∷ []) [] refl (λ a. refl) (λ a. refl) refl refl (λ a. refl) refl) module_of (λ _. 0 ∷ [])
      (λ a k h. h)
