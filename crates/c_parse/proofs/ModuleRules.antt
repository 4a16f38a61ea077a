-- Statements at every height, items and modules are read.
use Rattle.std.proofs.Common.{ℕ, zero, suc, ◌≡◌, ◌<◌, refl, sym, ◌∙◌, ap, subst, Bool, true, false, nat_eq, if◌then◌else◌, List, [], ◌∷◌, ◌++◌, inl, inr, arith}
use Rattle.c_tree.specs.declared.token.Token.{Token}
use Rattle.c_tree.specs.declared.token.Punct.TheVariants as p
use Rattle.c_tree.specs.declared.token.Reserved.TheVariants as w
use Rattle.c_tree.specs.declared.expression.Expr.{Expr}
use Rattle.c_tree.specs.declared.declaration.Declaration.{Declaration}
use Rattle.c_tree.specs.declared.statement.Stmt.{Stmt}
use Rattle.c_parse.specs.Classes.{class, punct, word, look, member}
use Rattle.c_parse.specs.Languages.{Lang, line_if, sign, both, lead, trail}
use Rattle.c_parse.specs.Trees.{block, block_statement, empty, expression, if_only, if_else, switch, while, do_while, for, case, default, break}
use Rattle.c_parse.specs.Trees.{continue, return, closed}
use Rattle.c_parse.specs.Expressions.{Comma, Conditional, IsExpr}
use Rattle.c_parse.specs.Modules.{tree, IsDeclaration, IsStmt}
use Rattle.c_parse.specs.Reading.{Reply, Found, Wrong, Deep, bind, read_sign, read_open, read_both, read_made, read_absent, read_lead, read_trail, read_none}
use Rattle.c_parse.specs.ExpressionReaders.{expr_first, read_expr}
use Rattle.c_parse.specs.ModuleReaders.{read_tree, read_declaration, stmt_first, read_block_over, read_condition, read_guarded, read_keyword, read_if}
use Rattle.c_parse.specs.ModuleReaders.{read_part, read_head, read_stmt_over, read_stmt}
use Rattle.c_parse.proofs.Members.{subset, if_true, if_false}
use Rattle.c_parse.proofs.Readers.{Reads}
use Rattle.c_parse.proofs.Words.{mark, reserved, Some_of, from_sign}
use Rattle.c_parse.proofs.ExpressionRules.{any_expr, above_zero, outside_of, shut_expr, begun_expr, reads_nothing}
use Rattle.c_parse.proofs.DeclarationRules.{trailed, led_by, pair_of, made_of, some_absent}
use Rattle.c_parse.proofs.StatementRules.{behind, EachReply, bind_each, any_each, each_found, some_series, some_sign_of, reads_stmt_over, closed_else}
use Rattle.c_parse.proofs.StatementRules.{closed_switch, closed_while, closed_for, closed_case, closed_default, closed_block, closed_empty}
use Rattle.c_parse.proofs.StatementRules.{closed_expression, closed_do, closed_break, closed_continue, closed_return}

-- a statement with an else behind it is closed
abbrev pub Good : Stmt → List Token → Type 0
Good s r = member (look r) (word w.Else ∷ []) ≡ true → closed s ≡ true

abbrev Free : {A : Type 0} → A → List Token → Type 0
Free a r = Unit {0}

made_good : {A : Type 0} (f : A → Stmt) (x : Reply A) → ((a : A) → closed (f a) ≡ true) → EachReply Good (bind x (λ a r. Found (f a) r))
made_good f x h = bind_each Free Good x (λ a r. Found (f a) r) (any_each x) (λ a r _ _. h a)

module _ (k : ℕ) (e c : List Token → Reply Expr) (d : List Token → Reply Declaration) (st : List Token → Reply Stmt)
    (ih : (ts : List Token) → EachReply Good (st ts)) where
  -- L, and then a statement, which is the last part
  last_good : {A B : Type 0} (f : A × (B × Stmt) → Stmt) → ((x : A × (B × Stmt)) → closed (f x) ≡ closed x.1.1)
      → (o : List Token → Reply A) (g : List Token → Reply B) (ts : List Token) → EachReply Good (read_made f (read_both o (read_both g st)) ts)
  last_good {A} {B} f same o g ts = bind_each (λ x r. Good x.1.1 r) Good (read_both o (read_both g st) ts) (λ x r. Found (f x) r)
      (bind_each Free (λ x r. Good x.1.1 r) (o ts) (λ a r. bind (read_both g st r) (λ b s. Found (a, b) s)) (any_each (o ts)) (λ a r _.
      bind_each (λ y s. Good y.1 s) (λ x r. Good x.1.1 r) (read_both g st r) (λ b s. Found (a, b) s) (pair_good g r) (λ b s h. h)))
      (λ x r h m. same x ∙ h m)
    where
      pair_good : (g : List Token → Reply B) (r : List Token) → EachReply (λ y s. Good y.1 s) (read_both g st r)
      pair_good g r = bind_each Free (λ y s. Good y.1 s) (g r) (λ a s. bind (st s) (λ b t. Found (a, b) t)) (any_each (g r))
          (λ a s _. bind_each Good (λ y s. Good y.1 s) (st s) (λ b t. Found (a, b) t) (ih s) (λ b t h. h))

  default_good : (o : List Token → Reply ℕ) (ts : List Token) → EachReply Good (read_made default (read_both o (read_lead (punct p.Colon) st)) ts)
  default_good o ts = bind_each (λ x r. Good x.1 r) Good (read_both o (read_lead (punct p.Colon) st) ts) (λ x r. Found (default x) r)
      (bind_each Free (λ x r. Good x.1 r) (o ts) (λ a r. bind (read_lead (punct p.Colon) st r) (λ b s. Found (a, b) s)) (any_each (o ts)) (λ a r _.
      bind_each Good (λ x r. Good x.1 r) (read_lead (punct p.Colon) st r) (λ b s. Found (a, b) s) (led (punct p.Colon) r) (λ b s h. h)))
      (λ x r h m. closed_default x ∙ h m)
    where
      led : (j : ℕ) (r : List Token) → EachReply Good (read_lead j st r)
      led j r = bind_each (λ c s. Good c.1 s) Good (read_both (read_sign j) st r) (λ c s. Found c.1 s)
          (bind_each Free (λ c s. Good c.1 s) (read_sign j r) (λ l s. bind (st s) (λ b t. Found (l, b) t)) (any_each (read_sign j r))
          (λ l s _. bind_each Good (λ c s. Good c.1 s) (st s) (λ b t. Found (l, b) t) (ih s) (λ b t h. h))) (λ c s h. h)

  after_if : (a : ℕ × (Expr × Stmt)) (r : List Token) (b : Bool) → member (look r) (word w.Else ∷ []) ≡ b
      → EachReply Good (if b then bind (read_lead (word w.Else) st r) (λ x s. Found (if_else (a, x)) s) else bind (read_absent zero r)
      (λ x s. Found (if_only a) s))
  after_if a r true e = bind_each Good Good (read_lead (word w.Else) st r) (λ x s. Found (if_else (a, x)) s)
      (bind_each (λ c s. Good c.1 s) Good (read_both (read_sign (word w.Else)) st r) (λ c s. Found c.1 s)
      (bind_each Free (λ c s. Good c.1 s) (read_sign (word w.Else) r) (λ l s. bind (st s) (λ b t. Found (l, b) t)) (any_each (read_sign (word w.Else) r))
      (λ l s _. bind_each Good (λ c s. Good c.1 s) (st s) (λ b t. Found (l, b) t) (ih s) (λ b t h. h))) (λ c s h. h))
      (λ x s h m. closed_else (a, x) ∙ h m)
  after_if a r false e = λ m. absurd (let x : true ≡ false = sym m ∙ e in cc)

  if_good : (ts : List Token) → EachReply Good (read_if k e c d st ts)
  if_good ts = bind_each Free Good (read_keyword k e c d st (word w.If) (read_guarded k e c d st) ts) _
      (any_each (read_keyword k e c d st (word w.If) (read_guarded k e c d st) ts)) (λ a r _. after_if a r (member (look r) (word w.Else ∷ [])) refl)

  over_good : (ts : List Token) → EachReply Good (read_stmt_over k e c d st ts)
  over_good ts = chosen (member (look ts) (punct p.OpenBrace ∷ [])) _ _ (made_good block_statement (read_block_over k e c d st ts) closed_block)
      (chosen (member (look ts) (punct p.Semicolon ∷ [])) _ _ (made_good empty (read_sign (punct p.Semicolon) ts) closed_empty)
      (chosen (member (look ts) (word w.If ∷ [])) _ _ (if_good ts)
      (chosen (member (look ts) (word w.Switch ∷ [])) _ _ (last_good switch closed_switch (read_open k (line_if (word w.Switch))) (read_condition k e c d st)
      ts)
      (chosen (member (look ts) (word w.While ∷ [])) _ _ (last_good while closed_while (read_open k (line_if (word w.While))) (read_condition k e c d st) ts)
      (chosen (member (look ts) (word w.Do ∷ [])) _ _ (made_good do_while
      (read_keyword k e c d st (word w.Do) (read_both st (read_lead (word w.While) (read_trail (read_condition k e c d st) (punct p.Semicolon)))) ts)
      closed_do)
      (chosen (member (look ts) (word w.For ∷ [])) _ _ (last_good for closed_for (read_open k (line_if (word w.For)))
      (read_lead (punct p.OpenParen) (read_trail (read_head k e c d st) (punct p.CloseParen))) ts)
      (chosen (member (look ts) (word w.Case ∷ [])) _ _ (last_good case closed_case (read_open k (line_if (word w.Case))) (read_trail c (punct p.Colon)) ts)
      (chosen (member (look ts) (word w.Default ∷ [])) _ _ (default_good (read_open k (line_if (word w.Default))) ts)
      (chosen (member (look ts) (word w.Break ∷ [])) _ _ (made_good break (read_trail (read_sign (word w.Break)) (punct p.Semicolon) ts) closed_break)
      (chosen (member (look ts) (word w.Continue ∷ [])) _ _ (made_good continue (read_trail (read_sign (word w.Continue)) (punct p.Semicolon) ts)
      closed_continue)
      (chosen (member (look ts) (word w.Return ∷ [])) _ _ (made_good return
      (read_both (read_sign (word w.Return)) (read_trail (read_part k e c d st) (punct p.Semicolon)) ts) closed_return)
      (made_good expression (read_trail e (punct p.Semicolon) ts) closed_expression))))))))))))
    where
      chosen : (b : Bool) (x y : Reply Stmt) → EachReply Good x → EachReply Good y → EachReply Good (if b then x else y)
      chosen true x y h g = h
      chosen false x y h g = g

none_good : (ts : List Token) → EachReply Good (read_none stmt_first ts)
none_good ts = go (member (look ts) stmt_first)
  where
    go : (b : Bool) → EachReply Good (if b then Deep ts else Wrong ts)
    go true = tt
    go false = tt

pub stmt_good : (n k : ℕ) (ts : List Token) → EachReply Good (read_stmt n k ts)
stmt_good n zero ts = none_good ts
stmt_good n (suc k) ts = over_good k (read_tree (read_expr k Comma)) (read_tree (read_expr k Conditional)) (read_declaration n) (read_stmt n k) (stmt_good n k)
    ts

-- what begins no statement is refused
shut_stmt : (n k : ℕ) (ts : List Token) → member (look ts) stmt_first ≡ false → read_stmt n k ts ≡ Wrong ts
shut_stmt n zero ts h = if_false _ _ h
shut_stmt n (suc k) ts h =
    if_false _ _ (out (punct p.OpenBrace) refl) ∙ if_false _ _ (out (punct p.Semicolon) refl) ∙ if_false _ _ (out (word w.If) refl) ∙ if_false _ _
    (out (word w.Switch) refl) ∙ if_false _ _ (out (word w.While) refl)
    ∙ if_false _ _ (out (word w.Do) refl) ∙ if_false _ _ (out (word w.For) refl) ∙ if_false _ _ (out (word w.Case) refl) ∙ if_false _ _
    (out (word w.Default) refl) ∙ if_false _ _ (out (word w.Break) refl)
    ∙ if_false _ _ (out (word w.Continue) refl) ∙ if_false _ _ (out (word w.Return) refl)
    ∙ ap wrapped (shut_expr k Comma tt ts (outside_of (look ts) expr_first stmt_first refl h))
  where
    wrapped : Reply (Expr × ℕ) → Reply Stmt
    wrapped x = bind (bind (bind {B = Expr × ℕ} (bind x (λ c r. Found c.0 r)) (λ a r. bind (read_sign (punct p.Semicolon) r) (λ b r'. Found (a, b) r')))
        (λ c r. Found c.0 r)) (λ a r. Found (expression a) r)

    out : (j : ℕ) → subset (j ∷ []) stmt_first ≡ true → member (look ts) (j ∷ []) ≡ false
    out j s = outside_of (look ts) (j ∷ []) stmt_first s h

-- a statement of height 3 at most begins with each token that may begin one
semicolon : (n k : ℕ) → Some_of (IsStmt n (suc k))
semicolon n k = let x = made_of empty (some_sign_of (mark p.Semicolon)) in (x.0, x.1, inr (inl x.2))

pub some_stmt : (n k : ℕ) → nat_eq k 0 ≡ false → Some_of (IsStmt n k)
some_stmt n zero h = absurd (let x : true ≡ false = h in cc)
some_stmt n (suc k) h = semicolon n k

begun : {A : Type 0} {L : Lang A} (u : Token) (j : ℕ) → member (class u) (j ∷ []) ≡ true → Some_of L
    → (x : ℕ × A) × (ws : List Token) × both (sign j) L x (u ∷ ws)
begun u j h x = let s = from_sign j u h in ((s.0, x.0), x.1, (u ∷ [], x.1, refl, s.1, x.2))

abbrev Begun : ℕ → ℕ → Token → Type 0
Begun n k u = (s : Stmt) × (ws : List Token) × IsStmt n k s (u ∷ ws)

module _ (n k : ℕ) (lt : 1 < k) where
  one_expr : Some_of (tree (IsExpr k Comma))
  one_expr = made_of (λ c. c.0) (any_expr k Comma (above_zero 1 k lt))

  one_condition : Some_of (lead (punct p.OpenParen) (trail (tree (IsExpr k Comma)) (punct p.CloseParen)))
  one_condition = led_by (mark p.OpenParen) (trailed (mark p.CloseParen) one_expr)

  one_stmt : Some_of (IsStmt n k)
  one_stmt = some_stmt n k (above_zero 1 k lt)

  begun_stmt_over : (u : Token) → member (class u) stmt_first ≡ true → Begun n (suc k) u
  begun_stmt_over u h = go (member (class u) (punct p.OpenBrace ∷ [])) refl
    where
      at_expr : member (class u) expr_first ≡ true → Begun n (suc k) u
      at_expr e =
          let x = begun_expr k lt Comma tt u e in (
            expression x.0.0,
            x.1 ++ mark p.Semicolon ∷ [],
            inr (inr (inr
                (inr (inr (inr (inr (inr (inr (inr (inr (inr (
                  x.0.0,
                  refl,
                  (
                    (x.0.0, 0),
                    refl,
                    (u ∷ x.1, mark p.Semicolon ∷ [], refl, (x.0, refl, x.2), (mark p.Semicolon, refl, refl)),
                  ),
                )))))))))))),
          )

      at_block : member (class u) (punct p.OpenBrace ∷ []) ≡ true → Begun n (suc k) u
      at_block h = let x = begun u (punct p.OpenBrace) h (trailed (mark p.CloseBrace)
          (pair_of (some_series {L = IsDeclaration n}) (some_series {L = IsStmt n k})))
          in (block_statement (block x.0), x.1, inl (block x.0, refl, (x.0, refl, x.2)))

      at_semi : member (class u) (punct p.Semicolon ∷ []) ≡ true → Begun n (suc k) u
      at_semi h = let x = from_sign (punct p.Semicolon) u h in (empty x.0, [], inr (inl (x.0, refl, x.1)))

      at_if : member (class u) (word w.If ∷ []) ≡ true → Begun n (suc k) u
      at_if h = let x = begun u (word w.If) h (pair_of one_condition one_stmt) in (if_only x.0, x.1, inr (inr (inl (inl (x.0, refl, x.2)))))

      at_switch : member (class u) (word w.Switch ∷ []) ≡ true → Begun n (suc k) u
      at_switch h = let x = begun u (word w.Switch) h (pair_of one_condition one_stmt) in (switch x.0, x.1, inr (inr (inr (inl (x.0, refl, x.2)))))

      at_while : member (class u) (word w.While ∷ []) ≡ true → Begun n (suc k) u
      at_while h = let x = begun u (word w.While) h (pair_of one_condition one_stmt) in (while x.0, x.1, inr (inr (inr (inr (inl (x.0, refl, x.2))))))

      at_do : member (class u) (word w.Do ∷ []) ≡ true → Begun n (suc k) u
      at_do h = let x = begun u (word w.Do) h (pair_of one_stmt (led_by (reserved w.While) (trailed (mark p.Semicolon) one_condition)))
          in (do_while x.0, x.1, inr (inr (inr (inr (inr (inl (x.0, refl, x.2)))))))

      at_for : member (class u) (word w.For ∷ []) ≡ true → Begun n (suc k) u
      at_for h = let x = begun u (word w.For) h (pair_of (led_by (mark p.OpenParen)
          (trailed (mark p.CloseParen) (pair_of (trailed (mark p.Semicolon) (some_absent {L = tree (IsExpr k Comma)}))
          (pair_of (trailed (mark p.Semicolon) (some_absent {L = tree (IsExpr k Comma)})) (some_absent {L = tree (IsExpr k Comma)}))))) one_stmt)
          in (for x.0, x.1, inr (inr (inr (inr (inr (inr (inl (x.0, refl, x.2))))))))

      at_case : member (class u) (word w.Case ∷ []) ≡ true → Begun n (suc k) u
      at_case h = let x = begun u (word w.Case) h (pair_of (trailed (mark p.Colon) (made_of (λ c. c.0) (any_expr k Conditional (above_zero 1 k lt)))) one_stmt)
          in (case x.0, x.1, inr (inr (inr (inr (inr (inr (inr (inl (x.0, refl, x.2)))))))))

      at_default : member (class u) (word w.Default ∷ []) ≡ true → Begun n (suc k) u
      at_default h = let x = begun u (word w.Default) h (led_by (mark p.Colon) one_stmt)
          in (default x.0, x.1, inr (inr (inr (inr (inr (inr (inr (inr (inl (x.0, refl, x.2))))))))))

      at_break : member (class u) (word w.Break ∷ []) ≡ true → Begun n (suc k) u
      at_break h = let x = begun u (word w.Break) h (some_sign_of (mark p.Semicolon))
          in (break x.0.0, x.1, inr (inr (inr (inr (inr (inr (inr (inr (inr (inl (x.0.0, refl, (x.0, refl, x.2))))))))))))

      at_continue : member (class u) (word w.Continue ∷ []) ≡ true → Begun n (suc k) u
      at_continue h = let x = begun u (word w.Continue) h (some_sign_of (mark p.Semicolon))
          in (continue x.0.0, x.1, inr (inr (inr (inr (inr (inr (inr (inr (inr (inr (inl (x.0.0, refl, (x.0, refl, x.2)))))))))))))

      at_return : member (class u) (word w.Return ∷ []) ≡ true → Begun n (suc k) u
      at_return h = let x = begun u (word w.Return) h (trailed (mark p.Semicolon) (some_absent {L = tree (IsExpr k Comma)}))
          in (return x.0, x.1, inr (inr (inr (inr (inr (inr (inr (inr (inr (inr (inr (inl (x.0, refl, x.2)))))))))))))

      rest_of : (x : ℕ) (xs : List ℕ) → member (class u) (x ∷ []) ≡ false → member (class u) (x ∷ xs) ≡ true → member (class u) xs ≡ true
      rest_of x xs a b = step (nat_eq (class u) x) a b
        where
          step : (z : Bool) → (if z then true else false) ≡ false → (if z then true else member (class u) xs) ≡ true → member (class u) xs ≡ true
          step true a b = absurd cc
          step false a b = b

      from_return : (b : Bool) → member (class u) (word w.Return ∷ []) ≡ b → member (class u) (word w.Return ∷ expr_first) ≡ true → Begun n (suc k) u
      from_return true e h = at_return e
      from_return false e h = let rest : member (class u) (expr_first) ≡ true = rest_of (word w.Return) (expr_first) e h in at_expr rest

      from_continue : (b : Bool) → member (class u) (word w.Continue ∷ []) ≡ b → member (class u) (word w.Continue ∷ word w.Return ∷ expr_first) ≡ true
          → Begun n (suc k) u
      from_continue true e h = at_continue e
      from_continue false e h = let rest : member (class u) (word w.Return ∷ expr_first) ≡ true = rest_of (word w.Continue) (word w.Return ∷ expr_first) e h
          in from_return (member (class u) (word w.Return ∷ [])) refl rest

      from_break : (b : Bool) → member (class u) (word w.Break ∷ []) ≡ b → member (class u) (word w.Break ∷ word w.Continue ∷ word w.Return ∷ expr_first) ≡ true
          → Begun n (suc k) u
      from_break true e h = at_break e
      from_break false e h = let rest : member (class u) (word w.Continue ∷ word w.Return ∷ expr_first) ≡ true = rest_of (word w.Break)
          (word w.Continue ∷ word w.Return ∷ expr_first) e h in from_continue (member (class u) (word w.Continue ∷ [])) refl rest

      from_default : (b : Bool) → member (class u) (word w.Default ∷ []) ≡ b
          → member (class u) (word w.Default ∷ word w.Break ∷ word w.Continue ∷ word w.Return ∷ expr_first) ≡ true → Begun n (suc k) u
      from_default true e h = at_default e
      from_default false e h = let rest : member (class u) (word w.Break ∷ word w.Continue ∷ word w.Return ∷ expr_first) ≡ true = rest_of (word w.Default)
          (word w.Break ∷ word w.Continue ∷ word w.Return ∷ expr_first) e h in from_break (member (class u) (word w.Break ∷ [])) refl rest

      from_case : (b : Bool) → member (class u) (word w.Case ∷ []) ≡ b
          → member (class u) (word w.Case ∷ word w.Default ∷ word w.Break ∷ word w.Continue ∷ word w.Return ∷ expr_first) ≡ true → Begun n (suc k) u
      from_case true e h = at_case e
      from_case false e h = let rest : member (class u) (word w.Default ∷ word w.Break ∷ word w.Continue ∷ word w.Return ∷ expr_first) ≡ true = rest_of
          (word w.Case) (word w.Default ∷ word w.Break ∷ word w.Continue ∷ word w.Return ∷ expr_first) e h in from_default
          (member (class u) (word w.Default ∷ [])) refl rest

      from_for : (b : Bool) → member (class u) (word w.For ∷ []) ≡ b
          → member (class u) (word w.For ∷ word w.Case ∷ word w.Default ∷ word w.Break ∷ word w.Continue ∷ word w.Return ∷ expr_first) ≡ true
          → Begun n (suc k) u
      from_for true e h = at_for e
      from_for false e h = let rest : member (class u) (word w.Case ∷ word w.Default ∷ word w.Break ∷ word w.Continue ∷ word w.Return ∷ expr_first) ≡ true =
          rest_of (word w.For) (word w.Case ∷ word w.Default ∷ word w.Break ∷ word w.Continue ∷ word w.Return ∷ expr_first) e h in from_case
          (member (class u) (word w.Case ∷ [])) refl rest

      from_do : (b : Bool) → member (class u) (word w.Do ∷ []) ≡ b
          → member (class u) (word w.Do ∷ word w.For ∷ word w.Case ∷ word w.Default ∷ word w.Break ∷ word w.Continue ∷ word w.Return ∷ expr_first) ≡ true
          → Begun n (suc k) u
      from_do true e h = at_do e
      from_do false e h = let rest : member (class u) (word w.For ∷ word w.Case ∷ word w.Default ∷ word w.Break ∷ word w.Continue ∷ word w.Return ∷ expr_first)
          ≡ true = rest_of (word w.Do) (word w.For ∷ word w.Case ∷ word w.Default ∷ word w.Break ∷ word w.Continue ∷ word w.Return ∷ expr_first) e h in from_for
          (member (class u) (word w.For ∷ [])) refl rest

      from_while : (b : Bool) → member (class u) (word w.While ∷ []) ≡ b
          → member (class u) (word w.While ∷ word w.Do ∷ word w.For ∷ word w.Case ∷ word w.Default ∷ word w.Break ∷ word w.Continue ∷ word w.Return ∷
          expr_first) ≡ true → Begun n (suc k) u
      from_while true e h = at_while e
      from_while false e h = let rest : member (class u) (word w.Do ∷ word w.For ∷ word w.Case ∷ word w.Default ∷ word w.Break ∷ word w.Continue ∷ word w.Return
          ∷ expr_first) ≡ true = rest_of (word w.While) (word w.Do ∷ word w.For ∷ word w.Case ∷ word w.Default ∷ word w.Break ∷ word w.Continue ∷ word w.Return
          ∷ expr_first) e h in from_do (member (class u) (word w.Do ∷ [])) refl rest

      from_switch : (b : Bool) → member (class u) (word w.Switch ∷ []) ≡ b
          → member (class u) (word w.Switch ∷ word w.While ∷ word w.Do ∷ word w.For ∷ word w.Case ∷ word w.Default ∷ word w.Break ∷ word w.Continue ∷ word
          w.Return ∷ expr_first) ≡ true → Begun n (suc k) u
      from_switch true e h = at_switch e
      from_switch false e h = let rest : member (class u) (word w.While ∷ word w.Do ∷ word w.For ∷ word w.Case ∷ word w.Default ∷ word w.Break ∷ word w.Continue
          ∷ word w.Return ∷ expr_first) ≡ true = rest_of (word w.Switch)
          (word w.While ∷ word w.Do ∷ word w.For ∷ word w.Case ∷ word w.Default ∷ word w.Break ∷ word w.Continue ∷ word w.Return ∷ expr_first) e h in from_while
          (member (class u) (word w.While ∷ [])) refl rest

      from_if : (b : Bool) → member (class u) (word w.If ∷ []) ≡ b
          → member (class u) (word w.If ∷ word w.Switch ∷ word w.While ∷ word w.Do ∷ word w.For ∷ word w.Case ∷ word w.Default ∷ word w.Break ∷ word w.Continue
          ∷ word w.Return ∷ expr_first) ≡ true → Begun n (suc k) u
      from_if true e h = at_if e
      from_if false e h = let rest : member (class u) (word w.Switch ∷ word w.While ∷ word w.Do ∷ word w.For ∷ word w.Case ∷ word w.Default ∷ word w.Break ∷
          word w.Continue ∷ word w.Return ∷ expr_first) ≡ true = rest_of (word w.If)
          (word w.Switch ∷ word w.While ∷ word w.Do ∷ word w.For ∷ word w.Case ∷ word w.Default ∷ word w.Break ∷ word w.Continue ∷ word w.Return ∷ expr_first) e
          h in from_switch (member (class u) (word w.Switch ∷ [])) refl rest

      from_semi : (b : Bool) → member (class u) (punct p.Semicolon ∷ []) ≡ b
          → member (class u) (punct p.Semicolon ∷ word w.If ∷ word w.Switch ∷ word w.While ∷ word w.Do ∷ word w.For ∷ word w.Case ∷ word w.Default ∷ word
          w.Break ∷ word w.Continue ∷ word w.Return ∷ expr_first) ≡ true → Begun n (suc k) u
      from_semi true e h = at_semi e
      from_semi false e h = let rest : member (class u) (word w.If ∷ word w.Switch ∷ word w.While ∷ word w.Do ∷ word w.For ∷ word w.Case ∷ word w.Default ∷ word
          w.Break ∷ word w.Continue ∷ word w.Return ∷ expr_first) ≡ true = rest_of (punct p.Semicolon)
          (word w.If ∷ word w.Switch ∷ word w.While ∷ word w.Do ∷ word w.For ∷ word w.Case ∷ word w.Default ∷ word w.Break ∷ word w.Continue ∷ word w.Return ∷
          expr_first) e h in from_if (member (class u) (word w.If ∷ [])) refl rest

      from_block : (b : Bool) → member (class u) (punct p.OpenBrace ∷ []) ≡ b
          → member (class u) (punct p.OpenBrace ∷ punct p.Semicolon ∷ word w.If ∷ word w.Switch ∷ word w.While ∷ word w.Do ∷ word w.For ∷ word w.Case ∷ word
          w.Default ∷ word w.Break ∷ word w.Continue ∷ word w.Return ∷ expr_first) ≡ true → Begun n (suc k) u
      from_block true e h = at_block e
      from_block false e h = let rest : member (class u) (punct p.Semicolon ∷ word w.If ∷ word w.Switch ∷ word w.While ∷ word w.Do ∷ word w.For ∷ word w.Case ∷
          word w.Default ∷ word w.Break ∷ word w.Continue ∷ word w.Return ∷ expr_first) ≡ true = rest_of (punct p.OpenBrace)
          (punct p.Semicolon ∷ word w.If ∷ word w.Switch ∷ word w.While ∷ word w.Do ∷ word w.For ∷ word w.Case ∷ word w.Default ∷ word w.Break ∷ word w.Continue
          ∷ word w.Return ∷ expr_first) e h in from_semi (member (class u) (punct p.Semicolon ∷ [])) refl rest

      go : (b : Bool) → member (class u) (punct p.OpenBrace ∷ []) ≡ b → Begun n (suc k) u
      go b e = from_block b e h

pub reads_stmt : (n m : ℕ) → suc n < m → nat_eq n 0 ≡ false → (k j : ℕ) → suc (suc k) < j
    → Reads (IsStmt n k) (IsStmt m j) (read_stmt n k) (read_stmt m j) stmt_first behind
reads_stmt n m lt some k zero lk = absurd (omega (arith, lk))
reads_stmt n m lt some zero (suc j) lk = reads_nothing (IsStmt n zero) (IsStmt m (suc j)) (read_stmt n zero) (read_stmt m (suc j)) stmt_first behind
    (λ a us l. l) (λ ts h. if_true _ _ h) (λ ts h. if_false _ _ h) (λ ts h. shut_stmt m (suc j) ts h) refl
    (λ u h. begun_stmt_over m j (omega (arith, lk)) u h) (some_stmt m (suc j) (above_zero 0 (suc j) (omega arith)))
reads_stmt n m lt some (suc k) (suc j) lk = reads_stmt_over n m lt some k j (omega (arith, lk)) (reads_stmt n m lt some k j (omega (arith, lk)))
    (λ e s us l. subst (λ z. IsStmt n z s us) e l) (some_stmt n k) (λ ts s r h. each_found (λ s r. Good s r) (read_stmt n k ts) s r h (stmt_good n k ts))
