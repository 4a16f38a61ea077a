-- The rules of statements are read.
use Rattle.std.proofs.Common.{ℕ, zero, suc, ◌≡◌, ◌<◌, refl, sym, ◌∙◌, ap, subst, Bool, true, false, nat_eq, if◌then◌else◌, List, [], ◌∷◌, ◌++◌}
use Rattle.std.proofs.Common.{append-nil, inl, inr, Option}
use Rattle.c_tree.specs.declared.token.Token.{Token}
use Rattle.c_tree.specs.declared.token.Punct.TheVariants as p
use Rattle.c_tree.specs.declared.token.Reserved.{Reserved}
use Rattle.c_tree.specs.declared.token.Reserved.TheVariants as w
use Rattle.c_tree.specs.declared.expression.Expr.{Expr}
use Rattle.c_tree.specs.declared.declaration.Declaration.{Declaration}
use Rattle.c_tree.specs.declared.statement.Block.{Block}
use Rattle.c_tree.specs.declared.statement.Stmt.{Stmt, fold-roll-Stmt}
use Rattle.c_tree.specs.declared.statement.Stmt.TheOpen.{Stmt-F}
use Rattle.c_parse.specs.Classes.{class, punct, word, look, member}
use Rattle.c_parse.specs.Languages.{Lang, line_if, sign, both, either, made, such, absent, optional, lead, trail}
use Rattle.c_parse.specs.Trees.{snoc, block, block_statement, empty, expression, if_only, if_else, switch, while, do_while, for, case, default, break}
use Rattle.c_parse.specs.Trees.{continue, return, closed_layer, closed}
use Rattle.c_parse.specs.Expressions.{Comma, Conditional, IsExpr}
use Rattle.c_parse.specs.Modules.{series, tree, IsDeclaration, IsBlockOver, IsGuarded, IsHead, IsStmt}
use Rattle.c_parse.specs.Reading.{Reply, Found, Wrong, Deep, bind, read_sign, read_open, read_both, read_made, read_lead, read_trail, always}
use Rattle.c_parse.specs.ExpressionReaders.{expr_first, specifier_first, read_expr}
use Rattle.c_parse.specs.ModuleReaders.{read_tree, read_series, read_declaration, stmt_first, read_block_over, read_condition, read_guarded, read_if}
use Rattle.c_parse.specs.ModuleReaders.{read_part, read_head, read_stmt}
use Rattle.c_parse.proofs.Members.{subset, apart, member-subset, sign_exact}
use Rattle.c_parse.proofs.Readers.{Reads, reads_as, reads_opened, reads_made, reads_both, reads_either, reads_absent}
use Rattle.c_parse.proofs.Rows.{reads_built}
use Rattle.c_parse.proofs.Forks.{reads_fork}
use Rattle.c_parse.proofs.Words.{subset_self, subset_left, subset_right, mark, reserved, Some_of, has_line, some_sign, reads_sign, reads_lead}
use Rattle.c_parse.proofs.Words.{reads_trail, reads_optional}
use Rattle.c_parse.proofs.ExpressionRules.{after_comma, after_conditional, any_expr, above_zero, not_zero}
use Rattle.c_parse.proofs.Ranks.{reads_expr}
use Rattle.c_parse.proofs.DeclarationRules.{trailed, led_by, pair_of, made_of, some_absent, reads_declaration}

abbrev pub after_stmt : List ℕ
after_stmt = punct p.CloseBrace ∷ stmt_first

abbrev pub after_all : List ℕ
after_all = word w.Else ∷ after_stmt

abbrev pub behind_of : Bool → List ℕ
behind_of b = if b then after_all else after_stmt

-- an else may stand behind a closed statement only
abbrev pub behind : Stmt → List ℕ
behind s = behind_of (closed s)

within_all : (b : Bool) (k : ℕ) → member k (behind_of b) ≡ true → member k after_all ≡ true
within_all true k h = h
within_all false k h = member-subset k after_stmt after_all (subset_right (word w.Else ∷ []) after_stmt) h

first_behind : (b : Bool) → subset stmt_first (behind_of b) ≡ true
first_behind true = refl
first_behind false = refl

end_behind : (b : Bool) → subset (punct p.CloseBrace ∷ []) (behind_of b) ≡ true
end_behind true = refl
end_behind false = refl

end_in : (b : Bool) → member (punct p.CloseBrace) (behind_of b) ≡ true
end_in true = refl
end_in false = refl

stmt_behind : (b : Bool) → subset after_stmt (behind_of b) ≡ true
stmt_behind true = subset_right (word w.Else ∷ []) after_stmt
stmt_behind false = subset_self after_stmt

else_behind : (b : Bool) → b ≡ true → subset (word w.Else ∷ []) (behind_of b) ≡ true
else_behind true h = refl
else_behind false h = absurd cc

while_behind : (b : Bool) → subset (word w.While ∷ []) (behind_of b) ≡ true
while_behind true = refl
while_behind false = refl

-- which statements are closed
pub closed_if : (c : ℕ × (Expr × Stmt)) → closed (if_only c) ≡ false
closed_if c = fold-roll-Stmt Bool Bool closed_layer (λ b. true) (Stmt-F.If c.0 c.1.0 c.1.1)

pub closed_else : (c : (ℕ × (Expr × Stmt)) × Stmt) → closed (if_else c) ≡ closed c.1
closed_else c = fold-roll-Stmt Bool Bool closed_layer (λ b. true) (Stmt-F.IfElse c.0.0 c.0.1.0 c.0.1.1 c.1)

pub closed_switch : (c : ℕ × (Expr × Stmt)) → closed (switch c) ≡ closed c.1.1
closed_switch c = fold-roll-Stmt Bool Bool closed_layer (λ b. true) (Stmt-F.Switch c.0 c.1.0 c.1.1)

pub closed_while : (c : ℕ × (Expr × Stmt)) → closed (while c) ≡ closed c.1.1
closed_while c = fold-roll-Stmt Bool Bool closed_layer (λ b. true) (Stmt-F.While c.0 c.1.0 c.1.1)

pub closed_for : (c : ℕ × ((Option Expr × (Option Expr × Option Expr)) × Stmt)) → closed (for c) ≡ closed c.1.1
closed_for c = fold-roll-Stmt Bool Bool closed_layer (λ b. true) (Stmt-F.For c.0 c.1.0.0 c.1.0.1.0 c.1.0.1.1 c.1.1)

pub closed_case : (c : ℕ × (Expr × Stmt)) → closed (case c) ≡ closed c.1.1
closed_case c = fold-roll-Stmt Bool Bool closed_layer (λ b. true) (Stmt-F.Case c.0 c.1.0 c.1.1)

pub closed_default : (c : ℕ × Stmt) → closed (default c) ≡ closed c.1
closed_default c = fold-roll-Stmt Bool Bool closed_layer (λ b. true) (Stmt-F.Default c.0 c.1)

pub closed_block : (b : Block) → closed (block_statement b) ≡ true
closed_block b = fold-roll-Stmt Bool Bool closed_layer (λ b. true) (Stmt-F.Block b)

pub closed_empty : (l : ℕ) → closed (empty l) ≡ true
closed_empty l = fold-roll-Stmt Bool Bool closed_layer (λ b. true) (Stmt-F.Empty l)

pub closed_expression : (e : Expr) → closed (expression e) ≡ true
closed_expression e = fold-roll-Stmt Bool Bool closed_layer (λ b. true) (Stmt-F.Expression e)

pub closed_do : (c : ℕ × (Stmt × Expr)) → closed (do_while c) ≡ true
closed_do c = fold-roll-Stmt Bool Bool closed_layer (λ b. true) (Stmt-F.Do c.0 c.1.0 c.1.1)

pub closed_break : (l : ℕ) → closed (break l) ≡ true
closed_break l = fold-roll-Stmt Bool Bool closed_layer (λ b. true) (Stmt-F.Break l)

pub closed_continue : (l : ℕ) → closed (continue l) ≡ true
closed_continue l = fold-roll-Stmt Bool Bool closed_layer (λ b. true) (Stmt-F.Continue l)

pub closed_return : (c : ℕ × Option Expr) → closed (return c) ≡ true
closed_return c = fold-roll-Stmt Bool Bool closed_layer (λ b. true) (Stmt-F.Return c.0 c.1)

-- P of what is found
abbrev pub EachReply : {A : Type 0} → (A → List Token → Type 0) → Reply A → Type 0
EachReply P (Found a r) = P a r
EachReply P (Wrong r) = Unit {0}
EachReply P (Deep r) = Unit {0}

pub bind_each : {A B : Type 0} (P : A → List Token → Type 0) (Q : B → List Token → Type 0) (x : Reply A) (k : A → List Token → Reply B) → EachReply P x
    → ((a : A) (r : List Token) → P a r → EachReply Q (k a r)) → EachReply Q (bind x k)
bind_each P Q (Found a r) k h f = f a r h
bind_each P Q (Wrong r) k h f = tt
bind_each P Q (Deep r) k h f = tt

pub any_each : {A : Type 0} (x : Reply A) → EachReply (λ a r. Unit {0}) x
any_each (Found a r) = tt
any_each (Wrong r) = tt
any_each (Deep r) = tt

pub each_found : {A : Type 0} (P : A → List Token → Type 0) (x : Reply A) (a : A) (r : List Token) → x ≡ Found a r → EachReply P x → P a r
each_found P x a r e h = subst (EachReply P) e h

pub found_each : {A : Type 0} (P : A → List Token → Type 0) (x : Reply A) → ((a : A) (r : List Token) → x ≡ Found a r → P a r) → EachReply P x
found_each P (Found a r) f = f a r refl
found_each P (Wrong r) f = tt
found_each P (Deep r) f = tt

-- the value's follow, where its statement is its last part
same_behind : (a b : Bool) (k : ℕ) → a ≡ b → member k (behind_of a) ≡ true → member k (behind_of b) ≡ true
same_behind a b k e h = subst (λ z. member k (behind_of z) ≡ true) e h

-- any number of L
pub reads_series : {A : Type 0} {L V : Lang A} {r q : List Token → Reply A} {next : List ℕ} {follow : A → List ℕ} → Reads L V r q next follow
    → (ks behind : List ℕ) (w : List Token) → subset next ks ≡ true → ((a : A) → subset ks (follow a) ≡ true) → ((a : A) → subset behind (follow a) ≡ true)
    → apart behind ks ≡ true → member 0 ks ≡ false → ((a : A) → member (look w) (follow a) ≡ true) → member (look w) next ≡ false
    → Reads (series L) (series V) (read_series ks r) (read_series ks q) (ks ++ behind) (λ _. behind)
reads_series R ks behind w here goes ends stops no_end w_in w_out = reads_built (reads_absent [] (ks ++ behind)) R ks snoc behind w here
    (λ a. subset_left ks behind) (λ a. subset_right ks behind) goes ends stops no_end w_in w_out

pub some_series : {A : Type 0} {L : Lang A} → Some_of (series L)
some_series = ([], [], (([], []), refl, ([], [], refl, (refl, refl), refl)))

pub some_sign_of : (t : Token) → Some_of (sign (class t))
some_sign_of t = some_sign t

pub some_block : (E : Lang Expr) (D : Lang Declaration) (S : Lang Stmt) → Some_of (IsBlockOver E D S)
some_block E D S = made_of block (pair_of (some_sign (mark p.OpenBrace)) (trailed (mark p.CloseBrace) (pair_of some_series some_series)))

-- the rules at height k + 1, against those at j + 1; the tops are of heights n and m
module _ (n m : ℕ) (lt : suc n < m) (some : nat_eq n 0 ≡ false) (k j : ℕ) (lk : suc k < j)
    (S : Reads (IsStmt n k) (IsStmt m j) (read_stmt n k) (read_stmt m j) stmt_first behind) (none : k ≡ 0 → (s : Stmt) (us : List Token) → IsStmt n k s us → ⊥)
    (any : nat_eq k 0 ≡ false → Some_of (IsStmt n k))
    (good : (ts : List Token) (s : Stmt) (r : List Token) → read_stmt n k ts ≡ Found s r → member (look r) (word w.Else ∷ []) ≡ true → closed s ≡ true) where
  abbrev E : ℕ → Lang Expr
  E i = tree (IsExpr i Comma)

  abbrev C : ℕ → Lang Expr
  C i = tree (IsExpr i Conditional)

  abbrev e : ℕ → List Token → Reply Expr
  e i = read_tree (read_expr i Comma)

  abbrev c : ℕ → List Token → Reply Expr
  c i = read_tree (read_expr i Conditional)

  pos : nat_eq j 0 ≡ false
  pos = above_zero (suc k) j lk

  reads_e : Reads (E k) (E j) (e k) (e j) expr_first (λ _. after_comma)
  reads_e = reads_made (reads_expr k j lk Comma tt) (λ c. c.0) (λ _. after_comma) (λ c k h. h)

  reads_c : Reads (C k) (C j) (c k) (c j) expr_first (λ _. after_conditional)
  reads_c = reads_made (reads_expr k j lk Conditional tt) (λ c. c.0) (λ _. after_conditional) (λ c k h. h)

  some_e : nat_eq k 0 ≡ false → Some_of (E k)
  some_e z = made_of (λ c. c.0) (any_expr k Comma z)

  some_c : nat_eq k 0 ≡ false → Some_of (C k)
  some_c z = made_of (λ c. c.0) (any_expr k Conditional z)

  pub reads_block_over : (after : List ℕ)
      → Reads (IsBlockOver (E k) (IsDeclaration n) (IsStmt n k)) (IsBlockOver (E j) (IsDeclaration m) (IsStmt m j))
      (read_block_over k (e k) (c k) (read_declaration n) (read_stmt n k)) (read_block_over j (e j) (c j) (read_declaration m) (read_stmt m j))
      (punct p.OpenBrace ∷ []) (λ _. after)
  reads_block_over after = reads_made (reads_both (reads_sign (mark p.OpenBrace) refl (λ _. specifier_first ++ stmt_first ++ punct p.CloseBrace ∷ []))
      (reads_trail (reads_both
      (reads_series (reads_declaration n m lt some (specifier_first ++ stmt_first ++ punct p.CloseBrace ∷ [])) specifier_first
      (stmt_first ++ punct p.CloseBrace ∷ []) (mark p.CloseBrace ∷ []) refl (λ a. subset_left specifier_first (stmt_first ++ punct p.CloseBrace ∷ []))
      (λ a. subset_right specifier_first (stmt_first ++ punct p.CloseBrace ∷ [])) refl refl (λ a. refl) refl)
      (reads_series S stmt_first (punct p.CloseBrace ∷ []) (mark p.CloseBrace ∷ []) (subset_self stmt_first) (λ a. first_behind (closed a))
      (λ a. end_behind (closed a)) refl refl (λ a. end_in (closed a)) refl)
      (λ a us l. some_series) (λ a. subset_self (stmt_first ++ punct p.CloseBrace ∷ []))) (mark p.CloseBrace) refl after (λ a. refl))
      (λ a us l. trailed (mark p.CloseBrace) (pair_of some_series some_series)) (λ a. subset_self (specifier_first ++ stmt_first ++ punct p.CloseBrace ∷ [])))
      block (λ _. after) (λ c k h. h)

  abbrev ReadD : ℕ → List Token → Reply Declaration
  ReadD i = read_declaration i

  abbrev Condition : ℕ → Lang Expr
  Condition i = lead (punct p.OpenParen) (trail (E i) (punct p.CloseParen))

  abbrev condition : ℕ → ℕ → List Token → Reply Expr
  condition i t = read_condition i (e i) (c i) (read_declaration t) (read_stmt t i)

  reads_condition : nat_eq k 0 ≡ false → (after : List ℕ)
      → Reads (Condition k) (Condition j) (condition k n) (condition j m) (punct p.OpenParen ∷ []) (λ _. after)
  reads_condition z after = reads_lead (reads_trail reads_e (mark p.CloseParen) refl after (λ a. refl)) (mark p.OpenParen) refl
      (trailed (mark p.CloseParen) (some_e z))

  some_condition : nat_eq k 0 ≡ false → Some_of (Condition k)
  some_condition z = led_by (mark p.OpenParen) (trailed (mark p.CloseParen) (some_e z))

  abbrev Guarded : ℕ → ℕ → Lang (Expr × Stmt)
  Guarded i t = IsGuarded (E i) (IsDeclaration t) (IsStmt t i)

  abbrev guarded : ℕ → ℕ → List Token → Reply (Expr × Stmt)
  guarded i t = read_guarded i (e i) (c i) (read_declaration t) (read_stmt t i)

  reads_guarded : nat_eq k 0 ≡ false → Reads (Guarded k n) (Guarded j m) (guarded k n) (guarded j m) (punct p.OpenParen ∷ []) (λ g. behind g.1)
  reads_guarded z = reads_both (reads_condition z stmt_first) S (λ a us l. any z) (λ a. subset_self stmt_first)

  some_above : Some_of (Guarded j m)
  some_above = pair_of (led_by (mark p.OpenParen) (trailed (mark p.CloseParen) reads_e.some)) S.some

  guarded_none : k ≡ 0 → (g : Expr × Stmt) (us : List Token) → Guarded k n g us → ⊥
  guarded_none h g us l = none h g.1 l.1 l.4

  some_guarded : (k ≡ 0 → ⊥) → Some_of (Guarded k n)
  some_guarded h = let z = not_zero k h in pair_of (some_condition z) (any z)

  -- a keyword with a guarded statement
  abbrev Keyed : {A : Type 0} → Reserved → Lang A → Lang (ℕ × A)
  Keyed r L = both (sign (word r)) L

  reads_key : {A : Type 0} {L V : Lang A} {t q : List Token → Reply A} {next : List ℕ} {follow : A → List ℕ} (r : Reserved) → nat_eq 0 (word r) ≡ false
      → (nat_eq k 0 ≡ false → Reads L V t q next follow) → Some_of V → (k ≡ 0 → (a : A) (us : List Token) → L a us → ⊥) → ((k ≡ 0 → ⊥) → Some_of L)
      → Reads (Keyed r L) (Keyed r V) (read_both (read_open k (line_if (word r))) t) (read_both (read_open j (line_if (word r))) q) (word r ∷ [])
      (λ x. follow x.1)
  reads_key r off R others none any = reads_opened (line_if (word r)) (word r ∷ []) (sign_exact (word r)) (ap (λ z. if z then true else false) off) k j R others
      none any pos (reserved r) (has_line (reserved r))

  -- a statement whose last part is a statement has that one's follow
  reads_switch : Reads (made switch (Keyed w.Switch (Guarded k n))) (made switch (Keyed w.Switch (Guarded j m)))
      (read_made switch (read_both (read_open k (line_if (word w.Switch))) (guarded k n)))
      (read_made switch (read_both (read_open j (line_if (word w.Switch))) (guarded j m))) (word w.Switch ∷ []) behind
  reads_switch = reads_made (reads_key w.Switch refl reads_guarded some_above guarded_none some_guarded) switch behind
      (λ c i h. same_behind (closed (switch c)) (closed c.1.1) i (closed_switch c) h)

  reads_while : Reads (made while (Keyed w.While (Guarded k n))) (made while (Keyed w.While (Guarded j m)))
      (read_made while (read_both (read_open k (line_if (word w.While))) (guarded k n)))
      (read_made while (read_both (read_open j (line_if (word w.While))) (guarded j m))) (word w.While ∷ []) behind
  reads_while = reads_made (reads_key w.While refl reads_guarded some_above guarded_none some_guarded) while behind
      (λ c i h. same_behind (closed (while c)) (closed c.1.1) i (closed_while c) h)

  -- "if" with its else
  abbrev IfL : ℕ → ℕ → Lang (ℕ × (Expr × Stmt))
  IfL i t = Keyed w.If (Guarded i t)

  abbrev Forked : ℕ → ℕ → Lang Stmt
  Forked i t = either (made (λ x. if_else (x.0, x.1)) (both (such (λ a. closed a.1.1) (IfL i t)) (lead (word w.Else) (IsStmt t i))))
      (made (λ x. if_only x.0) (both (IfL i t) (absent zero)))

  abbrev IfElse : ℕ → ℕ → Lang Stmt
  IfElse i t = either (made if_only (IfL i t)) (made if_else (both (such (λ a. closed a.1.1) (IfL i t)) (lead (word w.Else) (IsStmt t i))))

  fork_to : (i t : ℕ) (s : Stmt) (us : List Token) → Forked i t s us → IfElse i t s us
  fork_to i t s us (inl l) = inr l
  fork_to i t s us (inr (x, e, (us1, us2, e2, l, a))) = inl (x.0, e, subst (IfL i t x.0) (sym (e2 ∙ ap (λ z. us1 ++ z) a.1 ∙ append-nil us1)) l)

  fork_from : (i t : ℕ) (s : Stmt) (us : List Token) → IfElse i t s us → Forked i t s us
  fork_from i t s us (inl (x, e, l)) = inr ((x, zero), e, (us, [], sym (append-nil us), l, (refl, refl)))
  fork_from i t s us (inr l) = inl l

  abbrev read_keyed_if : ℕ → ℕ → List Token → Reply (ℕ × (Expr × Stmt))
  read_keyed_if i t = read_both (read_open i (line_if (word w.If))) (guarded i t)

  good_if : (ts : List Token) (a : ℕ × (Expr × Stmt)) (r : List Token) → read_keyed_if k n ts ≡ Found a r → always a ≡ true
      → member (look r) (word w.Else ∷ []) ≡ true → closed a.1.1 ≡ true
  good_if ts a r h t o = each_found (λ a r. member (look r) (word w.Else ∷ []) ≡ true → closed a.1.1 ≡ true) (read_keyed_if k n ts) a r h keyed o
    where
      after_guard : (l : ℕ) (r : List Token)
          → EachReply {A = ℕ × (Expr × Stmt)} (λ a r. member (look r) (word w.Else ∷ []) ≡ true → closed a.1.1 ≡ true)
          (bind (guarded k n r) (λ g s. Found (l, g) s))
      after_guard l r = bind_each (λ g r. member (look r) (word w.Else ∷ []) ≡ true → closed g.1 ≡ true)
          (λ a r. member (look r) (word w.Else ∷ []) ≡ true → closed a.1.1 ≡ true) (guarded k n r) (λ g s. Found (l, g) s)
          (bind_each (λ x r. Unit {0}) (λ g r. member (look r) (word w.Else ∷ []) ≡ true → closed g.1 ≡ true) (condition k n r)
          (λ x s. bind (read_stmt n k s) (λ b s'. Found (x, b) s')) (any_each (condition k n r))
          (λ x s u. bind_each (λ b r. member (look r) (word w.Else ∷ []) ≡ true → closed b ≡ true)
          (λ g r. member (look r) (word w.Else ∷ []) ≡ true → closed g.1 ≡ true) (read_stmt n k s) (λ b s'. Found (x, b) s')
          (found_each (λ b r. member (look r) (word w.Else ∷ []) ≡ true → closed b ≡ true) (read_stmt n k s) (λ b r e. good s b r e)) (λ b s' h. h)))
          (λ g s h. h)

      keyed : EachReply {A = ℕ × (Expr × Stmt)} (λ a r. member (look r) (word w.Else ∷ []) ≡ true → closed a.1.1 ≡ true) (read_keyed_if k n ts)
      keyed = bind_each (λ x r. Unit {0}) (λ a r. member (look r) (word w.Else ∷ []) ≡ true → closed a.1.1 ≡ true) (read_open k (line_if (word w.If)) ts)
          (λ l r. bind (guarded k n r) (λ g s. Found (l, g) s)) (any_each (read_open k (line_if (word w.If)) ts)) (λ l r u. after_guard l r)

  if_open : (a : ℕ × (Expr × Stmt)) (us : List Token) → IfL k n a us → nat_eq k 0 ≡ false
  if_open a us l = not_zero k (λ h. guarded_none h a.1 l.1 l.4)

  reads_if : Reads (IfElse k n) (IfElse j m) (read_if k (e k) (c k) (read_declaration n) (read_stmt n k))
      (read_if j (e j) (c j) (read_declaration m) (read_stmt m j)) (word w.If ∷ []) behind
  reads_if = reads_as (fork_to k n) (fork_from k n) (fork_to j m)
      (reads_fork (reads_key w.If refl reads_guarded some_above guarded_none some_guarded)
      (λ a us l. reads_lead S (reserved w.Else) refl (any (if_open a us l))) (reads_absent zero after_stmt) (λ a. closed a.1.1) always (word w.Else ∷ [])
      (λ a b. if_else (a, b)) (λ a u. if_only a) behind
      refl refl (λ a h. else_behind (closed a.1.1) h) (λ a. stmt_behind (closed a.1.1))
      (λ a b i h. same_behind (closed (if_else (a, b))) (closed b) i (closed_else (a, b)) h)
      (λ a u i h. same_behind (closed (if_only a)) false i (closed_if a) h)
      (λ a h. refl) good_if (λ a us l. (zero, [], (refl, refl))))

  -- "do" stmt "while" "(" expr ")" ";"
  abbrev DoL : ℕ → ℕ → Lang (Stmt × Expr)
  DoL i t = both (IsStmt t i) (lead (word w.While) (trail (Condition i) (punct p.Semicolon)))

  some_do : nat_eq k 0 ≡ false → Some_of (lead (word w.While) (trail (Condition k) (punct p.Semicolon)))
  some_do z = led_by (reserved w.While) (trailed (mark p.Semicolon) (some_condition z))

  reads_do : Reads (made do_while (Keyed w.Do (DoL k n))) (made do_while (Keyed w.Do (DoL j m)))
      (read_made do_while (read_both (read_open k (line_if (word w.Do)))
      (read_both (read_stmt n k) (read_lead (word w.While) (read_trail (condition k n) (punct p.Semicolon))))))
      (read_made do_while (read_both (read_open j (line_if (word w.Do)))
      (read_both (read_stmt m j) (read_lead (word w.While) (read_trail (condition j m) (punct p.Semicolon)))))) (word w.Do ∷ []) behind
  reads_do = reads_made (reads_key w.Do refl
      (λ z. reads_both S (reads_lead (reads_trail (reads_condition z (punct p.Semicolon ∷ [])) (mark p.Semicolon) refl after_all (λ a. refl)) (reserved w.While)
      refl (trailed (mark p.Semicolon) (some_condition z))) (λ a us l. some_do z) (λ a. while_behind (closed a)))
      (pair_of S.some (led_by (reserved w.While) (trailed (mark p.Semicolon) (led_by (mark p.OpenParen) (trailed (mark p.CloseParen) reads_e.some)))))
      (λ h x us l. none h x.0 l.0 l.3) (λ h. pair_of (any (not_zero k h)) (some_do (not_zero k h)))) do_while behind
      (λ x i h. within_all (closed (do_while x)) i h)

  -- the three parts of a head
  abbrev part : ℕ → ℕ → List Token → Reply (Option Expr)
  part i t = read_part i (e i) (c i) (read_declaration t) (read_stmt t i)

  reads_part : (after : List ℕ) → apart after expr_first ≡ true → subset after after_comma ≡ true
      → Reads (optional (E k)) (optional (E j)) (part k n) (part j m) (expr_first ++ after) (λ _. after)
  reads_part after off fits = reads_optional reads_e expr_first after (subset_self expr_first) off (λ a. fits)

  abbrev head : ℕ → ℕ → List Token → Reply (Option Expr × (Option Expr × Option Expr))
  head i t = read_head i (e i) (c i) (read_declaration t) (read_stmt t i)

  reads_head : Reads (IsHead (E k) (IsDeclaration n) (IsStmt n k)) (IsHead (E j) (IsDeclaration m) (IsStmt m j)) (head k n) (head j m)
      (expr_first ++ punct p.Semicolon ∷ []) (λ _. punct p.CloseParen ∷ [])
  reads_head = reads_both (reads_trail (reads_part (punct p.Semicolon ∷ []) refl refl) (mark p.Semicolon) refl (expr_first ++ punct p.Semicolon ∷ [])
      (λ a. refl))
      (reads_both (reads_trail (reads_part (punct p.Semicolon ∷ []) refl refl) (mark p.Semicolon) refl (expr_first ++ punct p.CloseParen ∷ []) (λ a. refl))
      (reads_part (punct p.CloseParen ∷ []) refl refl) (λ a us l. some_absent) (λ a. subset_self (expr_first ++ punct p.CloseParen ∷ [])))
      (λ a us l. pair_of (trailed (mark p.Semicolon) some_absent) some_absent) (λ a. subset_self (expr_first ++ punct p.Semicolon ∷ []))

  some_head : (i t : ℕ) → Some_of (IsHead (E i) (IsDeclaration t) (IsStmt t i))
  some_head i t = pair_of (trailed (mark p.Semicolon) some_absent) (pair_of (trailed (mark p.Semicolon) some_absent) some_absent)

  abbrev ForL : ℕ → ℕ → Lang ((Option Expr × (Option Expr × Option Expr)) × Stmt)
  ForL i t = both (lead (punct p.OpenParen) (trail (IsHead (E i) (IsDeclaration t) (IsStmt t i)) (punct p.CloseParen))) (IsStmt t i)

  reads_for : Reads (made for (Keyed w.For (ForL k n))) (made for (Keyed w.For (ForL j m)))
      (read_made for (read_both (read_open k (line_if (word w.For)))
      (read_both (read_lead (punct p.OpenParen) (read_trail (head k n) (punct p.CloseParen))) (read_stmt n k))))
      (read_made for (read_both (read_open j (line_if (word w.For)))
      (read_both (read_lead (punct p.OpenParen) (read_trail (head j m) (punct p.CloseParen))) (read_stmt m j)))) (word w.For ∷ []) behind
  reads_for = reads_made (reads_key w.For refl
      (λ z. reads_both (reads_lead (reads_trail reads_head (mark p.CloseParen) refl stmt_first (λ a. refl)) (mark p.OpenParen) refl
      (trailed (mark p.CloseParen) (some_head k n))) S (λ a us l. any z) (λ a. subset_self stmt_first))
      (pair_of (led_by (mark p.OpenParen) (trailed (mark p.CloseParen) (some_head j m))) S.some)
      (λ h x us l. none h x.1 l.1 l.4) (λ h. pair_of (led_by (mark p.OpenParen) (trailed (mark p.CloseParen) (some_head k n))) (any (not_zero k h)))) for behind
      (λ x i h. same_behind (closed (for x)) (closed x.1.1) i (closed_for x) h)

  abbrev CaseL : ℕ → ℕ → Lang (Expr × Stmt)
  CaseL i t = both (trail (C i) (punct p.Colon)) (IsStmt t i)

  reads_case : Reads (made case (Keyed w.Case (CaseL k n))) (made case (Keyed w.Case (CaseL j m)))
      (read_made case (read_both (read_open k (line_if (word w.Case))) (read_both (read_trail (c k) (punct p.Colon)) (read_stmt n k))))
      (read_made case (read_both (read_open j (line_if (word w.Case))) (read_both (read_trail (c j) (punct p.Colon)) (read_stmt m j)))) (word w.Case ∷ [])
      behind
  reads_case = reads_made (reads_key w.Case refl
      (λ z. reads_both (reads_trail reads_c (mark p.Colon) refl stmt_first (λ a. refl)) S (λ a us l. any z) (λ a. subset_self stmt_first))
      (pair_of (trailed (mark p.Colon) reads_c.some) S.some) (λ h x us l. none h x.1 l.1 l.4)
      (λ h. pair_of (trailed (mark p.Colon) (some_c (not_zero k h))) (any (not_zero k h)))) case behind
      (λ x i h. same_behind (closed (case x)) (closed x.1.1) i (closed_case x) h)

  reads_default : Reads (made default (Keyed w.Default (lead (punct p.Colon) (IsStmt n k))))
      (made default (Keyed w.Default (lead (punct p.Colon) (IsStmt m j))))
      (read_made default (read_both (read_open k (line_if (word w.Default))) (read_lead (punct p.Colon) (read_stmt n k))))
      (read_made default (read_both (read_open j (line_if (word w.Default))) (read_lead (punct p.Colon) (read_stmt m j)))) (word w.Default ∷ []) behind
  reads_default = reads_made (reads_key w.Default refl (λ z. reads_lead S (mark p.Colon) refl (any z)) (led_by (mark p.Colon) S.some)
      (λ h x us l. none h l.0.1 l.2.1 l.2.4) (λ h. led_by (mark p.Colon) (any (not_zero k h)))) default behind
      (λ x i h. same_behind (closed (default x)) (closed x.1) i (closed_default x) h)

  -- the statements that end with a sign
  reads_break : Reads (made break (trail (sign (word w.Break)) (punct p.Semicolon))) (made break (trail (sign (word w.Break)) (punct p.Semicolon)))
      (read_made break (read_trail (read_sign (word w.Break)) (punct p.Semicolon)))
      (read_made break (read_trail (read_sign (word w.Break)) (punct p.Semicolon))) (word w.Break ∷ []) behind
  reads_break = reads_made (reads_trail (reads_sign (reserved w.Break) refl (λ _. punct p.Semicolon ∷ [])) (mark p.Semicolon) refl after_all (λ a. refl)) break
      behind (λ x i h. within_all (closed (break x)) i h)

  reads_continue : Reads (made continue (trail (sign (word w.Continue)) (punct p.Semicolon)))
      (made continue (trail (sign (word w.Continue)) (punct p.Semicolon))) (read_made continue (read_trail (read_sign (word w.Continue)) (punct p.Semicolon)))
      (read_made continue (read_trail (read_sign (word w.Continue)) (punct p.Semicolon))) (word w.Continue ∷ []) behind
  reads_continue = reads_made (reads_trail (reads_sign (reserved w.Continue) refl (λ _. punct p.Semicolon ∷ [])) (mark p.Semicolon) refl after_all (λ a. refl))
      continue behind (λ x i h. within_all (closed (continue x)) i h)

  reads_return : Reads (made return (both (sign (word w.Return)) (trail (optional (E k)) (punct p.Semicolon))))
      (made return (both (sign (word w.Return)) (trail (optional (E j)) (punct p.Semicolon))))
      (read_made return (read_both (read_sign (word w.Return)) (read_trail (part k n) (punct p.Semicolon))))
      (read_made return (read_both (read_sign (word w.Return)) (read_trail (part j m) (punct p.Semicolon)))) (word w.Return ∷ []) behind
  reads_return = reads_made (reads_both (reads_sign (reserved w.Return) refl (λ _. expr_first ++ punct p.Semicolon ∷ []))
      (reads_trail (reads_part (punct p.Semicolon ∷ []) refl refl) (mark p.Semicolon) refl after_all (λ a. refl))
      (λ a us l. trailed (mark p.Semicolon) some_absent) (λ a. subset_self (expr_first ++ punct p.Semicolon ∷ [])))
      return behind (λ x i h. within_all (closed (return x)) i h)

  reads_expression : Reads (made expression (trail (E k) (punct p.Semicolon))) (made expression (trail (E j) (punct p.Semicolon)))
      (read_made expression (read_trail (e k) (punct p.Semicolon))) (read_made expression (read_trail (e j) (punct p.Semicolon))) expr_first behind
  reads_expression = reads_made (reads_trail reads_e (mark p.Semicolon) refl after_all (λ a. refl)) expression behind
      (λ x i h. within_all (closed (expression x)) i h)

  reads_empty : Reads (made empty (sign (punct p.Semicolon))) (made empty (sign (punct p.Semicolon))) (read_made empty (read_sign (punct p.Semicolon)))
      (read_made empty (read_sign (punct p.Semicolon))) (punct p.Semicolon ∷ []) behind
  reads_empty = reads_made (reads_sign (mark p.Semicolon) refl (λ _. after_all)) empty behind (λ x i h. within_all (closed (empty x)) i h)

  pub reads_stmt_over : Reads (IsStmt n (suc k)) (IsStmt m (suc j)) (read_stmt n (suc k)) (read_stmt m (suc j)) stmt_first behind
  reads_stmt_over =
      reads_either (reads_made (reads_block_over after_all) block_statement behind (λ x i h. within_all (closed (block_statement x)) i h))
      (reads_either reads_empty
      (reads_either reads_if
      (reads_either reads_switch
      (reads_either reads_while
      (reads_either reads_do
      (reads_either reads_for
      (reads_either reads_case
      (reads_either reads_default
      (reads_either reads_break
      (reads_either reads_continue
      (reads_either reads_return reads_expression
      (word w.Return ∷ []) refl refl) (word w.Continue ∷ []) refl refl) (word w.Break ∷ []) refl refl) (word w.Default ∷ []) refl refl) (word w.Case ∷ []) refl
      refl) (word w.For ∷ []) refl refl)
      (word w.Do ∷ []) refl refl) (word w.While ∷ []) refl refl) (word w.Switch ∷ []) refl refl) (word w.If ∷ []) refl refl) (punct p.Semicolon ∷ []) refl refl)
      (punct p.OpenBrace ∷ []) refl refl
