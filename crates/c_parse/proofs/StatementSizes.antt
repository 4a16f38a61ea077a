-- Readers of statements and items take tokens.
use Rattle.std.proofs.Common.{ℕ, zero, suc, ◌≡◌, ◌<◌, ◌-◌, refl, sym, ◌∙◌, ap, Bool, true, false, nat_eq, if◌then◌else◌, List, [], ◌∷◌, arith, length}
use Rattle.std.proofs.Common.{Option, Some, None}
use Rattle.c_tree.specs.declared.token.Token.{Token}
use Rattle.c_tree.specs.declared.token.Punct.TheVariants as p
use Rattle.c_tree.specs.declared.token.Reserved.TheVariants as w
use Rattle.c_tree.specs.declared.expression.Specifiers.{Specifiers}
use Rattle.c_tree.specs.declared.declaration.Declarator.{Declarator}
use Rattle.c_tree.specs.declared.declaration.Item.TheVariants as kinds
use Rattle.c_parse.specs.Classes.{class, look, member, punct, word, classes, row_of}
use Rattle.c_parse.specs.Languages.{line_if, lined}
use Rattle.c_parse.specs.Trees as trees
use Rattle.c_parse.specs.Expressions.{Rank, Comma, Conditional}
use Rattle.c_parse.specs.Reading.{Reply, Found, Wrong, Deep, bind, open_reply, read_open, read_trail, read_row, read_rest, read_fork, always}
use Rattle.c_parse.specs.ExpressionReaders.{expr_first, specifier_first}
use Rattle.c_parse.specs.Modules.{headers}
use Rattle.c_parse.specs.ModuleReaders.{stmt_first, item_first, is_function, shape_parameters}
use Rattle.c_parse.specs.ModuleParts as parts
use Rattle.c_parse.specs.Parts as below
use Rattle.c_parse.proofs.Members.{if_true, if_false}
use Rattle.c_parse.proofs.ExpressionRules.{IsRead}
use Rattle.c_parse.proofs.Rounds.{keeps, specifier_less}
use Rattle.c_parse.proofs.Steps.{Shrinks, Keeps, picked_shrinks, both_shrinks}
use Rattle.c_parse.proofs.Sizes.{keeps_bind, shrinks_bind, keeps_found, shrinks_keeps, keeps_both, keeps_made, shrinks_made, shrinks_either}
use Rattle.c_parse.proofs.Sizes.{keeps_either, keeps_sign, keeps_optional, keeps_rest, keeps_row, keeps_lead, keeps_trail, declarator_keeps}

-- words of readers
pick : {A : Type 0} {x y z : A} {P : Type 0} (b : Bool) → (x ≡ z → P) → (y ≡ z → P) → (if b then x else y) ≡ z → P
pick true f g e = f e
pick false f g e = g e

open_shrinks : {A : Type 0} (n : ℕ) (f : Token → Option A) → Shrinks (read_open n f)
open_shrinks n f [] a r e = absurd cc
open_shrinks {A} n f (t ∷ ts) a r e = go (nat_eq n 0) (f t) e
  where
    go : (b : Bool) (x : Option A) → open_reply b t ts x ≡ Found a r → length r < length (t ∷ ts)
    go b None e = absurd cc
    go true (Some c) e = absurd cc
    go false (Some c) e = let same : ts ≡ r = cc in omega (arith, ap length same)

shrinks_after : {A B : Type 0} {p : List Token → Reply A} {k : A → List Token → Reply B} → Keeps p → ((a : A) → Shrinks (k a)) → Shrinks (λ ts. bind (p ts) k)
shrinks_after {A} {B} {p} {k} s f ts b r e = go (p ts) refl e
  where
    go : (x : Reply A) → p ts ≡ x → bind x k ≡ Found b r → length r < length ts
    go (Found a us) h e = let x = s ts a us h in let y = f a us b r e in omega (arith, x, y)
    go (Wrong us) h e = absurd cc
    go (Deep us) h e = absurd cc

trail_shrinks : {A : Type 0} (k : ℕ) {p : List Token → Reply A} → Keeps p → Shrinks (read_trail p k)
trail_shrinks k s = shrinks_made (λ c. c.0) (shrinks_after s (λ a. shrinks_bind (picked_shrinks (line_if k)) (λ b. keeps_found (a, b))))

row_shrinks : {A B : Type 0} (test fits : A → Bool) (ks : List ℕ) (g : A → B → A) {p : List Token → Reply A} {t : List Token → Reply B} → Shrinks p → Keeps t
    → Shrinks (read_row test fits ks g p t)
row_shrinks test fits ks g s u = shrinks_bind s (λ a ts b r e. keeps_rest test fits ks g u (length ts) a ts b r e)

fork_shrinks : {A B C D : Type 0} (test : A → Bool) (ks : List ℕ) (f : A → B → D) (g : A → C → D) {p : List Token → Reply A} {q1 : List Token → Reply B}
    {q2 : List Token → Reply C} → Shrinks p → Keeps q1 → Keeps q2 → Shrinks (read_fork test ks f g p q1 q2)
fork_shrinks test ks f g s k1 k2 = shrinks_bind s (λ a ts d r e. pick (if test a then member (look ts) ks else false)
    (λ h. keeps_bind k1 (λ b. keeps_found (f a b)) ts d r h) (λ h. keeps_bind k2 (λ c. keeps_found (g a c)) ts d r h) e)

-- declarations
specifiers_shrink : (n : ℕ) → Shrinks (below.specifiers n)
unfolding below.specifiers below.specifier_list
specifiers_shrink n = shrinks_made trees.specifiers (row_shrinks always always specifier_first trees.next_specifier
    (shrinks_made trees.first_specifier (specifier_less n)) (shrinks_keeps (specifier_less n)))

pub declaration_shrinks : (n : ℕ) → Shrinks (parts.declaration n)
unfolding parts.declaration parts.typed parts.declarator_list
declaration_shrinks n = shrinks_made trees.declaration (both_shrinks (shrinks_made (λ c. c.0) (specifiers_shrink n))
    (keeps_trail (punct p.Semicolon) (keeps_made trees.or_none (keeps_optional (1 ∷ [])
    (keeps_row always always (punct p.Comma ∷ []) trees.snoc (keeps_made trees.single (declarator_keeps n))
    (keeps_lead (punct p.Comma) (declarator_keeps n)))))))

declarations_keep : (n : ℕ) → Keeps (parts.declarations n)
unfolding parts.declarations
declarations_keep n = keeps_row always always specifier_first trees.snoc (keeps_found []) (shrinks_keeps (declaration_shrinks n))

-- parts of statements
part_keeps : (k : ℕ) (r : Rank) → IsRead r → Keeps (parts.part k r)
unfolding parts.part
part_keeps k r i = keeps_made (λ c. c.0) (keeps k r i)

condition_keeps : (k : ℕ) → Keeps (parts.condition k)
unfolding parts.condition
condition_keeps k = keeps_lead (punct p.OpenParen) (keeps_trail (punct p.CloseParen) (part_keeps k Comma tt))

optional_part_keeps : (k : ℕ) → Keeps (parts.optional_part k)
unfolding parts.optional_part
optional_part_keeps k = keeps_optional expr_first (part_keeps k Comma tt)

clause_keeps : (k : ℕ) → Keeps (parts.clause k)
unfolding parts.clause
clause_keeps k = keeps_trail (punct p.Semicolon) (optional_part_keeps k)

head_keeps : (k : ℕ) → Keeps (parts.head k)
unfolding parts.head parts.clauses
head_keeps k = keeps_lead (punct p.OpenParen) (keeps_trail (punct p.CloseParen)
    (keeps_both (clause_keeps k) (keeps_both (clause_keeps k) (optional_part_keeps k))))

simple_shrinks : (k : ℕ) → Shrinks (parts.simple k)
unfolding parts.simple
simple_shrinks k =
    shrinks_either (word w.Break ∷ []) (shrinks_made trees.break (trail_shrinks (punct p.Semicolon) (shrinks_keeps (picked_shrinks (line_if (word w.Break))))))
    (shrinks_either (word w.Continue ∷ []) (shrinks_made trees.continue
    (trail_shrinks (punct p.Semicolon) (shrinks_keeps (picked_shrinks (line_if (word w.Continue))))))
    (shrinks_either (word w.Return ∷ []) (shrinks_made trees.return
    (both_shrinks (picked_shrinks (line_if (word w.Return))) (keeps_trail (punct p.Semicolon) (optional_part_keeps k))))
    (shrinks_made trees.expression (trail_shrinks (punct p.Semicolon) (part_keeps k Comma tt)))))

-- statements, over those of the height below
module _ (n k : ℕ) (s : Keeps (parts.statement n k)) where
  block_shrinks : Shrinks (parts.block n k)
  unfolding parts.block parts.statements
  block_shrinks = shrinks_made trees.block (both_shrinks (picked_shrinks (line_if (punct p.OpenBrace)))
      (keeps_trail (punct p.CloseBrace) (keeps_both (declarations_keep n) (keeps_row always always stmt_first trees.snoc (keeps_found []) s))))

  guarded_keeps : Keeps (parts.guarded n k)
  unfolding parts.guarded
  guarded_keeps = keeps_both (condition_keeps k) s

  selection_shrinks : Shrinks (parts.selection n k)
  unfolding parts.selection
  selection_shrinks = fork_shrinks always (word w.Else ∷ []) (λ a b. trees.if_else (a, b)) (λ a u. trees.if_only a)
      (both_shrinks (open_shrinks k (line_if (word w.If))) guarded_keeps) (keeps_lead (word w.Else) s) (keeps_found zero)

  switch_shrinks : Shrinks (parts.switch n k)
  unfolding parts.switch
  switch_shrinks = shrinks_made trees.switch (both_shrinks (open_shrinks k (line_if (word w.Switch))) guarded_keeps)

  while_shrinks : Shrinks (parts.while_loop n k)
  unfolding parts.while_loop
  while_shrinks = shrinks_made trees.while (both_shrinks (open_shrinks k (line_if (word w.While))) guarded_keeps)

  do_shrinks : Shrinks (parts.do_while n k)
  unfolding parts.do_while
  do_shrinks = shrinks_made trees.do_while (both_shrinks (open_shrinks k (line_if (word w.Do)))
      (keeps_both s (keeps_lead (word w.While) (keeps_trail (punct p.Semicolon) (condition_keeps k)))))

  for_shrinks : Shrinks (parts.for_loop n k)
  unfolding parts.for_loop
  for_shrinks = shrinks_made trees.for (both_shrinks (open_shrinks k (line_if (word w.For))) (keeps_both (head_keeps k) s))

  case_shrinks : Shrinks (parts.case n k)
  unfolding parts.case
  case_shrinks = shrinks_made trees.case (both_shrinks (open_shrinks k (line_if (word w.Case)))
      (keeps_both (keeps_trail (punct p.Colon) (part_keeps k Conditional tt)) s))

  default_shrinks : Shrinks (parts.default n k)
  unfolding parts.default
  default_shrinks = shrinks_made trees.default (both_shrinks (open_shrinks k (line_if (word w.Default))) (keeps_lead (punct p.Colon) s))

  compound_shrinks : Shrinks (parts.compound n k)
  unfolding parts.compound
  compound_shrinks =
      shrinks_either (punct p.OpenBrace ∷ []) (shrinks_made trees.block_statement block_shrinks)
      (shrinks_either (punct p.Semicolon ∷ []) (shrinks_made trees.empty (picked_shrinks (line_if (punct p.Semicolon))))
      (shrinks_either (word w.If ∷ []) selection_shrinks
      (shrinks_either (word w.Switch ∷ []) switch_shrinks
      (shrinks_either (word w.While ∷ []) while_shrinks
      (shrinks_either (word w.Do ∷ []) do_shrinks
      (shrinks_either (word w.For ∷ []) for_shrinks
      (shrinks_either (word w.Case ∷ []) case_shrinks
      (shrinks_either (word w.Default ∷ []) default_shrinks (simple_shrinks k)))))))))

-- a statement is read by its rule
statement_rule : (n k : ℕ) (ts : List Token) → parts.statement n (suc k) ts ≡ parts.compound n k ts
unfolding parts.statement parts.compound parts.case parts.default parts.for_loop parts.head parts.clauses parts.clause parts.do_while parts.while_loop
    parts.switch parts.selection parts.guarded parts.block parts.statements parts.simple parts.declarations parts.optional_part parts.condition parts.part
    parts.declaration parts.declarator_list parts.declarator parts.initialiser parts.elements parts.shape parts.parameters parts.parameter_list parts.parameter
    parts.typed parts.top_expression below.whole below.specifiers below.specifier_list below.specifier below.enumerators below.enumerator_list below.enumerator
statement_rule n k ts = refl

pub statement_is : (n d : ℕ) (ts : List Token) → 0 < d → parts.statement n d ts ≡ parts.compound n (d - 1) ts
statement_is n zero ts lt = absurd (omega (arith, lt))
statement_is n (suc k) ts lt = let same : k ≡ suc k - 1 = omega arith in statement_rule n k ts ∙ ap (λ z. parts.compound n z ts) same

no_statement : (n : ℕ) → Shrinks (parts.statement n zero)
unfolding parts.statement
no_statement n ts a r e = pick (member (look ts) stmt_first) (λ h. absurd cc) (λ h. absurd cc) e

pub statement_shrinks : (n k : ℕ) → Shrinks (parts.statement n k)
statement_shrinks n zero ts a r e = no_statement n ts a r e
statement_shrinks n (suc k) ts a r e = compound_shrinks n k (shrinks_keeps (statement_shrinks n k)) ts a r (sym (statement_rule n k ts) ∙ e)

-- items
others_keep : (n : ℕ) (d : Declarator) → Keeps (parts.others n d)
unfolding parts.others
others_keep n d ts a r e = keeps_rest always always (punct p.Comma ∷ []) trees.snoc (keeps_lead (punct p.Comma) (declarator_keeps n)) (length ts) (d ∷ []) ts a
    r e

declares_keeps : (n : ℕ) (s : Specifiers) (d : Declarator) → Keeps (parts.declares n s d)
unfolding parts.declares
declares_keeps n s d = keeps_made (λ ds. kinds.Declaration (trees.declaration (s, ds))) (keeps_trail (punct p.Semicolon) (others_keep n d))

declared_keeps : (n : ℕ) (s : Specifiers) → Keeps (parts.declared n s)
unfolding parts.declared
declared_keeps n s = keeps_bind (declarator_keeps n) (λ d ts a r e. pick (if is_function d then member (look ts) (punct p.OpenBrace ∷ []) else false)
    (λ h. keeps_made (λ b. trees.function ((s, (d.name, shape_parameters d.shape)), b))
    (shrinks_keeps (block_shrinks n (n - 1) (shrinks_keeps (statement_shrinks n (n - 1))))) ts a r h)
    (λ h. declares_keeps n s d ts a r h) e)

pub item_shrinks : (n : ℕ) → Shrinks (parts.item n)
unfolding parts.item parts.typed
item_shrinks n = shrinks_either (classes headers) (shrinks_made trees.include (picked_shrinks (λ t. lined t.line (row_of (class t) headers))))
    (shrinks_bind (shrinks_made (λ c. c.0) (specifiers_shrink n))
    (λ s. keeps_either (punct p.Semicolon ∷ []) (keeps_made (λ l. kinds.Declaration (trees.declaration (s, []))) (keeps_sign (punct p.Semicolon)))
    (declared_keeps n s)))

-- there is nothing of height 0
pub no_statement_deep : (n : ℕ) (ts : List Token) → member (look ts) stmt_first ≡ true → parts.statement n 0 ts ≡ Deep ts
unfolding parts.statement
no_statement_deep n ts h = if_true _ _ h

pub no_statement_wrong : (n : ℕ) (ts : List Token) → member (look ts) stmt_first ≡ false → parts.statement n 0 ts ≡ Wrong ts
unfolding parts.statement
no_statement_wrong n ts h = if_false _ _ h

-- the loops begin
pub declarations_begin : (n : ℕ) (ts : List Token)
    → read_rest always always specifier_first trees.snoc (parts.declaration n) (length ts) [] ts ≡ parts.declarations n ts
unfolding parts.declarations
declarations_begin n ts = refl

pub statements_begin : (n k : ℕ) (ts : List Token)
    → read_rest always always stmt_first trees.snoc (parts.statement n k) (length ts) [] ts ≡ parts.statements n k ts
unfolding parts.statements
statements_begin n k ts = refl

pub items_begin : (n : ℕ) (ts : List Token) → read_rest always always item_first trees.snoc (parts.item n) (length ts) [] ts ≡ parts.items n ts
unfolding parts.items
items_begin n ts = refl
