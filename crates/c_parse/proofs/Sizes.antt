-- Readers of declarations and statements take tokens.
use Rattle.std.proofs.Common.{ℕ, zero, suc, ◌≡◌, ◌<◌, ◌≤◌, refl, sym, ap, Bool, true, false, if◌then◌else◌, List, [], ◌∷◌, arith, length, Some, None}
use Rattle.c_tree.specs.declared.token.Token.{Token}
use Rattle.c_parse.specs.Classes.{look, member}
use Rattle.c_parse.specs.Reading.{Reply, Found, Wrong, Deep, bind, read_picked, read_both, read_made, read_either, read_optional, read_lead, read_trail}
use Rattle.c_parse.specs.Reading.{read_rest, read_row, always}
use Rattle.c_tree.specs.declared.token.Punct.TheVariants as p
use Rattle.c_tree.specs.declared.declaration.Shape.TheVariants as shapes
use Rattle.c_tree.specs.declared.declaration.Initialiser.TheVariants as initialisers
use Rattle.c_tree.specs.declared.expression.Expr.{Expr}
use Rattle.c_tree.specs.declared.declaration.Parameter.{Parameter}
use Rattle.c_tree.specs.declared.declaration.Declarator.{Declarator}
use Rattle.c_parse.specs.Classes.{punct}
use Rattle.c_parse.specs.Languages.{line_if}
use Rattle.c_parse.specs.Trees as trees
use Rattle.c_parse.specs.Expressions.{Rank, Assignment, Conditional}
use Rattle.c_parse.specs.ExpressionReaders.{expr_first, specifier_first}
use Rattle.c_parse.specs.ModuleReaders.{is_open, first_element, next_element}
use Rattle.c_parse.specs.ModuleParts as parts
use Rattle.c_parse.proofs.ExpressionRules.{IsRead}
use Rattle.c_parse.proofs.Rounds.{keeps, specifiers_keeps}
use Rattle.c_parse.proofs.Steps.{Shrinks, Keeps, picked_shrinks}

pub keeps_bind : {A B : Type 0} {p : List Token → Reply A} {k : A → List Token → Reply B} → Keeps p → ((a : A) → Keeps (k a)) → Keeps (λ ts. bind (p ts) k)
keeps_bind {A} {B} {p} {k} s f ts b r e = go (p ts) refl e
  where
    go : (x : Reply A) → p ts ≡ x → bind x k ≡ Found b r → length r ≤ length ts
    go (Found a us) h e = let x = s ts a us h in let y = f a us b r e in omega (arith, x, y)
    go (Wrong us) h e = absurd cc
    go (Deep us) h e = absurd cc

pub shrinks_bind : {A B : Type 0} {p : List Token → Reply A} {k : A → List Token → Reply B} → Shrinks p → ((a : A) → Keeps (k a))
    → Shrinks (λ ts. bind (p ts) k)
shrinks_bind {A} {B} {p} {k} s f ts b r e = go (p ts) refl e
  where
    go : (x : Reply A) → p ts ≡ x → bind x k ≡ Found b r → length r < length ts
    go (Found a us) h e = let x = s ts a us h in let y = f a us b r e in omega (arith, x, y)
    go (Wrong us) h e = absurd cc
    go (Deep us) h e = absurd cc

pub keeps_found : {A : Type 0} (a : A) → Keeps (λ ts. Found a ts)
keeps_found a ts b r e = let same : ts ≡ r = cc in omega (arith, ap length same)

pub shrinks_keeps : {A : Type 0} {p : List Token → Reply A} → Shrinks p → Keeps p
shrinks_keeps s ts a r e = let h = s ts a r e in omega (arith, h)

pub keeps_both : {A B : Type 0} {p : List Token → Reply A} {q : List Token → Reply B} → Keeps p → Keeps q → Keeps (read_both p q)
keeps_both s t = keeps_bind s (λ a. keeps_bind t (λ b. keeps_found (a, b)))

pub keeps_made : {A B : Type 0} (f : A → B) {p : List Token → Reply A} → Keeps p → Keeps (read_made f p)
keeps_made f s = keeps_bind s (λ a. keeps_found (f a))

pub shrinks_made : {A B : Type 0} (f : A → B) {p : List Token → Reply A} → Shrinks p → Shrinks (read_made f p)
shrinks_made f s = shrinks_bind s (λ a. keeps_found (f a))

pub keeps_either : {A : Type 0} (ks : List ℕ) {p q : List Token → Reply A} → Keeps p → Keeps q → Keeps (read_either ks p q)
keeps_either {A} ks {p} {q} s t ts a r e = go (member (look ts) ks) e
  where
    go : (b : Bool) → (if b then p ts else q ts) ≡ Found a r → length r ≤ length ts
    go true e = s ts a r e
    go false e = t ts a r e

pub shrinks_either : {A : Type 0} (ks : List ℕ) {p q : List Token → Reply A} → Shrinks p → Shrinks q → Shrinks (read_either ks p q)
shrinks_either {A} ks {p} {q} s t ts a r e = go (member (look ts) ks) e
  where
    go : (b : Bool) → (if b then p ts else q ts) ≡ Found a r → length r < length ts
    go true e = s ts a r e
    go false e = t ts a r e

pub keeps_optional : {A : Type 0} (ks : List ℕ) {p : List Token → Reply A} → Keeps p → Keeps (read_optional ks p)
keeps_optional ks s = keeps_either ks (keeps_made Some s) (keeps_found None)

pub keeps_rest : {A B : Type 0} (test fits : A → Bool) (ks : List ℕ) (g : A → B → A) {t : List Token → Reply B} → Keeps t → (k : ℕ) (a : A)
    → Keeps (read_rest test fits ks g t k a)
keeps_rest test fits ks g s zero a ts b r e = keeps_found a ts b r e
keeps_rest {A} {B} test fits ks g {t} s (suc k) a ts b r e = go (λ c. keeps_rest test fits ks g s k c) (if test a then member (look ts) ks else false) (fits a)
    e
  where
    go : ((c : A) → Keeps (read_rest test fits ks g t k c)) → (x y : Bool)
        → (if x then (if y then bind (t ts) (λ b r. read_rest test fits ks g t k (g a b) r) else Deep ts) else Found a ts) ≡ Found b r → length r ≤ length ts
    go ih true true e = keeps_bind s (λ c. ih (g a c)) ts b r e
    go ih true false e = absurd cc
    go ih false y e = keeps_found a ts b r e

pub keeps_row : {A B : Type 0} (test fits : A → Bool) (ks : List ℕ) (g : A → B → A) {p : List Token → Reply A} {t : List Token → Reply B} → Keeps p → Keeps t
    → Keeps (read_row test fits ks g p t)
keeps_row {A} {B} test fits ks g {p} {t} s u = keeps_bind s (λ a ts b r e. keeps_rest test fits ks g u (length ts) a ts b r e)

pub keeps_sign : (k : ℕ) → Keeps (read_picked (line_if k))
keeps_sign k = shrinks_keeps (picked_shrinks (line_if k))

pub keeps_lead : {A : Type 0} (k : ℕ) {p : List Token → Reply A} → Keeps p → Keeps (read_lead k p)
keeps_lead k s = keeps_made (λ c. c.1) (keeps_both (keeps_sign k) s)

pub keeps_trail : {A : Type 0} (k : ℕ) {p : List Token → Reply A} → Keeps p → Keeps (read_trail p k)
keeps_trail k s = keeps_made (λ c. c.0) (keeps_both s (keeps_sign k))

-- declarations
pub parameter_keeps : (n : ℕ) → Keeps (parts.parameter n)
unfolding parts.parameter parts.typed
parameter_keeps n = keeps_made trees.parameter (keeps_both (keeps_made (λ c. c.0) (specifiers_keeps n))
    (keeps_optional (1 ∷ []) (shrinks_keeps (picked_shrinks trees.name_of))))

parameters_keep : (n : ℕ) → Keeps (parts.parameters n)
unfolding parts.parameters parts.parameter_list
parameters_keep n = keeps_made trees.or_none (keeps_optional specifier_first
    (keeps_row always always (punct p.Comma ∷ []) trees.snoc (keeps_made trees.single (parameter_keeps n)) (keeps_lead (punct p.Comma) (parameter_keeps n))))

pub top_keeps : (n : ℕ) (r : Rank) → IsRead r → Keeps (parts.top_expression n r)
unfolding parts.top_expression
top_keeps n r i = keeps_made (λ c. c.0) (keeps n r i)

pub optional_top_keeps : (n : ℕ) → Keeps (read_optional expr_first (parts.top_expression n Assignment))
optional_top_keeps n = keeps_optional expr_first (top_keeps n Assignment tt)

shape_keeps : (n : ℕ) → Keeps (parts.shape n)
unfolding parts.shape
shape_keeps n = keeps_made trees.or_plain (keeps_optional (punct p.OpenBracket ∷ punct p.OpenParen ∷ []) (keeps_either (punct p.OpenBracket ∷ [])
    (keeps_made shapes.Array (keeps_lead (punct p.OpenBracket) (keeps_trail (punct p.CloseBracket) (keeps_optional expr_first (top_keeps n Conditional tt)))))
    (keeps_made shapes.Function (keeps_lead (punct p.OpenParen) (keeps_trail (punct p.CloseParen) (parameters_keep n))))))

initialiser_keeps : (n : ℕ) → Keeps (parts.initialiser n)
unfolding parts.initialiser parts.elements
initialiser_keeps n = keeps_either (punct p.OpenBrace ∷ []) (keeps_made trees.elements
    (keeps_both (keeps_sign (punct p.OpenBrace)) (keeps_trail (punct p.CloseBrace)
    (keeps_made (λ c. c.0) (keeps_row is_open always (punct p.Comma ∷ []) next_element (keeps_made first_element (top_keeps n Assignment tt))
    (keeps_lead (punct p.Comma) (optional_top_keeps n)))))))
    (keeps_made initialisers.Value (top_keeps n Assignment tt))

pub declarator_keeps : (n : ℕ) → Keeps (parts.declarator n)
unfolding parts.declarator
declarator_keeps n = keeps_made trees.declarator (keeps_both (keeps_both (shrinks_keeps (picked_shrinks trees.name_of)) (shape_keeps n))
    (keeps_optional (punct p.Equals ∷ []) (keeps_lead (punct p.Equals) (initialiser_keeps n))))

-- loops begin
pub parameters_begin : (n : ℕ) (ts : List Token) (a : Parameter) (r : List Token) → parts.parameter n ts ≡ Found a r
    → read_rest always always (punct p.Comma ∷ []) trees.snoc (read_lead (punct p.Comma) (parts.parameter n)) (length r) (a ∷ []) r ≡ parts.parameter_list n ts
unfolding parts.parameter_list
parameters_begin n ts a r e = sym (ap (λ z. bind (bind z (λ a r. Found (trees.single a) r))
    (λ a r. read_rest always always (punct p.Comma ∷ []) trees.snoc (read_lead (punct p.Comma) (parts.parameter n)) (length r) a r)) e)

pub declarators_begin : (n : ℕ) (ts : List Token) (a : Declarator) (r : List Token) → parts.declarator n ts ≡ Found a r
    → read_rest always always (punct p.Comma ∷ []) trees.snoc (read_lead (punct p.Comma) (parts.declarator n)) (length r) (a ∷ []) r ≡ parts.declarator_list n
    ts
unfolding parts.declarator_list
declarators_begin n ts a r e = sym (ap (λ z. bind (bind z (λ a r. Found (trees.single a) r))
    (λ a r. read_rest always always (punct p.Comma ∷ []) trees.snoc (read_lead (punct p.Comma) (parts.declarator n)) (length r) a r)) e)

pub elements_begin : (n : ℕ) (ts : List Token) (a : Expr) (r : List Token) → parts.top_expression n Assignment ts ≡ Found a r
    → bind (read_rest is_open always (punct p.Comma ∷ []) next_element
    (read_lead (punct p.Comma) (read_optional expr_first (parts.top_expression n Assignment))) (length r) (a ∷ [], true) r) (λ c s. Found c.0 s) ≡
    parts.elements n ts
unfolding parts.elements
elements_begin n ts a r e = sym (ap (λ z. bind (bind (bind z (λ a r. Found (first_element a) r))
    (λ a r. read_rest is_open always (punct p.Comma ∷ []) next_element
    (read_lead (punct p.Comma) (read_optional expr_first (parts.top_expression n Assignment))) (length r) a r)) (λ c s. Found c.0 s)) e)
