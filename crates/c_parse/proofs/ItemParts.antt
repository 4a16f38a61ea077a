-- Items and modules by the functions of the code are those of the grammar's readers.
use Rattle.std.proofs.Common.{ℕ, zero, suc, ◌≡◌, ◌<◌, ◌-◌, refl, sym, ◌∙◌, ap, Bool, true, false, nat_eq, if◌then◌else◌, List, [], ◌∷◌, ◌++◌, arith, length}
use Rattle.c_tree.specs.declared.token.Token.{Token}
use Rattle.c_tree.specs.declared.token.Punct.TheVariants as p
use Rattle.c_tree.specs.declared.expression.Specifiers.{Specifiers}
use Rattle.c_tree.specs.declared.declaration.Item.TheVariants as kinds
use Rattle.c_tree.specs.declared.declaration.Declarator.{Declarator}
use Rattle.c_parse.specs.Classes.{look, member, punct, classes}
use Rattle.c_parse.specs.Trees as trees
use Rattle.c_parse.specs.Modules.{headers}
use Rattle.c_parse.specs.Reading.{Reply, Found, Wrong, Deep, bind, read_sign, read_lead, read_rest, always}
use Rattle.c_parse.specs.ModuleReaders.{Rest, Declares, Defines, item_with, item_of, item_first, is_function, shape_parameters, read_series, read_typed}
use Rattle.c_parse.specs.ModuleReaders.{read_declarator, read_block, read_others, read_declared, read_item_rest, read_item, read_whole}
use Rattle.c_parse.specs.Parts as below
use Rattle.c_parse.specs.ModuleParts as parts

bind_same : {A B : Type 0} (x : Reply A) {k l : A → List Token → Reply B} → ((a : A) (r : List Token) → k a r ≡ l a r) → bind x k ≡ bind x l
bind_same (Found a r) h = h a r
bind_same (Wrong r) h = refl
bind_same (Deep r) h = refl

bind_twice : {A B C : Type 0} (x : Reply A) (k : A → List Token → Reply B) (l : B → List Token → Reply C) → bind (bind x k) l ≡ bind x (λ a r. bind (k a r) l)
bind_twice (Found a r) k l = refl
bind_twice (Wrong r) k l = refl
bind_twice (Deep r) k l = refl

if_same : {A : Type 0} {x x' y y' : A} (b : Bool) → x ≡ x' → y ≡ y' → (if b then x else y) ≡ (if b then x' else y')
if_same true e f = e
if_same false e f = f

if_bind : {A B : Type 0} (b : Bool) (x y : Reply A) (k : A → List Token → Reply B) → (if b then bind x k else bind y k) ≡ bind (if b then x else y) k
if_bind true x y k = refl
if_bind false x y k = refl

rest_same : {A B : Type 0} (test fits : A → Bool) (ks : List ℕ) (g : A → B → A) {t s : List Token → Reply B} → ((ts : List Token) → t ts ≡ s ts)
    → (k : ℕ) (a : A) (ts : List Token) → read_rest test fits ks g t k a ts ≡ read_rest test fits ks g s k a ts
rest_same test fits ks g h zero a ts = refl
rest_same {A} {B} test fits ks g {t} {s} h (suc k) a ts = if_same (if test a then member (look ts) ks else false)
    (if_same (fits a) (ap (λ z. bind z (λ b r. read_rest test fits ks g t k (g a b) r)) (h ts) ∙ bind_same (s ts)
    (λ b r. rest_same test fits ks g h k (g a b) r)) refl) refl

-- parts of items
typed_is : (n : ℕ) (ts : List Token) → parts.typed n ts ≡ read_typed n ts
unfolding parts.typed below.specifiers below.specifier_list below.specifier below.enumerators below.enumerator_list below.enumerator below.whole
typed_is n ts = refl

declarator_is : (n : ℕ) (ts : List Token) → parts.declarator n ts ≡ read_declarator n ts
unfolding parts.declarator parts.initialiser parts.elements parts.shape parts.parameters parts.parameter_list parts.parameter parts.typed parts.top_expression
    below.specifiers below.specifier_list below.specifier below.enumerators below.enumerator_list below.enumerator below.whole
declarator_is n ts = refl

block_rule : (n k : ℕ) (ts : List Token) → parts.block n k ts ≡ read_block n (suc k) ts
unfolding parts.block parts.statements parts.statement parts.declarations parts.declaration parts.declarator_list parts.declarator parts.initialiser
    parts.elements parts.shape parts.parameters parts.parameter_list parts.parameter parts.typed parts.top_expression below.specifiers below.specifier_list
    below.specifier below.enumerators below.enumerator_list below.enumerator below.whole
block_rule n k ts = refl

block_is : (n : ℕ) (ts : List Token) → 0 < n → parts.block n (n - 1) ts ≡ read_block n n ts
block_is n ts lt = let same : suc (n - 1) ≡ n = omega (arith, lt) in block_rule n (n - 1) ts ∙ ap (λ z. read_block n z ts) same

-- what is read behind a first declarator, with and without it
others_grow : (n : ℕ) (d : Declarator) (k : ℕ) (ds : List Declarator) (ts : List Token)
    → read_rest always always (punct p.Comma ∷ []) trees.snoc (read_lead (punct p.Comma) (parts.declarator n)) k (d ∷ ds) ts ≡ bind
    (read_rest always always (punct p.Comma ∷ []) trees.snoc (read_lead (punct p.Comma) (parts.declarator n)) k ds ts) (λ es r. Found (d ∷ es) r)
others_grow n d zero ds ts = refl
others_grow n d (suc k) ds ts = go (λ es r. others_grow n d k es r) (member (look ts) (punct p.Comma ∷ [])) (read_lead (punct p.Comma) (parts.declarator n) ts)
  where
    more : List Declarator → List Token → Reply (List Declarator)
    more es r = read_rest always always (punct p.Comma ∷ []) trees.snoc (read_lead (punct p.Comma) (parts.declarator n)) k es r

    go : ((es : List Declarator) (r : List Token) → more (d ∷ es) r ≡ bind (more es r) (λ es r. Found (d ∷ es) r)) → (b : Bool) (x : Reply Declarator)
        → (if b then bind x (λ e r. more (d ∷ (ds ++ e ∷ [])) r) else Found (d ∷ ds) ts) ≡ bind
        (if b then bind x (λ e r. more (ds ++ e ∷ []) r) else Found ds ts) (λ es r. Found (d ∷ es) r)
    go ih true (Found e r) = ih (ds ++ e ∷ []) r
    go ih true (Wrong r) = refl
    go ih true (Deep r) = refl
    go ih false x = refl

pub others_begin : (n : ℕ) (d : Declarator) (ts : List Token)
    → read_rest always always (punct p.Comma ∷ []) trees.snoc (read_lead (punct p.Comma) (parts.declarator n)) (length ts) (d ∷ []) ts ≡ parts.others n d ts
unfolding parts.others
others_begin n d ts = refl

lead_same : {A : Type 0} (k : ℕ) {t s : List Token → Reply A} → ((ts : List Token) → t ts ≡ s ts) → (ts : List Token) → read_lead k t ts ≡ read_lead k s ts
lead_same {A} k {t} {s} h ts = ap (λ z. bind {A = ℕ × A} z (λ c r. Found c.1 r))
    (bind_same (read_sign k ts) (λ l r. ap (λ z. bind {B = ℕ × A} z (λ a r'. Found (l, a) r')) (h r)))

others_are : (n : ℕ) (d : Declarator) (ts : List Token)
    → parts.others n d ts ≡ bind (read_rest always always (punct p.Comma ∷ []) trees.snoc (read_lead (punct p.Comma) (read_declarator n)) (length ts) [] ts)
    (λ es r. Found (d ∷ es) r)
unfolding parts.others
others_are n d ts = others_grow n d (length ts) [] ts ∙ ap (λ z. bind z (λ es r. Found (d ∷ es) r))
    (rest_same always always (punct p.Comma ∷ []) trees.snoc (lead_same (punct p.Comma) (declarator_is n)) (length ts) [] ts)

declares_is : (n : ℕ) (s : Specifiers) (d : Declarator) (ts : List Token)
    → parts.declares n s d ts ≡ bind (bind (read_others n ts) (λ ds r. Found (Declares (d ∷ ds)) r)) (λ x r. Found (item_with s x) r)
unfolding parts.declares
declares_is n s d ts = ap (λ z. bind (bind (bind z (λ ds r. bind {B = List Declarator × ℕ} (read_sign (punct p.Semicolon) r) (λ l r'. Found (ds, l) r')))
    (λ c r. Found c.0 r)) (λ ds r. Found (kinds.Declaration (trees.declaration (s, ds))) r)) (others_are n d ts)
    ∙ go (read_rest always always (punct p.Comma ∷ []) trees.snoc (read_lead (punct p.Comma) (read_declarator n)) (length ts) [] ts)
  where
    signed : (es : List Declarator) (y : Reply ℕ)
        → bind (bind (bind {B = List Declarator × ℕ} y (λ l r'. Found (d ∷ es, l) r')) (λ c r. Found c.0 r))
        (λ ds r. Found (kinds.Declaration (trees.declaration (s, ds))) r) ≡ bind
        (bind (bind (bind {B = List Declarator × ℕ} y (λ l r'. Found (es, l) r')) (λ c r. Found c.0 r)) (λ ds r. Found (Declares (d ∷ ds)) r))
        (λ x r. Found (item_with s x) r)
    signed es (Found l r) = refl
    signed es (Wrong r) = refl
    signed es (Deep r) = refl

    go : (x : Reply (List Declarator))
        → bind (bind (bind (bind x (λ es r. Found (d ∷ es) r)) (λ ds r. bind {B = List Declarator × ℕ} (read_sign (punct p.Semicolon) r)
        (λ l r'. Found (ds, l) r'))) (λ c r. Found c.0 r)) (λ ds r. Found (kinds.Declaration (trees.declaration (s, ds))) r)
        ≡ bind (bind (bind (bind x (λ ds r. bind {B = List Declarator × ℕ} (read_sign (punct p.Semicolon) r) (λ l r'. Found (ds, l) r'))) (λ c r. Found c.0 r))
        (λ ds r. Found (Declares (d ∷ ds)) r)) (λ x r. Found (item_with s x) r)
    go (Found es r) = signed es (read_sign (punct p.Semicolon) r)
    go (Wrong r) = refl
    go (Deep r) = refl

defines_is : (n : ℕ) (s : Specifiers) (d : Declarator) (ts : List Token) → 0 < n
    → bind (parts.block n (n - 1) ts) (λ b r. Found (trees.function ((s, (d.name, shape_parameters d.shape)), b)) r) ≡ bind
    (bind (read_block n n ts) (λ b r. Found (Defines d b) r)) (λ x r. Found (item_with s x) r)
defines_is n s d ts lt = ap (λ z. bind z (λ b r. Found (trees.function ((s, (d.name, shape_parameters d.shape)), b)) r)) (block_is n ts lt) ∙ sym
    (bind_twice (read_block n n ts) (λ b r. Found (Defines d b) r) (λ x r. Found (item_with s x) r))

declared_is : (n : ℕ) (s : Specifiers) (ts : List Token) → 0 < n → parts.declared n s ts ≡ bind (read_declared n ts) (λ x r. Found (item_with s x) r)
unfolding parts.declared
declared_is n s ts lt =
    ap (λ z. bind z (λ d r. if (if is_function d then member (look r) (punct p.OpenBrace ∷ []) else false) then bind (parts.block n (n - 1) r)
    (λ b r'. Found (trees.function ((s, (d.name, shape_parameters d.shape)), b)) r') else parts.declares n s d r)) (declarator_is n ts)
    ∙ bind_same (read_declarator n ts) (λ d r. if_same (if is_function d then member (look r) (punct p.OpenBrace ∷ []) else false) (defines_is n s d r lt)
    (declares_is n s d r) ∙ if_bind (if is_function d then member (look r) (punct p.OpenBrace ∷ []) else false)
    (bind (read_block n n r) (λ b r'. Found (Defines d b) r')) (bind (read_others n r) (λ ds r'. Found (Declares (d ∷ ds)) r'))
    (λ x r'. Found (item_with s x) r'))
    ∙ sym (bind_twice (read_declarator n ts) (λ d r. if (if is_function d then member (look r) (punct p.OpenBrace ∷ []) else false) then bind (read_block n n r)
    (λ b r'. Found (Defines d b) r') else bind (read_others n r) (λ ds r'. Found (Declares (d ∷ ds)) r')) (λ x r. Found (item_with s x) r))

-- what stands behind the specifiers
rest_is : (n : ℕ) (s : Specifiers) (ts : List Token) → 0 < n
    → (if member (look ts) (punct p.Semicolon ∷ []) then bind (read_sign (punct p.Semicolon) ts)
    (λ l r. Found (kinds.Declaration (trees.declaration (s, []))) r) else parts.declared n s ts) ≡ bind
    (bind {B = Specifiers × Rest} (read_item_rest n ts) (λ x r. Found (s, x) r)) (λ c r. Found (item_of c) r)
rest_is n s ts lt =
    if_same (member (look ts) (punct p.Semicolon ∷ [])) (sym (bind_twice (read_sign (punct p.Semicolon) ts) (λ l r. Found (Declares []) r)
    (λ x r. Found (item_with s x) r))) (declared_is n s ts lt)
    ∙ if_bind (member (look ts) (punct p.Semicolon ∷ [])) (bind (read_sign (punct p.Semicolon) ts) (λ l r. Found (Declares []) r)) (read_declared n ts)
    (λ x r. Found (item_with s x) r)
    ∙ sym (bind_twice (read_item_rest n ts) (λ x r. Found (s, x) r) (λ c r. Found (item_of c) r))

item_is : (n : ℕ) → 0 < n → (ts : List Token) → parts.item n ts ≡ read_item n ts
unfolding parts.item
item_is n lt ts = if_same (member (look ts) (classes headers)) refl (
    ap (λ z. bind z (λ s r. if member (look r) (punct p.Semicolon ∷ []) then bind (read_sign (punct p.Semicolon) r)
    (λ l r'. Found (kinds.Declaration (trees.declaration (s, []))) r') else parts.declared n s r)) (typed_is n ts)
    ∙ bind_same (read_typed n ts) (λ s r. rest_is n s r lt)
    ∙ sym (bind_twice (read_typed n ts) (λ s r. bind {B = Specifiers × Rest} (read_item_rest n r) (λ x r'. Found (s, x) r')) (λ c r. Found (item_of c) r)))

items_are : (n : ℕ) → 0 < n → (ts : List Token) → parts.items n ts ≡ read_series item_first (read_item n) ts
unfolding parts.items
items_are n lt ts = rest_same always always item_first trees.snoc (item_is n lt) (length ts) [] ts

pub module_is : (n : ℕ) → 0 < n → (ts : List Token) → parts.whole_module n ts ≡ read_whole n ts
unfolding parts.whole_module
module_is n lt ts = ap (λ z. bind z (λ is r. if nat_eq (look r) 0 then Found (trees.module_of is) r else Wrong r)) (items_are n lt ts) ∙ sym
    (bind_twice (read_series item_first (read_item n) ts) (λ is r. Found (trees.module_of is) r) (λ m r. if nat_eq (look r) 0 then Found m r else Wrong r))
