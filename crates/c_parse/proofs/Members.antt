-- Tests on the class at the front of a list of tokens.
use Rattle.std.proofs.Common.{ℕ, ◌≡◌, refl, sym, ◌∙◌, subst, Bool, true, false, nat_eq, if◌then◌else◌, List, [], ◌∷◌, ◌++◌, Option, Some, None, is_some}
use Rattle.std.proofs.Common.{eq-eqb, eqb-true}
use Rattle.c_tree.specs.declared.token.Token.{Token}
use Rattle.c_parse.specs.Classes.{class, look, member, row_of, classes}
use Rattle.c_parse.specs.Languages.{line_if, lined}

-- each class of xs is one of ys; none is
abbrev pub subset : List ℕ → List ℕ → Bool
subset [] ys = true
subset (x ∷ xs) ys = if member x ys then subset xs ys else false

abbrev pub apart : List ℕ → List ℕ → Bool
apart [] ys = true
apart (x ∷ xs) ys = if member x ys then false else apart xs ys

pub look-same : (us r s : List Token) → look s ≡ look r → look (us ++ s) ≡ look (us ++ r)
look-same [] r s e = e
look-same (t ∷ us) r s e = refl

pub if_true : {A : Type 0} {b : Bool} (x y : A) → b ≡ true → (if b then x else y) ≡ x
if_true x y e = rw e refl

pub if_false : {A : Type 0} {b : Bool} (x y : A) → b ≡ false → (if b then x else y) ≡ y
if_false x y e = rw e refl

pub both_true : (b c : Bool) → (if b then c else false) ≡ true → (b ≡ true) × (c ≡ true)
both_true true c h = (refl, h)
both_true false c h = cc

pub none_true : (b c : Bool) → (if b then false else c) ≡ true → (b ≡ false) × (c ≡ true)
none_true true c h = cc
none_true false c h = (refl, h)

pub member-subset : (k : ℕ) (xs ys : List ℕ) → subset xs ys ≡ true → member k xs ≡ true → member k ys ≡ true
member-subset k [] ys s h = cc
member-subset k (x ∷ xs) ys s h = go (both_true (member x ys) (subset xs ys) s) (member-subset k xs ys) (nat_eq k x) refl h
  where
    go : (member x ys ≡ true) × (subset xs ys ≡ true) → (subset xs ys ≡ true → member k xs ≡ true → member k ys ≡ true) → (b : Bool) → nat_eq k x ≡ b
        → (if b then true else member k xs) ≡ true → member k ys ≡ true
    go p ih true e h = subst (λ z. member z ys ≡ true) (sym (eqb-true k x e)) p.0
    go p ih false e h = ih p.1 h

pub member-apart : (k : ℕ) (xs ys : List ℕ) → apart xs ys ≡ true → member k xs ≡ true → member k ys ≡ false
member-apart k [] ys s h = cc
member-apart k (x ∷ xs) ys s h = go (none_true (member x ys) (apart xs ys) s) (member-apart k xs ys) (nat_eq k x) refl h
  where
    go : (member x ys ≡ false) × (apart xs ys ≡ true) → (apart xs ys ≡ true → member k xs ≡ true → member k ys ≡ false) → (b : Bool) → nat_eq k x ≡ b
        → (if b then true else member k xs) ≡ true → member k ys ≡ false
    go p ih true e h = subst (λ z. member z ys ≡ false) (sym (eqb-true k x e)) p.0
    go p ih false e h = ih p.1 h

pub member-left : (k : ℕ) (xs ys : List ℕ) → member k xs ≡ true → member k (xs ++ ys) ≡ true
member-left k [] ys h = cc
member-left k (x ∷ xs) ys h = go (member-left k xs ys) (nat_eq k x) h
  where
    go : (member k xs ≡ true → member k (xs ++ ys) ≡ true) → (b : Bool) → (if b then true else member k xs) ≡ true
        → (if b then true else member k (xs ++ ys)) ≡ true
    go ih true h = refl
    go ih false h = ih h

pub member-right : (k : ℕ) (xs ys : List ℕ) → member k ys ≡ true → member k (xs ++ ys) ≡ true
member-right k [] ys h = h
member-right k (x ∷ xs) ys h = go (member-right k xs ys h) (nat_eq k x)
  where
    go : member k (xs ++ ys) ≡ true → (b : Bool) → (if b then true else member k (xs ++ ys)) ≡ true
    go ih true = refl
    go ih false = ih

pub member-self : (k : ℕ) → member k (k ∷ []) ≡ true
member-self k = if_true _ _ (eq-eqb k k refl)

-- a table has something exactly for its classes
pub row_exact : {A : Type 0} (k : ℕ) (table : List (ℕ × A)) → member k (classes table) ≡ is_some (row_of k table)
row_exact k [] = refl
row_exact k (x ∷ xs) = go (row_exact k xs) (nat_eq k x.0)
  where
    go : member k (classes xs) ≡ is_some (row_of k xs) → (b : Bool)
        → (if b then true else member k (classes xs)) ≡ is_some (if b then Some x.1 else row_of k xs)
    go ih true = refl
    go ih false = ih

some_lined : {A : Type 0} (l : ℕ) (x : Option A) → is_some (lined l x) ≡ is_some x
some_lined l None = refl
some_lined l (Some a) = refl

pub among_exact : {A : Type 0} (table : List (ℕ × A)) (t : Token) → member (class t) (classes table) ≡ is_some (lined t.line (row_of (class t) table))
among_exact table t = row_exact (class t) table ∙ sym (some_lined t.line (row_of (class t) table))

pub sign_exact : (k : ℕ) (t : Token) → member (class t) (k ∷ []) ≡ is_some (line_if k t)
sign_exact k t = go (nat_eq (class t) k)
  where
    go : (b : Bool) → (if b then true else false) ≡ is_some (if b then Some t.line else None)
    go true = refl
    go false = refl
